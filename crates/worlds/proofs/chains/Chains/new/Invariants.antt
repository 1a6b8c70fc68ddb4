use Rattle.std.proofs.Common.{◌≡◌, length}
use Rattle.worlds.specs.Slots.{numbers_in}
use Rattle.worlds.specs.Entries.{Last, Chained}
use Rattle.worlds.proofs.chains.Chains.new.Given as goal

abbrev pub invariant-loop-i : goal.invariant-loop-i
invariant-loop-i l =
    (length l.last.0 ≡ 4096)
    × (length l.previous.0 ≡ 16384)
    × Last l.links (numbers_in l.last.0) l.i
    × Chained l.links (numbers_in l.previous.0) l.i
