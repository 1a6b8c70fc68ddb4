use Rattle.std.proofs.Common.{◌≡◌, ℕ}
use Rattle.std.specs.List.{list_any}
use Rattle.worlds.specs.Entries.{marked}
use Rattle.worlds.proofs.Successors.{leads}
use Rattle.worlds.proofs.entry_table.EntryTable.successors.Given as goal

abbrev pub invariant-loop-link : goal.invariant-loop-link
invariant-loop-link l = (f : ℕ) → marked l.marks.words f ≡ list_any (leads l.role f) l.yielded
