use Rattle.std.proofs.Common.{ℕ, ◌<◌}
use Rattle.tables.specs.Entering.{Holds}
use Rattle.tables.proofs.entering.find.Given as goal

-- no slot so far holds the record
abbrev pub invariant-loop-i : goal.invariant-loop-i
invariant-loop-i g l = (k : ℕ) → k < l.i → Holds l.slots k l.record → ⊥
