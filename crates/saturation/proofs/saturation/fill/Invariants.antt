use Rattle.std.proofs.Common.{◌-◌, ◌≤◌, length}
use Rattle.tables.specs.Tables.{context_in}
use Rattle.tables.specs.Lent.{lent, SameLent}
use Rattle.saturation.proofs.Saturating.{Sofar}
use Rattle.saturation.proofs.saturation.fill.Given as goal

abbrev pub invariant-loop-slot : goal.invariant-loop-slot
invariant-loop-slot l =
    Sofar l.theory.axioms.now (context_in l.initial.tables.contexts.now 0) (lent l.initial.tables) (lent l.tables) l.slot × (l.slot ≤ l.tables.counts.clauses)
    × SameLent l.fn.tables l.tables

abbrev pub decreases-loop-slot : goal.decreases-loop-slot
decreases-loop-slot l = length l.initial.tables.clauses.now - l.slot
