use Rattle.std.proofs.Common.{◌≤◌}
use Rattle.tables.specs.Adding.{Adds}
use Rattle.tables.specs.Lent.{lent, SameLent, ContextsKept}
use Rattle.saturation.specs.Conclusions.{FromSlots}
use Rattle.saturation.proofs.saturation.unfold_all.Given as goal

abbrev pub invariant-loop-slot : goal.invariant-loop-slot
invariant-loop-slot l =
    Adds (FromSlots l.axioms l.initial.tables.contexts.now l.from l.slot) (lent l.initial.tables) (lent l.tables) × (l.from ≤ l.slot)
    × SameLent l.initial.tables l.tables × ContextsKept l.initial.tables l.tables
