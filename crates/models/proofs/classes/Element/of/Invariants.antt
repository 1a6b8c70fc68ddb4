use Rattle.std.proofs.Common.{◌≡◌}
use Rattle.models.proofs.Deciding.{Decided}
use Rattle.models.proofs.classes.Element.of.Given as goal

abbrev pub invariant-loop-class : goal.invariant-loop-class
invariant-loop-class l = (l.element.slot ≡ l.slot) × Decided l.clauses l.slot l.class l.element.classes.bits
