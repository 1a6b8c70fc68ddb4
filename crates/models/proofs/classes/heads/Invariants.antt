use Rattle.models.specs.Elements.{Headed}
use Rattle.models.proofs.classes.heads.Given as goal

abbrev pub invariant-loop-clause : goal.invariant-loop-clause
invariant-loop-clause l = Headed l.clauses l.slot l.clause-index l.all.bits
