use Rattle.models.proofs.Counting.{Started, Counted}
use Rattle.models.proofs.elements.numbers.Given as goal

abbrev pub invariant-loop-clause : goal.invariant-loop-clause
invariant-loop-clause l = Started l.clauses l.clause-index l.numbers

abbrev pub invariant-loop-number : goal.invariant-loop-number
invariant-loop-number l = Counted l.initial.number-items l.number-items l.count l.number-index
