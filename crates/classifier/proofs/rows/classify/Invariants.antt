use Rattle.classifier.specs.Under.{lent}
use Rattle.classifier.proofs.Growing.{RowsUpTo}
use Rattle.classifier.proofs.rows.classify.Given as goal

abbrev pub invariant-loop-lower : goal.invariant-loop-lower
invariant-loop-lower g l = RowsUpTo (g.S.Source.meaning l.source) l.lower (lent l.initial.contexts l.initial.clauses l.initial.rows) (lent l.contexts l.clauses l.rows)
