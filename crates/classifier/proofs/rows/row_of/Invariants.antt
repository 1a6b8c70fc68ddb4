use Rattle.std.proofs.Common.{length}
use Rattle.classifier.specs.Asking.{RowUpTo}
use Rattle.classifier.proofs.rows.row_of.Given as goal

abbrev pub invariant-loop-upper : goal.invariant-loop-upper
invariant-loop-upper g l = RowUpTo (g.S.Source.meaning l.source).axioms l.lower l.upper l.row.bits (length l.initial.contexts) (length l.initial.clauses) l.contexts l.clauses
