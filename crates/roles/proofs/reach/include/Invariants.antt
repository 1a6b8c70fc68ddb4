use Rattle.roles.proofs.Rows.{Widened}
use Rattle.roles.proofs.reach.include.Given as goal

abbrev pub invariant-loop-row : goal.invariant-loop-row
invariant-loop-row l = Widened l.initial.row-items l.row-items l.sub l.more.bits l.row-index
