use Rattle.tables.proofs.Additions.{adds_clause, stuck_clause, ends_stuck}
use Rattle.tables.proofs.lent.LentTables.enter_clause.Goals as goal

pub invariant_of-self-2 : goal.invariant_of-self-2
invariant_of-self-2 c = record { few = c.args.self.now.few; good = (adds_clause c.args.self.now.good c.requires c.in_ok-place.ensures).grows.good }

pub returns-clause-adds : goal.returns-clause-adds
returns-clause-adds c = adds_clause c.args.self.now.good c.requires c.in_ok-place.ensures

pub returns-in_err-place-clause-adds : goal.returns-in_err-place-clause-adds
returns-in_err-place-clause-adds c = ends_stuck _ _ _ c.from_residual.result c.from_residual.ensures.1 (stuck_clause c.args.self.now.good c.requires c.in_err-place.ensures)
