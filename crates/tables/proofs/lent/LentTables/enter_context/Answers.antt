use Rattle.std.proofs.Common.{arith}
use Rattle.tables.proofs.Entries.{entered_extends}
use Rattle.tables.proofs.Additions.{adds_context, stuck_context, ends_stuck}
use Rattle.tables.proofs.lent.LentTables.enter_context.Goals as goal

pub invariant_of-self-2 : goal.invariant_of-self-2
invariant_of-self-2 c = record {
  few = omega (arith, c.args.self.now.few, (entered_extends c.in_ok-place.ensures).size);
  good = (adds_context c.args.self.now.good c.in_ok-place.ensures).grows.good;
}

pub returns-clause-adds : goal.returns-clause-adds
returns-clause-adds c = adds_context c.args.self.now.good c.in_ok-place.ensures

pub returns-in_err-place-clause-adds : goal.returns-in_err-place-clause-adds
returns-in_err-place-clause-adds c = ends_stuck _ _ _ c.from_residual.result c.from_residual.ensures.1 (stuck_context c.args.self.now.good c.in_err-place.ensures)
