use Rattle.std.proofs.Common.{inl}
use Rattle.tables.specs.Lent.{lent}
use Rattle.tables.proofs.Additions.{stuck_as, ends_stuck}
use Rattle.tables.proofs.Successors.{ends_toward}
use Rattle.tables.proofs.lent.LentTables.enter_toward.Goals as goal

pub returns-clause-adds : goal.returns-clause-adds
returns-clause-adds c = ends_toward {s = lent c.args.self.now} {v = lent c.enter_context.new.self} {x = c.args.target} c.in_ok-slot.ensures.adds c.in_ok-slot.ensures.entered c.args.context c.requires c.args.classes c.args.role _ _ c.enter_clause.ensures.adds

pub returns-in_err-slot-clause-adds : goal.returns-in_err-slot-clause-adds
returns-in_err-slot-clause-adds c = ends_stuck _ _ _ c.from_residual.result c.from_residual.ensures.1 (stuck_as c.in_err-slot.ensures.adds (λ m e. inl e))
