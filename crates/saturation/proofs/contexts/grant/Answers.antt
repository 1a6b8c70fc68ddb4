use Rattle.tables.proofs.Slots.{holds_get_or}
use Rattle.tables.proofs.Lending.{same_then, kept_then}
use Rattle.tables.proofs.Additions.{ends_stuck, below_more, below_stuck}
use Rattle.saturation.proofs.Levels.{adds_kept, stuck_kept}
use Rattle.saturation.proofs.Unfolding.{lower_adds, lower_stuck}
use Rattle.saturation.proofs.contexts.grant.Goals as goal

pub loop-axiom-preserved : goal.loop-axiom-preserved
loop-axiom-preserved c =
    let i = c.loop-axiom.invariant in
    let e = c.in_ok-enter_clause.ensures in (
      below_more (holds_get_or _ _ _ c.loop-axiom-test.true) i.0
          (lower_adds c.args.tables.now.contexts.now c.lone.result c.in-Some.upper c.in-Some.ensures c.lone.ensures (adds_kept _ i.2.contexts e.adds)),
      same_then i.1 e.same,
      kept_then i.2 e.kept,
    )

pub returns-in_err-enter_clause-clause-grants : goal.returns-in_err-enter_clause-clause-grants
returns-in_err-enter_clause-clause-grants c =
    let i = c.loop-axiom.invariant in
    ends_stuck _ _ _ c.from_residual.result c.from_residual.ensures.1
    (below_stuck c.loop-axiom-test.true (holds_get_or _ _ _ c.loop-axiom-test.true) i.0
    (lower_stuck c.args.tables.now.contexts.now c.lone.result c.in-Some.upper c.in-Some.ensures c.lone.ensures (stuck_kept _ i.2.contexts c.in_err-enter_clause.ensures.adds)))
