use Rattle.std.proofs.Common.{subst}
use Rattle.terms.specs.Sets.{Has}
use Rattle.terms.proofs.Masks.{without_of}
use Rattle.tables.proofs.Lending.{same_then, kept_then}
use Rattle.tables.proofs.Additions.{ends_stuck}
use Rattle.saturation.proofs.Levels.{adds_kept, stuck_kept}
use Rattle.saturation.proofs.Unfolding.{held_end, held_more, held_stuck}
use Rattle.saturation.proofs.contexts.hold.Goals as goal

pub loop-class-preserved : goal.loop-class-preserved
loop-class-preserved c =
    let i = c.loop-class.invariant in
    let n = c.in-Some.ensures.steps in
    let e = c.in_ok-enter_clause.ensures in (
      held_more c.args.tables.now.contexts.now c.in-Some.class c.lone.result (i.1 _ n.0.0) c.lone.ensures c.single.ensures n.2 i.0 (adds_kept _ i.3.contexts e.adds),
      λ a h. i.1 a (without_of _ c.in-Some.class a (subst (λ r. Has r a) n.2 h)).0,
      same_then i.2 e.same,
      kept_then i.3 e.kept,
    )

pub returns-in_err-enter_clause-clause-holds : goal.returns-in_err-enter_clause-clause-holds
returns-in_err-enter_clause-clause-holds c =
    let i = c.loop-class.invariant in
    ends_stuck _ _ _ c.from_residual.result c.from_residual.ensures.1
    (held_stuck c.args.tables.now.contexts.now c.in-Some.class c.lone.result (i.1 _ c.in-Some.ensures.steps.0.0) c.lone.ensures c.single.ensures i.0 (stuck_kept _ i.3.contexts c.in_err-enter_clause.ensures.adds))

pub returns-clause-holds : goal.returns-clause-holds
returns-clause-holds c = held_end c.in-None.ensures.steps.0 c.loop-class.invariant.0
