use Rattle.std.proofs.Common.{arith}
use Rattle.tables.proofs.Lending.{same_then, kept_then}
use Rattle.tables.proofs.Additions.{ends_stuck}
use Rattle.saturation.proofs.Unfolding.{slots_more, slots_stuck}
use Rattle.saturation.proofs.saturation.unfold_all.Goals as goal

pub loop-slot-preserved : goal.loop-slot-preserved
loop-slot-preserved c =
    let i = c.loop-slot.invariant in
    let e = c.in_ok-unfold.ensures in
    (slots_more i.3.contexts i.1 i.0 e.unfolds, omega arith, same_then i.2 e.same, kept_then i.3 e.kept)

pub returns-in_err-unfold-clause-unfolds : goal.returns-in_err-unfold-clause-unfolds
returns-in_err-unfold-clause-unfolds c =
    let i = c.loop-slot.invariant in
    ends_stuck _ _ _ c.from_residual.result c.from_residual.ensures.1 (slots_stuck i.3.contexts i.1 c.loop-slot-test.true i.0 c.in_err-unfold.ensures.unfolds)
