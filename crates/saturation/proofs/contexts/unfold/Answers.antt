use Rattle.tables.proofs.Additions.{ends_stuck}
use Rattle.saturation.proofs.Unfolding.{unfold_ends, unfold_stuck}
use Rattle.saturation.proofs.contexts.unfold.Goals as goal

pub returns-clause-unfolds : goal.returns-clause-unfolds
returns-clause-unfolds c = unfold_ends _ _ _ _ _ c.in_ok-hold.ensures.kept.contexts c.in_ok-hold.ensures.holds c.grant.ensures.grants

pub returns-in_err-hold-clause-unfolds : goal.returns-in_err-hold-clause-unfolds
returns-in_err-hold-clause-unfolds c = ends_stuck _ _ _ c.from_residual.result c.from_residual.ensures.1 (unfold_stuck _ c.in_err-hold.ensures.holds)
