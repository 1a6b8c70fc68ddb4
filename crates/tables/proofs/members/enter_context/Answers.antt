use Rattle.std.proofs.Common.{refl}
use Rattle.std.proofs.lemmas.Result.{err_from_is_err_and}
use Rattle.tables.proofs.Additions.{adds_context, stuck_context}
use Rattle.tables.proofs.members.enter_context.Goals as goal

pub returns : goal.returns
returns c = record { entered = (c.in_ok-place.ensures, refl); adds = λ ys g. adds_context g c.in_ok-place.ensures }

pub returns-in_err-place : goal.returns-in_err-place
returns-in_err-place c =
    let p = err_from_is_err_and c.from_residual.result c.from_residual.ensures.1 in
    rw p.1 (record { entered = c.in_err-place.ensures; adds = λ ys g. stuck_context g c.in_err-place.ensures })
