use Rattle.std.proofs.Common.{refl}
use Rattle.std.proofs.lemmas.Result.{err_from_is_err_and}
use Rattle.tables.proofs.Additions.{adds_clause, stuck_clause}
use Rattle.tables.proofs.members.enter_clause.Goals as goal

pub returns : goal.returns
returns c = record { enters = λ xs g k. adds_clause g k c.in_ok-place.ensures; entered = ((c.in_ok-place.place.slot, c.in_ok-place.ensures), refl) }

pub returns-in_err-place : goal.returns-in_err-place
returns-in_err-place c =
    let p = err_from_is_err_and c.from_residual.result c.from_residual.ensures.1 in
    rw p.1 (record { enters = λ xs g k. (c.args.counts, stuck_clause g k c.in_err-place.ensures); entered = c.in_err-place.ensures })
