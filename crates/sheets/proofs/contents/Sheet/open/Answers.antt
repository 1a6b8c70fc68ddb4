use Rattle.std.proofs.Common.{Err, refl}
use Rattle.std.proofs.lemmas.Result.{err_from_is_err_and}
use Rattle.terms.specs.Refusals.{done, told}
use Rattle.sheets.specs.Held.{held}
use Rattle.sheets.proofs.Outcomes.{one_outcome}
use Rattle.sheets.proofs.contents.Sheet.open.Goals as goal

pub returns : goal.returns
returns c =
    let gave = c.in_ok-self.ensures in
    let now' = held c.in_ok-self.field-0 in
    record { gives = gave; only = λ o g. one_outcome c.args.text.now o (done now') g gave; kept = tt }

pub returns-in_err-self : goal.returns-in_err-self
returns-in_err-self c =
    let p = err_from_is_err_and c.from_residual.result c.from_residual.ensures.1 in
    let gave = c.in_err-self.ensures in
    rw (p.1, p.2) record { gives = gave; only = λ o g. one_outcome c.args.text.now o (told (Err c.in_err-self.field-0.0)) g gave; kept = refl }
