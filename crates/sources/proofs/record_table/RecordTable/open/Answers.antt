use Rattle.std.proofs.Common.{Ok, Err, refl}
use Rattle.std.proofs.lemmas.Result.{err_from_is_err_and}
use Rattle.terms.specs.Refusals.{told}
use Rattle.sources.proofs.Opened.{one_opening}
use Rattle.sources.proofs.record_table.RecordTable.open.Goals as goal

pub returns-in_err-check : goal.returns-in_err-check
returns-in_err-check c =
    let p = err_from_is_err_and c.from_residual.result c.from_residual.ensures.1 in
    let gave = c.in_err-check.ensures in
    rw (p.1, p.2) record { gives = gave; only = λ o g. one_opening c.args.classes c.args.roles c.args.records.now o (told (Err c.in_err-check.field-0.0)) g gave; after = refl }

pub returns : goal.returns
returns c =
    let gave = c.in_ok-check.ensures in
    record {
      gives = gave;
      only = λ o g. one_opening c.args.classes c.args.roles c.args.records.now o (told (Ok tt)) g gave;
      after = refl;
    }
