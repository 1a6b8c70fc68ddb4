use Rattle.std.proofs.Common.{◌++◌, codes}
use Rattle.std.proofs.lemmas.Result.{IfOk-weaker}
use Rattle.sheets.specs.Sheets.{Contents}
use Rattle.report.specs.Sentences.{listed}
use Rattle.report.proofs.Appends.{and_of}
use Rattle.report.proofs.sentences.Sentences.inclusion.Goals as goal

pub returns : goal.returns
returns c =
    let upper = λ (s : Contents). listed s (codes " or ") (codes "nothing") c.args.upper.bits in
    IfOk-weaker c.set-2.result _ _ (λ _ e. and_of (λ s. codes " under " ++ upper s) c.in_ok-set.ensures (and_of upper c.in_ok-bytes.ensures e)) c.set-2.ensures
