use Rattle.std.proofs.Common.{◌++◌, codes, append_assoc}
use Rattle.std.proofs.lemmas.Result.{IfOk-weaker}
use Rattle.sheets.specs.Sheets.{Contents}
use Rattle.report.specs.Sentences.{class_name, role_name}
use Rattle.report.proofs.Appends.{and_of, adds_same}
use Rattle.report.proofs.sentences.Sentences.exists_lower.Goals as goal

pub returns : goal.returns
returns c =
    let upper = λ (s : Contents). class_name s c.args.upper in
    let some = λ (s : Contents). role_name s c.args.role ++ (codes " in " ++ class_name s c.args.filler) in
    IfOk-weaker c.class.result _ _
    (λ _ e. adds_same _ (simp append_assoc)
    (and_of (λ s. some s ++ (codes " under " ++ upper s)) c.in_ok-bytes.ensures
    (and_of (λ s. codes " under " ++ upper s) c.in_ok-successor.ensures (and_of upper c.in_ok-bytes-2.ensures e))))
    c.class.ensures
