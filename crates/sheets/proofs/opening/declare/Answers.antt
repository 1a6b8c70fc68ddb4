use Rattle.std.proofs.Common.{rules, refl}
use Rattle.sheets.proofs.Cases.{by_result}
use Rattle.sheets.proofs.Spellings.{pushed_spelled, length_spelled}
use Rattle.sheets.proofs.opening.declare.Goals as goal

pub returns-clause-answers : goal.returns-clause-answers
returns-clause-answers g c =
    let long = length_spelled c.args.names.now.items in
    by_result c.try_push.result
    (λ x is same. let pushed = pushed_spelled _ _ c.args.name c.args.name.items (rw is at c.try_push.ensures.ok) refl in search rules)
    (λ e is told. search rules)
    c.map_err.ensures.cases
