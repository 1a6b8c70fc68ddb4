use Rattle.std.proofs.Common.{◌≡◌, ◌+◌, ◌*◌, ap, sym, true, arith, rules}
use Rattle.std.proofs.lemmas.Result.{err_from_is_err_and}
use Rattle.reasoner.specs.Asks.{verdict_of}
use Rattle.reasoner.proofs.Results.{kept, turned}
use Rattle.classifier.specs.Asking.{is_none}
use Rattle.classifier.proofs.Asking.{asked_told, asked_full}
use Rattle.classifier.proofs.pairs.is_under.Goals as goal

pub returns-in_err-answer : goal.returns-in_err-answer
returns-in_err-answer g c =
    let p = err_from_is_err_and c.from_residual.result c.from_residual.ensures.1 in
    let place : c.from.result * 64 + c.from-2.result ≡ c.args.lower * 64 + c.args.upper = omega (arith, c.from.ensures, c.from-2.ensures) in
    let t = turned _ c.map_err.ensures.cases _ c.in_err-answer.was in
    let m = g.S.Source.meaning c.args.source.now in
    let made : c.in_err-answer.field-0.0 ≡ record { kind = t.0.kind; place = c.from.result * 64 + c.from-2.result; layer = t.0.layer } = search rules in
    rw (p.1, p.2) (asked_full c.single-held.result c.single-denied.result _ _ c.single-held.ensures c.single-denied.ensures m c.args.contexts.now _ c.args.clauses.now _
    c.requires.there.0 c.requires.there.1 c.requires.sizes.0 c.requires.sizes.1 t.1 c.ask.ensures.gives c.ask.ensures.after (c.from.result * 64 + c.from-2.result) place made)

pub returns-in-Nothing : goal.returns-in-Nothing
returns-in-Nothing g c =
    let m = g.S.Source.meaning c.args.source.now in
    asked_told c.single-held.result c.single-denied.result _ _ c.single-held.ensures c.single-denied.ensures m c.args.contexts.now _ c.args.clauses.now _
    (kept _ c.map_err.ensures.cases _ c.in_ok-answer.was) c.ask.ensures.gives c.ask.ensures.after true (ap (λ a. is_none (verdict_of a)) (sym c.in-Nothing.is))
