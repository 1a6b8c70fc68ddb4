use Rattle.std.proofs.Common.{◌+◌, ◌*◌, length, sym, ap, ◌∙◌, arith}
use Rattle.terms.specs.Refusals.{told}
use Rattle.reasoner.specs.Asks.{RowEach, Right, Numbered}
use Rattle.reasoner.proofs.Admitting.{then_answers, answers_of, tables_of}
use Rattle.reasoner.proofs.asking.ask_model.Goals as goal

pub returns : goal.returns
returns g c =
    let m = g.S.Source.meaning c.args.source.now in
    let limits = g.met.S.Source.limits c.args.source.now in
    let k = length c.args.contexts.now in
    let l = length c.args.clauses.now in
    let w = length c.args.model.now in
    let same = ap (λ x. k * x) (c.row_words-width.ensures ∙ ap (λ r. 1 + 4 * r) c.role_count-roles.ensures) in
    let P = c.args.held in
    let N = c.args.denied in
    let p = c.in_ok-admit.ensures.0 in
    let e = c.load-axioms.ensures in
    let t = told c.fill_with_model.result in
    record {
      gives = then_answers m P N k l (RowEach m.roles k w) (omega (arith, same, c.if-contexts-width.false)) (λ a. Right m.axioms P N a × Numbered a) t p (answers_of P N e Numbered k l t c.fill_with_model.ensures.gives);
      after = tables_of P N e _ _ _ _ t c.fill_with_model.ensures.after;
      shows = c.fill_with_model.ensures.shows m (sym c.role_count-roles.ensures) (sym e) limits.formed p.0.0 p.0.1;
    }
