use Rattle.std.proofs.Common.{length, sym, subst}
use Rattle.std.specs.List.{AllByRecursion}
use Rattle.terms.specs.Axioms.{WellFormed}
use Rattle.terms.specs.Refusals.{told}
use Rattle.reasoner.specs.Asks.{NoTable, Right, Unshown}
use Rattle.reasoner.proofs.Admitting.{formed_up, then_answers, answers_of, tables_of}
use Rattle.reasoner.proofs.asking.ask.Goals as goal

pub fill-requires-clause-formed : goal.fill-requires-clause-formed
fill-requires-clause-formed g c =
    let limits = g.met.S.Source.limits c.args.source.now in
    subst (AllByRecursion (WellFormed 64 16)) (sym c.load-axioms.ensures) (formed_up limits.few_classes limits.few_roles (g.S.Source.meaning c.args.source.now).axioms limits.formed)

pub returns : goal.returns
returns g c =
    let m = g.S.Source.meaning c.args.source.now in
    let k = length c.args.contexts.now in
    let l = length c.args.clauses.now in
    let P = c.args.held in
    let N = c.args.denied in
    let p = c.in_ok-admit.ensures.0 in
    let e = c.load-axioms.ensures in
    record {
      gives = then_answers m P N k l NoTable tt (λ a. Right m.axioms P N a × Unshown a) (told c.fill.result) p (answers_of P N e Unshown k l (told c.fill.result) c.fill.ensures.gives);
      after = tables_of P N e _ _ _ _ (told c.fill.result) c.fill.ensures.after;
    }
