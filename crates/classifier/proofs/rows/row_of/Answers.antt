use Rattle.std.proofs.Common.{ap, ◌∙◌, arith}
use Rattle.std.proofs.lemmas.Result.{err_from_is_err_and}
use Rattle.terms.specs.Refusals.{refused, done}
use Rattle.terms.specs.declared.class_set.ClassSet.{ClassSet}
use Rattle.classifier.proofs.Asking.{asked_sized}
use Rattle.classifier.proofs.Growing.{row_none, row_yes, row_no, row_cut}
use Rattle.classifier.proofs.rows.row_of.Goals as goal
use Rattle.classifier.proofs.rows.row_of.Goals.{then-branch, else-branch}

pub loop-upper-init : goal.loop-upper-init
loop-upper-init g c = row_none _ c.empty-row.ensures

pub returns-in_err-is_under : goal.returns-in_err-is_under
returns-in_err-is_under g c =
    let p = err_from_is_err_and c.from_residual.result c.from_residual.ensures.1 in
    let m = g.S.Source.meaning c.args.source.now in
    let q = asked_sized m.axioms c.args.lower c.loop-upper.upper _ _ (refused _ _ _) c.loop-upper.auto.contexts c.loop-upper.auto.clauses c.in_err-is_under.ensures in
    rw (p.1, p.2) (row_cut c.loop-upper.invariant m.classes (omega (arith, c.loop-upper-test.true, c.class_count-upper-end.ensures)) _ _ _ q)

pub loop-upper-preserved : goal.loop-upper-preserved
loop-upper-preserved g c =
    let m = g.S.Source.meaning c.args.source.now in
    let q = asked_sized m.axioms c.args.lower c.loop-upper.upper _ _ (done _) c.loop-upper.auto.contexts c.loop-upper.auto.clauses c.in_ok-is_under.ensures in
    elim c.if-branch.branch [
      | then-branch w ↦ row_yes c.loop-upper.invariant _ (ap (λ (s : ClassSet). s.bits) w.row-is ∙ w.with-row.ensures) _ w.if-branch.true q
      | else-branch w ↦ row_no c.loop-upper.invariant _ (ap (λ (s : ClassSet). s.bits) w.row-is) _ w.if-branch.false q
    ]
