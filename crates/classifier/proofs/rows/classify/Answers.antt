use Rattle.std.proofs.Common.{refl, inr, arith}
use Rattle.std.proofs.lemmas.Result.{err_from_is_err_and}
use Rattle.terms.specs.Refusals.{number, refused, done}
use Rattle.classifier.specs.Under.{lent, Classified}
use Rattle.classifier.proofs.Growing.{row_sized, rows_more, rows_cut, rows_all}
use Rattle.classifier.proofs.Oneness.{one_outcome}
use Rattle.classifier.proofs.rows.classify.Goals as goal

pub returns-in_err-row_of : goal.returns-in_err-row_of
returns-in_err-row_of g c =
    let p = err_from_is_err_and c.from_residual.result c.from_residual.ensures.1 in
    let m = g.S.Source.meaning c.args.source.now in
    let s = lent c.args.contexts.now c.args.clauses.now c.args.rows.now in
    let u = lent c.row_of.new.contexts c.row_of.new.clauses c.loop-lower.rows in
    let f = c.in_err-row_of.field-0.0 in
    let q = row_sized m c.loop-lower.lower _ _ (refused _ _ _) c.loop-lower.auto.contexts c.loop-lower.auto.clauses c.in_err-row_of.ensures in
    let h : Classified {V = Unit {0}} m s u (refused (number f.kind) f.place f.layer) = inr (
      ((omega (arith, c.class_count-classes.ensures), omega arith, omega arith), tt),
      q.0,
      q.1,
      rows_cut c.loop-lower.invariant _ _ (g.met.S.Source.limits c.args.source.now).few_classes (omega (arith, c.loop-lower-test.true, c.class_count-classes.ensures)) _ q.2,
    ) in
    rw (p.1, p.2) (record { gives = h; only = λ v t k. one_outcome m (g.met.S.Source.limits c.args.source.now).few_classes s (λ _ _. refl) v u t (refused (number f.kind) f.place f.layer) k h })

pub loop-lower-preserved : goal.loop-lower-preserved
loop-lower-preserved g c =
    let m = g.S.Source.meaning c.args.source.now in
    let q = row_sized m c.loop-lower.lower _ _ (done _) c.loop-lower.auto.contexts c.loop-lower.auto.clauses c.in_ok-row_of.ensures in
    rows_more c.loop-lower.invariant _ _ _ _ _ c.bits.ensures (omega arith) (omega (arith, c.loop-lower-test.true, c.loop-lower.auto.rows)) q

pub returns : goal.returns
returns g c =
    let m = g.S.Source.meaning c.args.source.now in
    let s = lent c.args.contexts.now c.args.clauses.now c.args.rows.now in
    let u = lent c.loop-lower.contexts c.loop-lower.clauses c.loop-lower.rows in
    let h : Classified {V = Unit {0}} m s u (done tt) = (((omega (arith, c.class_count-classes.ensures), omega arith, omega arith), tt), rows_all (omega (arith, c.class_count-classes.ensures)) c.loop-lower.invariant) in
    record { gives = h; only = λ v t k. one_outcome m (g.met.S.Source.limits c.args.source.now).few_classes s (λ _ _. refl) v u t (done tt) k h }
