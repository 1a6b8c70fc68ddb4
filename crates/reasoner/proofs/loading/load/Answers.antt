use Rattle.std.proofs.Common.{◌≡◌, length, ◌∙◌, arith, length-take}
use Rattle.reasoner.proofs.Closing.{loaded}
use Rattle.reasoner.proofs.loading.load.Goals as goal

pub returns : goal.returns
returns g c =
    let limits = g.met.S.Source.limits c.args.source.now in
    let items = c.loop-number.slot-items in
    let n = c.axiom_count-count.result in
    let size : length items ≡ n = c.loop-number.auto.slot-items ∙ simp (length-take) (omega (arith, c.requires, limits.few_axioms, c.axiom_count-count.ensures)) in
    loaded items _ _ n c.axiom_count-count.ensures size (λ j l. c.loop-number.invariant j (omega (arith, size, l, c.loop-number.auto.number-end, c.loop-number-test.false)))
