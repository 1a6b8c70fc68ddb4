use Rattle.std.proofs.Common.{◌<◌, ℕ, None, Some, Option, ap, sym, replicate, ◌∙◌, arith, rules, is_some}
use lib.ListN.{length-replicate, get_or-replicate}
use Rattle.std.proofs.lemmas.List.{length-map, map-set}
use Rattle.std.proofs.lemmas.Bool.Decides.{not_from_Decides}
use Rattle.models.proofs.Counting.{live_at, live_le, counted_none, counted_yes, counted_no, counted_all}
use Rattle.models.proofs.Marking.{tells_none, tells_no, tells_yes}
use Rattle.models.specs.Elements.{live_in}
use Rattle.models.proofs.elements.numbers.Goals as goal
use Rattle.models.proofs.elements.numbers.Goals.{then-is_empty, else-is_empty, then-is_some, else-is_some}

pub loop-clause-init : goal.loop-clause-init
loop-clause-init c =
    let zero : Option ℕ = Some 0 in
    let first = replicate 256 zero in
    tells_none c.args.clauses.now (live_in first) (length-map first is_some ∙ length-replicate 256 zero) (λ h l. live_at first h ∙ ap is_some (get_or-replicate 256 h zero None l))

pub loop-clause-preserved : goal.loop-clause-preserved
loop-clause-preserved c =
    let xs = c.args.clauses.now in
    let k = c.loop-clause.clause-index in
    elim c.if-is_empty.branch [
      | then-is_empty w ↦ (
          let e = c.is_empty.ensures.0 w.if-is_empty.true in
          tells_yes xs k w.from.result (live_in c.loop-clause.numbers) (live_in c.if-is_empty.numbers) (ap live_in w.numbers-is ∙ map-set is_some c.loop-clause.numbers w.from.result None) w.from.ensures
          (omega (arith, c.requires k c.loop-clause-test.true, w.from.ensures)) e c.loop-clause.invariant)
      | else-is_empty w ↦ tells_no xs k (live_in c.loop-clause.numbers) (live_in c.if-is_empty.numbers) (ap live_in w.numbers-is) (not_from_Decides _ c.is_empty.ensures w.if-is_empty.false) c.loop-clause.invariant
    ]

pub loop-number-init : goal.loop-number-init
loop-number-init c = counted_none c.loop-clause.numbers

pub overflow_add-count : goal.overflow_add-count
overflow_add-count c = let low : c.loop-number.count < 256 = omega (arith, c.loop-number.invariant.next, live_le (live_in c.loop-clause.numbers) c.loop-number.number-index) in search rules

pub loop-number-preserved : goal.loop-number-preserved
loop-number-preserved c =
    elim c.if-is_some.branch [
      | then-is_some w ↦ counted_yes c.loop-number.invariant c.if-is_some.count c.if-is_some.number-items w.number-items-is w.count-is (omega (arith, c.loop-clause.invariant.size)) (sym c.is_some.ensures ∙ w.if-is_some.true)
      | else-is_some w ↦ counted_no c.loop-number.invariant c.if-is_some.count c.if-is_some.number-items w.number-items-is w.count-is (sym c.is_some.ensures ∙ w.if-is_some.false)
    ]

pub returns : goal.returns
returns c = counted_all (omega arith) (omega arith) c.loop-clause.invariant c.loop-number.invariant
