use Rattle.std.proofs.Common.{◌+◌, Some, get_or, set, sym, refl, ap, ◌∙◌, subst, add-one, arith, length-set}
use Rattle.std.proofs.Math.ListN.{get_or-map}
use Rattle.worlds.specs.Slots.{number_in, numbers_in}
use Rattle.worlds.specs.Entries.{no_link, Last, Chained}
use Rattle.worlds.proofs.Slots.{length_numbers, numbers_set}
use Rattle.worlds.proofs.Chaining.{last_more, chained_more}
use Rattle.worlds.proofs.chains.Chains.new.Goals as goal

pub loop-i-preserved : goal.loop-i-preserved
loop-i-preserved c =
    let xs = c.args.links.now in
    let i = c.loop-i.i in
    let last = c.loop-i.last.0 in
    let previous = c.loop-i.previous.0 in
    let from = (get_or xs i no_link).from in
    let inv = c.loop-i.invariant in
    let low = c.requires.starts i c.loop-i-test.true in
    let v = get_or last from 0 in
    let l = length_numbers last ∙ inv.0 in
    let p = length_numbers previous ∙ inv.1 in (
      length-set last from (i + 1) ∙ inv.0,
      length-set previous i v ∙ inv.1,
      subst (λ ys. Last xs ys (i + 1)) (sym (numbers_set last from (i + 1) (Some i) (ap number_in (add-one i))))
          (subst (Last xs (set (numbers_in last) from (Some i))) (sym (add-one i)) (last_more xs (numbers_in last) i from l low refl inv.2)),
      subst (λ ys. Chained xs ys (i + 1)) (sym (numbers_set previous i v (number_in v) refl))
          (subst (Chained xs (set (numbers_in previous) i (number_in v))) (sym (add-one i)) (chained_more xs (numbers_in previous) i (number_in v) (omega (arith, p, c.requires.few)) (sym (get_or-map number_in last from 0) ∙ inv.2 from low) inv.3)),
    )
