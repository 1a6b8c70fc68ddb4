use Rattle.std.proofs.Common.{◌+◌, ◌*◌, get_or, sym, ap, ◌∙◌}
use Rattle.std.proofs.lemmas.Bool.{both_ways}
use Rattle.terms.specs.declared.class_set.ClassSet.{ClassSet}
use Rattle.models.proofs.Marking.{gathered_none, gathered_yes, gathered_no}
use Rattle.models.proofs.links.link_word.Goals as goal
use Rattle.models.proofs.links.link_word.Goals.{then-reaches, else-reaches}

pub loop-from-init : goal.loop-from-init
loop-from-init c = gathered_none c.args.reach.now.rows c.args.links.now.words c.args.role c.args.block c.empty-word.result.bits c.empty-word.ensures

pub loop-from-preserved : goal.loop-from-preserved
loop-from-preserved c =
    let reach = c.args.reach.now.rows in
    let links = c.args.links.now.words in
    let k = c.loop-from.from in
    elim c.if-reaches.branch [
      | then-reaches w ↦ gathered_yes reach links c.args.role c.args.block k c.loop-from.word.bits w.from_bits.result.bits c.if-reaches.word.bits
          (ap (λ (s : ClassSet). s.bits) w.word-is ∙ w.union-word.ensures)
          (w.from_bits.ensures ∙ w.word.ensures ∙ ap (λ i. get_or links (4 * i + c.args.block) 0) w.from.ensures)
          (sym c.reaches.ensures ∙ w.if-reaches.true) c.loop-from.invariant
      | else-reaches w ↦ gathered_no reach links c.args.role c.args.block k c.loop-from.word.bits c.if-reaches.word.bits
          (ap (λ (s : ClassSet). s.bits) w.word-is) (λ m. both_ways _ w.if-reaches.false (c.reaches.ensures ∙ m)) c.loop-from.invariant
    ]
