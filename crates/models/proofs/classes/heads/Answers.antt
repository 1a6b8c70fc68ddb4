use Rattle.std.proofs.Common.{ap, ◌∙◌}
use Rattle.terms.specs.declared.class_set.ClassSet.{ClassSet}
use Rattle.models.proofs.Deciding.{no_top, headed_no, headed_yes}
use Rattle.models.proofs.classes.heads.Goals as goal
use Rattle.models.proofs.classes.heads.Goals.{then-clause-slot+in-Some, then-clause-slot+in_default, else-clause-slot}

pub loop-clause-preserved : goal.loop-clause-preserved
loop-clause-preserved c =
    let xs = c.args.clauses.now in
    let k = c.loop-clause.clause-index in
    elim c.if-clause-slot.branch [
      | then-clause-slot+in-Some w ↦ headed_yes xs c.args.slot k c.loop-clause.all.bits w.in-Some.head c.if-clause-slot.all.bits
          (ap (λ (s : ClassSet). s.bits) w.all-is ∙ w.with-all.ensures) (record { its = w.if-clause-slot.true; tops = w.in-Some.ensures.0 }) c.loop-clause.invariant
      | then-clause-slot+in_default w ↦ headed_no xs c.args.slot k c.loop-clause.all.bits c.if-clause-slot.all.bits
          (ap (λ (s : ClassSet). s.bits) w.all-is) (λ a m. no_top _ _ w.head.ensures w.in_default.not-Some a m.tops) c.loop-clause.invariant
      | else-clause-slot w ↦ headed_no xs c.args.slot k c.loop-clause.all.bits c.if-clause-slot.all.bits
          (ap (λ (s : ClassSet). s.bits) w.all-is) (λ a m. w.if-clause-slot.false m.its) c.loop-clause.invariant
    ]
