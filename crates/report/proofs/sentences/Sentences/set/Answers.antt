use Rattle.std.proofs.Common.{Some, ap, ◌∙◌, subst}
use Rattle.terms.specs.Sets.{Rises}
use Rattle.report.proofs.Joints.{joined_first, joined_next, joined_all}
use Rattle.report.proofs.sentences.Sentences.set.Goals as goal

pub loop-class-init : goal.loop-class-init
loop-class-init c =
    let first = subst (λ r. Rises r (Some c.in-Some.first) c.next.new.self.rest.bits) (ap (λ r. r.bits) c.classes-classes.ensures) c.in-Some.ensures.steps in
    joined_first c.args.joint.now c.args.set.bits c.in-Some.first c.into_iter-class-iterator.result.rest.bits first.0 first.1
    (ap (λ it. it.rest.bits) c.into_iter-class-iterator.ensures.into_iter_gives ∙ first.2) c.in_ok-class.ensures

pub loop-class-preserved : goal.loop-class-preserved
loop-class-preserved c =
    let step = c.in-Some-class.ensures.steps in
    joined_next c.args.joint.now c.args.set.bits c.loop-class.class-iterator.rest.bits c.in-Some-class.class c.next-in-loop-class.new.self.rest.bits
    c.loop-class.invariant step.0 step.1 step.2 c.in_ok-bytes.ensures c.in_ok-class-2.ensures

pub returns : goal.returns
returns c =
    let first = subst (λ r. Rises r (Some c.in-Some.first) c.next.new.self.rest.bits) (ap (λ r. r.bits) c.classes-classes.ensures) c.in-Some.ensures.steps in
    joined_all c.args.joint.now c.args.none.now c.args.set.bits c.loop-class.class-iterator.rest.bits c.in-Some.first c.loop-class.invariant c.in-None.ensures.steps.0 first.0.0
