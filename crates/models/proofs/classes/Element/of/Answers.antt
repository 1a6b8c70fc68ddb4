use Rattle.std.proofs.Common.{ℕ, refl, ◌∙◌, subst, arith}
use Rattle.models.specs.Elements.{Turns}
use Rattle.models.proofs.Deciding.{decided_none, decided_turn, decided_all}
use Rattle.models.proofs.classes.Element.of.Goals as goal

pub loop-class-init : goal.loop-class-init
loop-class-init c = (refl, rw c.empty.ensures (decided_none c.args.clauses.now c.args.slot))

pub loop-class-preserved : goal.loop-class-preserved
loop-class-preserved c =
    let i = c.loop-class.invariant in
    let e = c.loop-class.element in
    let next = c.decide-element.result in (
      c.decide-element.ensures.slot ∙ i.0,
      decided_turn c.args.clauses.now c.args.slot c.loop-class.class e.classes.bits next.classes.bits
          (subst (λ (h : ℕ). Turns c.args.clauses.now h e.classes.bits c.loop-class.class next.classes.bits) i.0 c.decide-element.ensures.turns) i.1,
    )

pub returns-clause-classes : goal.returns-clause-classes
returns-clause-classes c =
    decided_all c.args.clauses.now c.args.slot c.heads-heads.result.bits c.loop-class.element.classes.bits c.loop-class.class (omega arith) (omega arith) c.heads-heads.ensures c.loop-class.invariant.1
