use Rattle.std.proofs.Common.{refl, ◌∙◌, arith}
use Rattle.std.proofs.ByRecursion.{All-get_or}
use Rattle.terms.specs.Axioms.{WellFormed}
use Rattle.tables.proofs.Slots.{holds_get_or}
use Rattle.tables.proofs.Meanings.{clause_of_kept}
use Rattle.tables.proofs.Lending.{same_then}
use Rattle.tables.proofs.Additions.{ends_stuck, below_more, below_stuck, below_end}
use Rattle.saturation.proofs.Meetings.{meets_on}
use Rattle.saturation.proofs.pairs.meet_all.Goals as goal

pub meet-requires : goal.meet-requires
meet-requires c = record {
  formed = All-get_or (WellFormed 64 16) c.args.theory.axioms.now _ _ c.loop-axiom-test.true c.args.theory.formed;
  meets = meets_on (c.loop-axiom.invariant.0 _ _ refl refl).grows.contexts.more c.requires;
}

pub loop-axiom-preserved : goal.loop-axiom-preserved
loop-axiom-preserved c = (
  λ t e first second.
      let i = c.loop-axiom.invariant.0 t e first second in
      let k = i.grows.contexts.kept in
      below_more (holds_get_or _ _ _ c.loop-axiom-test.true) i
      (c.in_ok-meet.ensures.gives t e (clause_of_kept k _ c.requires.cited ∙ first) (clause_of_kept k _ c.requires.there ∙ second)),
  same_then c.loop-axiom.invariant.1 c.in_ok-meet.ensures.same,
)

pub returns-clause-gives : goal.returns-clause-gives
returns-clause-gives c t e first second = below_end (omega arith) (omega arith) (c.loop-axiom.invariant.0 t e first second)

pub returns-in_err-meet-clause-gives : goal.returns-in_err-meet-clause-gives
returns-in_err-meet-clause-gives c t e first second =
    let i = c.loop-axiom.invariant.0 t e first second in
    let k = i.grows.contexts.kept in
    ends_stuck _ _ _ c.from_residual.result c.from_residual.ensures.1
    (below_stuck c.loop-axiom-test.true (holds_get_or _ _ _ c.loop-axiom-test.true) i
    (c.in_err-meet.ensures.gives t e (clause_of_kept k _ c.requires.cited ∙ first) (clause_of_kept k _ c.requires.there ∙ second)))
