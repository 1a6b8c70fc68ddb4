use Rattle.std.proofs.Common.{ap, ◌∙◌}
use Rattle.terms.specs.Sets.{only, join}
use Rattle.tables.specs.Tables.{context_in}
use Rattle.saturation.proofs.Meetings.{met, leads, leads_not, denies_top, denies_context, denies_role, holds_top, holds_context, holds_role, denies_enters, holds_enters, none_by, some_by}
use Rattle.saturation.proofs.pairs.meet.Goals as goal
use Rattle.saturation.proofs.pairs.meet.Goals.{then-filler-top-via-then-filler-top, then-filler-top-via-else-filler-top+then-other-part, then-filler-top-via-else-filler-top+else-other-part+then-not-reaches, then-lower-top-via-then-lower-top, then-lower-top-via-else-lower-top+then-other-clause, then-lower-top-via-else-lower-top+else-other-clause+then-not-reaches-2}

pub returns-then-filler-top-clause-gives : goal.returns-then-filler-top-clause-gives
returns-then-filler-top-clause-gives c t e first second =
    let w = met c.args.tables.now.good c.requires.meets first second in
    none_by c.args.theory.axioms.now t e _ c.in-ExistsLower.is c.args.tables.now.good
    (elim c.then-filler-top.branch [
      | then-filler-top-via-then-filler-top v ↦ denies_top w v.if-filler-top.true
      | then-filler-top-via-else-filler-top+then-other-part v ↦ denies_context w v.if-other-part.true
      | then-filler-top-via-else-filler-top+else-other-part+then-not-reaches v ↦ denies_role w (leads_not c.args.theory.shows c.requires.meets.role_low v.reaches.ensures v.if-not-reaches.true)
    ])

pub returns-then-lower-top-clause-gives : goal.returns-then-lower-top-clause-gives
returns-then-lower-top-clause-gives c t e first second =
    let w = met c.args.tables.now.good c.requires.meets first second in
    none_by c.args.theory.axioms.now t e _ c.in-Forall.is c.args.tables.now.good
    (elim c.then-lower-top.branch [
      | then-lower-top-via-then-lower-top v ↦ holds_top w v.if-lower-top.true
      | then-lower-top-via-else-lower-top+then-other-clause v ↦ holds_context w v.if-other-clause.true
      | then-lower-top-via-else-lower-top+else-other-clause+then-not-reaches-2 v ↦ holds_role w (leads_not c.args.theory.shows c.requires.meets.role_low v.reaches-else-other-clause.ensures v.if-not-reaches-2.true)
    ])

pub returns-else-not-reaches-clause-gives : goal.returns-else-not-reaches-clause-gives
returns-else-not-reaches-clause-gives c t e first second =
    let w = met c.args.tables.now.good c.requires.meets first second in
    some_by c.args.theory.axioms.now t e _ c.in-ExistsLower.is _ _ _
    (denies_enters w _ _ _ _ c.if-filler-top.false (leads c.args.theory.shows c.requires.meets.role_low c.reaches.ensures c.if-not-reaches.false) _ _ c.if-other-part.false c.with-in-ExistsLower.ensures (ap (λ k. (context_in c.args.tables.now.contexts.now k).held) c.from.ensures) (c.with.ensures ∙ ap (λ k. join (context_in c.args.tables.now.contexts.now k).denied (only c.in-ExistsLower.filler)) c.from.ensures) c.enter_toward.ensures.adds)

pub returns-else-not-reaches-2-clause-gives : goal.returns-else-not-reaches-2-clause-gives
returns-else-not-reaches-2-clause-gives c t e first second =
    let w = met c.args.tables.now.good c.requires.meets first second in
    some_by c.args.theory.axioms.now t e _ c.in-Forall.is _ _ _
    (holds_enters w _ _ _ _ c.if-lower-top.false (leads c.args.theory.shows c.requires.meets.role_low c.reaches-else-other-clause.ensures c.if-not-reaches-2.false) _ _ c.if-other-clause.false (c.union-classes.ensures ∙ ap (join _) c.without.ensures) (c.with-in-Forall.ensures ∙ ap (λ k. join (context_in c.args.tables.now.contexts.now k).held (only c.in-Forall.filler)) c.from.ensures) (ap (λ k. (context_in c.args.tables.now.contexts.now k).denied) c.from.ensures) c.enter_toward-in-Forall.ensures.adds)
