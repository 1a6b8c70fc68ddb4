use Rattle.std.proofs.Common.{refl, subst}
use Rattle.std.proofs.lemmas.Bool.Decides.{not_from_Decides}
use Rattle.saturation.specs.Conclusions.{Headed}
use Rattle.saturation.proofs.Tops.{headed_of, tops_of}
use Rattle.saturation.proofs.Partners.{headed_enters, Ending, not_there, not_empty, ending_enters}
use Rattle.saturation.proofs.pairs.follow.Goals as goal
use Rattle.saturation.proofs.pairs.follow.Goals.{then-other-part-via-then-other-part, then-other-part-via-else-other-part+then-not-is_empty}

pub returns-in-Some-clause-gives : goal.returns-in-Some-clause-gives
returns-in-Some-clause-gives c t e first second =
    headed_enters _ t e c.in-Some.top (subst (λ x. Headed x c.in-Some.top) second (headed_of c.args.other c.in-Some.ensures.0 c.args.tables.now.contexts.now)) _ _ _ (c.meet_all.ensures.gives t e first second)

pub returns-then-other-part-clause-gives : goal.returns-then-other-part-clause-gives
returns-then-other-part-clause-gives c t e first second =
    let w : Ending c.args.tables.now.contexts.now c.args.tables.now.clauses.now c.args.tables.now.counts c.args.clause c.args.other c.args.part t e =
    record { good = c.args.tables.now.good; towards = c.requires.toward.0; cited = c.requires.cited.0; there = c.requires.cited.1.0; headless = λ a h. c.in_default.ensures a (tops_of c.args.other c.args.tables.now.contexts.now h); first = first; second = second } in
    elim c.then-other-part.branch [
      | then-other-part-via-then-other-part v ↦ not_there w _ v.if-other-part.true
      | then-other-part-via-else-other-part+then-not-is_empty v ↦ not_empty w _ (not_from_Decides _ v.is_empty.ensures v.if-not-is_empty.true)
    ]

pub returns-clause-gives : goal.returns-clause-gives
returns-clause-gives c t e first second =
    let w : Ending c.args.tables.now.contexts.now c.args.tables.now.clauses.now c.args.tables.now.counts c.args.clause c.args.other c.args.part t e =
    record { good = c.args.tables.now.good; towards = c.requires.toward.0; cited = c.requires.cited.0; there = c.requires.cited.1.0; headless = λ a h. c.in_default.ensures a (tops_of c.args.other c.args.tables.now.contexts.now h); first = first; second = second } in
    ending_enters w _ _ _ c.if-other-part.false (c.if-not-is_empty.ensures.0 refl) c.lone.ensures c.enter_clause.ensures.adds
