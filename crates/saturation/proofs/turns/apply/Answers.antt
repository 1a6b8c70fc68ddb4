use Rattle.std.proofs.Common.{sym, ◌∙◌}
use Rattle.std.proofs.lemmas.Bool.{both_ways}
use Rattle.saturation.specs.Choices.{given_record}
use Rattle.saturation.proofs.Givens.{given_cited, given_headed}
use Rattle.saturation.proofs.Singles.{none_of, some_of, succeeds_enters, no_class, chooses_enters}
use Rattle.saturation.proofs.turns.apply.Goals as goal

pub enter_toward-requires : goal.enter_toward-requires
enter_toward-requires c = (given_cited c.args.tables.now.good c.requires.used).0

pub returns-in_default-clause-applies : goal.returns-in_default-clause-applies
returns-in_default-clause-applies c d Ts given =
    none_of _ c.in-Inclusion.is Ts d c.args.tables.now.good (no_class (given_headed given c.requires.headed.0) (both_ways _ (sym c.if-contains.ensures)))

pub returns-in-Inclusion-clause-applies : goal.returns-in-Inclusion-clause-applies
returns-in-Inclusion-clause-applies c d Ts given =
    some_of _ c.in-Inclusion.is Ts d _ _ _
    (chooses_enters c.args.tables.now.contexts.now (given_record c.args.tables.now.clauses.now c.args.slot) d Ts c.args.top _ _ _ _ _ given.means (given_headed given c.requires.headed.0) (sym c.contains.ensures ∙ c.if-contains.true)
    (c.choose.ensures.picks Ts given.listed))

pub returns-in-Exists-clause-applies : goal.returns-in-Exists-clause-applies
returns-in-Exists-clause-applies c d Ts given =
    some_of _ c.in-Exists.is Ts d _ _ _
    (succeeds_enters c.args.tables.now.contexts.now (given_record c.args.tables.now.clauses.now c.args.slot) _ _ _ _ _ _ _ _ given.means (given_headed given c.requires.headed.0) c.if-lower-top.true c.without.ensures c.single.ensures c.empty.ensures c.enter_toward.ensures.adds)
