use Rattle.std.proofs.Common.{Some, None, refl}
use Rattle.runs.proofs.Lending.{plain_ask, plain_ask_model, ask_left, model_left}
use Rattle.runs.proofs.serving.ask_with.Goals as goal

pub returns-in-None-clause-plain : goal.returns-in-None-clause-plain
returns-in-None-clause-plain g c =
    rw c.in-None.is (plain_ask (g.S.Source.meaning c.args.source.now) c.args.tables.now c.args.held c.args.denied c.args.context_slots c.args.clause_slots c.min-context_slots.ensures c.min-clause_slots.ensures None _ c.ask.ensures.gives)

pub returns-in-None-clause-tables : goal.returns-in-None-clause-tables
returns-in-None-clause-tables g c =
    rw c.in-None.is (ask_left (g.S.Source.meaning c.args.source.now) c.args.held c.args.denied c.args.context_slots c.args.clause_slots None _ _ _ c.args.tables.now.model.now _ _ _ c.ask.new.contexts c.ask.new.clauses
    c.min-context_slots.ensures c.min-clause_slots.ensures c.ask.auto.contexts c.ask.auto.clauses c.ask.ensures.after refl)

pub returns-in-Some-clause-plain : goal.returns-in-Some-clause-plain
returns-in-Some-clause-plain g c =
    rw c.in-Some.is (plain_ask_model (g.S.Source.meaning c.args.source.now) c.args.tables.now c.args.held c.args.denied c.args.context_slots c.args.clause_slots c.min-context_slots.ensures c.min-clause_slots.ensures c.in-Some.words _ c.min-words.ensures c.ask_model.ensures.gives)

pub returns-in-Some-clause-tables : goal.returns-in-Some-clause-tables
returns-in-Some-clause-tables g c =
    let b = g.S.Source.meaning c.args.source.now in
    rw c.in-Some.is (ask_left b c.args.held c.args.denied c.args.context_slots c.args.clause_slots (Some c.in-Some.words) _ _ _ c.args.tables.now.model.now _ _ _ c.ask_model.new.contexts c.ask_model.new.clauses
    c.min-context_slots.ensures c.min-clause_slots.ensures c.ask_model.auto.contexts c.ask_model.auto.clauses c.ask_model.ensures.after
    (model_left b c.args.held c.args.denied c.in-Some.words _ c.args.tables.now.model.now c.min-words.result c.ask_model.new.model c.min-words.ensures c.ask_model.auto.model c.ask_model.ensures.shows))
