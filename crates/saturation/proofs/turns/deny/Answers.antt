use Rattle.std.proofs.Common.{sym, ap, ◌∙◌}
use Rattle.terms.specs.Sets.{has}
use Rattle.tables.specs.Tables.{context_in}
use Rattle.saturation.proofs.Tops.{headed_of}
use Rattle.saturation.proofs.Singles.{denied_enters}
use Rattle.saturation.proofs.turns.deny.Goals as goal

pub returns-clause-denies : goal.returns-clause-denies
returns-clause-denies c =
    denied_enters c.args.tables.now.contexts.now c.args.given _ _ _ (headed_of c.args.given c.requires.headed.0 c.args.tables.now.contexts.now) (ap (λ k. has (context_in c.args.tables.now.contexts.now k).denied c.args.top) (sym c.from.ensures) ∙ sym c.contains.ensures ∙ c.if-not-contains.false)
    c.lone.ensures c.without.ensures c.enter_clause.ensures.adds
