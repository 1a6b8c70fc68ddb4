use Rattle.tables.specs.Tables.{context_in}
use Rattle.tables.specs.Adding.{Adds, Below}
use Rattle.tables.specs.Lent.{lent, SameLent, ContextsKept}
use Rattle.saturation.specs.Conclusions.{NoLower}
use Rattle.saturation.proofs.contexts.grant.Given as goal

abbrev pub invariant-loop-axiom : goal.invariant-loop-axiom
invariant-loop-axiom l =
    Adds (Below l.axioms l.axiom-index (NoLower (context_in l.initial.tables.contexts.now l.slot))) (lent l.initial.tables) (lent l.tables)
    × SameLent l.initial.tables l.tables × ContextsKept l.initial.tables l.tables
