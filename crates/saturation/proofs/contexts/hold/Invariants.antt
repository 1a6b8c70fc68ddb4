use Rattle.std.proofs.Common.{ℕ}
use Rattle.terms.specs.Sets.{Has}
use Rattle.tables.specs.Tables.{context_in}
use Rattle.tables.specs.Adding.{Adds}
use Rattle.tables.specs.Lent.{lent, SameLent, ContextsKept}
use Rattle.saturation.proofs.Unfolding.{HeldBut}
use Rattle.saturation.proofs.contexts.hold.Given as goal

abbrev pub invariant-loop-class : goal.invariant-loop-class
invariant-loop-class l =
    Adds (HeldBut (context_in l.initial.tables.contexts.now l.slot) l.class-iterator.rest.bits) (lent l.initial.tables) (lent l.tables)
    × ((a : ℕ) → Has l.class-iterator.rest.bits a → Has (context_in l.initial.tables.contexts.now l.slot).held a)
    × SameLent l.initial.tables l.tables × ContextsKept l.initial.tables l.tables
