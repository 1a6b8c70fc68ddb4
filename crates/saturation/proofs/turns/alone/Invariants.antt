use Rattle.std.proofs.Common.{◌<◌, List, ℕ}
use Rattle.closure.specs.Closures.{Clause}
use Rattle.tables.specs.Records.{Tops}
use Rattle.tables.specs.Adding.{Adds, Below}
use Rattle.tables.specs.Lent.{lent, SameLent}
use Rattle.saturation.specs.Choices.{Given, given_record}
use Rattle.saturation.specs.Conclusions.{Brought, ByAxiom}
use Rattle.saturation.proofs.turns.alone.Given as goal

abbrev pub invariant-loop-axiom : goal.invariant-loop-axiom
invariant-loop-axiom l =
    ((c : Clause) (Ts : List ℕ) → Given (lent l.initial.tables) l.slot c Ts → Adds (Below l.theory.axioms.now l.axiom-index (λ x. Brought (ByAxiom x Ts c))) (lent l.initial.tables) (lent l.tables))
    × (l.slot < l.initial.tables.counts.clauses) × Tops (given_record l.initial.tables.clauses.now l.slot) l.top × SameLent l.fn.tables l.tables
