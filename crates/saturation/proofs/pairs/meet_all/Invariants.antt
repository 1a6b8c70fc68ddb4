use Rattle.std.proofs.Common.{◌≡◌}
use Rattle.closure.specs.Closures.{Clause}
use Rattle.tables.specs.Tables.{clause_of}
use Rattle.tables.specs.Adding.{Adds, Below}
use Rattle.tables.specs.Lent.{lent, SameLent}
use Rattle.saturation.specs.Conclusions.{Brought, PairBy}
use Rattle.saturation.proofs.pairs.meet_all.Given as goal

abbrev pub invariant-loop-axiom : goal.invariant-loop-axiom
invariant-loop-axiom l =
    ((t e : Clause) → clause_of l.initial.tables.contexts.now l.meeting.clause ≡ t → clause_of l.initial.tables.contexts.now l.meeting.other ≡ e
    → Adds (Below l.theory.axioms.now l.axiom-index (λ x. Brought (PairBy l.theory.axioms.now x t e))) (lent l.initial.tables) (lent l.tables))
    × SameLent l.initial.tables l.tables
