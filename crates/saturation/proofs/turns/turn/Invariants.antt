use Rattle.std.proofs.Common.{◌≡◌, ◌+◌, ◌<◌}
use Rattle.closure.specs.Closures.{Clause}
use Rattle.tables.specs.Entering.{Among}
use Rattle.tables.specs.Tables.{clause_of, Cites}
use Rattle.tables.specs.Adding.{Adds, Below}
use Rattle.tables.specs.Lent.{lent, SameLent}
use Rattle.tables.specs.declared.records.ClauseRecord.{ClauseRecord}
use Rattle.saturation.specs.Conclusions.{Either, RolesBelow}
use Rattle.saturation.proofs.turns.turn.Given as goal

abbrev pub invariant-loop-j : goal.invariant-loop-j
invariant-loop-j l =
    ((c : Clause) → clause_of l.initial.tables.contexts.now l.given ≡ c
    → Adds (Below l.initial.tables.clauses.now l.j (λ y. Either l.theory.axioms.now c (clause_of l.initial.tables.contexts.now y))) (lent l.initial.tables) (lent l.tables))
    × (l.slot < l.initial.tables.counts.clauses) × Cites l.initial.tables.counts.contexts l.given × RolesBelow 16 l.given.part
    × ((x : ClauseRecord) → Among l.initial.tables.clauses.now (l.slot + 1) x → RolesBelow 16 x.part × Cites l.initial.tables.counts.contexts x)
    × SameLent l.fn.tables l.tables
