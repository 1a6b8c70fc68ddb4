use Rattle.std.proofs.Common.{ℕ, zero, ◌+◌, ◌≤◌, List}
use Rattle.tables.specs.Tables.{context_in}
use Rattle.tables.specs.Lent.{lent}
use Rattle.tables.specs.Adding.{Adds, Below}
use Rattle.saturation.specs.Choices.{Listed, Pick}
use Rattle.saturation.proofs.Levels.{Choosing}
use Rattle.saturation.proofs.choices.choose.Given as goal

abbrev pub invariant-third : goal.invariant-third
invariant-third l =
    Choosing l.slot l.given l.fn.tables l.initial.tables l.tables
    × ((Ts : List ℕ) → Listed l.initial.tables.clauses.now (l.slot + 1) l.given.context Ts
    → Adds (Below l.initial.tables.clauses.now l.k (Pick (context_in l.fn.tables.contexts.now l.given.context) Ts l.given.context l.top l.given.classes.bits l.third zero l.with_second.bits))
    (lent l.initial.tables) (lent l.tables))
    × (l.k ≤ l.slot + 1)

abbrev pub invariant-second : goal.invariant-second
invariant-second l =
    Choosing l.slot l.given l.fn.tables l.initial.tables l.tables
    × ((Ts : List ℕ) → Listed l.initial.tables.clauses.now (l.slot + 1) l.given.context Ts
    → Adds (Below l.initial.tables.clauses.now l.j (Pick (context_in l.fn.tables.contexts.now l.given.context) Ts l.given.context l.top l.given.classes.bits l.second l.last.bits l.with_first.bits))
    (lent l.initial.tables) (lent l.tables))
    × (l.j ≤ l.slot + 1)

abbrev pub invariant-first : goal.invariant-first
invariant-first l =
    Choosing l.slot l.given l.fn.tables l.initial.tables l.tables
    × ((Ts : List ℕ) → Listed l.initial.tables.clauses.now (l.slot + 1) l.given.context Ts
    → Adds (Below l.initial.tables.clauses.now l.i (Pick (context_in l.fn.tables.contexts.now l.given.context) Ts l.given.context l.top l.given.classes.bits l.first l.others.bits l.upper.bits))
    (lent l.initial.tables) (lent l.tables))
    × (l.i ≤ l.slot + 1)
