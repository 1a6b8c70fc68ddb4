-- What a verdict says of worlds, where the closure is finite.
use Rattle.std.specs.Prelude.{ℕ, ◌↔◌, List}
use Rattle.terms.specs.declared.axioms.Axiom.{Axiom}
use Rattle.worlds.specs.Worlds.{Possible}
use Rattle.closure.specs.Closures.{Context, Clause, InContexts, InClauses, Verdict, none, some, Judges}
use Rattle.closure.specs.Canonical.{Injective}
use Rattle.closure.specs.Counts.{Lists}

-- the table has exactly the contexts and the clauses of the closure
abbrev pub Tabled : (ℕ → ℕ) → List Axiom → Context → List Context → List Clause → Type 0
Tabled rank axs G contexts clauses = Lists (InContexts rank axs G) contexts × Lists (InClauses rank axs G) clauses

-- some table has exactly the closure
abbrev pub Finite : (ℕ → ℕ) → List Axiom → Context → Type 0
Finite rank axs G = (contexts : List Context) × (clauses : List Clause) × Tabled rank axs G contexts clauses

-- none exactly where no finite world has such an element, and some exactly where one has
abbrev pub VerdictRight : Type 0
VerdictRight = (rank : ℕ → ℕ) → Injective rank → (axs : List Axiom) (G : Context) → Finite rank axs G
    → (Judges none rank axs G ↔ (Possible axs G.held G.denied → ⊥)) × (Judges some rank axs G ↔ Possible axs G.held G.denied)

-- all orders give one verdict
abbrev pub OneVerdict : Type 0
OneVerdict = (rank other : ℕ → ℕ) → Injective rank → Injective other → (axs : List Axiom) (G : Context) → Finite rank axs G → Finite other axs G
    → (v : Verdict) → Judges v rank axs G ↔ Judges v other axs G
