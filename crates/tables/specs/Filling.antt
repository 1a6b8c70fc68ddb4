-- What the counts of the tables say of the closure.
use Rattle.std.specs.Prelude.{ℕ, ◌⊎◌, List, length}
use Rattle.terms.specs.declared.axioms.Axiom.{Axiom}
use Rattle.closure.specs.Closures.{Context, InContexts, InClauses}
use Rattle.closure.specs.Counts.{Lists, Distinct, Exactly, More}
use Rattle.tables.specs.Tables.{Tables, Member, a_context, a_clause, InClosure, In, contexts_of, clauses_of, Good}
use Rattle.tables.specs.Adding.{Adds, Stuck}

-- good tables have each member once
abbrev pub EachOnce : Type 0
EachOnce = (s : Tables) → Good s
    → (Lists (λ K. In s (a_context K)) (contexts_of s) × Distinct (contexts_of s)) × (Lists (λ c. In s (a_clause c)) (clauses_of s) × Distinct (clauses_of s))

-- the tables s have nothing but members of the closure
abbrev pub Within : (ℕ → ℕ) → List Axiom → Context → Tables → Type 0
Within rank axs G s = (m : Member) → In s m → InClosure rank axs G m

-- where all of the closure was added, the counts are its numbers of contexts and of clauses
abbrev pub CountsRight : Type 0
CountsRight = (rank : ℕ → ℕ) (axs : List Axiom) (G : Context) (s u : Tables) → Within rank axs G s → Adds (InClosure rank axs G) s u
    → Exactly u.used.contexts (InContexts rank axs G) × Exactly u.used.clauses (InClauses rank axs G)

-- where adding it got stuck, it has more contexts or more clauses than there are slots
abbrev pub FullRight : Type 0
FullRight = (rank : ℕ → ℕ) (axs : List Axiom) (G : Context) (s u : Tables) → Within rank axs G s → Stuck (InClosure rank axs G) s u
    → More (InContexts rank axs G) (length s.contexts) ⊎ More (InClauses rank axs G) (length s.clauses)

-- and where all of it was added, it has not
abbrev pub FitsRight : Type 0
FitsRight = (rank : ℕ → ℕ) (axs : List Axiom) (G : Context) (s u : Tables) → Within rank axs G s → Adds (InClosure rank axs G) s u
    → (More (InContexts rank axs G) (length s.contexts) ⊎ More (InClauses rank axs G) (length s.clauses)) → ⊥
