-- The worlds that a table of contexts and clauses describes.
use Rattle.std.specs.Prelude.{◌≡◌, ℕ, zero, ◌<◌, ◌≤◌, Bool, true, ◌↔◌, List, length, ◌≢◌}
use mathlib.Core.List.{Memᴰ}
use Rattle.terms.specs.Sets.{Has, without, Within}
use Rattle.terms.specs.declared.axioms.Axiom.{Axiom}
use Rattle.worlds.specs.Worlds.{World, In, Linked, Obeys}
use Rattle.closure.specs.Closures.{Context, plain, toward, Clause, clause, Head, Reaches}
use Rattle.closure.specs.Rules.{Closed}
use Rattle.closure.specs.Soundness.{Fits}

-- the context lacks the empty clause without role part
abbrev pub Live : List Clause → Context → Type 0
Live clauses H = Memᴰ (clause H zero plain) clauses → ⊥

-- no class of D is among the classes i
abbrev pub Apart : ℕ → (ℕ → Bool) → Type 0
Apart D i = (a : ℕ) → Has D a → i a ≢ true

-- a clause of H has the head a, and its other classes are not among the classes i
abbrev pub Produced : (ℕ → ℕ) → List Clause → Context → (ℕ → Bool) → ℕ → Type 0
Produced rank clauses H i a = (D : ℕ) × Memᴰ (clause H D plain) clauses × Head rank D a × Apart (without D a) i

-- a clause of H has the role part (p, M), and its classes are not among the classes i
abbrev pub Wanted : List Clause → Context → (ℕ → Bool) → ℕ → Context → Type 0
Wanted clauses H i p M = (D : ℕ) × Memᴰ (clause H D (toward p M)) clauses × Apart D i

-- N holds and denies all that M does
abbrev pub Extended : Context → Context → Type 0
Extended M N = Within M.held N.held × Within M.denied N.denied

-- M is wanted, and whatever is wanted and extends it is no more than M
abbrev pub Maximal : List Clause → Context → (ℕ → Bool) → ℕ → Context → Type 0
Maximal clauses H i p M = Wanted clauses H i p M × ((N : Context) → Wanted clauses H i p N → Extended M N → Extended N M)

-- the world's elements are the live contexts, e being that of the context `at e`; its classes and links are those that the clauses give
pub record Canonical (rank : ℕ → ℕ) (axs : List Axiom) (contexts : List Context) (clauses : List Clause) (w : World) (at : ℕ → Context) : Type 0 where
  -- each element is that of a context of the table
  pub listed : (e : ℕ) → e < w.size → Memᴰ (at e) contexts
  -- which is live
  pub live : (e : ℕ) → e < w.size → Live clauses (at e)
  -- and each live context of the table has an element
  pub every : (H : Context) → Memᴰ H contexts → Live clauses H → (e : ℕ) × (e < w.size) × (at e ≡ H)
  -- an element is in the classes that the clauses of its context produce
  pub classes : (e a : ℕ) → e < w.size → In w e a ↔ Produced rank clauses (at e) (w.is_in e) a
  -- and linked by q to the contexts that are maximal for it by a role that reaches q
  pub links : (q d e : ℕ) → d < w.size → e < w.size → Linked w q d e ↔ ((p : ℕ) × Reaches axs p q × Maximal clauses (at d) (w.is_in d) p (at e))

-- (A) a canonical world of a table that keeps the rules obeys the axioms, and each element fits its context
abbrev pub CanonicalObeys : Type 0
CanonicalObeys = (rank : ℕ → ℕ) (axs : List Axiom) (contexts : List Context) (clauses : List Clause) (w : World) (at : ℕ → Context)
    → Closed rank axs contexts clauses → Canonical rank axs contexts clauses w at
    → Obeys w axs × ((e : ℕ) → e < w.size → Fits w e (at e))

-- two classes have two ranks
abbrev pub Injective : (ℕ → ℕ) → Type 0
Injective rank = (a b : ℕ) → rank a ≡ rank b → a ≡ b

-- (B) a table whose goal is live has a canonical world, with no more elements than contexts and the goal's as element 0
abbrev pub CanonicalExists : Type 0
CanonicalExists = (rank : ℕ → ℕ) → Injective rank → (axs : List Axiom) (G : Context) (contexts : List Context) (clauses : List Clause)
    → Memᴰ G contexts → Live clauses G
    → (w : World) × (at : ℕ → Context) × Canonical rank axs contexts clauses w at × (w.size ≤ length contexts) × (0 < w.size) × (at 0 ≡ G)

-- the world is a model of the table, with the goal G as element 0
pub record Model (axs : List Axiom) (contexts : List Context) (clauses : List Clause) (G : Context) (w : World) (at : ℕ → Context) : Type 0 where
  pub obeys : Obeys w axs
  -- it has no more elements than contexts
  pub small : w.size ≤ length contexts
  -- element 0 is there, and it is the goal's
  pub some_element : 0 < w.size
  pub goal_first : at 0 ≡ G
  -- each live context has an element, and each element fits its context
  pub every : (H : Context) → Memᴰ H contexts → Live clauses H → (e : ℕ) × (e < w.size) × (at e ≡ H)
  pub fits : (e : ℕ) → e < w.size → Fits w e (at e)

-- a table that keeps the rules and whose goal is live has a model
abbrev pub Complete : Type 0
Complete = (rank : ℕ → ℕ) → Injective rank → (axs : List Axiom) (G : Context) (contexts : List Context) (clauses : List Clause)
    → Closed rank axs contexts clauses → Memᴰ G contexts → Live clauses G
    → (w : World) × (at : ℕ → Context) × Model axs contexts clauses G w at
