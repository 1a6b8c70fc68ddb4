-- How many members the closure has.
use Rattle.std.specs.Prelude.{◌≡◌, ℕ, ◌<◌, ◌↔◌, List, [], ◌∷◌, length}
use mathlib.Core.List.{Memᴰ}
use Rattle.terms.specs.declared.axioms.Axiom.{Axiom}
use Rattle.closure.specs.Closures.{Context, InContexts, InClauses}

-- the list has nothing twice
abbrev pub Distinct : {A : Type 0} → List A → Type 0
Distinct [] = Unit {0}
Distinct (x ∷ xs) = (Memᴰ x xs → ⊥) × Distinct xs

-- the list has exactly the members of P
abbrev pub Lists : {A : Type 0} → (A → Type 0) → List A → Type 0
Lists {A} P xs = (x : A) → P x ↔ Memᴰ x xs

-- P has exactly n members
abbrev pub Exactly : {A : Type 0} → ℕ → (A → Type 0) → Type 0
Exactly {A} n P = (xs : List A) × Lists P xs × Distinct xs × (length xs ≡ n)

-- P has more than n members
abbrev pub More : {A : Type 0} → (A → Type 0) → ℕ → Type 0
More {A} P n = (xs : List A) × ((x : A) → Memᴰ x xs → P x) × Distinct xs × (n < length xs)

-- what counting the members of P gives
pub record CountRight {A : Type 0} (P : A → Type 0) : Type 0 where
  -- it is one number
  pub one_number : (m n : ℕ) → Exactly m P → Exactly n P → m ≡ n
  -- exactly n and more than n exclude each other
  pub exclude : (n : ℕ) → Exactly n P → More P n → ⊥
  -- there are more than n members exactly where their number is above n
  pub above : (m n : ℕ) → Exactly m P → More P n ↔ (n < m)

-- of the closure's contexts, and of its clauses
abbrev pub Counted : Type 0
Counted = (rank : ℕ → ℕ) (axs : List Axiom) (G : Context) → CountRight (InContexts rank axs G) × CountRight (InClauses rank axs G)
