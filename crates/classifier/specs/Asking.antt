-- What asking one pair of classes tells, and what asking a row of pairs tells: for the calls inside a classification.
use Rattle.std.specs.Prelude.{◌≡◌, ℕ, suc, ◌+◌, ◌*◌, ◌<◌, Bool, true, false, List}
use Rattle.terms.specs.Refusals.{Told, done, refused}
use Rattle.terms.specs.declared.class_set.ClassSet.{ClassSet}
use Rattle.terms.specs.declared.axioms.Axiom.{Axiom}
use Rattle.sources.specs.Meanings.{Meaning}
use Rattle.closure.specs.Closures.{Verdict, none, some}
use Rattle.tables.specs.declared.records.ContextRecord.{ContextRecord}
use Rattle.tables.specs.declared.records.ClauseRecord.{ClauseRecord}
use Rattle.reasoner.specs.Asks.{in_ask}
use Rattle.classifier.specs.Under.{goal, Under, Outside, Fits, Holding, Begun, Row}

-- ---- one pair

-- the verdict is none
abbrev pub is_none : Verdict → Bool
is_none none = true
is_none some = false

-- yes where a is under b, and then no world has such an element; no where it is not, and then some world has
abbrev pub Settles : List Axiom → ℕ → ℕ → Bool → Type 0
Settles axs a b true = Under axs a b × (Outside axs a b → ⊥)
Settles axs a b false = (Under axs a b → ⊥) × Outside axs a b

-- what asking one pair tells, with k context slots and l clause slots
abbrev pub Asked : List Axiom → ℕ → ℕ → ℕ → ℕ → List ContextRecord → List ClauseRecord → Told Bool → Type 0
Asked axs a b k l us vs (done r) = Fits axs k l a b × Settles axs a b r × Holding axs (goal a b) k l us vs
Asked axs a b k l us vs (refused n p y) = (n ≡ 23) × (p ≡ a * 64 + b) × (y ≡ in_ask) × (Fits axs k l a b → ⊥) × Begun axs (goal a b) k l us vs

-- ---- one row

-- the row of a as far as the classes below n: each of these pairs fits, and the tables hold the closure of the last
pub record RowUpTo (axs : List Axiom) (a n w k l : ℕ) (us : List ContextRecord) (vs : List ClauseRecord) : Type 0 where
  pub fits : (b : ℕ) → b < n → Fits axs k l a b
  pub row : Row axs n a w
  pub last : (b : ℕ) → n ≡ suc b → Holding axs (goal a b) k l us vs

-- the row of a is cut short at b, the first class of which the pair does not fit
pub record RowCut (axs : List Axiom) (c a p k l : ℕ) (us : List ContextRecord) (vs : List ClauseRecord) : Type 0 where
  pub b : ℕ
  pub class : b < c
  pub place : p ≡ a * 64 + b
  pub full : Fits axs k l a b → ⊥
  pub before : (e : ℕ) → e < b → Fits axs k l a e
  pub last : Begun axs (goal a b) k l us vs

-- what asking all of row a tells
abbrev pub RowAsked : Meaning → ℕ → ℕ → ℕ → List ContextRecord → List ClauseRecord → Told ClassSet → Type 0
RowAsked m a k l us vs (done w) = RowUpTo m.axioms a m.classes w.bits k l us vs
RowAsked m a k l us vs (refused n p y) = (n ≡ 23) × (y ≡ in_ask) × RowCut m.axioms m.classes a p k l us vs
