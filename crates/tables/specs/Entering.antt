-- Slots of a table, and what entering a record into it does.
use Rattle.std.specs.Prelude.{◌≡◌, ℕ, ◌+◌, ◌<◌, ◌⊎◌, List, length, slice_index_or, slice_set}

-- slot k holds x: a read gives x, whatever it would give past the end
pub record Holds {X : Type 0} (xs : List X) (k : ℕ) (x : X) : Type 0 where
  pub is : (d : X) → slice_index_or xs k d ≡ x

-- one of the first n slots holds x
pub record Among {X : Type 0} (xs : List X) (n : ℕ) (x : X) : Type 0 where
  pub slot : ℕ
  pub below : slot < n
  pub holds : Holds xs slot x

-- no two of the first n slots hold the same
abbrev pub Apart : {X : Type 0} → List X → ℕ → Type 0
Apart {X} xs n = (j k : ℕ) → j < k → k < n → (x : X) → Holds xs j x → Holds xs k x → ⊥

-- the first n slots are as they were
pub record Kept {X : Type 0} (before after : List X) (n : ℕ) : Type 0 where
  pub same : (k : ℕ) → k < n → (d : X) → slice_index_or after k d ≡ slice_index_or before k d

-- x stood in a used slot already, and nothing has changed
pub record Found {X : Type 0} (before : List X) (used : ℕ) (after : List X) (used' : ℕ) : Type 0 where
  pub no_more : used' ≡ used
  pub same : after ≡ before

-- x stood in no used slot, and was put into the next one
pub record Put {X : Type 0} (before : List X) (used : ℕ) (x : X) (after : List X) (slot used' : ℕ) : Type 0 where
  pub absent : Among before used x → ⊥
  pub free : used < length before
  pub next : slot ≡ used
  pub one_more : used' ≡ used + 1
  pub written : after ≡ slice_set before used x

-- x is in a slot, one of those now used: it was found there, or put there
pub record Entered {X : Type 0} (before : List X) (used : ℕ) (x : X) (after : List X) (slot used' : ℕ) : Type 0 where
  pub below : slot < used'
  pub there : Holds after slot x
  pub way : Found before used after used' ⊎ Put before used x after slot used'

-- every slot is used, none holds x, and nothing has changed
pub record Refused {X : Type 0} (before : List X) (used : ℕ) (x : X) (after : List X) : Type 0 where
  pub same : after ≡ before
  pub full : used ≡ length before
  pub absent : Among before used x → ⊥
