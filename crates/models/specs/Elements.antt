-- Which contexts have an element, its number, and the classes that it is in, told of records and slots.
use Rattle.std.specs.Prelude.{◌≡◌, ℕ, zero, suc, ◌+◌, ◌<◌, ◌≤◌, Bool, true, false, cond, ◌⊎◌, ◌↔◌, List, map, length, is_some, Some, None, Option, slice_index_or}
use Rattle.terms.specs.Sets.{has, Has, only, join, without}
use Rattle.terms.specs.Axioms.{set_of}
use Rattle.closure.specs.Canonical.{Apart}
use Rattle.tables.specs.declared.records.ContextRecord.{ContextRecord}
use Rattle.tables.specs.declared.records.ClauseRecord.{ClauseRecord}
use Rattle.tables.specs.Records.{Tops}
use Rattle.tables.specs.Tables.{Cites}
use Rattle.models.specs.Writing.{RoleBelow}

-- what is read of a list of clauses past its end; no promise speaks of it
abbrev pub no_clause : ClauseRecord
no_clause = record { context = 0; classes = set_of 0; part = None }

abbrev pub clause_at : List ClauseRecord → ℕ → ClauseRecord
clause_at xs k = slice_index_or xs k no_clause

-- there are at most 256 contexts, and the clauses cite no others, nor a role from 16 up
pub record Safe (cs : List ContextRecord) (xs : List ClauseRecord) : Type 0 where
  pub few : length cs ≤ 256
  pub cited : (k : ℕ) → k < length xs → Cites (length cs) (clause_at xs k)
  pub low : (k : ℕ) → k < length xs → RoleBelow 16 (clause_at xs k).part

-- ---- elements

-- the clause says that the context in slot h has no element
pub record Empties (h : ℕ) (x : ClauseRecord) : Type 0 where
  pub its : x.context ≡ h
  pub is_plain : x.part ≡ None
  pub none : x.classes.bits ≡ 0

-- one of the first k clauses says so
pub record Emptied (xs : List ClauseRecord) (k h : ℕ) : Type 0 where
  pub by : ℕ
  pub below : by < k
  pub empties : Empties h (clause_at xs by)

-- live tells of each slot whether its context has an element
abbrev pub is_live : List Bool → ℕ → Bool
is_live live h = slice_index_or live h false

pub record Tells (xs : List ClauseRecord) (k : ℕ) (live : List Bool) : Type 0 where
  pub size : length live ≡ 256
  pub right : (h : ℕ) → h < 256 → is_live live h ≡ true ↔ (Emptied xs k h → ⊥)

-- how many of the first k slots are live: the number of the element of slot k
unfoldable pub live_before : List Bool → ℕ → ℕ
live_before live zero = 0
live_before live (suc k) = live_before live k + cond (is_live live k) 1 0

-- numbers has that number for each slot whose context has an element, and none for the others
abbrev pub live_in : List (Option ℕ) → List Bool
live_in numbers = map is_some numbers

pub record Numbered (xs : List ClauseRecord) (numbers : List (Option ℕ)) : Type 0 where
  pub tells : Tells xs (length xs) (live_in numbers)
  pub right : (h n : ℕ) → slice_index_or numbers h None ≡ Some n → n ≡ live_before (live_in numbers) h

-- ---- classes

-- the clause is one of slot h without role part, and has the head a
pub record Heads (h a : ℕ) (x : ClauseRecord) : Type 0 where
  pub its : x.context ≡ h
  pub tops : Tops x a

-- s has the heads of the first k clauses
abbrev pub Headed : List ClauseRecord → ℕ → ℕ → ℕ → Type 0
Headed xs h k s = (j : ℕ) → j < k → (a : ℕ) → Heads h a (clause_at xs j) → Has s a

-- the clause has the head a, and its other classes are not in s
pub record Yields (h s a : ℕ) (x : ClauseRecord) : Type 0 where
  pub heads : Heads h a x
  pub apart : Apart (without x.classes.bits a) (has s)

-- some clause is such
pub record Produces (xs : List ClauseRecord) (h s a : ℕ) : Type 0 where
  pub by : ℕ
  pub below : by < length xs
  pub yields : Yields h s a (clause_at xs by)

-- t is s, and a too where it is produced
abbrev pub Turns : List ClauseRecord → ℕ → ℕ → ℕ → ℕ → Type 0
Turns xs h s a t = (Produces xs h s a × (t ≡ join s (only a))) ⊎ ((Produces xs h s a → ⊥) × (t ≡ s))
