-- The contexts to which an element is linked, told of records and slots.
use Rattle.std.specs.Prelude.{◌≡◌, ℕ, ◌+◌, ◌*◌, ◌/◌, ◌%◌, ◌<◌, Bool, true, ◌↔◌, List, length, Some, slice_index}
use Rattle.terms.specs.Sets.{has, Has}
use Rattle.closure.specs.Canonical.{Apart, Extended}
use Rattle.tables.specs.declared.records.ContextRecord.{ContextRecord}
use Rattle.tables.specs.declared.records.RolePart.{RolePart}
use Rattle.tables.specs.declared.records.ClauseRecord.{ClauseRecord}
use Rattle.tables.specs.Tables.{context_in}
use Rattle.models.specs.Elements.{clause_at, is_live, live_before, Produces}

-- the clause is one of slot h with the role part r, and no class of it is in s
pub record Wishes (h s : ℕ) (r : RolePart) (x : ClauseRecord) : Type 0 where
  pub its : x.context ≡ h
  pub is_part : x.part ≡ Some r
  pub apart : Apart x.classes.bits (has s)

-- one of the first k clauses is such
pub record Wants (xs : List ClauseRecord) (k h s : ℕ) (r : RolePart) : Type 0 where
  pub by : ℕ
  pub below : by < k
  pub wishes : Wishes h s r (clause_at xs by)

-- the other role part has the same role, and another context that holds and denies all that this one's does
pub record Beats (cs : List ContextRecord) (other r : RolePart) : Type 0 where
  pub same_role : other.role ≡ r.role
  pub differs : other.context ≡ r.context → ⊥
  pub above : Extended (context_in cs r.context) (context_in cs other.context)

-- the clause is one of slot h and wants one that beats it
pub record Outdone (cs : List ContextRecord) (h s : ℕ) (r : RolePart) (x : ClauseRecord) : Type 0 where
  pub better : RolePart
  pub wishes : Wishes h s better x
  pub beats : Beats cs better r

-- one of the first k clauses is such
pub record Beaten (cs : List ContextRecord) (xs : List ClauseRecord) (k h s : ℕ) (r : RolePart) : Type 0 where
  pub by : ℕ
  pub below : by < k
  pub outdone : Outdone cs h s r (clause_at xs by)

-- one of the first k clauses of slot h wants a successor by p whose context is not beaten and has the element f
pub record Points (cs : List ContextRecord) (xs : List ClauseRecord) (live : List Bool) (k h s p f : ℕ) : Type 0 where
  pub to : ℕ
  pub wanted : Wants xs k h s (record { role = p; context = to })
  pub best : Beaten cs xs (length xs) h s (record { role = p; context = to }) → ⊥
  pub there : is_live live to ≡ true
  pub number : live_before live to ≡ f

-- the words of the row of the context in slot h: first its classes, and then for each role four words of links
pub record Row (cs : List ContextRecord) (xs : List ClauseRecord) (live : List Bool) (reach : List ℕ) (roles h : ℕ) (word : ℕ → ℕ) : Type 0 where
  pub classes : (a : ℕ) → Has (word 0) a ↔ Produces xs h (word 0) a
  pub links : (q f : ℕ) → q < roles → f < 256
      → Has (word (1 + (4 * q + f / 64))) (f % 64) ↔ ((p : ℕ) × (p < 16) × Has (slice_index reach p) q × Points cs xs live (length xs) h (word 0) p f)
