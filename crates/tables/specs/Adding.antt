-- Adding members to the tables.
use Rattle.std.specs.Prelude.{◌≡◌, ℕ, ◌≤◌, ◌⊎◌, List, length, Result, MatchResult, slice_index_or}
use Rattle.tables.specs.declared.entering.Full.{Full}
use Rattle.tables.specs.declared.members.Counts.{Counts}
use Rattle.tables.specs.Entering.{Among, Kept}
use Rattle.tables.specs.Tables.{Tables, Member, a_context, a_clause, In, Good}

-- one table: more slots may be used than were, those that were used are as they were, and so are those that are not used now
pub record Extends {X : Type 0} (before : List X) (used : ℕ) (after : List X) (used' : ℕ) : Type 0 where
  pub more : used ≤ used'
  pub size : length after ≡ length before
  pub kept : Kept before after used
  pub rest : (k : ℕ) → used' ≤ k → (d : X) → slice_index_or after k d ≡ slice_index_or before k d

-- both tables
pub record Grows (s u : Tables) : Type 0 where
  pub good : Good u
  pub contexts : Extends s.contexts s.used.contexts u.contexts u.used.contexts
  pub clauses : Extends s.clauses s.used.clauses u.clauses u.used.clauses

-- the tables s have become u, which have what s had, and every C, and nothing else
pub record Adds (C : Member → Type 0) (s u : Tables) : Type 0 where
  pub grows : Grows s u
  pub all : (m : Member) → C m → In u m
  pub only : (m : Member) → In u m → In s m ⊎ C m

-- the table for such a member has no slot left
abbrev pub NoSlot : Tables → Member → Type 0
NoSlot u (a_context K) = u.used.contexts ≡ length u.contexts
NoSlot u (a_clause c) = u.used.clauses ≡ length u.clauses

-- the tables s have become u, which have what s had, some C, and nothing else; one C is not there, and has no slot left
pub record Stuck (C : Member → Type 0) (s u : Tables) : Type 0 where
  pub grows : Grows s u
  pub only : (m : Member) → In u m → In s m ⊎ C m
  pub left_out : Member
  pub wanted : C left_out
  pub absent : In u left_out → ⊥
  pub no_slot : NoSlot u left_out

-- how a call ends that is to add every C to the tables s: they are added, with the counts that it tells, or a table is full;
-- u says which tables there are in the end, with such counts
abbrev pub Enters : (Member → Type 0) → Tables → (Counts → Tables) → Result Counts Full → Type 0
Enters C s u r = MatchResult r (λ n. Adds C s (u n)) (λ _. (n : Counts) × Stuck C s (u n))

-- the same of tables that keep their own counts
abbrev pub Ends : {X : Type 0} → (Member → Type 0) → Tables → Tables → Result X Full → Type 0
Ends C s u r = MatchResult r (λ _. Adds C s u) (λ _. Stuck C s u)

-- what the first k slots of a list give, each what Q says of it
pub record Below {Z : Type 0} (xs : List Z) (k : ℕ) (Q : Z → Member → Type 0) (m : Member) : Type 0 where
  pub by : Z
  pub among : Among xs k by
  pub gives : Q by m
