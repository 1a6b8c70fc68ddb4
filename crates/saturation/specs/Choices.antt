-- The premises for an inclusion: one clause for each lower class, the given clause among them.
use Rattle.std.specs.Prelude.{◌≡◌, ℕ, ◌+◌, ◌<◌, List, None, slice_index_or}
use mathlib.Core.List.{Memᴰ}
use Rattle.terms.specs.Sets.{join, without}
use Rattle.closure.specs.Closures.{Context, plain, Clause, clause, Head, rising, Chosen}
use Rattle.tables.specs.Entering.{Among}
use Rattle.tables.specs.Records.{lone}
use Rattle.tables.specs.Tables.{Tables, Member, a_clause, clause_of}
use Rattle.tables.specs.declared.records.ClauseRecord.{ClauseRecord}

-- among the first n clauses, those of the context in slot h without role part have their classes in Ts, and nothing else is there
pub record Listed (clauses : List ClauseRecord) (n h : ℕ) (Ts : List ℕ) : Type 0 where
  pub from : (D : ℕ) → Among clauses n (lone h D) → Memᴰ D Ts
  pub to : (D : ℕ) → Memᴰ D Ts → Among clauses n (lone h D)

-- the record can be the premise for the class c, where the given clause is of the context in slot h and has the head a and the classes D: for a it is the only one
pub record Premise (h a D c : ℕ) (y : ClauseRecord) : Type 0 where
  pub within : y.context ≡ h
  pub lonely : y.part ≡ None
  pub head : Head rising y.classes.bits c
  pub only_given : c ≡ a → y.classes.bits ≡ D

-- a choice of premises for the classes of L gives the member m: S, which was gathered before, with what each premise has but its head
pub record Picks (H : Context) (Ts : List ℕ) (a D L S : ℕ) (m : Member) : Type 0 where
  pub sets : List ℕ
  pub rest : ℕ
  pub chosen : Chosen rising L sets rest
  pub each : (E : ℕ) → Memᴰ E sets → Memᴰ E Ts × (Head rising E a → E ≡ D)
  pub is : m ≡ a_clause (clause H (join S rest) plain)

-- the same, the record y being the premise for the class c, and L what is left after it
pub record Pick (H : Context) (Ts : List ℕ) (h a D c L S : ℕ) (y : ClauseRecord) (m : Member) : Type 0 where
  pub premise : Premise h a D c y
  pub picks : Picks H Ts a D L (join S (without y.classes.bits c)) m

-- what a slot holds; past the end, a clause of no class
abbrev pub given_record : List ClauseRecord → ℕ → ClauseRecord
given_record clauses k = slice_index_or clauses k (lone 0 0)

-- the used slot holds a record that means c, and Ts has the classes of the clauses that can be premises with it
pub record Given (s : Tables) (slot : ℕ) (c : Clause) (Ts : List ℕ) : Type 0 where
  pub used : slot < s.used.clauses
  pub means : clause_of s.contexts (given_record s.clauses slot) ≡ c
  pub listed : Listed s.clauses (slot + 1) (given_record s.clauses slot).context Ts
