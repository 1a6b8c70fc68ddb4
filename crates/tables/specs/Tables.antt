-- What the two tables mean, in the closure's own words.
use Rattle.std.specs.Prelude.{◌≡◌, ℕ, ◌<◌, ◌≤◌, List, map, length, take, Some, None, Option, slice_index_or}
use Rattle.std.specs.Coded.{×_prop, Unit-prop, le_prop}
use mathlib.Core.HLevel.{⊥_prop}
use Rattle.terms.specs.Axioms.{set_of}
use Rattle.terms.specs.declared.axioms.Axiom.{Axiom}
use Rattle.closure.specs.Closures.{Context, context, Part, plain, toward, Clause, clause, InContexts, InClauses}
use Rattle.tables.specs.declared.records.ContextRecord.{ContextRecord}
use Rattle.tables.specs.declared.records.RolePart.{RolePart}
use Rattle.tables.specs.declared.records.ClauseRecord.{ClauseRecord}
use Rattle.tables.specs.declared.members.Counts.{Counts}
use Rattle.tables.specs.Entering.{Among, Apart}

abbrev pub context_of : ContextRecord → Context
context_of x = context x.held.bits x.denied.bits

-- what a read past the end gives: no class is held or denied
abbrev pub blank : ContextRecord
blank = record { held = set_of 0; denied = set_of 0 }

-- the context in a slot
abbrev pub context_in : List ContextRecord → ℕ → Context
context_in contexts k = context_of (slice_index_or contexts k blank)

abbrev pub part_of : List ContextRecord → Option RolePart → Part
part_of contexts None = plain
part_of contexts (Some r) = toward r.role (context_in contexts r.context)

-- a record means the clause with the contexts in the slots that it cites
abbrev pub clause_of : List ContextRecord → ClauseRecord → Clause
clause_of contexts x = clause (context_in contexts x.context) x.classes.bits (part_of contexts x.part)

-- the slots that a record cites are below n
abbrev pub PartCites : ℕ → Option RolePart → Type 0
PartCites n None = Unit {0}
PartCites n (Some r) = r.context < n

abbrev pub Cites : ℕ → ClauseRecord → Type 0
Cites n x = (x.context < n) × PartCites n x.part

-- the two tables, with how many slots of each are used, from the first on
pub record Tables : Type 0 where
  pub contexts : List ContextRecord
  pub clauses : List ClauseRecord
  pub used : Counts

abbrev pub tables : List ContextRecord → List ClauseRecord → Counts → Tables
tables xs ys n = record { contexts = xs; clauses = ys; used = n }

-- a member of a closure: one of its contexts, or one of its clauses
pub data Member : Type 0 where
  a_context : Context → Member
  a_clause : Clause → Member

-- of the closure of the goal G
abbrev pub InClosure : (ℕ → ℕ) → List Axiom → Context → Member → Type 0
InClosure rank axs G (a_context K) = InContexts rank axs G K
InClosure rank axs G (a_clause c) = InClauses rank axs G c

-- some record among the first n slots means m
pub record Stands {X M : Type 0} (meaning : X → M) (xs : List X) (n : ℕ) (m : M) : Type 0 where
  pub by : X
  pub among : Among xs n by
  pub means : meaning by ≡ m

-- the tables have the member
abbrev pub In : Tables → Member → Type 0
In s (a_context K) = Stands context_of s.contexts s.used.contexts K
In s (a_clause c) = Stands (clause_of s.contexts) s.clauses s.used.clauses c

-- the contexts and the clauses that the tables have, in the order of the slots
abbrev pub contexts_of : Tables → List Context
contexts_of s = map context_of (take s.used.contexts s.contexts)

abbrev pub clauses_of : Tables → List Clause
clauses_of s = map (clause_of s.contexts) (take s.used.clauses s.clauses)

-- the counts are within the tables, each cited slot is used, and no record stands twice
pub record Good (s : Tables) : Type 0 where
  pub contexts_fit : s.used.contexts ≤ length s.contexts
  pub clauses_fit : s.used.clauses ≤ length s.clauses
  pub cited : (x : ClauseRecord) → Among s.clauses s.used.clauses x → Cites s.used.contexts x
  pub contexts_apart : Apart s.contexts s.used.contexts
  pub clauses_apart : Apart s.clauses s.used.clauses

-- any two proofs of it are the same, so that a value can carry one
pub PartCites-prop : (n : ℕ) (p : Option RolePart) → IsProp (PartCites n p)
PartCites-prop n None = Unit-prop
PartCites-prop n (Some r) = le_prop

Cites-prop : (n : ℕ) (x : ClauseRecord) → IsProp (Cites n x)
Cites-prop n x = ×_prop le_prop (PartCites-prop n x.part)

pub Good-prop : (s : Tables) → IsProp (Good s)
Good-prop s g h = λ i. record {
  contexts_fit = le_prop g.contexts_fit h.contexts_fit i;
  clauses_fit = le_prop g.clauses_fit h.clauses_fit i;
  cited = λ x a. Cites-prop s.used.contexts x (g.cited x a) (h.cited x a) i;
  contexts_apart = λ j k jk l x p q. ⊥_prop (g.contexts_apart j k jk l x p q) (h.contexts_apart j k jk l x p q) i;
  clauses_apart = λ j k jk l x p q. ⊥_prop (g.clauses_apart j k jk l x p q) (h.clauses_apart j k jk l x p q) i;
}
