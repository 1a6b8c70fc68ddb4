-- What each rule gives, from which clauses: the closure's rules, read as steps.
use Rattle.std.specs.Prelude.{◌≡◌, ℕ, zero, ◌<◌, ◌≤◌, ◌⊎◌, List, length, Some, None, Option}
use mathlib.Core.List.{Memᴰ}
use Rattle.terms.specs.Sets.{Has, only, join, without}
use Rattle.terms.specs.declared.class_set.ClassSet.{ClassSet}
use Rattle.terms.specs.declared.axioms.Axiom.{Axiom}
use Rattle.terms.specs.declared.axioms.Axiom.TheVariants.{Inclusion, Exists, ExistsLower, Forall, RoleInclusion}
use Rattle.closure.specs.Closures.{Context, context, Part, plain, toward, Clause, clause, Head, rising, Reaches, Chosen}
use Rattle.tables.specs.declared.records.ClauseRecord.{ClauseRecord}
use Rattle.tables.specs.declared.records.ContextRecord.{ContextRecord}
use Rattle.tables.specs.declared.records.RolePart.{RolePart}
use Rattle.tables.specs.Tables.{Member, a_context, a_clause, context_in, clause_of}
use Rattle.tables.specs.Adding.{Below}

-- ---- what a conclusion brings into the tables

-- the context that a role part is toward
abbrev pub PartBrings : Part → Member → Type 0
PartBrings plain m = ⊥
PartBrings (toward p K) m = m ≡ a_context K

-- the clause itself, and the context of its role part
abbrev pub Brings : Clause → Member → Type 0
Brings d m = PartBrings d.part m ⊎ (m ≡ a_clause d)

-- some conclusion brings m
pub record Brought (Concludes : Clause → Type 0) (m : Member) : Type 0 where
  pub by : Clause
  pub follows : Concludes by
  pub brings : Brings by m

-- ---- conclusions

-- the clause has no role part, and the head a
pub record Headed (c : Clause) (a : ℕ) : Type 0 where
  pub lone : c.part ≡ plain
  pub head : Head rising c.classes a

-- from a context H: a class that it holds, or the upper classes of an inclusion with no lower ones
pub data OfContext (axs : List Axiom) (H : Context) : Clause → Type 0 where
  held_class : (a : ℕ) → Has H.held a → OfContext axs H (clause H (only a) plain)
  no_lower : (L M : ClassSet) → Memᴰ (Inclusion L M) axs → L.bits ≡ zero → OfContext axs H (clause H M.bits plain)

-- the clause of a class that H holds
pub record Held (H : Context) (m : Member) : Type 0 where
  pub class : ℕ
  pub held : Has H.held class
  pub is : m ≡ a_clause (clause H (only class) plain)

-- an inclusion with no lower classes
pub record Unconditional (x : Axiom) : Type 0 where
  pub lower : ClassSet
  pub upper : ClassSet
  pub inclusion : x ≡ Inclusion lower upper
  pub empty : lower.bits ≡ zero

-- and its upper classes, for H
pub record NoLower (H : Context) (x : Axiom) (m : Member) : Type 0 where
  pub by : Unconditional x
  pub is : m ≡ a_clause (clause H by.upper.bits plain)

-- from the contexts in the slots from one on and below another
pub record FromSlots (axs : List Axiom) (xs : List ContextRecord) (from upto : ℕ) (m : Member) : Type 0 where
  pub slot : ℕ
  pub low : from ≤ slot
  pub high : slot < upto
  pub gives : Brought (OfContext axs (context_in xs slot)) m

-- from a clause c: its context denies its head
pub record DeniedHead (c d : Clause) : Type 0 where
  pub class : ℕ
  pub headed : Headed c class
  pub denied : Has c.of.denied class
  pub is : d ≡ clause c.of (without c.classes class) plain

-- an inclusion of L in M: a choice of a clause of the context H for each class of L; all have their classes in Ts, and one of them is D
pub record Chooses (H : Context) (Ts : List ℕ) (D L M : ℕ) (d : Clause) : Type 0 where
  pub sets : List ℕ
  pub rest : ℕ
  pub chosen : Chosen rising L sets rest
  pub each : (E : ℕ) → Memᴰ E sets → Memᴰ E Ts
  pub given : Memᴰ D sets
  pub is : d ≡ clause H (join M rest) plain

-- an existential with its lower class as the head of c
pub record Succeeds (a p b : ℕ) (c d : Clause) : Type 0 where
  pub headed : Headed c a
  pub is : d ≡ clause c.of (without c.classes a) (toward p (context (only b) zero))

-- from the clause c by one axiom, the other premises of an inclusion having their classes in Ts
abbrev pub ByAxiom : Axiom → List ℕ → Clause → Clause → Type 0
ByAxiom (Inclusion L M) Ts c d = (c.part ≡ plain) × Chooses c.of Ts c.classes L.bits M.bits d
ByAxiom (Exists a p b) Ts c d = Succeeds a p b c d
ByAxiom (ExistsLower q a b) Ts c d = ⊥
ByAxiom (Forall a q b) Ts c d = ⊥
ByAxiom (RoleInclusion p q) Ts c d = ⊥

-- from the clause c alone, but for the other premises of an inclusion
abbrev pub OfOne : List Axiom → List ℕ → Clause → Member → Type 0
OfOne axs Ts c m = Brought (DeniedHead c) m ⊎ Below axs (length axs) (λ x. Brought (ByAxiom x Ts c)) m

-- from a clause t with the role part (p, K) and a clause e without one: e is the empty clause of K
pub record Impossible (t e d : Clause) : Type 0 where
  pub role : ℕ
  pub target : Context
  pub part : t.part ≡ toward role target
  pub empty : e ≡ clause target zero plain
  pub is : d ≡ clause t.of t.classes plain

-- a is the head of e, which is a clause of K; what has a successor by q in a is in b
pub record Denies (axs : List Axiom) (q a b : ℕ) (t e d : Clause) : Type 0 where
  pub role : ℕ
  pub target : Context
  pub part : t.part ≡ toward role target
  pub reaches : Reaches axs role q
  pub of : e.of ≡ target
  pub headed : Headed e a
  pub is : d ≡ clause t.of (join t.classes (only b)) (toward role (context target.held (join target.denied (only a))))

-- a is the head of e, which is a clause of the same context as t; what is in a has its successors by q in b
pub record HoldsToo (axs : List Axiom) (a q b : ℕ) (t e d : Clause) : Type 0 where
  pub role : ℕ
  pub target : Context
  pub part : t.part ≡ toward role target
  pub reaches : Reaches axs role q
  pub of : e.of ≡ t.of
  pub headed : Headed e a
  pub is : d ≡ clause t.of (join t.classes (without e.classes a)) (toward role (context (join target.held (only b)) target.denied))

-- from the two clauses by one axiom
abbrev pub PairBy : List Axiom → Axiom → Clause → Clause → Clause → Type 0
PairBy axs (Inclusion L M) t e d = ⊥
PairBy axs (Exists a p b) t e d = ⊥
PairBy axs (ExistsLower q a b) t e d = Denies axs q a b t e d
PairBy axs (Forall a q b) t e d = HoldsToo axs a q b t e d
PairBy axs (RoleInclusion p q) t e d = ⊥

-- from the two clauses
pub data OfPair (axs : List Axiom) (t e d : Clause) : Type 0 where
  impossible : Impossible t e d → OfPair axs t e d
  by_axiom : (x : Axiom) → Memᴰ x axs → PairBy axs x t e d → OfPair axs t e d

-- a record has a role part, and the other is of its context or of the one that the role part is toward
pub record Shares (x y : ClauseRecord) : Type 0 where
  pub role_part : RolePart
  pub is : x.part ≡ Some role_part
  pub same : (y.context ≡ role_part.context) ⊎ (y.context ≡ x.context)

-- in either order
abbrev pub Either : List Axiom → Clause → Clause → Member → Type 0
Either axs c d m = Brought (OfPair axs c d) m ⊎ Brought (OfPair axs d c) m

-- from the clause c, and the records of the first n slots
abbrev pub OfTurn : List Axiom → List ContextRecord → List ClauseRecord → ℕ → List ℕ → Clause → Member → Type 0
OfTurn axs xs ys n Ts c m = OfOne axs Ts c m ⊎ Below ys n (λ y. Either axs c (clause_of xs y)) m

-- the role of a role part is below n
abbrev pub RolesBelow : ℕ → Option RolePart → Type 0
RolesBelow n None = Unit {0}
RolesBelow n (Some r) = r.role < n
