-- What it means to keep the rules: the closure does, and whatever does contains it.
use Rattle.std.specs.Prelude.{◌≡◌, ℕ, zero, Bool, true, List}
use mathlib.Core.List.{Memᴰ}
use Rattle.terms.specs.Sets.{Has, only, join, without}
use Rattle.terms.specs.declared.class_set.ClassSet.{ClassSet}
use Rattle.terms.specs.declared.axioms.Axiom.{Axiom}
use Rattle.terms.specs.declared.axioms.Axiom.TheVariants.{Inclusion, Exists, ExistsLower, Forall}
use Rattle.closure.specs.Closures.{Context, context, plain, toward, Clause, clause, Head, Reaches, Chosen, InContexts, InClauses}

-- the contexts of K and the clauses of C keep the rules
pub record Rules (rank : ℕ → ℕ) (axs : List Axiom) (K : Context → Type 0) (C : Clause → Type 0) : Type 0 where
  -- the context of a role part is there too
  pub target : (H N : Context) (D p : ℕ) → C (clause H D (toward p N)) → K N
  -- a class that H holds is a clause of H
  pub held_class : (H : Context) (a : ℕ) → K H → Has H.held a → C (clause H (only a) plain)
  -- a head that H denies is left out
  pub denied_head : (H : Context) (D a : ℕ) → C (clause H D plain) → Head rank D a → Has H.denied a → C (clause H (without D a) plain)
  -- where each class below an inclusion is the head of a clause, the classes above it stand in the heads' place
  pub inclusion : (H : Context) (L M : ClassSet) (Ds : List ℕ) (E : ℕ) → Memᴰ (Inclusion L M) axs → K H → Chosen rank L.bits Ds E
      → ((D : ℕ) → Memᴰ D Ds → C (clause H D plain))
      → C (clause H (join M.bits E) plain)
  -- where the class below an existential is the head, a successor stands in its place
  pub existential : (H : Context) (D a p b : ℕ) → Memᴰ (Exists a p b) axs → C (clause H D plain) → Head rank D a
      → C (clause H (without D a) (toward p (context (only b) zero)))
  -- where a successor may be in the class on the left, the class above is one more, or else the successor is not in it
  pub existential_left : (H N : Context) (D E p q a b : ℕ) → Memᴰ (ExistsLower q a b) axs → Reaches axs p q
      → C (clause H D (toward p N)) → C (clause N E plain) → Head rank E a
      → C (clause H (join D (only b)) (toward p (context N.held (join N.denied (only a)))))
  -- a role part to a context with the empty clause is left out
  pub impossible_target : (H N : Context) (D p : ℕ) → C (clause H D (toward p N)) → C (clause N zero plain) → C (clause H D plain)
  -- where the class below a universal is the head, a successor is in the class above it too
  pub universal : (H N : Context) (D E p q a b : ℕ) → Memᴰ (Forall a q b) axs → Reaches axs p q
      → C (clause H D (toward p N)) → C (clause H E plain) → Head rank E a
      → C (clause H (join D (without E a)) (toward p (context (join N.held (only b)) N.denied)))

-- a table of contexts and clauses that keeps the rules
abbrev pub Closed : (ℕ → ℕ) → List Axiom → List Context → List Clause → Type 0
Closed rank axs contexts clauses = Rules rank axs (λ H. Memᴰ H contexts) (λ x. Memᴰ x clauses)

-- the closure has the goal and keeps the rules
abbrev pub KeepsRules : Type 0
KeepsRules = (rank : ℕ → ℕ) (axs : List Axiom) (G : Context) → InContexts rank axs G G × Rules rank axs (InContexts rank axs G) (InClauses rank axs G)

-- and whatever has the goal and keeps the rules contains it; K and C are tests, since a contract cannot speak of every property
abbrev pub Least : Type 0
Least = (rank : ℕ → ℕ) (axs : List Axiom) (G : Context) (K : Context → Bool) (C : Clause → Bool)
    → K G ≡ true → Rules rank axs (λ H. K H ≡ true) (λ x. C x ≡ true)
    → ((H : Context) → InContexts rank axs G H → K H ≡ true) × ((x : Clause) → InClauses rank axs G x → C x ≡ true)
