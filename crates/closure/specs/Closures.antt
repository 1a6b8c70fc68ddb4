-- The closure of a goal context: the least collection of contexts and clauses with the rules.
use Rattle.std.specs.Prelude.{ℕ, zero, ◌≤◌, List, [], ◌∷◌}
use mathlib.Core.List.{Memᴰ}
use Rattle.terms.specs.Sets.{Has, only, join, without}
use Rattle.terms.specs.declared.class_set.ClassSet.{ClassSet}
use Rattle.terms.specs.declared.axioms.Axiom.{Axiom}
use Rattle.terms.specs.declared.axioms.Axiom.TheVariants.{Inclusion, Exists, ExistsLower, Forall, RoleInclusion}

-- a context speaks of the elements that are in all held and in no denied classes
pub record Context : Type 0 where
  pub held : ℕ
  pub denied : ℕ

-- the context that holds P and denies N
abbrev pub context : ℕ → ℕ → Context
context P N = record { held = P; denied = N }

-- no role part, or the role part (p, K)
pub data Part : Type 0 where
  plain : Part
  toward : ℕ → Context → Part

-- each element of the context `of` is in a class of `classes`, or has a successor as the role part says
pub record Clause : Type 0 where
  pub of : Context
  pub classes : ℕ
  pub part : Part

abbrev pub clause : Context → ℕ → Part → Clause
clause H D r = record { of = H; classes = D; part = r }

-- a is the class of D that is highest by rank; a clause with a role part has no head, so each rule takes heads of clauses without one
abbrev pub Head : (ℕ → ℕ) → ℕ → ℕ → Type 0
Head rank D a = Has D a × ((b : ℕ) → Has D b → rank b ≤ rank a)

-- the order of the numbers, which every promise uses
abbrev pub rising : ℕ → ℕ
rising a = a

-- zero or more role inclusions lead from p to q
pub data Reaches (axs : List Axiom) : ℕ → ℕ → Type 0 where
  here : {p : ℕ} → Reaches axs p p
  step : {p q r : ℕ} → Reaches axs p q → Memᴰ (RoleInclusion q r) axs → Reaches axs p r

-- Ds has one set for each class of L, with that class as head; E is all of them together, each without its own head
pub data Chosen (rank : ℕ → ℕ) : ℕ → List ℕ → ℕ → Type 0 where
  none_left : Chosen rank zero [] zero
  take : {L D E : ℕ} {Ds : List ℕ} (a : ℕ) → Head rank L a → Head rank D a → Chosen rank (without L a) Ds E → Chosen rank L (D ∷ Ds) (join (without D a) E)

-- the closure of the goal G
module _ (rank : ℕ → ℕ) (axs : List Axiom) (G : Context) where
  mutual
    pub data InContexts : Context → Type 0 where
      -- the goal is in it
      goal : InContexts G
      -- and so is the context of each role part
      target : {H K : Context} {D p : ℕ} → InClauses (clause H D (toward p K)) → InContexts K

    pub data InClauses : Clause → Type 0 where
      -- for a class a that H holds, H has {a}
      held_class : {H : Context} (a : ℕ) → InContexts H → Has H.held a → InClauses (clause H (only a) plain)
      -- where H denies the head a of its clause D, H has D without a
      denied_head : {H : Context} {D : ℕ} (a : ℕ) → InClauses (clause H D plain) → Head rank D a → Has H.denied a → InClauses (clause H (without D a) plain)
      -- L in M: for each choice of clauses of H, one for each class of L, H has M and what the clauses have but their heads
      inclusion : {H : Context} {L M : ClassSet} (Ds : List ℕ) (E : ℕ) → Memᴰ (Inclusion L M) axs → InContexts H → Chosen rank L.bits Ds E
          → ((D : ℕ) → Memᴰ D Ds → InClauses (clause H D plain))
          → InClauses (clause H (join M.bits E) plain)
      -- a in some p b: where a is the head of D, H has D without a, with a role part by p to the context that holds b
      existential : {H : Context} {D p b : ℕ} (a : ℕ) → Memᴰ (Exists a p b) axs → InClauses (clause H D plain) → Head rank D a
          → InClauses (clause H (without D a) (toward p (context (only b) zero)))
      -- some q a in b: where p reaches q, and a is the head of a clause of K, H has D and b, with a role part to K with a denied too
      existential_left : {H K : Context} {D E p q b : ℕ} (a : ℕ) → Memᴰ (ExistsLower q a b) axs → Reaches axs p q
          → InClauses (clause H D (toward p K)) → InClauses (clause K E plain) → Head rank E a
          → InClauses (clause H (join D (only b)) (toward p (context K.held (join K.denied (only a)))))
      -- where K has the empty clause, H has D without the role part to K
      impossible_target : {H K : Context} {D p : ℕ} → InClauses (clause H D (toward p K)) → InClauses (clause K zero plain) → InClauses (clause H D plain)
      -- a in all q b: where p reaches q, and a is the head of E, H has D and E without a, with a role part to K with b held too
      universal : {H K : Context} {D E p q b : ℕ} (a : ℕ) → Memᴰ (Forall a q b) axs → Reaches axs p q
          → InClauses (clause H D (toward p K)) → InClauses (clause H E plain) → Head rank E a
          → InClauses (clause H (join D (without E a)) (toward p (context (join K.held (only b)) K.denied)))

-- the goal's empty clause without role part is in the closure
abbrev pub Refuted : (ℕ → ℕ) → List Axiom → Context → Type 0
Refuted rank axs G = InClauses rank axs G (clause G zero plain)

pub data Verdict : Type 0 where
  none some : Verdict

-- the verdict on a goal: none where it is refuted, else some
abbrev pub Judges : Verdict → (ℕ → ℕ) → List Axiom → Context → Type 0
Judges none rank axs G = Refuted rank axs G
Judges some rank axs G = Refuted rank axs G → ⊥
