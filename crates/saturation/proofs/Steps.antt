-- Each step gives members of the closure from members of it.
use Rattle.std.proofs.Common.{◌≡◌, ℕ, zero, List, [], sym, refl, subst, inl, inr}
use mathlib.Core.List.Memᴰ
use mathlib.Core.List.{Memᴰ}
use Rattle.terms.specs.declared.axioms.Axiom.{Axiom}
use Rattle.terms.specs.declared.axioms.Axiom.TheVariants.{Inclusion, Exists, ExistsLower, Forall, RoleInclusion}
use Rattle.terms.proofs.Masks.{join_none_r}
use Rattle.closure.specs.Closures.{Context, Part, plain, toward, Clause, clause, rising, Chosen, none_left, InContexts, InClauses}
use Rattle.closure.specs.Rules.{Rules}
use Rattle.closure.proofs.Leastness.{keeps_rules}
use Rattle.tables.specs.Tables.{Member, InClosure}
use Rattle.saturation.specs.Conclusions.{PartBrings, Brings, Brought, OfContext, held_class, no_lower, DeniedHead, ByAxiom, PairBy, OfPair, impossible, by_axiom}

-- a clause is put together from its parts
lone_clause : {c : Clause} → c.part ≡ plain → c ≡ clause c.of c.classes plain
lone_clause {c} e = λ i. record { of = c.of; classes = c.classes; part = e i }

toward_clause : {c : Clause} {p : ℕ} {K : Context} → c.part ≡ toward p K → c ≡ clause c.of c.classes (toward p K)
toward_clause {c} e = λ i. record { of = c.of; classes = c.classes; part = e i }

module _ (axs : List Axiom) (G : Context) where
  abbrev Ctx : Context → Type 0
  Ctx H = InContexts rising axs G H

  abbrev Cls : Clause → Type 0
  Cls c = InClauses rising axs G c

  rules : Rules rising axs Ctx Cls
  rules = (keeps_rules rising axs G).1

  -- a clause of the closure brings members of it
  brings_in : (d : Clause) → Cls d → (m : Member) → Brings d m → InClosure rising axs G m
  brings_in d h m (inr e) = subst (λ z. InClosure rising axs G z) (sym e) h
  brings_in d h m (inl w) = go d.part refl w
    where
      go : (p : Part) → d.part ≡ p → PartBrings p m → InClosure rising axs G m
      go plain e v = absurd v
      go (toward p K) e v = subst (λ z. InClosure rising axs G z) (sym v) (rules.target d.of K d.classes p (subst Cls (toward_clause e) h))

  brought_in : {R : Clause → Type 0} → ((d : Clause) → R d → Cls d) → (m : Member) → Brought R m → InClosure rising axs G m
  brought_in f m b = brings_in b.by (f b.by b.follows) m b.brings

  pub context_in_lem : (H : Context) → Ctx H → (m : Member) → Brought (OfContext axs H) m → InClosure rising axs G m
  context_in_lem H h = brought_in f
    where
      f : (d : Clause) → OfContext axs H d → Cls d
      f d (held_class a w) = rules.held_class H a h w
      f d (no_lower L M i z) =
          subst (λ T. Cls (clause H T plain)) (join_none_r M.bits)
          (rules.inclusion H L M [] zero i h (subst (λ T. Chosen rising T [] zero) (sym z) none_left) (λ D k. absurd (Memᴰ.not-nil k)))

  module _ (c : Clause) (h : Cls c) where
    lone_in : c.part ≡ plain → Cls (clause c.of c.classes plain)
    lone_in e = subst Cls (lone_clause e) h

    pub denied_in : (m : Member) → Brought (DeniedHead c) m → InClosure rising axs G m
    denied_in = brought_in (λ d v. subst Cls (sym v.is) (rules.denied_head c.of c.classes v.class (lone_in v.headed.lone) v.headed.head v.denied))

    pub axiom_in : Ctx c.of → (Ts : List ℕ) → ((D : ℕ) → Memᴰ D Ts → Cls (clause c.of D plain)) → (x : Axiom) → Memᴰ x axs → (m : Member) → Brought (ByAxiom x Ts c) m → InClosure rising axs G m
    axiom_in k Ts all x i = brought_in (f x i)
      where
        f : (x : Axiom) → Memᴰ x axs → (d : Clause) → ByAxiom x Ts c d → Cls d
        f (Inclusion L M) i d v = subst Cls (sym v.1.is) (rules.inclusion c.of L M v.1.sets v.1.rest i k v.1.chosen (λ D j. all D (v.1.each D j)))
        f (Exists a p b) i d v = subst Cls (sym v.is) (rules.existential c.of c.classes a p b i (lone_in v.headed.lone) v.headed.head)
        f (ExistsLower q a b) i d v = absurd v
        f (Forall a q b) i d v = absurd v
        f (RoleInclusion p q) i d v = absurd v

  pub pair_in : (t e : Clause) → Cls t → Cls e → (m : Member) → Brought (OfPair axs t e) m → InClosure rising axs G m
  pair_in t e h g = brought_in f
    where
      by : (x : Axiom) → Memᴰ x axs → (d : Clause) → PairBy axs x t e d → Cls d
      by (Inclusion L M) i d v = absurd v
      by (Exists a p b) i d v = absurd v
      by (ExistsLower q a b) i d v =
          subst Cls (sym v.is)
          (rules.existential_left t.of v.target t.classes e.classes v.role q a b i v.reaches (subst Cls (toward_clause v.part) h)
          (subst (λ K. Cls (clause K e.classes plain)) v.of (subst Cls (lone_clause v.headed.lone) g)) v.headed.head)
      by (Forall a q b) i d v =
          subst Cls (sym v.is)
          (rules.universal t.of v.target t.classes e.classes v.role q a b i v.reaches (subst Cls (toward_clause v.part) h)
          (subst (λ K. Cls (clause K e.classes plain)) v.of (subst Cls (lone_clause v.headed.lone) g)) v.headed.head)
      by (RoleInclusion p q) i d v = absurd v

      f : (d : Clause) → OfPair axs t e d → Cls d
      f d (impossible v) = subst Cls (sym v.is) (rules.impossible_target t.of v.target t.classes v.role (subst Cls (toward_clause v.part) h) (subst Cls v.empty g))
      f d (by_axiom x i v) = by x i d v
