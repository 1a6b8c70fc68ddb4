-- A closure keeps to the classes and roles that its goal and its axioms speak of.
use Rattle.std.proofs.Common.{ℕ, zero, ◌<◌, List, sym, refl, subst, inl, inr}
use mathlib.Core.List.{Memᴰ}
use Rattle.std.specs.List.{AllByRecursion}
use Rattle.std.proofs.ByRecursion.{All-weaker}
use Rattle.terms.specs.Sets.{only, join, without, Below}
use Rattle.terms.specs.Axioms.{Declared, WellFormed}
use Rattle.terms.specs.declared.axioms.Axiom.{Axiom}
use Rattle.terms.specs.declared.axioms.Axiom.TheVariants.{Inclusion, Exists, ExistsLower, Forall}
use Rattle.terms.proofs.Masks.{zero_none, only_is, join_cases, without_of}
use Rattle.closure.specs.Closures.{Context, Part, plain, toward, Clause, Chosen, none_left, take, InContexts, InClauses}
use Rattle.closure.specs.Rules.{Rules}
use Rattle.closure.proofs.Lists.{all_mem}
use Rattle.closure.proofs.Leastness.{least_contexts, least_clauses}

-- the context holds and denies only classes below c
pub record ContextBelow (c : ℕ) (H : Context) : Type 0 where
  pub held : Below c H.held
  pub denied : Below c H.denied

-- a role part has a role below r and such a context
abbrev pub PartBelow : ℕ → ℕ → Part → Type 0
PartBelow c r plain = Unit {0}
PartBelow c r (toward p K) = (p < r) × ContextBelow c K

pub record ClauseBelow (c r : ℕ) (x : Clause) : Type 0 where
  pub of_context : ContextBelow c x.of
  pub all_classes : Below c x.classes
  pub its_part : PartBelow c r x.part

pub formed_declared : (c r : ℕ) (axs : List Axiom) → AllByRecursion (WellFormed c r) axs → AllByRecursion (Declared c r) axs
formed_declared c r axs all = All-weaker (WellFormed c r) (Declared c r) (λ x f. f.0) axs all

module _ (c : ℕ) where
  below_none : Below c zero
  below_none a h = absurd (zero_none a h)

  below_only : (a : ℕ) → a < c → Below c (only a)
  below_only a l b h = subst (λ n. n < c) (sym (only_is a b h)) l

  below_join : (s t : ℕ) → Below c s → Below c t → Below c (join s t)
  below_join s t f g a h = elim (join_cases s t a h) [ inl k ↦ f a k | inr k ↦ g a k ]

  below_without : (s a : ℕ) → Below c s → Below c (without s a)
  below_without s a f b h = f b (without_of s a b h).0

  -- what clauses below c have but their heads is below c
  below_chosen : {rank : ℕ → ℕ} {L E : ℕ} {Ds : List ℕ} → Chosen rank L Ds E → ((D : ℕ) → Memᴰ D Ds → Below c D) → Below c E
  below_chosen none_left f = below_none
  below_chosen (take {D = D} {E = E} a l h rest) f =
      below_join (without D a) E (below_without D a (f D (Memᴰ.head refl))) (below_chosen rest (λ F m. f F (Memᴰ.tail m)))

-- what is below c and r keeps the rules
below_rules : (c r : ℕ) (rank : ℕ → ℕ) (axs : List Axiom) → AllByRecursion (Declared c r) axs → Rules rank axs (ContextBelow c) (ClauseBelow c r)
below_rules c r rank axs all = record {
  target = λ H N D p x. x.its_part.1;
  held_class = λ H a h m. record { of_context = h; all_classes = below_only c a (h.held a m); its_part = tt };
  denied_head = λ H D a x l m. record { of_context = x.of_context; all_classes = below_without c D a x.all_classes; its_part = tt };
  inclusion = λ H L M Ds E m h chosen f. record {
    of_context = h;
    all_classes = below_join c M.bits E (declared (Inclusion L M) m).1 (below_chosen c chosen (λ D k. (f D k).all_classes));
    its_part = tt;
  };
  existential = λ H D a p b m x l. record {
    of_context = x.of_context;
    all_classes = below_without c D a x.all_classes;
    its_part = ((declared (Exists a p b) m).1, record { held = below_only c b (declared (Exists a p b) m).2; denied = below_none c });
  };
  existential_left = λ H N D E p q a b m reached x y l. record {
    of_context = x.of_context;
    all_classes = below_join c D (only b) x.all_classes (below_only c b (declared (ExistsLower q a b) m).2);
    its_part = (
      x.its_part.0,
      record {
        held = x.its_part.1.held;
        denied = below_join c N.denied (only a) x.its_part.1.denied (below_only c a (y.all_classes a l.0));
      },
    );
  };
  impossible_target = λ H N D p x y. record { of_context = x.of_context; all_classes = x.all_classes; its_part = tt };
  universal = λ H N D E p q a b m reached x y l. record {
    of_context = x.of_context;
    all_classes = below_join c D (without E a) x.all_classes (below_without c E a y.all_classes);
    its_part = (
      x.its_part.0,
      record {
        held = below_join c N.held (only b) x.its_part.1.held (below_only c b (declared (Forall a q b) m).2);
        denied = x.its_part.1.denied;
      },
    );
  };
}
  where
    declared : (x : Axiom) → Memᴰ x axs → Declared c r x
    declared = all_mem (Declared c r) axs all

module _ (c r : ℕ) (rank : ℕ → ℕ) (axs : List Axiom) (G : Context) (all : AllByRecursion (Declared c r) axs) (goal_below : ContextBelow c G) where
  pub contexts_below : (H : Context) → InContexts rank axs G H → ContextBelow c H
  contexts_below H h = least_contexts rank axs G (ContextBelow c) (ClauseBelow c r) goal_below (below_rules c r rank axs all) h

  pub clauses_below : (x : Clause) → InClauses rank axs G x → ClauseBelow c r x
  clauses_below x h = least_clauses rank axs G (ContextBelow c) (ClauseBelow c r) goal_below (below_rules c r rank axs all) h
