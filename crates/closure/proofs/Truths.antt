-- The clauses that are true in a world that obeys the axioms keep the rules; so the closure's clauses are true in it.
use Rattle.std.proofs.Common.{ℕ, zero, ◌<◌, ◌⊎◌, List, sym, refl, subst, inl, inr}
use mathlib.Core.List.{Memᴰ}
use Rattle.std.proofs.lemmas.Bool.{cases_Bool, both_ways}
use Rattle.terms.specs.Sets.{only, join, without}
use Rattle.terms.specs.declared.axioms.Axiom.{Axiom}
use Rattle.terms.specs.declared.axioms.Axiom.TheVariants.{Inclusion, Exists, ExistsLower, Forall, RoleInclusion}
use Rattle.terms.proofs.Masks.{zero_none, only_has, only_is, join_l, join_r, join_cases, without_cases}
use Rattle.worlds.specs.Worlds.{World, In, Successor, InAll, InSome, InNone, Obeys}
use Rattle.closure.specs.Closures.{plain, clause, Reaches, here, step, Chosen, none_left, take}
use Rattle.closure.specs.Rules.{Rules}
use Rattle.closure.specs.Soundness.{True, SoundClauses, Sound}
use Rattle.closure.proofs.Leastness.{least_clauses}

module _ (w : World) (e : ℕ) where
  -- an element in some class of D is in a, or in some class of D without a
  some_split : (D a : ℕ) → InSome w e D → In w e a ⊎ InSome w e (without D a)
  some_split D a s = elim (without_cases D a s.0 s.1) [ inl p ↦ inl (subst (In w e) p s.2) | inr h ↦ inr (s.0, h, s.2) ]

  some_left : (s t : ℕ) → InSome w e s → InSome w e (join s t)
  some_left s t h = (h.0, join_l s t h.0 h.1, h.2)

  some_right : (s t : ℕ) → InSome w e t → InSome w e (join s t)
  some_right s t h = (h.0, join_r s t h.0 h.1, h.2)

  -- in a, and in all of L without a: in all of L
  all_back : (L a : ℕ) → In w e a → InAll w e (without L a) → InAll w e L
  all_back L a h rest b m = elim (without_cases L a b m) [ inl p ↦ subst (In w e) (sym p) h | inr k ↦ rest b k ]

  all_only : (b : ℕ) → In w e b → InAll w e (only b)
  all_only b h c m = subst (In w e) (sym (only_is b c m)) h

  all_join : (s b : ℕ) → InAll w e s → In w e b → InAll w e (join s (only b))
  all_join s b f h c m = elim (join_cases s (only b) c m) [ inl k ↦ f c k | inr k ↦ all_only b h c k ]

  none_join : (s a : ℕ) → InNone w e s → (In w e a → ⊥) → InNone w e (join s (only a))
  none_join s a f n c m h = elim (join_cases s (only a) c m) [ inl k ↦ f c k h | inr k ↦ n (subst (In w e) (only_is a c k) h) ]

  in_or_not : (a : ℕ) → In w e a ⊎ (In w e a → ⊥)
  in_or_not a = elim (cases_Bool (w.is_in e a)) [ inl h ↦ inl h | inr h ↦ inr (both_ways (w.is_in e a) h) ]

-- a successor by a role is one by every role that it reaches
reached : (axs : List Axiom) (w : World) → Obeys w axs → {p q : ℕ} → Reaches axs p q → (e f : ℕ) → e < w.size → Successor w p e f → Successor w q e f
reached axs w obeys here e f l s = s
reached axs w obeys (step {q = q} {r = r} x m) e f l s = (s.0, obeys (RoleInclusion q r) m e l f (reached axs w obeys x e f l s))

-- an element that meets the clauses chosen is in all of their heads, or in what else one of them has
meets_chosen : (rank : ℕ → ℕ) (w : World) (e : ℕ) {L E : ℕ} {Ds : List ℕ} → Chosen rank L Ds E → ((D : ℕ) → Memᴰ D Ds → InSome w e D) → InSome w e E ⊎ InAll w e L
meets_chosen rank w e none_left f = inr (λ c m. absurd (zero_none c m))
meets_chosen rank w e (take {L = L} {D = D} {E = E} a l h c) f =
    elim (some_split w e D a (f D (Memᴰ.head refl))) [
      | inl i ↦ elim (meets_chosen rank w e c (λ F m. f F (Memᴰ.tail m))) [
        | inl s ↦ inl (some_right w e (without D a) E s)
        | inr all ↦ inr (all_back w e L a i all)
      ]
      | inr s ↦ inl (some_left w e (without D a) E s)
    ]

true_rules : (rank : ℕ → ℕ) (axs : List Axiom) (w : World) → Obeys w axs → Rules rank axs (λ K. Unit {0}) (True w)
true_rules rank axs w obeys = record {
  target = λ H N D p x. tt;
  held_class = λ H a h m e l fits. (a, only_has a, fits.0 a m);
  denied_head = λ H D a x h m e l fits.
      elim (some_split w e D a (x e l fits)) [ inl i ↦ absurd (fits.1 a m i) | inr s ↦ s ];
  inclusion = λ H L M Ds E m h c xs e l fits.
      elim (meets_chosen rank w e c (λ D k. xs D k e l fits)) [
        | inl s ↦ some_right w e M.bits E s
        | inr all ↦ some_left w e M.bits E (obeys (Inclusion L M) m e l all)
      ];
  existential = λ H D a p b m x h e l fits.
      elim (some_split w e D a (x e l fits)) [
        | inl i ↦ (let s = obeys (Exists a p b) m e l i in inr (s.0, s.1, (all_only w s.0 b s.2, λ c k _. zero_none c k)))
        | inr s ↦ inl s
      ];
  existential_left = λ H N D E p q a b m r x y h e l fits.
      elim (x e l fits) [
        | inl s ↦ inl (some_left w e D (only b) s)
        | inr s ↦ elim (in_or_not w s.0 a) [
          | inl i ↦ inl (b, join_r D (only b) b (only_has b), obeys (ExistsLower q a b) m e l s.0 (reached axs w obeys r e s.0 l s.1) i)
          | inr n ↦ inr (s.0, s.1, (s.2.0, none_join w s.0 N.denied a s.2.1 n))
        ]
      ];
  impossible_target = λ H N D p x y e l fits.
      elim (x e l fits) [
        | inl s ↦ s
        | inr s ↦ (let z = y s.0 s.1.0 s.2 in absurd (zero_none z.0 z.1))
      ];
  universal = λ H N D E p q a b m r x y h e l fits.
      elim (x e l fits) [
        | inl s ↦ inl (some_left w e D (without E a) s)
        | inr s ↦ elim (some_split w e E a (y e l fits)) [
          | inl i ↦ inr (s.0, s.1, (all_join w s.0 N.held b s.2.0 (obeys (Forall a q b) m e l i s.0 (reached axs w obeys r e s.0 l s.1)), s.2.1))
          | inr t ↦ inl (some_right w e D (without E a) t)
        ]
      ];
}

pub sound_clauses : SoundClauses
sound_clauses rank axs G w obeys x h = least_clauses rank axs G (λ K. Unit {0}) (True w) tt (true_rules rank axs w obeys) h

pub sound : Sound
sound rank axs G h pos =
    let s = sound_clauses rank axs G pos.0 pos.1 (clause G zero plain) h pos.2 pos.3 (pos.4, pos.5) in
    zero_none s.0 s.1
