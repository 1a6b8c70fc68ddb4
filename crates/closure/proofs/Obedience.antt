-- A canonical world of a table that keeps the rules obeys the axioms.
use Rattle.std.proofs.Common.{◌≡◌, ℕ, zero, suc, ◌<◌, ◌≤◌, Bool, true, List, [], ◌∷◌, sym, subst, inl, inr, arith}
use mathlib.Core.List.Memᴰ
use mathlib.Core.List.{Memᴰ}
use Rattle.terms.specs.Sets.{Has, only, join, without}
use Rattle.terms.specs.declared.class_set.ClassSet.{ClassSet}
use Rattle.terms.specs.declared.axioms.Axiom.{Axiom}
use Rattle.terms.specs.declared.axioms.Axiom.TheVariants.{Inclusion, Exists, ExistsLower, Forall, RoleInclusion}
use Rattle.terms.proofs.Masks.{zero_none, only_has, only_is, join_l, join_r, join_cases, without_of, without_lt}
use Rattle.worlds.specs.Worlds.{World, In, InAll, InSome, InNone, Keeps, Obeys}
use Rattle.closure.specs.Closures.{Context, context, plain, Clause, clause, Head, here, step, Chosen, none_left, take}
use Rattle.closure.specs.Rules.{Closed}
use Rattle.closure.specs.Canonical.{Apart, Wanted, Maximal, Canonical, CanonicalObeys}
use Rattle.closure.proofs.Decisions.{is_true, sure, find_in, head_of}
use Rattle.closure.proofs.Maxima.{below_maximal}

apart_join : (s t : ℕ) (i : ℕ → Bool) → Apart s i → Apart t i → Apart (join s t) i
apart_join s t i f g a h x = elim (join_cases s t a h) [ inl l ↦ f a l x | inr r ↦ g a r x ]

apart_only : (b : ℕ) (i : ℕ → Bool) → (i b ≡ true → ⊥) → Apart (only b) i
apart_only b i n a h x = n (subst (λ y. i y ≡ true) (only_is b a h) x)

module _ (rank : ℕ → ℕ) (axs : List Axiom) (contexts : List Context) (clauses : List Clause) (w : World) (at : ℕ → Context)
    (closed : Closed rank axs contexts clauses) (can : Canonical rank axs contexts clauses w at) where
  -- an element is in some class of each clause of its context that has no role part
  meets : (e D : ℕ) → e < w.size → Memᴰ (clause (at e) D plain) clauses → InSome w e D
  meets e D l m = elim (head_of rank D) [
    | inl z ↦ absurd (can.live e l (subst (λ x. Memᴰ (clause (at e) x plain) clauses) z m))
    | inr t ↦ elim (find_in (without D t.0) (w.is_in e)) [
      | inl s ↦ (s.0, (without_of D t.0 s.0 s.1).0, s.2)
      | inr n ↦ (t.0, t.1.0, (can.classes e t.0 l).1 (D, m, t.1, n))
    ]
  ]

  never_apart : (e D : ℕ) → e < w.size → Memᴰ (clause (at e) D plain) clauses → Apart D (w.is_in e) → ⊥
  never_apart e D l m n = let t = meets e D l m in n t.0 t.1 t.2

  in_held : (e : ℕ) → e < w.size → InAll w e (at e).held
  in_held e l a h =
      let t = meets e (only a) l (closed.held_class (at e) a (can.listed e l) h) in
      subst (λ x. In w e x) (only_is a t.0 t.1) t.2

  in_no_denied : (e : ℕ) → e < w.size → InNone w e (at e).denied
  in_no_denied e l a h x =
      let t = (can.classes e a l).0 x in
      never_apart e (without t.0 a) l (closed.denied_head (at e) t.0 a t.1 t.2 h) t.3

  -- of an element in all of L, a choice of clauses of its context whose other classes it is not in
  abbrev Choice : ℕ → ℕ → Type 0
  Choice e L = (Ds : List ℕ) × (E : ℕ) × Chosen rank L Ds E × ((D : ℕ) → Memᴰ D Ds → Memᴰ (clause (at e) D plain) clauses) × Apart E (w.is_in e)

  one_more : (e L a : ℕ) → e < w.size → InAll w e L → Head rank L a → Choice e (without L a) → Choice e L
  one_more e L a l f h c =
      let t = (can.classes e a l).0 (f a h.0) in (
        t.0 ∷ c.0,
        join (without t.0 a) c.1,
        take a h t.2 c.2,
        (λ D m. elim (Memᴰ.cases_cons m) [ inl p ↦ subst (λ F. Memᴰ (clause (at e) F plain) clauses) (sym p) t.1 | inr k ↦ c.3 D k ]),
        apart_join (without t.0 a) c.1 (w.is_in e) t.3 c.4,
      )

  choice : (n e L : ℕ) → L ≤ n → e < w.size → InAll w e L → Choice e L
  choice zero e L k l f =
      let z : zero ≡ L = omega arith in
      subst (Choice e) z ([], zero, none_left, (λ D m. absurd (Memᴰ.not-nil m)), λ a h x. zero_none a h)
  choice (suc n) e L k l f = elim (head_of rank L) [
    | inl z ↦ choice n e L (omega arith) l f
    | inr t ↦ one_more e L t.0 l f t.1
        (choice n e (without L t.0) (let d = without_lt L t.0 t.1.0 in omega arith) l (λ b m. f b (without_of L t.0 b m).0))
  ]

  keeps_inclusion : (L M : ClassSet) (e : ℕ) → Memᴰ (Inclusion L M) axs → e < w.size → Keeps w e (Inclusion L M)
  keeps_inclusion L M e x l f =
      let t = choice L.bits e L.bits (omega arith) l f in
      let s = meets e (join M.bits t.1) l (closed.inclusion (at e) L M t.0 t.1 x (can.listed e l) t.2 t.3) in
      elim (join_cases M.bits t.1 s.0 s.1) [ inl h ↦ (s.0, h, s.2) | inr h ↦ absurd (t.4 s.0 h s.2) ]

  -- a context that is wanted is live and has an element
  wanted_at : (e p : ℕ) → e < w.size → (M : Context) → Wanted clauses (at e) (w.is_in e) p M → (f : ℕ) × (f < w.size) × (at f ≡ M)
  wanted_at e p l M t = can.every M (closed.target (at e) M t.0 p t.1) (λ z. never_apart e t.0 l (closed.impossible_target (at e) M t.0 p t.1 z) t.2)

  keeps_exists : (a p b e : ℕ) → Memᴰ (Exists a p b) axs → e < w.size → Keeps w e (Exists a p b)
  keeps_exists a p b e x l y =
      let t = (can.classes e a l).0 y in
      let n = below_maximal clauses (at e) (w.is_in e) p (context (only b) zero) (without t.0 a, closed.existential (at e) t.0 a p b x t.1 t.2, t.3) in
      let f = wanted_at e p l n.0 n.1.0 in
      let b-held : Has (at f.0).held b = subst (λ (L : Context). Has L.held b) (sym f.2) (n.2.0 b (only_has b)) in (
        f.0,
        (f.1, (can.links p e f.0 l f.1).1 (p, here, subst (λ L. Maximal clauses (at e) (w.is_in e) p L) (sym f.2) n.1)),
        in_held f.0 f.1 b b-held,
      )

  keeps_exists_lower : (q a b e : ℕ) → Memᴰ (ExistsLower q a b) axs → e < w.size → Keeps w e (ExistsLower q a b)
  keeps_exists_lower q a b e x l f k y = sure (is_true (w.is_in e b)) (λ n.
      let t = (can.links q e f l k.0).0 k.1 in
      let s = (can.classes f a k.0).0 y in
      let d = t.2.0 in
      let more = t.2.1 (context (at f).held (join (at f).denied (only a)))
      (join d.0 (only b), closed.existential_left (at e) (at f) d.0 s.0 t.0 q a b x t.1 d.1 s.1 s.2, apart_join d.0 (only b) (w.is_in e) d.2 (apart_only b (w.is_in e) n))
      (λ c h. h, λ c h. join_l (at f).denied (only a) c h) in
      in_no_denied f k.0 a (more.1 a (join_r (at f).denied (only a) a (only_has a))) y)

  keeps_forall : (a q b e : ℕ) → Memᴰ (Forall a q b) axs → e < w.size → Keeps w e (Forall a q b)
  keeps_forall a q b e x l y f k =
      let t = (can.links q e f l k.0).0 k.1 in
      let s = (can.classes e a l).0 y in
      let d = t.2.0 in
      let more = t.2.1 (context (join (at f).held (only b)) (at f).denied)
      (join d.0 (without s.0 a), closed.universal (at e) (at f) d.0 s.0 t.0 q a b x t.1 d.1 s.1 s.2, apart_join d.0 (without s.0 a) (w.is_in e) d.2 s.3)
      (λ c h. join_l (at f).held (only b) c h, λ c h. h) in
      in_held f k.0 b (more.0 b (join_r (at f).held (only b) b (only_has b)))

  keeps_roles : (p q e : ℕ) → Memᴰ (RoleInclusion p q) axs → e < w.size → Keeps w e (RoleInclusion p q)
  keeps_roles p q e x l f k = let t = (can.links p e f l k.0).0 k.1 in (can.links q e f l k.0).1 (t.0, step t.1 x, t.2)

  obeys : Obeys w axs
  obeys (Inclusion L M) x e l = keeps_inclusion L M e x l
  obeys (Exists a p b) x e l = keeps_exists a p b e x l
  obeys (ExistsLower q a b) x e l = keeps_exists_lower q a b e x l
  obeys (Forall a q b) x e l = keeps_forall a q b e x l
  obeys (RoleInclusion p q) x e l = keeps_roles p q e x l

pub canonical_obeys : CanonicalObeys
canonical_obeys rank axs contexts clauses w at closed can =
    (obeys rank axs contexts clauses w at closed can, λ e l. (in_held rank axs contexts clauses w at closed can e l, in_no_denied rank axs contexts clauses w at closed can e l))
