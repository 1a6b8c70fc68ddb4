-- What is computed from members is a member, where the rules are kept; and a list that the computing adds nothing to keeps them.
use Rattle.std.proofs.Common.{◌≡◌, ℕ, zero, suc, ◌^◌, true, false, ltb, List, [], ◌∷◌, ◌++◌, sym, refl, subst, inl, inr, arith}
use mathlib.Core.List.Memᴰ.{append_cases}
use mathlib.Core.List.Memᴰ.{append_left}
use mathlib.Core.List.Memᴰ.{append_right}
use mathlib.Core.List.Memᴰ.{cases_cons}
use mathlib.Core.List.Memᴰ.{eq_of_singleton as eq-of-one}
use mathlib.Core.List.Memᴰ.{head as at_head}
use mathlib.Core.List.Memᴰ.{not-nil}
use mathlib.Core.List.Memᴰ.{tail as at_tail}
use mathlib.Core.List.{Memᴰ as Mem}
use Rattle.std.proofs.lemmas.Bool.{ltb-true, lt-ltb, and_parts, and_from, both_ways, cases_Bool, cases_eq}
use Rattle.terms.specs.Sets.{has, Has, only, join, without, Below}
use Rattle.terms.specs.declared.axioms.Axiom.{Axiom}
use Rattle.terms.specs.declared.axioms.Axiom.TheVariants.{Inclusion, Exists, ExistsLower, Forall, RoleInclusion}
use Rattle.terms.proofs.Masks.{zero_none, none_zero, has_none, has_lt, below_of, lt_of_below, without_of}
use Rattle.closure.specs.Closures.{Context, context, Part, plain, toward, Clause, clause, rising, Head, Reaches, Chosen, none_left, take}
use Rattle.closure.specs.Rules.{Rules, Closed}
use Rattle.closure.specs.Counts.{Distinct}
use Rattle.closure.proofs.Roles.{leads, leads_of, reach_leads}
use Rattle.closure.proofs.Computed.{one, only_if, flat, each, is_in, add, all_in, in_one, in_if, if_of, in_flat, flat_of, in_each, each_of, is_in_of, in_is_in, add_of, in_add, add_distinct}
use Rattle.closure.proofs.Equality.{same_context, same_part, same_clause, context_eq, context_rfl, part_eq, clause_eq, clause_rfl}
use Rattle.closure.proofs.Rounds.{is_head, headed, headed_in, over_part, take_one, choices, by_inclusion, by_exists, by_exists_lower, by_universal, reaching, of_axiom, of_context, by_denied, by_impossible, of_clause, targets, contexts, conclusions, grow}

-- ---- the tests of a head

head_test : (D a : ℕ) → Head rising D a → is_head D a ≡ true
unfolding is_head
head_test D a h = and_from (has D a) (ltb D (2 ^ suc a)) h.0 (lt-ltb D (2 ^ suc a) (lt_of_below (suc a) D (λ b m. (let l = h.1 b m in omega arith))))

pub test_head : (D a : ℕ) → is_head D a ≡ true → Head rising D a
unfolding is_head
test_head D a e =
    let h = and_parts (has D a) (ltb D (2 ^ suc a)) e in
    (h.0, λ b m. (let l = below_of (suc a) D b (ltb-true D (2 ^ suc a) h.1) m in omega arith))

headed_of : (a : ℕ) (x : Clause) → headed a x ≡ true → (x ≡ clause x.of x.classes plain) × Head rising x.classes a
headed_of a x e =
    let h = and_parts (same_part x.part plain) (is_head x.classes a) e in
    let p = part_eq x.part plain h.0 in
    ((λ i. record { of = x.of; classes = x.classes; part = p i }), test_head x.classes a h.1)

headed_in_of : (H : Context) (a : ℕ) (x : Clause) → headed_in H a x ≡ true → (x ≡ clause H x.classes plain) × Head rising x.classes a
headed_in_of H a x e =
    let h = and_parts (same_context x.of H) (headed a x) e in
    let t = headed_of a x h.1 in
    let p = context_eq x.of H h.0 in
    (subst (λ K. x ≡ clause K x.classes plain) p t.0, t.1)

in_headed : (H : Context) (D a : ℕ) → Head rising D a → headed a (clause H D plain) ≡ true
in_headed H D a h = head_test D a h

in_headed_in : (H : Context) (D a : ℕ) → Head rising D a → headed_in H a (clause H D plain) ≡ true
in_headed_in H D a h = and_from (same_context H H) (is_head D a) (context_rfl H) (head_test D a h)

-- ---- the choices for an inclusion

below_skip : (k L : ℕ) → Below (suc k) L → has L k ≡ false → Below k L
below_skip k L b e a h = elim (cases_eq a k) [
  | inl p ↦ absurd (both_ways (has L k) e (subst (λ c. Has L c) p h))
  | inr n ↦ (let l = b a h in omega arith)
]

below_take : (k L : ℕ) → Below (suc k) L → Below k (without L k)
below_take k L b a h = let t = without_of L k a h in let l = b a t.0 in let n = t.1 in omega arith

module _ (xs : List Clause) (H : Context) where
  abbrev Taken : ℕ → List ℕ → Clause → List ℕ
  Taken k rest y = only_if (headed_in H k y) (take_one k rest y)

  choices_take : (k L : ℕ) → Has L k → choices xs H (suc k) L ≡ flat (Taken k (choices xs H k (without L k))) xs
  unfolding choices
  choices_take k L e = rw (e, choices) refl

  choices_skip : (k L : ℕ) → has L k ≡ false → choices xs H (suc k) L ≡ choices xs H k L
  unfolding choices
  choices_skip k L e = rw (e, choices) refl

  -- what is chosen from the list
  abbrev FromList : ℕ → ℕ → Type 0
  FromList L E = (Ds : List ℕ) × Chosen rising L Ds E × ((D : ℕ) → Mem D Ds → Mem (clause H D plain) xs)

  one_more : (k L F E : ℕ) → Below (suc k) L → Has L k → (y : Clause) → Mem y xs → headed_in H k y ≡ true → FromList (without L k) F → E ≡ join (without y.classes k) F
      → FromList L E
  one_more k L F E b h y m e c p =
      let t = headed_in_of H k y e in (
        y.classes ∷ c.0,
        subst (λ n. Chosen rising L (y.classes ∷ c.0) n) (sym p) (take k (h, λ a i. (let l = b a i in omega arith)) t.1 c.1),
        λ D n. elim (cases_cons n) [ inl q ↦ subst (λ G. Mem (clause H G plain) xs) (sym q) (subst (λ z. Mem z xs) t.0 m) | inr i ↦ c.2 D i ],
      )

  choices_good : (k L : ℕ) → Below k L → (E : ℕ) → Mem E (choices xs H k L) → FromList L E
  unfolding choices
  choices_good zero L b E m =
      let p : zero ≡ L = sym (none_zero L (λ a h. (let l = b a h in omega arith))) in
      subst (λ n. FromList n E) p (subst (λ n. FromList zero n) (sym (eq-of-one m)) ([], none_left, λ D n. absurd (not-nil n)))
  choices_good (suc k) L b E m = elim (cases_Bool (has L k)) [
    | inl e ↦
        (let rest : List ℕ = choices xs H k (without L k) in
        let r = flat_of (Taken k rest) xs (subst (λ ls. Mem E ls) (choices_take k L e) m) in
        let s = if_of (headed_in H k r.0) r.2 in
        let u = flat_of (λ (F : ℕ). one (join (without r.0.classes k) F)) rest s.1 in
        one_more k L u.0 E b e r.0 r.1 s.0 (choices_good k (without L k) (below_take k L b) u.0 u.1) (eq-of-one u.2))
    | inr e ↦ choices_good k L (below_skip k L b e) E (subst (λ ls. Mem E ls) (choices_skip k L e) m)
  ]

  in_taken : (k L D E : ℕ) → Has L k → Mem (clause H D plain) xs → Head rising D k → Mem E (choices xs H k (without L k)) → Mem (join (without D k) E) (choices xs H (suc k) L)
  in_taken k L D E e m h r =
      subst (λ ls. Mem (join (without D k) E) ls) (sym (choices_take k L e))
      (in_flat (Taken k (choices xs H k (without L k))) m
      (in_if (headed_in H k (clause H D plain)) (in_headed_in H D k h) (in_flat (λ (F : ℕ). one (join (without D k) F)) r (in_one (join (without D k) E)))))

  in_choices : (k : ℕ) {L E : ℕ} {Ds : List ℕ} → Below k L → Chosen rising L Ds E → ((D : ℕ) → Mem D Ds → Mem (clause H D plain) xs) → Mem E (choices xs H k L)
  unfolding choices
  in_choices zero b none_left f = in_one zero
  in_choices zero b (take a l h c) f = absurd (let z = b a l.0 in omega arith)
  in_choices (suc k) b none_left f =
      subst (λ ls. Mem zero ls) (sym (choices_skip k zero (has_none k))) (in_choices k (λ a h. absurd (zero_none a h)) none_left f)
  in_choices (suc k) b (take {L = L} {D = D} {E = E} {Ds = Ds} a l h c) f = elim (cases_Bool (has L k)) [
    | inl e ↦
        (let up = l.1 k e in
        let down = b a l.0 in
        let p : a ≡ k = omega arith in
        subst (λ n. Mem (join (without D n) E) (choices xs H (suc k) L)) (sym p)
        (in_taken k L D E e (f D (at_head refl)) (subst (λ n. Head rising D n) p h)
        (in_choices k (below_take k L b) (subst (λ n. Chosen rising (without L n) Ds E) p c) (λ F m. f F (at_tail m)))))
    | inr e ↦ subst (λ ls. Mem (join (without D a) E) ls) (sym (choices_skip k L e)) (in_choices k (below_skip k L b e) (take a l h c) f)
  ]

-- ---- what is computed from members is a member, where the rules are kept

over_part_of : {A : Type 0} (r : Part) (f : ℕ → Context → List A) {y : A} → Mem y (over_part r f) → (p : ℕ) × (K : Context) × (r ≡ toward p K) × Mem y (f p K)
over_part_of plain f m = absurd (not-nil m)
over_part_of (toward p K) f m = (p, K, refl, m)

module _ (axs : List Axiom) (G : Context) (K : Context → Type 0) (C : Clause → Type 0) (first : K G) (rules : Rules rising axs K C) where
  abbrev pub Known : List Clause → Type 0
  Known xs = (x : Clause) → Mem x xs → C x

  is : {x y : Clause} → Mem x (one y) → C y → C x
  is m d = subst C (sym (eq-of-one m)) d

  with_part : (x : Clause) {r : Part} → x.part ≡ r → C x → C (clause x.of x.classes r)
  with_part x e d = subst (λ r. C (clause x.of x.classes r)) e d

  module _ (xs : List Clause) (known : Known xs) where
    pub contexts_good : (H : Context) → Mem H (contexts G xs) → K H
    unfolding contexts
    contexts_good H m = elim (add_of same_context context_eq context_rfl (flat targets xs) (one G) m) [
      | inl h ↦
          (let r = flat_of targets xs h in
          let t = over_part_of r.0.part (λ p L. one L) r.2 in
          subst K (sym (eq-of-one t.3)) (rules.target _ _ _ _ (with_part r.0 t.2 (known r.0 r.1))))
      | inr h ↦ subst K (sym (eq-of-one h)) first
    ]

    headed_good : (a : ℕ) (x : Clause) → Mem x xs → headed a x ≡ true → C (clause x.of x.classes plain) × Head rising x.classes a
    headed_good a x m e = let h = headed_of a x e in (subst C h.0 (known x m), h.1)

    headed_in_good : (H : Context) (a : ℕ) (x : Clause) → Mem x xs → headed_in H a x ≡ true → C (clause H x.classes plain) × Head rising x.classes a
    headed_in_good H a x m e = let h = headed_in_of H a x e in (subst C h.0 (known x m), h.1)

    context_good : (H : Context) → K H → Known (of_context H)
    context_good H c y m = let r = each_of H.held (λ (a : ℕ). one (clause H (only a) plain)) m in is r.2 (rules.held_class H r.0 c r.1)

    clause_good : (x : Clause) → Mem x xs → Known (of_clause xs x)
    clause_good x k y m = elim (append_cases (each x.of.denied (by_denied x)) m) [
      | inl h ↦
          (let r = each_of x.of.denied (by_denied x) h in
          let s = if_of (headed r.0 x) r.2 in
          let g = headed_good r.0 x k s.0 in
          is s.1 (rules.denied_head _ _ r.0 g.0 g.1 r.1))
      | inr h ↦
          (let t = over_part_of x.part (by_impossible xs x) h in
          let N : Context = t.1 in
          let s = if_of (is_in same_clause (clause N zero plain) xs) t.3 in
          is s.1 (rules.impossible_target _ _ _ _ (with_part x t.2 (known x k)) (known (clause N zero plain) (is_in_of same_clause clause_eq clause_rfl (clause N zero plain) xs s.0))))
    ]

    reaching_of : (q : ℕ) (by : Clause → ℕ → Context → Clause → List Clause) (y : Clause) → Mem y (flat (reaching axs q by xs) xs)
        → (x : Clause) × (p : ℕ) × (N : Context) × (z : Clause) × Reaches axs p q × C (clause x.of x.classes (toward p N)) × Mem z xs × Mem y (by x p N z)
    reaching_of q by y m =
        let r = flat_of (reaching axs q by xs) xs m in
        let x : Clause = r.0 in
        let t = over_part_of x.part (λ p N. only_if (leads axs p q) (flat (by x p N) xs)) r.2 in
        let l = if_of (leads axs t.0 q) {xs = flat (by x t.0 t.1) xs} t.3 in
        let u = flat_of (by x t.0 t.1) xs l.1 in
        (x, t.0, t.1, u.0, leads_of axs t.0 q l.0, with_part x t.2 (known x r.1), u.1, u.2)

    axiom_good : (x : Axiom) → Mem x axs → Known (of_axiom axs (contexts G xs) xs x)
    axiom_good (Inclusion L M) mx y m =
        let r = flat_of (by_inclusion L.bits M.bits xs) (contexts G xs) m in
        let s = flat_of (λ (E : ℕ). one (clause r.0 (join M.bits E) plain)) (choices xs r.0 L.bits L.bits) r.2 in
        let c = choices_good xs r.0 L.bits L.bits (has_lt L.bits) s.0 s.1 in
        is s.2 (rules.inclusion _ _ _ c.0 s.0 mx (contexts_good r.0 r.1) c.1 (λ D k. known (clause r.0 D plain) (c.2 D k)))
    axiom_good (Exists a p b) mx y m =
        let r = flat_of (by_exists a p b) xs m in
        let s = if_of (headed a r.0) r.2 in
        let g = headed_good a r.0 r.1 s.0 in
        is s.1 (rules.existential _ _ a _ _ mx g.0 g.1)
    axiom_good (ExistsLower q a b) mx y m =
        let r = reaching_of q (by_exists_lower a b) y m in
        let s = if_of (headed_in r.2 a r.3) r.7 in
        let g = headed_in_good r.2 a r.3 r.6 s.0 in
        is s.1 (rules.existential_left _ _ _ _ _ _ a _ mx r.4 r.5 g.0 g.1)
    axiom_good (Forall a q b) mx y m =
        let r = reaching_of q (by_universal a b) y m in
        let s = if_of (headed_in r.0.of a r.3) r.7 in
        let g = headed_in_good r.0.of a r.3 r.6 s.0 in
        is s.1 (rules.universal _ _ _ _ _ _ a _ mx r.4 r.5 g.0 g.1)
    axiom_good (RoleInclusion p q) mx y m = absurd (not-nil m)

    conclusions_good : Known (conclusions axs G xs)
    unfolding conclusions
    conclusions_good y m = elim (append_cases (flat of_context (contexts G xs)) m) [
      | inl h ↦ (let r = flat_of of_context (contexts G xs) h in context_good r.0 (contexts_good r.0 r.1) y r.2)
      | inr h ↦ elim (append_cases (flat (of_clause xs) xs) h) [
        | inl k ↦ (let r = flat_of (of_clause xs) xs k in clause_good r.0 r.1 y r.2)
        | inr k ↦ (let r = flat_of (of_axiom axs (contexts G xs) xs) axs k in axiom_good r.0 r.1 y r.2)
      ]
    ]

  pub grow_good : (n : ℕ) (xs : List Clause) → Known xs → Known (grow n axs G xs)
  unfolding grow
  grow_good zero xs known = known
  grow_good (suc n) xs known =
      let new : List Clause = conclusions axs G xs in
      elim (all_in same_clause new xs) as (λ b. Known (elim b [ true ↦ xs | false ↦ grow n axs G (add same_clause new xs) ])) [
        | true ↦ known
        | false ↦ grow_good n (add same_clause new xs)
            (λ x m. elim (add_of same_clause clause_eq clause_rfl new xs m) [ inl h ↦ conclusions_good xs known x h | inr h ↦ known x h ])
      ]

pub grow_distinct : (axs : List Axiom) (G : Context) (n : ℕ) (xs : List Clause) → Distinct xs → Distinct (grow n axs G xs)
unfolding grow
grow_distinct axs G zero xs d = d
grow_distinct axs G (suc n) xs d =
    let new : List Clause = conclusions axs G xs in
    elim (all_in same_clause new xs) as (λ b. Distinct (elim b [ true ↦ xs | false ↦ grow n axs G (add same_clause new xs) ])) [
      | true ↦ d
      | false ↦ grow_distinct axs G n (add same_clause new xs) (add_distinct same_clause clause_eq clause_rfl new xs d)
    ]

-- ---- a list that the computing adds nothing to keeps the rules

module _ (axs : List Axiom) (G : Context) (xs : List Clause) (closed : (y : Clause) → Mem y (conclusions axs G xs) → Mem y xs) where
  from_context : {H : Context} {y : Clause} → Mem H (contexts G xs) → Mem y (of_context H) → Mem y xs
  unfolding conclusions
  from_context {y = y} c m = closed y (append_left (flat (of_clause xs) xs ++ flat (of_axiom axs (contexts G xs) xs) axs) (in_flat of_context c m))

  from_clause : {x y : Clause} → Mem x xs → Mem y (of_clause xs x) → Mem y xs
  unfolding conclusions
  from_clause {y = y} k m =
      closed y (append_right (flat of_context (contexts G xs)) (append_left (flat (of_axiom axs (contexts G xs) xs) axs) (in_flat (of_clause xs) k m)))

  from_axiom : {x : Axiom} {y : Clause} → Mem x axs → Mem y (of_axiom axs (contexts G xs) xs x) → Mem y xs
  unfolding conclusions
  from_axiom {y = y} k m =
      closed y (append_right (flat of_context (contexts G xs)) (append_right (flat (of_clause xs) xs) (in_flat (of_axiom axs (contexts G xs) xs) k m)))

  in_reaching : (q : ℕ) (by : Clause → ℕ → Context → Clause → List Clause) (H N : Context) (D p : ℕ) → Mem (clause H D (toward p N)) xs → Reaches axs p q
      → {y z : Clause} → Mem z xs → Mem y (by (clause H D (toward p N)) p N z) → Mem y (flat (reaching axs q by xs) xs)
  in_reaching q by H N D p x r k m =
      in_flat (reaching axs q by xs) x (in_if (leads axs p q) (reach_leads axs p q r) (in_flat (by (clause H D (toward p N)) p N) k m))

  pub list_closed : Closed rising axs (contexts G xs) xs
  unfolding contexts
  list_closed = record {
    target = λ H N D p x. in_add same_context context_eq context_rfl (flat targets xs) (one G) (inl (in_flat targets x (in_one N)));
    held_class = λ H a h m. from_context h (in_each H.held (λ (b : ℕ). one (clause H (only b) plain)) a m (in_one (clause H (only a) plain)));
    denied_head = λ H D a x l m.
        from_clause x (append_left [] (in_each H.denied (by_denied (clause H D plain)) a m
        (in_if (headed a (clause H D plain)) (in_headed H D a l) (in_one (clause H (without D a) plain)))));
    inclusion = λ H L M Ds E m h c f.
        from_axiom m (in_flat (by_inclusion L.bits M.bits xs) h
        (in_flat (λ (F : ℕ). one (clause H (join M.bits F) plain)) (in_choices xs H L.bits (has_lt L.bits) c f) (in_one (clause H (join M.bits E) plain))));
    existential = λ H D a p b m x l.
        from_axiom m (in_flat (by_exists a p b) x
        (in_if (headed a (clause H D plain)) (in_headed H D a l) (in_one (clause H (without D a) (toward p (context (only b) zero))))));
    existential_left = λ H N D E p q a b m r x y l.
        from_axiom m (in_reaching q (by_exists_lower a b) H N D p x r y
        (in_if (headed_in N a (clause N E plain)) (in_headed_in N E a l) (in_one (clause H (join D (only b)) (toward p (context N.held (join N.denied (only a))))))));
    impossible_target = λ H N D p x y.
        from_clause x (append_right (each H.denied (by_denied (clause H D (toward p N))))
        (in_if (is_in same_clause (clause N zero plain) xs) (in_is_in same_clause clause_eq clause_rfl (clause N zero plain) y) (in_one (clause H D plain))));
    universal = λ H N D E p q a b m r x y l.
        from_axiom m (in_reaching q (by_universal a b) H N D p x r y
        (in_if (headed_in H a (clause H E plain)) (in_headed_in H E a l)
        (in_one (clause H (join D (without E a)) (toward p (context (join N.held (only b)) N.denied))))));
  }

  pub list_goal : Mem G (contexts G xs)
  unfolding contexts
  list_goal = in_add same_context context_eq context_rfl (flat targets xs) (one G) (inr (in_one G))
