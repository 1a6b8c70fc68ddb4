-- Contexts that are wanted, the maximal ones among them, and the links: all can be decided, and every wanted context is extended by a maximal one.
use Rattle.std.proofs.Common.{◌≡◌, ℕ, Bool, List, [], ◌∷◌, refl, ap, subst, ⊎_elim, arith}
use mathlib.Core.List.Memᴰ
use mathlib.Core.List.{Memᴰ}
use native.Mathlib.Decide.{ℕ_discrete}
use Rattle.terms.specs.Sets.{Has}
use Rattle.terms.specs.declared.axioms.Axiom.{Axiom}
use Rattle.closure.specs.Closures.{Context, Part, plain, toward, Clause, clause, Reaches}
use Rattle.closure.specs.Canonical.{Apart, Wanted, Extended, Maximal}
use Rattle.closure.proofs.Decisions.{is_true, sure, dec_and, dec_not, dec_map, dec_every, dec_apart, dec_some}
use Rattle.closure.proofs.Equality.{dec_context}
use Rattle.closure.proofs.Roles.{dec_reach}

-- ---- one context extended by another

pub dec_extended : (M N : Context) → Dec (Extended M N)
dec_extended M N = dec_and (dec_every M.held (λ a. Has N.held a) (λ a. is_true _)) (dec_every M.denied (λ a. Has N.denied a) (λ a. is_true _))

pub extended_refl : (M : Context) → Extended M M
extended_refl M = (λ a h. h, λ a h. h)

pub extended_trans : (L M N : Context) → Extended L M → Extended M N → Extended L N
extended_trans L M N f g = (λ a h. g.0 a (f.0 a h), λ a h. g.1 a (f.1 a h))

-- ---- what one clause wants

-- the clause x wants a context that has Q, of H by the role p, where H's element is in the classes i
abbrev pub Offers : Context → (ℕ → Bool) → ℕ → (Context → Type 0) → Clause → Type 0
Offers H i p Q x = (L : Context) × (x ≡ clause H x.classes (toward p L)) × Apart x.classes i × Q L

module _ (H : Context) (i : ℕ → Bool) (p : ℕ) (Q : Context → Type 0) (dec : (L : Context) → Dec (Q L)) where
  offers_part : (x : Clause) → x.of ≡ H → (r : Part) → x.part ≡ r → Dec (Offers H i p Q x)
  offers_part x o plain e = no (λ t. let z : ◌≡◌ {A = ℕ} 0 1 = cc (ap (λ (y : Clause). y.part) t.1) in omega arith)
  offers_part x o (toward q L) e = dec_map
      (λ t. (L, (λ j. record { of = o j; classes = x.classes; part = parts t.0 j }), t.1.0, t.1.1))
      (λ t. let s = ap (λ (y : Clause). y.part) t.1 in
      let a : q ≡ p = cc in
      let b : t.0 ≡ L = cc in
      (a, (t.2, subst Q b t.3)))
      (dec_and (ℕ_discrete q p) (dec_and (dec_apart x.classes i) (dec L)))
    where
      parts : q ≡ p → x.part ≡ toward p L
      parts a = cc

  pub dec_offers : (x : Clause) → Dec (Offers H i p Q x)
  dec_offers x = start (dec_context x.of H)
    where
      start : Dec (x.of ≡ H) → Dec (Offers H i p Q x)
      start (yes o) = offers_part x o x.part refl
      start (no o) = no (λ t. o (ap (λ (y : Clause). y.of) t.1))

-- ---- a maximal one

-- every context that is wanted is extended by a maximal one: go through the clauses, and take what extends the last one taken
module _ (clauses : List Clause) (H : Context) (i : ℕ → Bool) (p : ℕ) where
  Top : List Clause → Context → Type 0
  Top cs N = (L : Context) (D : ℕ) → Memᴰ (clause H D (toward p L)) cs → Apart D i → Extended N L → Extended L N

  climb : (cs : List Clause) → ((x : Clause) → Memᴰ x cs → Memᴰ x clauses) → (M : Context) → Wanted clauses H i p M
      → (N : Context) × Wanted clauses H i p N × Extended M N × Top cs N
  unfolding Top
  climb [] f M h = (M, h, extended_refl M, λ L D m. absurd (Memᴰ.not-nil m))
  climb (x ∷ cs) f M h = next (climb cs (λ y m. f y (Memᴰ.tail m)) M h)
    where
      next : (N : Context) × Wanted clauses H i p N × Extended M N × Top cs N → (N : Context) × Wanted clauses H i p N × Extended M N × Top (x ∷ cs) N
      next t = choose (dec_offers H i p (λ L. Extended t.0 L) (dec_extended t.0) x)
        where
          choose : Dec (Offers H i p (λ L. Extended t.0 L) x) → (N : Context) × Wanted clauses H i p N × Extended M N × Top (x ∷ cs) N
          choose (yes u) = (
            u.0,
            (x.classes, subst (λ y. Memᴰ y clauses) u.1 (f x (Memᴰ.head refl)), u.2),
            extended_trans M t.0 u.0 t.2 u.3,
            λ L D m a k. ⊎_elim
                (λ (e : clause H D (toward p L) ≡ x).
                let s = ap (λ (y : Clause). y.part) e in
                let r = ap (λ (y : Clause). y.part) u.1 in
                let same : u.0 ≡ L = cc in
                subst (λ y. Extended y u.0) same (extended_refl u.0))
                (λ (n : Memᴰ (clause H D (toward p L)) cs). extended_trans L t.0 u.0 (t.3 L D n a (extended_trans t.0 u.0 L u.3 k)) u.3)
                (Memᴰ.cases_cons m),
          )
          choose (no u) = (
            t.0,
            t.1,
            t.2,
            λ L D m a k. ⊎_elim
                (λ (e : clause H D (toward p L) ≡ x). absurd (u (subst (λ y. Offers H i p (λ L. Extended t.0 L) y) e (L, refl, a, k))))
                (λ (n : Memᴰ (clause H D (toward p L)) cs). t.3 L D n a k)
                (Memᴰ.cases_cons m),
          )

  pub below_maximal : (M : Context) → Wanted clauses H i p M → (N : Context) × Maximal clauses H i p N × Extended M N
  unfolding Top
  below_maximal M h = let t = climb clauses (λ x m. m) M h in (t.0, (t.1, λ L w k. t.3 L w.0 w.1 w.2 k), t.2)

-- ---- wanted, maximal, linked

module _ (clauses : List Clause) (H : Context) (i : ℕ → Bool) where
  some_wanted : (p : ℕ) (Q : Context → Type 0) → ((L : Context) → Dec (Q L)) → Dec ((L : Context) × Wanted clauses H i p L × Q L)
  some_wanted p Q dec = dec_map
      (λ t. (t.2.0, (t.0.classes, subst (λ y. Memᴰ y clauses) t.2.1 t.1, t.2.2), t.2.3))
      (λ t. (clause H t.1.0 (toward p t.0), t.1.1, (t.0, refl, t.1.2, t.2)))
      (dec_some (Offers H i p Q) (dec_offers H i p Q dec) clauses)

  dec_wanted : (p : ℕ) (M : Context) → Dec (Wanted clauses H i p M)
  dec_wanted p M = dec_map (λ t. subst (λ y. Wanted clauses H i p y) t.2 t.1) (λ t. (M, t, refl)) (some_wanted p (λ L. L ≡ M) (λ L. dec_context L M))

  dec_maximal : (p : ℕ) (M : Context) → Dec (Maximal clauses H i p M)
  dec_maximal p M = dec_and (dec_wanted p M) (next (some_wanted p (λ L. Extended M L × (Extended L M → ⊥)) (λ L. dec_and (dec_extended M L) (dec_not (dec_extended L M)))))
    where
      next : Dec ((L : Context) × Wanted clauses H i p L × (Extended M L × (Extended L M → ⊥))) → Dec ((N : Context) → Wanted clauses H i p N → Extended M N → Extended N M)
      next (yes t) = no (λ f. t.2.1 (f t.0 t.1 t.2.0))
      next (no f) = yes (λ N h k. sure (dec_extended N M) (λ g. f (N, h, (k, g))))

  -- a link by the role q from the element of H to that of M
  abbrev pub Link : List Axiom → ℕ → Context → Type 0
  Link axs q M = (p : ℕ) × Reaches axs p q × Maximal clauses H i p M

  pub dec_link : (axs : List Axiom) (q : ℕ) (M : Context) → Dec (Link axs q M)
  dec_link axs q M = dec_map (λ t. (t.2.0, t.2.2, t.2.3)) (λ t. (clause H t.2.0.0 (toward t.0 M), t.2.0.1, (t.0, refl, t.1, t.2)))
      (dec_some (λ x. Way x.part) (λ x. way x.part) clauses)
    where
      Way : Part → Type 0
      Way r = (p : ℕ) × (r ≡ toward p M) × Reaches axs p q × Maximal clauses H i p M

      way : (r : Part) → Dec (Way r)
      way plain = no (λ t. let e = t.1 in let z : ◌≡◌ {A = ℕ} 0 1 = cc in omega arith)
      way (toward p L) = dec_map
          (λ t. (p, ap (λ y. toward p y) t.0, t.1.0, t.1.1))
          (λ t. let e = t.1 in
          let a : L ≡ M = cc in
          let b : t.0 ≡ p = cc in
          (a, (subst (λ y. Reaches axs y q) b t.2, subst (λ y. Maximal clauses H i y M) b t.3)))
          (dec_and (dec_context L M) (dec_and (dec_reach axs p q) (dec_maximal p M)))
