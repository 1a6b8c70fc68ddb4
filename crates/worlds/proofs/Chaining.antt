-- The links of an element, from the last to the first.
use Rattle.std.proofs.Common.{◌≡◌, ℕ, zero, suc, ◌<◌, Bool, true, false, eqb, List, ◌∷◌, Option, Some, None, length, get_or, set, sym, refl, ap, ◌∙◌, subst, inl, inr, arith}
use Rattle.std.specs.List.{list_any, list_all}
use Rattle.std.proofs.lemmas.Option.{none-some, same_Some}
use Rattle.std.proofs.lemmas.List.{get_or-set_same, get_or-set_other, get_or_past}
use Rattle.std.proofs.lemmas.Bool.{cases_Bool, cases_eq, cases_lt, cond-true, cond-false, eqb-true, eq-eqb, ne_eqb, and_parts, and_from, or_cases, or_left, or_right, both_ways}
use Rattle.std.specs.Iterator.{YieldsFirst}
use Rattle.std.proofs.lemmas.Iterator.{YieldsList}
use Rattle.std.proofs.lemmas.Iterator.Consumers.{YieldsList-from_first}
use Rattle.worlds.specs.declared.link.Link.{Link}
use Rattle.worlds.specs.declared.chains.LinksOf.{LinksOf}
use Rattle.worlds.specs.Slots.{number_in}
use Rattle.worlds.specs.Entries.{no_link, latest, Last, Chained, links_from, chain}

module _ (xs : List Link) where
  abbrev link : ℕ → Link
  link i = get_or xs i no_link

  -- ---- building the chains

  pub last_more : (last : List (Option ℕ)) (i from : ℕ) → length last ≡ 4096 → from < 4096 → (link i).from ≡ from → Last xs last i → Last xs (set last from (Some i)) (suc i)
  last_more last i from n l e h d k = elim (cases_eq d from) [
    | inl q ↦ ap (λ x. get_or (set last from (Some i)) x None) q ∙ get_or-set_same last from (Some i) None (omega arith) ∙ sym (cond-true _ (Some i) (latest xs d i) (eq-eqb _ _ (e ∙ sym q)))
    | inr m ↦ get_or-set_other last from d (Some i) None m ∙ h d k ∙ sym (cond-false _ (Some i) (latest xs d i) (ne_eqb _ _ (λ q. m (sym q ∙ e))))
  ]

  pub chained_more : (previous : List (Option ℕ)) (i : ℕ) (v : Option ℕ) → i < length previous → v ≡ latest xs (link i).from i → Chained xs previous i → Chained xs (set previous i v) (suc i)
  chained_more previous i v l e h j k = elim (cases_eq j i) [
    | inl q ↦ ap (λ x. get_or (set previous i v) x None) q ∙ get_or-set_same previous i v None l ∙ e ∙ ap (λ x. latest xs (link x).from x) (sym q)
    | inr m ↦ get_or-set_other previous i j v None m ∙ h j (omega arith)
  ]

  -- ---- what a chain goes through

  -- link k is from d
  links_more : (d k : ℕ) → eqb (link k).from d ≡ true → links_from xs d (suc k) ≡ link k ∷ links_from xs d k
  links_more d k t = cond-true _ (link k ∷ links_from xs d k) (links_from xs d k) t

  -- link k is from another
  links_same : (d k : ℕ) → eqb (link k).from d ≡ false → links_from xs d (suc k) ≡ links_from xs d k
  links_same d k t = cond-false _ (link k ∷ links_from xs d k) (links_from xs d k) t

  pub chain_latest : (d k : ℕ) → chain xs (latest xs d k) ≡ links_from xs d k
  chain_latest d zero = refl
  chain_latest d (suc k) = elim (cases_Bool (eqb (link k).from d)) [
    | inl t ↦ ap (chain xs) (cond-true _ (Some k) (latest xs d k) t) ∙ ap (λ x. link k ∷ links_from xs x k) (eqb-true _ _ t) ∙ sym (links_more d k t)
    | inr t ↦ ap (chain xs) (cond-false _ (Some k) (latest xs d k) t) ∙ chain_latest d k ∙ sym (links_same d k t)
  ]

  pub none_latest : (d k : ℕ) → ((j : ℕ) → j < k → (link j).from ≡ d → ⊥) → latest xs d k ≡ None
  none_latest d zero h = refl
  none_latest d (suc k) h = cond-false _ (Some k) (latest xs d k) (ne_eqb _ _ (λ e. h k (omega arith) e)) ∙ none_latest d k (λ j l. h j (omega arith))

  pub latest_below : (d k i : ℕ) → latest xs d k ≡ Some i → i < k
  latest_below d zero i e = absurd (none-some i e)
  latest_below d (suc k) i e = elim (cases_Bool (eqb (link k).from d)) [
    | inl t ↦ (let q : Some k ≡ Some i = sym (cond-true _ (Some k) (latest xs d k) t) ∙ e in omega (arith, same_Some k i q))
    | inr t ↦ omega (arith, latest_below d k i (sym (cond-false _ (Some k) (latest xs d k) t) ∙ e))
  ]

  pub chain_starts : (last : List (Option ℕ)) (d : ℕ) → length last ≡ 4096 → Last xs last (length xs) → ((i : ℕ) → i < length xs → (link i).from < 4096) → get_or last d None ≡ latest xs d (length xs)
  chain_starts last d n h s = elim (cases_lt d 4096) [
    | inl l ↦ h d l
    | inr past ↦ get_or_past last d None (omega arith) ∙ sym (none_latest d (length xs) (λ j l e. omega (arith, s j l)))
  ]

  pub chain_goes_on : (previous : List (Option ℕ)) (at : Option ℕ) (i : ℕ) → at ≡ Some i → i < length xs → Chained xs previous (length xs) → chain xs at ≡ link i ∷ chain xs (get_or previous i None)
  chain_goes_on previous at i e l h = ap (chain xs) e ∙ ap (λ ys. link i ∷ ys) (sym (chain_latest (link i).from i)) ∙ ap (λ o. link i ∷ chain xs o) (sym (h i l))

  -- ---- tests of the links from an element

  module _ (test : Link → Bool) (d : ℕ) where
    pub any_found : (k : ℕ) → list_any test (links_from xs d k) ≡ true → (j : ℕ) × (j < k) × ((link j).from ≡ d) × (test (link j) ≡ true)
    any_found zero e = absurd (both_ways false refl e)
    any_found (suc k) e = elim (cases_Bool (eqb (link k).from d)) [
      | inl t ↦ elim (or_cases (test (link k)) (list_any test (links_from xs d k)) (sym (ap (list_any test) (links_more d k t)) ∙ e)) [
        | inl here ↦ (k, omega arith, eqb-true _ _ t, here)
        | inr later ↦ (let r = any_found k later in (r.0, omega (arith, r.1), r.2, r.3))
      ]
      | inr t ↦ (let r = any_found k (sym (ap (list_any test) (links_same d k t)) ∙ e) in (r.0, omega (arith, r.1), r.2, r.3))
    ]

    pub any_of : (k j : ℕ) → j < k → (link j).from ≡ d → test (link j) ≡ true → list_any test (links_from xs d k) ≡ true
    any_of zero j l f e = absurd (omega arith)
    any_of (suc k) j l f e = elim (cases_Bool (eqb (link k).from d)) [
      | inl t ↦ ap (list_any test) (links_more d k t) ∙ elim (cases_eq j k) [
        | inl q ↦ or_left _ _ (ap (λ i. test (link i)) (sym q) ∙ e)
        | inr n ↦ or_right (test (link k)) _ (any_of k j (omega arith) f e)
      ]
      | inr t ↦ elim (cases_eq j k) [
        | inl q ↦ absurd (both_ways (eqb (link k).from d) t (eq-eqb _ _ (ap (λ i. (link i).from) (sym q) ∙ f)))
        | inr n ↦ ap (list_any test) (links_same d k t) ∙ any_of k j (omega arith) f e
      ]
    ]

    pub all_found : (k j : ℕ) → list_all test (links_from xs d k) ≡ true → j < k → (link j).from ≡ d → test (link j) ≡ true
    all_found zero j e l f = absurd (omega arith)
    all_found (suc k) j e l f = elim (cases_Bool (eqb (link k).from d)) [
      | inl t ↦ (let both = and_parts (test (link k)) (list_all test (links_from xs d k)) (sym (ap (list_all test) (links_more d k t)) ∙ e) in
          elim (cases_eq j k) [
            | inl q ↦ ap (λ i. test (link i)) q ∙ both.0
            | inr n ↦ all_found k j both.1 (omega arith) f
          ])
      | inr t ↦ elim (cases_eq j k) [
        | inl q ↦ absurd (both_ways (eqb (link k).from d) t (eq-eqb _ _ (ap (λ i. (link i).from) (sym q) ∙ f)))
        | inr n ↦ all_found k j (sym (ap (list_all test) (links_same d k t)) ∙ e) (omega arith) f
      ]
    ]

    pub all_of : (k : ℕ) → ((j : ℕ) → j < k → (link j).from ≡ d → test (link j) ≡ true) → list_all test (links_from xs d k) ≡ true
    all_of zero h = refl
    all_of (suc k) h = elim (cases_Bool (eqb (link k).from d)) [
      | inl t ↦ ap (list_all test) (links_more d k t) ∙ and_from _ _ (h k (omega arith) (eqb-true _ _ t)) (all_of k (λ j l. h j (omega arith)))
      | inr t ↦ ap (list_all test) (links_same d k t) ∙ all_of k (λ j l. h j (omega arith))
    ]

  each_more : (P : Link → Type 0) (y x : Link) (ys : List Link) → P y → ((i : ℕ) → i < length ys → P (get_or ys i x)) → (i : ℕ) → i < length (y ∷ ys) → P (get_or (y ∷ ys) i x)
  each_more P y x ys p h zero l = p
  each_more P y x ys p h (suc i) l = h i (omega arith)

  pub each_from : (P : Link → Type 0) (d k i : ℕ) (x : Link) → ((j : ℕ) → j < k → P (link j)) → i < length (links_from xs d k) → P (get_or (links_from xs d k) i x)
  each_from P d zero i x h l = absurd (omega arith)
  each_from P d (suc k) i x h l = elim (cases_Bool (eqb (link k).from d)) [
    | inl t ↦ subst (λ ys. i < length ys → P (get_or ys i x)) (sym (links_more d k t)) (each_more P (link k) x (links_from xs d k) (h k (omega arith)) (λ i m. each_from P d k i x (λ j n. h j (omega arith)) m) i) l
    | inr t ↦ subst (λ ys. i < length ys → P (get_or ys i x)) (sym (links_same d k t)) (each_from P d k i x (λ j m. h j (omega arith))) l
  ]

-- the links that are left are those of the chain
pub yields_links : {s : LinksOf} (xs : List Link) → chain s.chains.now.links.now (number_in s.at) ≡ xs → YieldsList (YieldsFirst (λ s. chain s.chains.now.links.now (number_in s.at))) (λ x. x) s xs
yields_links xs e = YieldsList-from_first (λ x. x) (λ s. chain s.chains.now.links.now (number_in s.at)) xs e
