-- What the first two rows say of worlds.
use Rattle.std.proofs.Common.{◌≡◌, ℕ, zero, suc, ◌<◌, Bool, true, ◌⊎◌, ◌↔◌, List, [], ◌∷◌, sym, refl, ap, subst, inl, inr, arith}
use mathlib.Core.List.Memᴰ
use mathlib.Core.List.{Memᴰ}
use Rattle.terms.specs.Sets.{has, Has, only, join, without}
use Rattle.terms.specs.Axioms.{set_of}
use Rattle.terms.specs.declared.axioms.Axiom.TheVariants.{Inclusion}
use Rattle.terms.proofs.Masks.{only_is, join_cases, without_of, highest_unique}
use Rattle.worlds.specs.Worlds.{World, In, Obeys}
use Rattle.closure.specs.Closures.{Context, plain, Clause, clause, rising, some, InClauses, Head}
use Rattle.closure.specs.Canonical.{Produced}
use Rattle.closure.specs.Counts.{Lists}
use Rattle.closure.specs.Soundness.{Fits}
use Rattle.closure.specs.Verdicts.{Tabled}
use Rattle.closure.specs.Examples.{row, finance_shared, kept_payroll, WordFive, WordFiveAnywhere, LoneBreaks}
use Rattle.closure.proofs.Roles.{leads}
use Rattle.closure.proofs.Rounds.{is_head, choices, contexts, conclusions, grow, check}
use Rattle.closure.proofs.Conclusions.{test_head}
use Rattle.closure.proofs.Rows.{tabled}

-- ---- the second row in canonical worlds

abbrev two : List Clause
two = clause kept_payroll 0b0110 plain ∷ clause kept_payroll 0b0001 plain ∷ []

two_grown : grow 64 finance_shared kept_payroll [] ≡ two
unfolding has only join without is_head leads choices contexts conclusions grow
two_grown = refl

two_checks : check 64 (row finance_shared kept_payroll some 1 2) ≡ true
unfolding check
two_checks = refl

-- its clauses are {1, 2} and {0}
two_lists : Lists (InClauses rising finance_shared kept_payroll) two
two_lists = subst (λ l. Lists (InClauses rising finance_shared kept_payroll) l) two_grown (tabled 64 (row finance_shared kept_payroll some 1 2) two_checks).1

-- the classes of small sets
one_class : (a : ℕ) → Has 0b0001 a → a ≡ 0
unfolding only
one_class a h = only_is 0 a h

six_classes : (a : ℕ) → Has 0b0110 a → (a ≡ 1) ⊎ (a ≡ 2)
unfolding only join
six_classes a h = elim (join_cases 0b0010 0b0100 a h) [ inl l ↦ inl (only_is 1 a l) | inr l ↦ inr (only_is 2 a l) ]

five_classes : (a : ℕ) → Has 5 a → (a ≡ 0) ⊎ (a ≡ 2)
unfolding only join
five_classes a h = elim (join_cases 0b0001 0b0100 a h) [ inl l ↦ inl (only_is 0 a l) | inr l ↦ inr (only_is 2 a l) ]

five_zero : Has 5 0
unfolding has
five_zero = refl

five_two : Has 5 2
unfolding has
five_two = refl

head_six : Head rising 0b0110 2
unfolding has is_head
head_six = test_head 0b0110 2 refl

head_one : Head rising 0b0001 0
unfolding has is_head
head_one = test_head 0b0001 0 refl

module _ (cs : List Context) (xs : List Clause) (t : Tabled rising finance_shared kept_payroll cs xs) where
  two_has : (x : Clause) → Memᴰ x two → Memᴰ x xs
  two_has x m = (t.1 x).0 ((two_lists x).1 m)

  two_cases : (D : ℕ) → Memᴰ (clause kept_payroll D plain) xs → (D ≡ 0b0110) ⊎ (D ≡ 0b0001)
  two_cases D m = elim (Memᴰ.cases_cons ((two_lists (clause kept_payroll D plain)).0 ((t.1 (clause kept_payroll D plain)).1 m))) [
    | inl e ↦ inl (ap (λ (y : Clause). y.classes) e)
    | inr n ↦ inr (ap (λ (y : Clause). y.classes) (Memᴰ.eq_of_singleton n))
  ]

  -- what they produce is payroll or wages
  produced_cases : (i : ℕ → Bool) (a : ℕ) → Produced rising xs kept_payroll i a → (a ≡ 0) ⊎ (a ≡ 2)
  produced_cases i a p = elim (two_cases p.0 p.1) [
    | inl e ↦ inr (highest_unique 0b0110 a 2 (subst (λ D. Head rising D a) e p.2) head_six)
    | inr e ↦ inl (highest_unique 0b0001 a 0 (subst (λ D. Head rising D a) e p.2) head_one)
  ]

  payroll_produced : (i : ℕ → Bool) → Produced rising xs kept_payroll i 0
  payroll_produced i = (
    0b0001,
    two_has (clause kept_payroll 0b0001 plain) (Memᴰ.tail (Memᴰ.head refl)),
    head_one,
    λ b m x. (let s = without_of 0b0001 0 b m in s.1 (one_class b s.0)),
  )

  wages_produced : (i : ℕ → Bool) → (i 1 ≡ true → ⊥) → Produced rising xs kept_payroll i 2
  wages_produced i n = (
    0b0110,
    two_has (clause kept_payroll 0b0110 plain) (Memᴰ.head refl),
    head_six,
    λ b m x. (let s = without_of 0b0110 2 b m in elim (six_classes b s.0) [ inl e ↦ n (subst (λ c. i c ≡ true) e x) | inr e ↦ s.1 e ]),
  )

pub word_five : WordFive
word_five cs xs w at t can e l p a = (
  (λ i. elim (produced_cases cs xs t (w.is_in e) a ((here a).0 i)) [ inl q ↦ subst (λ b. Has 5 b) (sym q) five_zero | inr q ↦ subst (λ b. Has 5 b) (sym q) five_two ]),
  λ h. elim (five_classes a h) [
    | inl q ↦ subst (In w e) (sym q) ((here 0).1 (payroll_produced cs xs t (w.is_in e)))
    | inr q ↦ subst (In w e) (sym q) ((here 2).1 (wages_produced cs xs t (w.is_in e) not_finance))
  ],
)
  where
    here : (b : ℕ) → In w e b ↔ Produced rising xs kept_payroll (w.is_in e) b
    here b = subst (λ H. In w e b ↔ Produced rising xs H (w.is_in e) b) p (can.classes e b l)

    not_finance : In w e 1 → ⊥
    not_finance i = elim (produced_cases cs xs t (w.is_in e) 1 ((here 1).0 i)) [ inl q ↦ omega arith | inr q ↦ omega arith ]

module _ (w : World) (obeys : Obeys w finance_shared) (e : ℕ) (l : e < w.size) (fits : Fits w e kept_payroll) where
  in_payroll : In w e 0
  unfolding has
  in_payroll = fits.0 0 refl

  not_shared : In w e 3 → ⊥
  unfolding has
  not_shared = fits.1 3 refl

  not_finance : In w e 1 → ⊥
  unfolding only
  not_finance i =
      let s = obeys (Inclusion (set_of 0b0010) (set_of 0b1000)) (Memᴰ.tail (Memᴰ.head refl)) e l (λ a h. subst (In w e) (sym (only_is 1 a h)) i) in
      not_shared (subst (In w e) (only_is 3 s.0 s.1) s.2)

  in_wages : In w e 2
  in_wages =
      let s = obeys (Inclusion (set_of 0b0001) (set_of 0b0110)) (Memᴰ.head refl) e l (λ a h. subst (In w e) (sym (one_class a h)) in_payroll) in
      elim (six_classes s.0 s.1) [ inl q ↦ absurd (not_finance (subst (In w e) q s.2)) | inr q ↦ subst (In w e) q s.2 ]

  of_four : (a : ℕ) → a < 4 → In w e a → Has 5 a
  of_four zero k i = five_zero
  of_four (suc zero) k i = absurd (not_finance i)
  of_four (suc (suc zero)) k i = five_two
  of_four (suc (suc (suc zero))) k i = absurd (not_shared i)
  of_four (suc (suc (suc (suc a)))) k i = absurd (omega arith)

pub word_five_anywhere : WordFiveAnywhere
word_five_anywhere w obeys e l fits a k = (
  of_four w obeys e l fits a k,
  λ h. elim (five_classes a h) [ inl q ↦ subst (In w e) (sym q) (in_payroll w obeys e l fits) | inr q ↦ subst (In w e) (sym q) (in_wages w obeys e l fits) ],
)

pub lone_breaks : LoneBreaks
lone_breaks keeps =
    let s = keeps (λ a h. h) in
    let z = one_class s.0 s.2 in
    elim (six_classes s.0 s.1) [ inl q ↦ omega arith | inr q ↦ omega arith ]
