-- Opening a record table has one outcome, and an open table keeps its limits.
use Rattle.std.proofs.Common.{◌≡◌, ℕ, ◌<◌, ◌≤◌, ◌⊎◌, List, length, get_or, take, sym, refl, ◌∙◌, subst, inl, inr, arith}
use Rattle.std.specs.List.{AllByRecursion}
use Rattle.std.proofs.ByRecursion.{All-get_or}
use Rattle.std.proofs.lemmas.List.{get_or-take, length-take-le}
use Rattle.std.proofs.lemmas.Bool.{cases_order}
use Rattle.terms.specs.declared.axioms.Axiom.{Axiom}
use Rattle.terms.specs.declared.refusals.Layer.{Layer}
use Rattle.terms.specs.Axioms.{WellFormed, axiom_checks, blank}
use Rattle.terms.specs.Refusals.{Told, done, refused, end, FirstFailing}
use Rattle.terms.proofs.Checking.{first_not_passed, first_one}
use Rattle.sources.specs.Tables.{in_table, Sized, Stops, Opening}

module _ (c r : ℕ) (xs : List Axiom) where
  -- opening stops at record i
  pub stopped : (i n p : ℕ) (y : Layer) → Sized c r xs → i < length xs → AllByRecursion (WellFormed c r) (take i xs) → FirstFailing (axiom_checks c r (get_or xs i blank) end) n → p ≡ i → y ≡ in_table → Opening c r xs (refused n p y)
  stopped i n p y s l w f e h = (h, inr (subst (Stops c r xs n) (sym e) (record { sized = s; there = l; before = w; fails = f })))

  -- a record that fails a check is not among the well formed
  not_among : (n p k : ℕ) → p < k → k ≤ length xs → FirstFailing (axiom_checks c r (get_or xs p blank) end) n → AllByRecursion (WellFormed c r) (take k xs) → ⊥
  not_among n p k l h f w =
      let here = All-get_or (WellFormed c r) (take k xs) p blank (omega (arith, length-take-le k xs h)) w in
      let good = subst (WellFormed c r) (get_or-take k xs p blank l) here in
      first_not_passed (axiom_checks c r (get_or xs p blank) end) n f (good.0, (good.1, tt))

  stops_fails : (n p : ℕ) → Stops c r xs n p → AllByRecursion (WellFormed c r) xs → ⊥
  stops_fails n p s w =
      let good = All-get_or (WellFormed c r) xs p blank s.there w in
      first_not_passed (axiom_checks c r (get_or xs p blank) end) n s.fails (good.0, (good.1, tt))

  stops_one : (m n p q : ℕ) → Stops c r xs m p → Stops c r xs n q → (p ≡ q) ⊎ ((p < q) ⊎ (q < p)) → (m ≡ n) × (p ≡ q)
  stops_one m n p q s t (inl e) = (first_one (axiom_checks c r (get_or xs p blank) end) m n s.fails (subst (λ k. FirstFailing (axiom_checks c r (get_or xs k blank) end) n) (sym e) t.fails), e)
  stops_one m n p q s t (inr (inl l)) = absurd (not_among m p q l (omega (arith, t.there)) s.fails t.before)
  stops_one m n p q s t (inr (inr l)) = absurd (not_among n q p l (omega (arith, s.there)) t.fails s.before)

  refused_one : (m n p q : ℕ) → ((m ≡ 9) × (p ≡ 0) × (Sized c r xs → ⊥)) ⊎ Stops c r xs m p → ((n ≡ 9) × (q ≡ 0) × (Sized c r xs → ⊥)) ⊎ Stops c r xs n q → (m ≡ n) × (p ≡ q)
  refused_one m n p q (inl s) (inl t) = (s.0 ∙ sym t.0, s.1 ∙ sym t.1)
  refused_one m n p q (inl s) (inr t) = absurd (s.2 t.sized)
  refused_one m n p q (inr s) (inl t) = absurd (t.2 s.sized)
  refused_one m n p q (inr s) (inr t) = stops_one m n p q s t (cases_order p q)

  done_refused : (n p : ℕ) → Sized c r xs → AllByRecursion (WellFormed c r) xs → ((n ≡ 9) × (p ≡ 0) × (Sized c r xs → ⊥)) ⊎ Stops c r xs n p → ⊥
  done_refused n p s w (inl t) = t.2 s
  done_refused n p s w (inr t) = stops_fails n p t w

  -- opening tells one thing
  pub one_opening : (o t : Told (Unit {0})) → Opening c r xs o → Opening c r xs t → o ≡ t
  one_opening (done u) (done v) a b = refl
  one_opening (done u) (refused n p y) a b = absurd (done_refused n p a.0 a.1 b.1)
  one_opening (refused n p y) (done u) a b = absurd (done_refused n p b.0 b.1 a.1)
  one_opening (refused m p y) (refused n q z) a b =
      let e = refused_one m n p q a.1 b.1 in
      λ i. refused (e.0 i) (e.1 i) ((a.0 ∙ sym b.0) i)
