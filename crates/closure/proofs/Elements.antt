-- The classes of a context's element, decided in the order of their ranks.
use Rattle.std.proofs.Common.{◌≡◌, ℕ, zero, suc, ◌<◌, Bool, true, false, List, sym, refl, ◌∙◌, subst, arith}
use mathlib.Core.List.{Memᴰ}
use native.Mathlib.Decide.{ℕ_discrete}
use Rattle.terms.specs.Sets.{Has, without}
use Rattle.terms.proofs.Masks.{without_of}
use Rattle.closure.specs.Closures.{Context, plain, Clause, clause, Head}
use Rattle.closure.specs.Canonical.{Apart, Produced, Injective}
use Rattle.closure.proofs.Equality.{dec_context, dec_plain}
use Rattle.closure.proofs.Decisions.{dec_and, dec_map, dec_some, dec_apart, dec_head, decided, decided_from, decided_to}

module _ (rank : ℕ → ℕ) (clauses : List Clause) (H : Context) where
  dec_produced : (i : ℕ → Bool) (a : ℕ) → Dec (Produced rank clauses H i a)
  dec_produced i a = dec_map
      (λ t. (t.0.classes, subst (λ y. Memᴰ y clauses) (λ j. record { of = t.2.0 j; classes = t.0.classes; part = t.2.1 j }) t.1, t.2.2, t.2.3))
      (λ t. (clause H t.0 plain, t.1, (refl, refl, t.2, t.3)))
      (dec_some By by clauses)
    where
      By : Clause → Type 0
      By x = (x.of ≡ H) × (x.part ≡ plain) × Head rank x.classes a × Apart (without x.classes a) i

      by : (x : Clause) → Dec (By x)
      by x = dec_map (λ t. (t.0, t.1.0, t.1.1.0, t.1.1.1)) (λ t. (t.0, (t.1, (t.2, t.3))))
          (dec_and (dec_context x.of H) (dec_and (dec_plain x.part) (dec_and (dec_head rank x.classes a) (dec_apart (without x.classes a) i))))

  choose : {P : Type 0} → Dec P → Bool → Bool → Bool
  choose (yes e) new old = new
  choose (no e) new old = old

  -- the classes of rank below k
  inside : ℕ → ℕ → Bool
  inside zero a = false
  inside (suc k) a = choose (ℕ_discrete (rank a) k) (decided (dec_produced (inside k) a)) (inside k a)

  pub classes_of : ℕ → Bool
  classes_of a = inside (suc (rank a)) a

  class_now : (a : ℕ) → classes_of a ≡ decided (dec_produced (inside (rank a)) a)
  unfolding classes_of inside choose
  class_now a = go (ℕ_discrete (rank a) (rank a))
    where
      go : (d : Dec (rank a ≡ rank a)) → choose d (decided (dec_produced (inside (rank a)) a)) (inside (rank a) a) ≡ decided (dec_produced (inside (rank a)) a)
      go (yes e) = refl
      go (no n) = absurd (n refl)

  class_later : (k a : ℕ) → rank a < k → inside k a ≡ classes_of a
  unfolding inside choose
  class_later zero a h = absurd (omega arith)
  class_later (suc k) a h = go (ℕ_discrete (rank a) k) (class_later k a)
    where
      go : (d : Dec (rank a ≡ k)) → (rank a < k → inside k a ≡ classes_of a) → choose d (decided (dec_produced (inside k) a)) (inside k a) ≡ classes_of a
      go (yes e) r = subst (λ y. decided (dec_produced (inside y) a) ≡ classes_of a) e (sym (class_now a))
      go (no n) r = r (omega arith)

  module _ (apart : Injective rank) where
    -- the classes of a clause but its head are decided before the head
    before : (D a b : ℕ) → Head rank D a → Has (without D a) b → inside (rank a) b ≡ classes_of b
    before D a b h m =
        let t = without_of D a b m in
        let l = h.1 b t.0 in
        let n : rank b ≡ rank a → ⊥ = λ e. t.1 (apart b a e) in
        class_later (rank a) b (omega arith)

    pub class_from : (a : ℕ) → classes_of a ≡ true → Produced rank clauses H classes_of a
    class_from a h =
        let t = decided_from (dec_produced (inside (rank a)) a) (sym (class_now a) ∙ h) in
        (t.0, t.1, t.2, λ b m x. t.3 b m (before t.0 a b t.2 m ∙ x))

    pub class_to : (a : ℕ) → Produced rank clauses H classes_of a → classes_of a ≡ true
    class_to a t = class_now a ∙ decided_to (dec_produced (inside (rank a)) a) (t.0, t.1, t.2, λ b m x. t.3 b m (sym (before t.0 a b t.2 m) ∙ x))
