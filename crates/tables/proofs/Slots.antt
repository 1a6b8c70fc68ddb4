-- Slots: what stays where the first slots are kept, and a table that only grows.
use Rattle.std.proofs.Common.{◌≡◌, ℕ, ◌+◌, ◌<◌, ◌≤◌, ◌⊎◌, List, length, get_or, sym, refl, ◌∙◌, subst, ⊎_elim, le_of_suc-le-suc, eq-or-lt_of_le, add-one, arith}
use Rattle.std.proofs.lemmas.List.{get_or_default}
use Rattle.std.proofs.lemmas.Bool.{cases_lt, cases_eq}
use Rattle.tables.specs.Entering.{Holds, Among, Apart, Kept}
use Rattle.tables.specs.Adding.{Extends}

-- below i + 1: at i or below i
pub at_or_below : (k i : ℕ) → k < i + 1 → (k ≡ i) ⊎ (k < i)
at_or_below k i l = eq-or-lt_of_le (le_of_suc-le-suc (subst (λ (m : ℕ). k < m) (add-one i) l))

module _ {X : Type 0} where
  pub holds_one : {xs : List X} {k : ℕ} {x y : X} → Holds xs k x → Holds xs k y → x ≡ y
  holds_one {xs} {k} {x} h e = sym (h.is x) ∙ e.is x

  pub holds_get_or : (xs : List X) (k : ℕ) (d : X) → k < length xs → Holds xs k (get_or xs k d)
  holds_get_or xs k d l = record { is = λ e. get_or_default xs k e d l }

  pub holds_kept : {xs ys : List X} {k n : ℕ} {x : X} → Kept xs ys n → k < n → Holds xs k x → Holds ys k x
  holds_kept k l h = record { is = λ d. k.same _ l d ∙ h.is d }

  pub holds_back : {xs ys : List X} {k n : ℕ} {x : X} → Kept xs ys n → k < n → Holds ys k x → Holds xs k x
  holds_back k l h = record { is = λ d. sym (k.same _ l d) ∙ h.is d }

  pub among_upto : {xs : List X} {m n : ℕ} {x : X} → m ≤ n → Among xs m x → Among xs n x
  among_upto l a = record { slot = a.slot; below = omega (arith, a.below); holds = a.holds }

  pub among_kept : {xs ys : List X} {m n : ℕ} {x : X} → Kept xs ys n → m ≤ n → Among xs m x → Among ys m x
  among_kept k l a = record { slot = a.slot; below = a.below; holds = holds_kept k (omega (arith, a.below)) a.holds }

  -- in a table without repeats a thing has one slot
  pub slot_one : {xs : List X} {n : ℕ} {x : X} → Apart xs n → (i j : ℕ) → i < n → j < n → Holds xs i x → Holds xs j x → i ≡ j
  slot_one {x = x} apart i j li lj a b =
      ⊎_elim (λ e. e) (λ ne. absurd (⊎_elim (λ l. apart i j l lj x a b) (λ m. ⊎_elim (λ e. ne (sym e)) (λ l. apart j i l li x b a) (eq-or-lt_of_le m)) (cases_lt i j))) (cases_eq i j)

  pub extends_refl : (t : List X) (n : ℕ) → Extends t n t n
  extends_refl t n = record { more = omega arith; size = refl; kept = record { same = λ k l d. refl }; rest = λ k l d. refl }

  pub extends_then : {t u v : List X} {n m o : ℕ} → Extends t n u m → Extends u m v o → Extends t n v o
  extends_then p q = record {
    more = omega (arith, p.more, q.more);
    size = q.size ∙ p.size;
    kept = record { same = λ k l d. q.kept.same k (omega (arith, p.more)) d ∙ p.kept.same k l d };
    rest = λ k l d. q.rest k l d ∙ p.rest k (omega (arith, q.more)) d;
  }
