-- Tests of each number below another.
use Rattle.std.proofs.Common.{◌≡◌, ℕ, ◌<◌, Bool, true, false, not, Option, List, MatchOption, length, get_or, refl, subst, arith}
use denote.Param.Members.{Mut}
use borrow.Author.Tests.{clash}
use Rattle.std.specs.Bool.{MatchBool, Decides}
use Rattle.std.specs.Fn.{Called}
use Rattle.std.specs.Iterator.{YieldsThen}
use Rattle.std.specs.List.{AllWithin, HoldsAt, FoldsTo, range_with_len}
use Rattle.std.specs.declared.ops.Range.{Range}
use Rattle.std.proofs.iter.Yields.{nat_range_steps}
use Rattle.std.proofs.lemmas.Iterator.{YieldsList-from_range, cases_from_all, cases_from_any}
use Rattle.std.proofs.lemmas.List.FromFn.{length-range_with_len, get_or-range_with_len}

module _ (n : ℕ) (P : ℕ → Type 0) where
  abbrev Not : ℕ → Type 0
  Not f = P f → ⊥

  abbrev below : List ℕ
  below = range_with_len 0 n

  at : (f : ℕ) → f < n → get_or below f 0 ≡ f
  at f l = omega (arith, get_or-range_with_len 0 n f 0 l)

  some_below : (r : Bool) → MatchBool r ((k : ℕ) × (k < length below) × HoldsAt P below k) (AllWithin Not below 0 (length below)) → Decides r ((f : ℕ) × (f < n) × P f)
  some_below true m = (
    λ _. (let l : m.0 < n = omega (arith, m.1, length-range_with_len 0 n) in (m.0, l, subst P (at m.0 l) (m.2 0))),
    λ _. refl,
  )
  some_below false m = (λ e. absurd (clash e), λ s. absurd (subst Not (at s.0 s.1) (m s.0 0 (omega arith) (omega (arith, s.1, length-range_with_len 0 n))) s.2))

  every_below : (r : Bool) → MatchBool r (AllWithin P below 0 (length below)) ((k : ℕ) × (k < length below) × HoldsAt Not below k) → Decides r ((f : ℕ) → f < n → P f)
  every_below true m = (λ _ f l. subst P (at f l) (m f 0 (omega arith) (omega (arith, l, length-range_with_len 0 n))), λ _. refl)
  every_below false m = (
    λ e. absurd (clash e),
    λ h. (let l : m.0 < n = omega (arith, m.1, length-range_with_len 0 n) in absurd (subst Not (at m.0 l) (m.2 0) (h m.0 l))),
  )

  -- the closure was called with numbers of the range in order, as long as it answered `on`
  abbrev Ran : {F : Type 0} → Mut F (ℕ × Unit {0}) Bool → Range ℕ → Range ℕ → F → Bool → Bool → Type 0
  Ran {F} g s u f r on = (xs : List ℕ) × (o : Option ℕ) × (j : F) × YieldsThen nat_range_steps s xs o u × FoldsTo (λ p x q. Called g p (x, tt) on q) f xs j
      × MatchOption o (r ≡ on) (λ x. (r ≡ not on) × ((h : F) × Called g j (x, tt) (not on) h))

  module _ {F : Type 0} {g : Mut F (ℕ × Unit {0}) Bool} {s : Range ℕ} (whole : s ≡ record { start = 0; end = n }) (u : Range ℕ) (f : F) (r : Bool) where
    pub decides_some : Ran g s u f r false → ((x : ℕ) (q : F) → Called g f (x, tt) true q → P x) → ((x : ℕ) (q : F) → Called g f (x, tt) false q → (q ≡ f) × Not x) → Decides r ((k : ℕ) × (k < n) × P k)
    decides_some ran so other = some_below r (cases_from_any u f r P Not ran (YieldsList-from_range 0 n n whole (omega arith)) so other)

    pub decides_every : Ran g s u f r true → ((x : ℕ) (q : F) → Called g f (x, tt) true q → (q ≡ f) × P x) → ((x : ℕ) (q : F) → Called g f (x, tt) false q → Not x) → Decides r ((k : ℕ) → k < n → P k)
    decides_every ran so other = every_below r (cases_from_all u f r P Not ran (YieldsList-from_range 0 n n whole (omega arith)) so other)
