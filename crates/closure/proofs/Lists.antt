-- Lists: entries by number, one entry taken out, and how long a list without repeats can be.
use Rattle.std.proofs.Common.{◌≡◌, ℕ, zero, suc, ◌<◌, ◌≤◌, ◌⊎◌, List, [], ◌∷◌, length, get_or, sym, refl, ap, ◌∙◌, subst, inl, inr, arith}
use mathlib.Core.List.{Memᴰ}
use Rattle.std.specs.List.{AllByRecursion}
use Rattle.closure.specs.Counts.{Distinct}

module _ {A : Type 0} where
  pub get_or_mem : (l : List A) (d : A) (e : ℕ) → e < length l → Memᴰ (get_or l e d) l
  get_or_mem [] d e h = absurd (omega arith)
  get_or_mem (x ∷ l) d zero h = mathlib.Core.List.Memᴰ.head refl
  get_or_mem (x ∷ l) d (suc e) h = mathlib.Core.List.Memᴰ.tail (get_or_mem l d e (omega arith))

  pub mem_get_or : (l : List A) (d x : A) → Memᴰ x l → (e : ℕ) × (e < length l) × (get_or l e d ≡ x)
  mem_get_or [] d x m = absurd (mathlib.Core.List.Memᴰ.not-nil m)
  mem_get_or (y ∷ l) d x m = next (mathlib.Core.List.Memᴰ.cases_cons m) (mem_get_or l d x)
    where
      next : (x ≡ y) ⊎ Memᴰ x l → (Memᴰ x l → (e : ℕ) × (e < length l) × (get_or l e d ≡ x)) → (e : ℕ) × (e < length (y ∷ l)) × (get_or (y ∷ l) e d ≡ x)
      next (inl e) r = (zero, omega arith, sym e)
      next (inr n) r = let t = r n in (suc t.0, omega arith, t.2)

  -- what holds of all of a list holds of each entry
  pub all_mem : (P : A → Type 0) (l : List A) → AllByRecursion P l → (x : A) → Memᴰ x l → P x
  all_mem P [] all x m = absurd (mathlib.Core.List.Memᴰ.not-nil m)
  all_mem P (y ∷ l) all x m = elim (mathlib.Core.List.Memᴰ.cases_cons m) [ inl e ↦ subst P (sym e) all.0 | inr k ↦ all_mem P l all.1 x k ]

  -- the list without that entry
  pub take_out : {x : A} {l : List A} → Memᴰ x l → List A
  take_out (mathlib.Core.List.Memᴰ.head {xs = l} e) = l
  take_out (mathlib.Core.List.Memᴰ.tail {x = y} m) = y ∷ take_out m

  pub take_out_length : {x : A} {l : List A} (m : Memᴰ x l) → length l ≡ suc (length (take_out m))
  unfolding take_out
  take_out_length (mathlib.Core.List.Memᴰ.head e) = refl
  take_out_length (mathlib.Core.List.Memᴰ.tail m) = ap suc (take_out_length m)

  pub take_out_cases : {x y : A} {l : List A} (m : Memᴰ x l) → Memᴰ y l → (y ≡ x) ⊎ Memᴰ y (take_out m)
  unfolding take_out
  take_out_cases (mathlib.Core.List.Memᴰ.head e) k = elim (mathlib.Core.List.Memᴰ.cases_cons k) [ inl p ↦ inl (p ∙ sym e) | inr t ↦ inr t ]
  take_out_cases (mathlib.Core.List.Memᴰ.tail m) k =
      elim (mathlib.Core.List.Memᴰ.cases_cons k) [ inl p ↦ inr (mathlib.Core.List.Memᴰ.head p) | inr t ↦ elim (take_out_cases m t) [ inl p ↦ inl p | inr h ↦ inr (mathlib.Core.List.Memᴰ.tail h) ] ]

  pub take_out_of : {x y : A} {l : List A} (m : Memᴰ x l) → Memᴰ y (take_out m) → Memᴰ y l
  unfolding take_out
  take_out_of (mathlib.Core.List.Memᴰ.head e) k = mathlib.Core.List.Memᴰ.tail k
  take_out_of (mathlib.Core.List.Memᴰ.tail m) k = elim (mathlib.Core.List.Memᴰ.cases_cons k) [ inl p ↦ mathlib.Core.List.Memᴰ.head p | inr t ↦ mathlib.Core.List.Memᴰ.tail (take_out_of m t) ]

  -- a list without repeats is no longer than one that has all of it
  pub pigeon : (xs ys : List A) → Distinct xs → ((x : A) → Memᴰ x xs → Memᴰ x ys) → length xs ≤ length ys
  pigeon [] ys d f = omega arith
  pigeon (x ∷ xs) ys d f =
      let m : Memᴰ x ys = f x (mathlib.Core.List.Memᴰ.head refl) in
      let rest = pigeon xs (take_out m) d.1 (λ y h. elim (take_out_cases m (f y (mathlib.Core.List.Memᴰ.tail h))) [ inl p ↦ absurd (d.0 (mathlib.Core.List.Memᴰ.cast (sym p) h)) | inr k ↦ k ]) in
      omega (arith, take_out_length m)
