-- Lists that are computed, and what is found in them.
use Rattle.std.proofs.Common.{◌≡◌, ℕ, zero, suc, ◌<◌, Bool, true, false, cond, ◌&&◌, ◌||◌, ◌⊎◌, List, [], ◌∷◌, ◌++◌, sym, refl, subst, inl, inr, arith}
use mathlib.Core.Bool.{false≢true}
use mathlib.Core.List.Memᴰ.{append_cases}
use mathlib.Core.List.Memᴰ.{append_left}
use mathlib.Core.List.Memᴰ.{append_right}
use mathlib.Core.List.Memᴰ.{cases_cons}
use mathlib.Core.List.Memᴰ.{cast}
use mathlib.Core.List.Memᴰ.{head as at_head}
use mathlib.Core.List.Memᴰ.{not-nil}
use mathlib.Core.List.Memᴰ.{tail as at_tail}
use mathlib.Core.List.{Memᴰ as Mem}
use Rattle.std.proofs.lemmas.Bool.{and_parts, or_cases, or_left, or_right, both_ways, cases_eq}
use Rattle.terms.specs.Sets.{has, Has}
use Rattle.terms.proofs.Masks.{has_lt}
use Rattle.closure.specs.Counts.{Distinct}

abbrev pub one : {A : Type 0} → A → List A
one x = x ∷ []

abbrev pub only_if : {A : Type 0} → Bool → List A → List A
only_if true xs = xs
only_if false xs = []

module _ {A : Type 0} where
  pub in_one : (y : A) → Mem y (one y)
  in_one y = at_head refl

  pub in_if : (b : Bool) {y : A} {xs : List A} → b ≡ true → Mem y xs → Mem y (only_if b xs)
  in_if true e m = m
  in_if false e m = absurd (false≢true e)

  pub if_of : (b : Bool) {y : A} {xs : List A} → Mem y (only_if b xs) → (b ≡ true) × Mem y xs
  if_of true m = (refl, m)
  if_of false m = absurd (not-nil m)

-- ---- what f gives of each entry, joined

module _ {A B : Type 0} where
  abbrev pub flat : (A → List B) → List A → List B
  flat f [] = []
  flat f (x ∷ xs) = f x ++ flat f xs

  pub in_flat : (f : A → List B) {x : A} {xs : List A} {y : B} → Mem x xs → Mem y (f x) → Mem y (flat f xs)
  in_flat f {y = y} (at_head {xs = zs} e) h = append_left (flat f zs) (subst (λ (u : A). Mem y (f u)) e h)
  in_flat f (at_tail {x = z} m) h = append_right (f z) (in_flat f m h)

  pub flat_of : (f : A → List B) (xs : List A) {y : B} → Mem y (flat f xs) → (x : A) × Mem x xs × Mem y (f x)
  flat_of f [] m = absurd (not-nil m)
  flat_of f (x ∷ xs) m =
      elim (append_cases (f x) m) [ inl h ↦ (x, at_head refl, h) | inr h ↦ (let r = flat_of f xs h in (r.0, at_tail r.1, r.2)) ]

-- ---- what f gives of each class of a set, joined

abbrev pub numbers : ℕ → List ℕ
numbers zero = []
numbers (suc n) = n ∷ numbers n

in_numbers : (n a : ℕ) → a < n → Mem a (numbers n)
in_numbers zero a l = absurd (omega arith)
in_numbers (suc n) a l = elim (cases_eq a n) [ inl e ↦ at_head e | inr e ↦ at_tail (in_numbers n a (omega arith)) ]

module _ {B : Type 0} where
  abbrev pub each : ℕ → (ℕ → List B) → List B
  each s f = flat (λ a. only_if (has s a) (f a)) (numbers s)

  pub in_each : (s : ℕ) (f : ℕ → List B) (a : ℕ) {y : B} → Has s a → Mem y (f a) → Mem y (each s f)
  in_each s f a h m = in_flat (λ (b : ℕ). only_if (has s b) (f b)) (in_numbers s a (has_lt s a h)) (in_if (has s a) h m)

  pub each_of : (s : ℕ) (f : ℕ → List B) {y : B} → Mem y (each s f) → (a : ℕ) × Has s a × Mem y (f a)
  each_of s f m =
      let r = flat_of (λ (b : ℕ). only_if (has s b) (f b)) (numbers s) m in
      let t = if_of (has s r.0) r.2 in
      (r.0, t.0, t.1)

-- ---- all entries

module _ {A : Type 0} where
  abbrev pub every : (A → Bool) → List A → Bool
  every f [] = true
  every f (x ∷ xs) = f x && every f xs

  pub every_of : (f : A → Bool) {y : A} {xs : List A} → Mem y xs → every f xs ≡ true → f y ≡ true
  every_of f (at_head {x = x} {xs = xs} p) e = subst (λ (u : A). f u ≡ true) (sym p) (and_parts (f x) (every f xs) e).0
  every_of f (at_tail {x = x} {xs = xs} m) e = every_of f m (and_parts (f x) (every f xs) e).1

-- ---- membership by a test of equality

module _ {A : Type 0} (same : A → A → Bool) where
  abbrev pub is_in : A → List A → Bool
  is_in y [] = false
  is_in y (x ∷ xs) = same y x || is_in y xs

  abbrev pub insert : A → List A → List A
  insert y xs = cond (is_in y xs) xs (y ∷ xs)

  abbrev pub add : List A → List A → List A
  add [] xs = xs
  add (y ∷ ys) xs = insert y (add ys xs)

  abbrev pub all_in : List A → List A → Bool
  all_in ys xs = every (λ y. is_in y xs) ys

  module _ (eq : (x y : A) → same x y ≡ true → x ≡ y) (rfl : (x : A) → same x x ≡ true) where
    pub is_in_of : (y : A) (xs : List A) → is_in y xs ≡ true → Mem y xs
    is_in_of y [] e = absurd (false≢true e)
    is_in_of y (x ∷ xs) e = elim (or_cases (same y x) (is_in y xs) e) [ inl h ↦ at_head (eq y x h) | inr h ↦ at_tail (is_in_of y xs h) ]

    pub in_is_in : (y : A) {xs : List A} → Mem y xs → is_in y xs ≡ true
    in_is_in y (at_head {x = x} {xs = xs} e) = or_left (same y x) (is_in y xs) (subst (λ (u : A). same y u ≡ true) e (rfl y))
    in_is_in y (at_tail {x = x} {xs = xs} m) = or_right (same y x) (is_in y xs) (in_is_in y m)

    pub all_in_of : (ys xs : List A) → all_in ys xs ≡ true → (y : A) → Mem y ys → Mem y xs
    all_in_of ys xs e y m = is_in_of y xs (every_of (λ z. is_in z xs) m e)

    insert_of : (y : A) (xs : List A) {z : A} → Mem z (insert y xs) → (z ≡ y) ⊎ Mem z xs
    insert_of y xs {z} = go (is_in y xs)
      where
        go : (b : Bool) → Mem z (cond b xs (y ∷ xs)) → (z ≡ y) ⊎ Mem z xs
        go true m = inr m
        go false m = cases_cons m

    in_insert : (y : A) (xs : List A) {z : A} → (z ≡ y) ⊎ Mem z xs → Mem z (insert y xs)
    in_insert y xs {z} s = go (is_in y xs) refl s
      where
        go : (b : Bool) → is_in y xs ≡ b → (z ≡ y) ⊎ Mem z xs → Mem z (cond b xs (y ∷ xs))
        go true e (inl p) = cast p (is_in_of y xs e)
        go true e (inr m) = m
        go false e (inl p) = at_head p
        go false e (inr m) = at_tail m

    insert_distinct : (y : A) (xs : List A) → Distinct xs → Distinct (insert y xs)
    insert_distinct y xs d = go (is_in y xs) refl
      where
        go : (b : Bool) → is_in y xs ≡ b → Distinct (cond b xs (y ∷ xs))
        go true e = d
        go false e = ((λ m. both_ways (is_in y xs) e (in_is_in y m)), d)

    pub add_of : (ys xs : List A) {z : A} → Mem z (add ys xs) → Mem z ys ⊎ Mem z xs
    add_of [] xs m = inr m
    add_of (y ∷ ys) xs m =
        elim (insert_of y (add ys xs) m) [
          | inl p ↦ inl (at_head p)
          | inr t ↦ elim (add_of ys xs t) [ inl h ↦ inl (at_tail h) | inr h ↦ inr h ]
        ]

    pub in_add : (ys xs : List A) {z : A} → Mem z ys ⊎ Mem z xs → Mem z (add ys xs)
    in_add [] xs (inl m) = absurd (not-nil m)
    in_add [] xs (inr m) = m
    in_add (y ∷ ys) xs (inl m) =
        elim (cases_cons m) [ inl p ↦ in_insert y (add ys xs) (inl p) | inr t ↦ in_insert y (add ys xs) (inr (in_add ys xs (inl t))) ]
    in_add (y ∷ ys) xs (inr m) = in_insert y (add ys xs) (inr (in_add ys xs (inr m)))

    pub add_distinct : (ys xs : List A) → Distinct xs → Distinct (add ys xs)
    add_distinct [] xs d = d
    add_distinct (y ∷ ys) xs d = insert_distinct y (add ys xs) (add_distinct ys xs d)
