-- The laws of class sets held as bit masks.
use Rattle.std.proofs.Common.{◌≡◌, ℕ, zero, suc, ◌+◌, ◌-◌, ◌*◌, ◌/◌, ◌%◌, ◌^◌, ◌<◌, ◌≤◌, min, max, Bool, true, false, cond, not, ◌&&◌, ◌||◌, eqb, ◌⊎◌, sym, refl, ap, ◌∙◌, inl, inr, div-one, one-add, arith, pow_pos, pow_mono, shr-shr}
use mathlib.Core.Bool.{and-true, or_assoc}
use lib.Dec.{eqb-suc-suc, eqb-suc-zero, eqb-zero-suc}
use lib.Bits.{bit_and, bit_or, or_step, and_step, or_shr, and_shr, or_lt, or_self, or_comm, or_zero_l, or_zero_r}
use lib.Pow.{pow-lt}
use lib.Count.{leading_top}
use Rattle.std.proofs.lemmas.Bool.{eqb-true, eq-eqb, ne_eqb, both_ways, cases_Bool, cases_eq, cases_lt, and_right, or_cases, or_left, or_right}
use Rattle.std.proofs.lemmas.Bool.Decides.{nat_tests}
use Rattle.terms.specs.Sets.{has, Has, only, join, without, Highest}

-- ---- one bit at a time

-- the lowest bit
pub has_zero : (s : ℕ) → has s zero ≡ eqb (s % 2) 1
unfolding has
has_zero s = ap (λ (n : ℕ). eqb (n % 2) 1) (div-one s)

-- the bits above it
pub has_suc : (s a : ℕ) → has s (suc a) ≡ has (s / 2) a
unfolding has
has_suc s a = ap (λ (n : ℕ). eqb (n % 2) 1) (ap (λ (k : ℕ). s / 2 ^ k) (sym (one-add a)) ∙ sym (shr-shr s 1 a))

pub odd_has : (s : ℕ) → s % 2 ≡ 1 → Has s zero
odd_has s e = has_zero s ∙ eq-eqb (s % 2) 1 e

pub has_odd : (s : ℕ) → Has s zero → s % 2 ≡ 1
has_odd s h = eqb-true (s % 2) 1 (sym (has_zero s) ∙ h)

pub half_has : (s a : ℕ) → Has (s / 2) a → Has s (suc a)
half_has s a h = has_suc s a ∙ h

pub has_half : (s a : ℕ) → Has s (suc a) → Has (s / 2) a
has_half s a h = sym (has_suc s a) ∙ h

-- ---- what each operation does to one bit

pub has_none : (a : ℕ) → has zero a ≡ false
has_none zero = has_zero zero
has_none (suc a) = has_suc zero a ∙ has_none a

pub has_join : (s t a : ℕ) → has (join s t) a ≡ has s a || has t a
unfolding join
has_join s t zero =
    let odd : bit_or s t % 2 ≡ max (s % 2) (t % 2) = omega (arith, or_step s t) in
    simp has_zero (grind (arith, nat_tests))
has_join s t (suc a) = simp has_suc (rw (or_shr s t 1) (has_join (s / 2) (t / 2) a))

-- the classes in both
pub has_both : (s t a : ℕ) → has (bit_and s t) a ≡ has s a && has t a
has_both s t zero =
    let odd : bit_and s t % 2 ≡ min (s % 2) (t % 2) = omega (arith, and_step s t) in
    simp has_zero (grind (arith, nat_tests))
has_both s t (suc a) = simp has_suc (rw (and_shr s t 1) (has_both (s / 2) (t / 2) a))

pub has_only : (a b : ℕ) → has (only a) b ≡ eqb b a
unfolding only
has_only zero zero = has_zero 1
has_only zero (suc b) = has_suc 1 b ∙ has_none b ∙ sym (eqb-suc-zero b)
has_only (suc a) zero = has_zero (2 ^ suc a) ∙ ne_eqb (2 ^ suc a % 2) 1 (omega arith) ∙ sym (eqb-zero-suc a)
has_only (suc a) (suc b) =
    let half : 2 ^ suc a / 2 ≡ 2 ^ a = omega arith in
    has_suc (2 ^ suc a) b ∙ ap (λ (n : ℕ). has n b) half ∙ has_only a b ∙ sym (eqb-suc-suc b a)

-- a class's own number is not above the set's
pub has_le : (s a : ℕ) → Has s a → 2 ^ a ≤ s
has_le s zero h = omega (arith, has_odd s h)
has_le s (suc a) h = omega (arith, has_le (s / 2) a (has_half s a h))

has_minus : (s a b : ℕ) → Has s a → has (s - 2 ^ a) b ≡ has s b && not (eqb b a)
has_minus s zero zero h =
    let odd : s % 2 ≡ 1 = has_odd s h in
    has_zero (s - 1) ∙ ne_eqb ((s - 1) % 2) 1 (omega arith) ∙ sym (and_right (has s zero) false refl)
has_minus s zero (suc b) h =
    let odd : s % 2 ≡ 1 = has_odd s h in
    let half : (s - 1) / 2 ≡ s / 2 = omega arith in
    simp (has_suc, eqb-suc-zero) (rw half (sym (and-true (has (s / 2) b))))
has_minus s (suc a) zero h =
    let le : 2 ^ suc a ≤ s = has_le s (suc a) h in
    let even : (s - 2 ^ suc a) % 2 ≡ s % 2 = omega arith in
    simp (has_zero, eqb-zero-suc) (rw even (sym (and-true (eqb (s % 2) 1))))
has_minus s (suc a) (suc b) h =
    let half : (s - 2 ^ suc a) / 2 ≡ s / 2 - 2 ^ a = omega arith in
    simp (has_suc, eqb-suc-suc) (rw half (has_minus (s / 2) a b (has_half s a h)))

pub has_without : (s a b : ℕ) → has (without s a) b ≡ has s b && not (eqb b a)
unfolding without
has_without s a b = go (has s a) refl
  where
    go : (t : Bool) → has s a ≡ t → has (cond t (s - 2 ^ a) s) b ≡ has s b && not (eqb b a)
    go true e = has_minus s a b e
    go false e = let p = cases_eq b a in grind (arith, nat_tests)

-- ---- the laws

pub zero_none : (a : ℕ) → Has zero a → ⊥
zero_none a h = both_ways (has zero a) (has_none a) h

pub only_has : (a : ℕ) → Has (only a) a
only_has a = has_only a a ∙ eq-eqb a a refl

pub only_is : (a b : ℕ) → Has (only a) b → b ≡ a
only_is a b h = eqb-true b a (sym (has_only a b) ∙ h)

pub join_l : (s t a : ℕ) → Has s a → Has (join s t) a
join_l s t a h = has_join s t a ∙ or_left (has s a) (has t a) h

pub join_r : (s t a : ℕ) → Has t a → Has (join s t) a
join_r s t a h = has_join s t a ∙ or_right (has s a) (has t a) h

pub join_cases : (s t a : ℕ) → Has (join s t) a → Has s a ⊎ Has t a
join_cases s t a h = or_cases (has s a) (has t a) (sym (has_join s t a) ∙ h)

pub without_keeps : (s a b : ℕ) → Has s b → (b ≡ a → ⊥) → Has (without s a) b
without_keeps s a b h n = grind (arith, nat_tests, has_without)

pub without_of : (s a b : ℕ) → Has (without s a) b → Has s b × (b ≡ a → ⊥)
without_of s a b h = let e = has_without s a b in (grind (arith, nat_tests), λ q. grind (arith, nat_tests))

-- a class of s is a, or is in what is left
pub without_cases : (s a b : ℕ) → Has s b → (b ≡ a) ⊎ Has (without s a) b
without_cases s a b h = elim (cases_eq b a) [ inl e ↦ inl e | inr n ↦ inr (without_keeps s a b h n) ]

-- what `search` and `grind` want for a goal on membership
pub ruleset masks = (zero_none, only_has, only_is, join_l, join_r, join_cases, without_keeps, without_of, without_cases)

pub decide_has : (s a : ℕ) → Has s a ⊎ (Has s a → ⊥)
decide_has s a = elim (cases_Bool (has s a)) [ inl e ↦ inl e | inr e ↦ inr (both_ways (has s a) e) ]

pub not_has : (s a : ℕ) → (Has s a → ⊥) → has s a ≡ false
not_has s a n = elim (cases_Bool (has s a)) [ inl e ↦ absurd (n e) | inr e ↦ e ]

-- ---- equality

-- two sets with the same classes are one number
pub ext : (s t : ℕ) → ((a : ℕ) → has s a ≡ has t a) → s ≡ t
ext s t e = go (s + t) s t (omega arith) (omega arith) e
  where
    go : (k s t : ℕ) → s ≤ k → t ≤ k → ((a : ℕ) → has s a ≡ has t a) → s ≡ t
    go zero s t hs ht e = omega arith
    go (suc k) s t hs ht e =
        let low : eqb (s % 2) 1 ≡ eqb (t % 2) 1 = sym (has_zero s) ∙ e zero ∙ has_zero t in
        let high : s / 2 ≡ t / 2 = go k (s / 2) (t / 2) (omega arith) (omega arith) (λ a. sym (has_suc s a) ∙ e (suc a) ∙ has_suc t a) in
        grind (arith, nat_tests)

pub same_classes : (s t : ℕ) → ((a : ℕ) → Has s a → Has t a) → ((a : ℕ) → Has t a → Has s a) → s ≡ t
same_classes s t f g =
    ext s t (λ a. elim (cases_Bool (has s a)) [ inl e ↦ e ∙ sym (f a e) | inr e ↦ e ∙ sym (not_has t a (λ h. both_ways (has s a) e (g a h))) ])

-- ---- heads and bounds

pub below_of : (k s a : ℕ) → s < 2 ^ k → Has s a → a < k
below_of k s a l h = elim (cases_lt a k) [ inl q ↦ q | inr q ↦ absurd (omega (arith, has_le s a h, pow_mono q)) ]

pub past_none : (k s a : ℕ) → s < 2 ^ k → k ≤ a → has s a ≡ false
past_none k s a l h = not_has s a (λ q. omega (arith, below_of k s a l q))

-- a set between 2 ^ a and twice that has the head a
pub highest_between : (s a : ℕ) → 2 ^ a ≤ s → s < 2 * 2 ^ a → Highest s a
highest_between s a l h = (top s a l h, λ b q. omega (arith, below_of (suc a) s b (omega arith) q))
  where
    top : (s a : ℕ) → 2 ^ a ≤ s → s < 2 * 2 ^ a → Has s a
    top s zero l h = odd_has s (omega arith)
    top s (suc a) l h = half_has s a (top (s / 2) a (omega arith) (omega arith))

lt_two_pow : (n : ℕ) → n < 2 ^ n
lt_two_pow zero = omega arith
lt_two_pow (suc n) = omega (arith, lt_two_pow n)

-- a set that is not empty has a highest class
pub top_of : (s : ℕ) → zero < s → (a : ℕ) × Highest s a × (s < 2 ^ suc a)
top_of s p = let t = leading_top s s p (lt_two_pow s) in (t.0, highest_between s t.0 t.2 (omega (arith, t.3)), t.3)

pub highest_of : (s : ℕ) → (s ≡ zero) ⊎ ((a : ℕ) × Highest s a)
highest_of s = elim (cases_lt zero s) [ inl p ↦ let t = top_of s p in inr (t.0, t.1) | inr z ↦ inl (omega arith) ]

pub highest_unique : (s a b : ℕ) → Highest s a → Highest s b → a ≡ b
highest_unique s a b p q = omega (arith, p.1 b q.0, q.1 a p.0)

-- a set with no class is zero
pub none_zero : (s : ℕ) → ((a : ℕ) → Has s a → ⊥) → s ≡ zero
none_zero s h = elim (highest_of s) [ inl e ↦ e | inr p ↦ absurd (h p.0 p.1.0) ]

pub some_nonzero : (s a : ℕ) → Has s a → s ≡ zero → ⊥
some_nonzero s a h e = zero_none a (rw e at h)

pub lt_of_below : (k s : ℕ) → ((a : ℕ) → Has s a → a < k) → s < 2 ^ k
lt_of_below k s h = elim (cases_lt zero s) [ inl p ↦ let t = top_of s p in omega (arith, t.2, pow_mono (h t.0 t.1.0)) | inr z ↦ omega (arith, pow_pos k) ]

-- ---- what can be decided

-- a test on numbers holds of none below k, or of some number
pub find : (P : ℕ → Bool) (k : ℕ) → ((a : ℕ) → a < k → P a ≡ false) ⊎ ((a : ℕ) × (P a ≡ true))
find P zero = inl (λ a h. absurd (omega arith))
find P (suc k) = go (find P k) (cases_Bool (P k))
  where
    go : ((a : ℕ) → a < k → P a ≡ false) ⊎ ((a : ℕ) × (P a ≡ true)) → (P k ≡ true) ⊎ (P k ≡ false) → ((a : ℕ) → a < suc k → P a ≡ false) ⊎ ((a : ℕ) × (P a ≡ true))
    go (inr p) t = inr p
    go (inl f) (inl e) = inr (k, e)
    go (inl f) (inr e) = inl (λ a h. elim (cases_eq a k) [ inl q ↦ ap P q ∙ e | inr n ↦ f a (omega arith) ])

pub has_lt : (s a : ℕ) → Has s a → a < s
has_lt s a h = omega (arith, has_le s a h, lt_two_pow a)

pub subset_decide : (s t : ℕ) → ((a : ℕ) → Has s a → Has t a) ⊎ ((a : ℕ) × Has s a × (Has t a → ⊥))
subset_decide s t = elim (find (λ a. has s a && not (has t a)) s) [
  | inl f ↦ inl (λ a h. let e = f a (has_lt s a h) in grind arith)
  | inr p ↦ inr (p.0, grind arith, λ h. grind arith)
]

pub meets_decide : (s t : ℕ) → ((a : ℕ) × Has s a × Has t a) ⊎ ((a : ℕ) → Has s a → Has t a → ⊥)
meets_decide s t = elim (find (λ a. has s a && has t a) s) [
  | inl f ↦ inr (λ a h k. let e = f a (has_lt s a h) in grind arith)
  | inr p ↦ inl (p.0, grind arith, grind arith)
]

-- ---- more laws

-- sets below 2 ^ k
pub only_below : (k a : ℕ) → a < k → only a < 2 ^ k
unfolding only
only_below k a h = pow-lt h

pub join_below : (k s t : ℕ) → s < 2 ^ k → t < 2 ^ k → join s t < 2 ^ k
unfolding join
join_below k s t p q = or_lt k s t p q

pub without_le : (s a : ℕ) → without s a ≤ s
unfolding without
without_le s a = grind arith

pub without_lt : (s a : ℕ) → Has s a → without s a < s
unfolding without
without_lt s a h = rw h (omega (arith, has_le s a h, pow_pos a))

-- the algebra
pub join_self : (s : ℕ) → join s s ≡ s
unfolding join
join_self s = or_self s

pub join_comm : (s t : ℕ) → join s t ≡ join t s
unfolding join
join_comm s t = or_comm s t

pub join_none_l : (s : ℕ) → join zero s ≡ s
unfolding join
join_none_l s = or_zero_l s

pub join_none_r : (s : ℕ) → join s zero ≡ s
unfolding join
join_none_r s = or_zero_r s

pub join_assoc : (s t u : ℕ) → join (join s t) u ≡ join s (join t u)
join_assoc s t u = ext _ _ (λ a. simp has_join (or_assoc (has s a) (has t a) (has u a)))

pub without_none : (s a : ℕ) → (Has s a → ⊥) → without s a ≡ s
without_none s a n = same_classes _ _ (λ b h. grind (arith, masks)) (λ b h. grind (arith, masks))

pub without_only : (a : ℕ) → without (only a) a ≡ zero
without_only a = none_zero _ (λ b h. grind (arith, masks))

pub without_back : (s a : ℕ) → Has s a → join (without s a) (only a) ≡ s
without_back s a h = same_classes _ _ (λ b q. grind (arith, masks)) (λ b q. grind (arith, masks))

-- heads
pub only_highest : (a : ℕ) → Highest (only a) a
only_highest a = (only_has a, λ b h. omega (arith, only_is a b h))

pub highest_without : (s a b : ℕ) → Highest s a → Has (without s a) b → b < a
highest_without s a b p h = grind (arith, masks)

pub highest_join : (s t a b : ℕ) → Highest s a → Highest t b → Highest (join s t) (max a b)
highest_join s t a b p q = (grind (arith, masks), λ c h. grind (arith, masks))
