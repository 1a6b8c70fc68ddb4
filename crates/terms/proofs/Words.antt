-- What the code's `<<`, `&`, `!`, `trailing_zeros` and `count_ones` do to class sets.
use Rattle.std.proofs.Common.{◌≡◌, ℕ, zero, suc, ◌+◌, ◌-◌, ◌*◌, ◌/◌, ◌%◌, ◌^◌, ◌<◌, ◌≤◌, Bool, cond, not, ◌&&◌, eqb, ltb, Decides, sym, refl, ap, ◌∙◌, inl, inr, add_comm, one-add, arith, pow_pos}
use lib.Dec.{leb-suc-suc, leb-suc-zero}
use lib.Bits.{bit_and}
use lib.Pow.{mod-pow-add}
use lib.Count.{ones, ones_cat, count_trailing_zeros, under}
use Rattle.std.proofs.lemmas.Bool.{eqb-true, eq-eqb, cases_eq, and_parts, and_from}
use Rattle.std.proofs.lemmas.Nat.{mod_below, one_shl}
use Rattle.std.proofs.lemmas.Bool.Decides.{nat_tests}
use Rattle.terms.specs.Sets.{has, Has, only, without, Within, Meet, Lowest, count_below, size}
use Rattle.terms.proofs.Masks.{has_zero, has_suc, has_none, has_both, has_only, has_without, odd_has, has_odd, half_has, has_half, ext, highest_of, some_nonzero, past_none, only_below, only_has, only_is, top_of}

-- `1 << a`
pub shift_only : (a : ℕ) → a < 64 → (1 * 2 ^ a) % 2 ^ 64 ≡ only a
unfolding only
shift_only a h = one_shl a 64 h

-- `s & (1 << a) != 0`
pub test_only : (s a : ℕ) → not (eqb (bit_and s (only a)) 0) ≡ has s a
test_only s a = elim (cases_eq (bit_and s (only a)) 0) [
  | inl e ↦ let h : has zero a ≡ has s a && has (only a) a = rw e at (has_both s (only a) a) in grind (arith, nat_tests, only_has, has_none)
  | inr n ↦ let p = top_of (bit_and s (only a)) (omega arith) in
      let b = has_both s (only a) p.0 in
      let h : Has s p.0 × Has (only a) p.0 = and_parts _ _ (sym b ∙ p.1.0) in grind (arith, nat_tests, only_is)
]

-- `!t` at k bits
has_not : (k t a : ℕ) → t < 2 ^ k → has ((2 ^ k - 1) - t) a ≡ ltb a k && not (has t a)
has_not zero t a h =
    let none : 0 - t ≡ 0 = omega arith in
    ap (λ (n : ℕ). has n a) none ∙ has_none a ∙ sym (ap (λ (b : Bool). b && not (has t a)) (leb-suc-zero a))
has_not (suc k) t zero h =
    let low : ((2 ^ suc k - 1) - t) % 2 ≡ 1 - t % 2 = omega (arith, pow_pos k) in
    simp has_zero (grind (arith, nat_tests))
has_not (suc k) t (suc a) h =
    let half : ((2 ^ suc k - 1) - t) / 2 ≡ (2 ^ k - 1) - t / 2 = omega (arith, pow_pos k) in
    simp (has_suc, leb-suc-suc) (rw half (has_not k (t / 2) a (omega arith)))

-- `s & !(1 << a)`
pub and_not_only : (k s a : ℕ) → s < 2 ^ k → a < k → bit_and s ((2 ^ k - 1) - only a) ≡ without s a
and_not_only k s a h l =
    ext _ _ (λ b.
    let all = has_not k (only a) b (only_below k a l) in
    let past = past_none k s b h in
    simp (has_both, has_without) (grind (arith, nat_tests, has_only)))

-- `s & t != 0`
pub meets_test : (s t : ℕ) → Decides (not (eqb (bit_and s t) 0)) (Meet s t)
meets_test s t = (
  λ e. elim (highest_of (bit_and s t)) [ inl z ↦ absurd (grind (arith, nat_tests)) | inr p ↦ let q = has_both s t p.0 in (p.0, grind arith, grind arith) ],
  λ p. let q = some_nonzero (bit_and s t) p.0 (has_both s t p.0 ∙ and_from _ _ p.1 p.2) in grind (arith, nat_tests),
)

-- `s & t == s`
pub subset_test : (s t : ℕ) → Decides (eqb (bit_and s t) s) (Within s t)
subset_test s t = (
  λ e a h. let z : has s a ≡ has s a && has t a = rw (eqb-true (bit_and s t) s e) at (has_both s t a) in grind arith,
  λ f. eq-eqb _ s (ext _ _ (λ a. let g = f a in rw (has_both s t a) (grind arith))),
)

-- `trailing_zeros` at k bits
pub trailing_lowest : (k s : ℕ) → zero < s → s < 2 ^ k → Lowest s (count_trailing_zeros k s) × (count_trailing_zeros k s < k)
unfolding count_trailing_zeros
trailing_lowest zero s p l = absurd (omega arith)
trailing_lowest (suc k) s p l = go (s % 2) refl (λ even. trailing_lowest k (s / 2) (omega arith) (omega arith))
  where
    above : (t b : ℕ) → s % 2 ≡ 0 → ((c : ℕ) → Has (s / 2) c → t ≤ c) → Has s b → suc t ≤ b
    above t zero even low h = absurd (omega (arith, has_odd s h))
    above t (suc b) even low h = omega (arith, low b (has_half s b h))

    go : (d : ℕ) → s % 2 ≡ d → (s % 2 ≡ 0 → Lowest (s / 2) (count_trailing_zeros k (s / 2)) × (count_trailing_zeros k (s / 2) < k)) → Lowest s (under d (count_trailing_zeros k (s / 2))) × (under d (count_trailing_zeros k (s / 2)) < suc k)
    go zero e rest = let q = rest e in ((half_has s _ q.0.0, λ b h. above _ b e q.0.1 h), omega (arith, q.1))
    go (suc zero) e rest = ((odd_has s e, λ b h. omega arith), omega arith)
    go (suc (suc d)) e rest = absurd (omega arith)

-- `count_ones`
one_count : (d : ℕ) → d < 2 → ones d ≡ cond (eqb d 1) 1 0
unfolding ones
one_count zero h = refl
one_count (suc zero) h = refl
one_count (suc (suc d)) h = absurd (omega arith)

count_below_lem : (k s : ℕ) → ones (s % 2 ^ k) ≡ count_below s k
unfolding count_below has ones
count_below_lem zero s = let none : s % 1 ≡ 0 = omega arith in ap ones none
count_below_lem (suc k) s =
    let parts : s % 2 ^ suc k ≡ (s / 2 ^ k % 2) * 2 ^ k + s % 2 ^ k = ap (λ (n : ℕ). s % 2 ^ n) (sym (one-add k)) ∙ mod-pow-add s 1 k in
    let high = one_count (s / 2 ^ k % 2) (omega arith) in
    let low = count_below_lem k s in
    let cat = ones_cat k (s / 2 ^ k % 2) (s % 2 ^ k) (mod_below s (2 ^ k) (pow_pos k)) in
    ap ones parts ∙ cat ∙ add_comm (ones (s / 2 ^ k % 2)) (ones (s % 2 ^ k)) ∙ (λ i. low i + high i)

pub count_size : (s : ℕ) → s < 2 ^ 64 → ones s ≡ size s
unfolding size
count_size s h = let whole : s % 2 ^ 64 ≡ s = omega arith in ap ones (sym whole) ∙ count_below_lem 64 s
