-- One mark more.
use Rattle.std.proofs.Common.{◌≡◌, ℕ, ◌+◌, ◌*◌, ◌/◌, ◌%◌, ◌<◌, Bool, true, false, ◌||◌, eqb, List, length, get_or, set, replicate, refl, sym, ap, subst, ◌∙◌, inl, inr, arith}
use borrow.Author.Tests.{clash}
use mathlib.Core.Bool.{or_comm}
use Rattle.std.specs.Bool.{MatchBool, Decides}
use Rattle.std.specs.List.{AllWithin, HoldsAt, zip}
use Rattle.std.proofs.lemmas.Slice.Zip.{get_or-zip, length-zip}
use Rattle.std.proofs.lemmas.List.{get_or-set_same, get_or-set_other, get_or_past}
use Rattle.std.proofs.lemmas.Bool.{cases_eq, cases_lt, eq-eqb, ne_eqb}
use Rattle.terms.specs.Sets.{has, only, join, Within}
use Rattle.terms.proofs.Masks.{below_of, has_none, has_join, has_only, zero_none}
use Rattle.worlds.specs.Entries.{marked, BitsWithin}
use Rattle.worlds.proofs.Zeros.{all_alike}

pub marked_none : (n j : ℕ) → marked (replicate n 0) j ≡ false
marked_none n j = ap (λ s. has s (j % 64)) (all_alike n (j / 64) 0) ∙ has_none (j % 64)

-- numbers with one quotient are equal where their remainders are
same_rest : (j n : ℕ) → j / 64 ≡ n / 64 → eqb (j % 64) (n % 64) ≡ eqb j n
same_rest j n same = elim (cases_eq j n) [
  | inl q ↦ eq-eqb (j % 64) (n % 64) (ap (λ x. x % 64) q) ∙ sym (eq-eqb j n q)
  | inr other ↦ ne_eqb (j % 64) (n % 64) (λ e. other (omega arith)) ∙ sym (ne_eqb j n other)
]

pub marked_more : (ws : List ℕ) (n j w : ℕ) → n / 64 < length ws → w ≡ join (get_or ws (n / 64) 0) (only (n % 64)) → marked (set ws (n / 64) w) j ≡ (eqb j n || marked ws j)
marked_more ws n j w l e = elim (cases_eq (j / 64) (n / 64)) [
  | inl same ↦
      let word : get_or (set ws (n / 64) w) (j / 64) 0 ≡ join (get_or ws (j / 64) 0) (only (n % 64)) =
      ap (λ i. get_or (set ws (n / 64) w) i 0) same ∙ get_or-set_same ws (n / 64) w 0 l ∙ e ∙ ap (λ i. join (get_or ws i 0) (only (n % 64))) (sym same) in
      let bit : has (only (n % 64)) (j % 64) ≡ eqb j n = has_only (n % 64) (j % 64) ∙ same_rest j n same in
      ap (λ s. has s (j % 64)) word ∙ has_join (get_or ws (j / 64) 0) (only (n % 64)) (j % 64) ∙ or_comm (has (get_or ws (j / 64) 0) (j % 64)) (has (only (n % 64)) (j % 64))
      ∙ ap (λ (b : Bool). b || marked ws j) bit
  | inr other ↦
      let word : get_or (set ws (n / 64) w) (j / 64) 0 ≡ get_or ws (j / 64) 0 = get_or-set_other ws (n / 64) (j / 64) w 0 other in
      let apart : eqb j n ≡ false = ne_eqb j n (λ q. other (ap (λ x. x / 64) q)) in
      ap (λ s. has s (j % 64)) word ∙ sym (ap (λ (b : Bool). b || marked ws j) apart)
]

-- the bits of a word of 64
pub bits_within : (w v : ℕ) → w < 18446744073709551616 → (r : Bool) → Decides r (Within w v) → Decides r (BitsWithin w v)
bits_within w v l r d = (λ e b k m. d.0 e b m, λ h. d.1 (λ b m. h b (below_of 64 w b l m) m))

-- marks by the pairs of words that hold them
module _ (ws vs : List ℕ) where
  abbrev Pair : ℕ × ℕ → Type 0
  Pair p = BitsWithin p.0 p.1

  abbrev Apart : ℕ × ℕ → Type 0
  Apart p = Pair p → ⊥

  marks_within : ((j : ℕ) → marked ws j ≡ true → marked vs j ≡ true) → (i : ℕ) → BitsWithin (get_or ws i 0) (get_or vs i 0)
  marks_within h i b l m =
      let quotient : (i * 64 + b) / 64 ≡ i = omega arith in
      let rest : (i * 64 + b) % 64 ≡ b = omega arith in
      sym (λ t. has (get_or vs (quotient t) 0) (rest t)) ∙ h (i * 64 + b) ((λ t. has (get_or ws (quotient t) 0) (rest t)) ∙ m)

  pub subset_by_words : (n : ℕ) → length ws ≡ n → length vs ≡ n → (r : Bool)
      → MatchBool r (AllWithin Pair (zip ws vs) 0 (length (zip ws vs))) ((k : ℕ) × (k < length (zip ws vs)) × HoldsAt Apart (zip ws vs) k)
      → Decides r ((j : ℕ) → marked ws j ≡ true → marked vs j ≡ true)
  subset_by_words n e f true all = (
    λ _ j m. elim (cases_lt (j / 64) n) [
      | inl l ↦ subst Pair (get_or-zip ws vs (j / 64) (0, 0) (omega arith) (omega arith)) (all (j / 64) (0, 0) (omega arith) (omega (arith, length-zip ws vs))) (j % 64) (omega arith) m
      | inr past ↦ absurd (zero_none (j % 64) (sym (ap (λ s. has s (j % 64)) (get_or_past ws (j / 64) 0 (omega arith))) ∙ m))
    ],
    λ _. refl,
  )
  subset_by_words n e f false one = (
    λ never. absurd (clash never),
    λ h. absurd (one.2 (0, 0) (subst Pair (sym (get_or-zip ws vs one.0 (0, 0) (omega (arith, one.1, length-zip ws vs)) (omega (arith, one.1, length-zip ws vs)))) (marks_within h one.0))),
  )
