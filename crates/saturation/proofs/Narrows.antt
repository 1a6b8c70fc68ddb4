-- A set of at most three classes has none left when its three highest are taken out.
use Rattle.std.proofs.Common.{◌≡◌, ℕ, zero, suc, ◌+◌, ◌<◌, ◌≤◌, cond, sym, ap, ◌∙◌, subst, ⊎_elim, le_of_suc-le-suc, eq-or-lt_of_le, arith}
use Rattle.terms.specs.Sets.{Has, without, Highest, count_below, size}
use Rattle.terms.proofs.Masks.{without_of, none_zero, highest_without}

count_more : (s a b : ℕ) → a ≤ b → count_below s a ≤ count_below s b
unfolding count_below
count_more s a zero l = let e : a ≡ zero = omega arith in rw e (omega arith)
count_more s a (suc b) l = ⊎_elim (λ e. rw e (omega arith)) (λ m. let h = count_more s a b (le_of_suc-le-suc m) in omega arith) (eq-or-lt_of_le l)

count_has : (s a : ℕ) → Has s a → count_below s (suc a) ≡ count_below s a + 1
unfolding count_below
count_has s a h = ap (λ b. count_below s a + cond b 1 0) h

-- one class above others counts one more
count_above : (s a b n : ℕ) → Has s a → b < a → n ≤ count_below s (suc b) → n + 1 ≤ count_below s (suc a)
count_above s a b n h l m = let e = count_has s a h in let k = count_more s (suc b) a (omega arith) in omega arith

three_left : (s a b c : ℕ) → a < 64 → size s ≤ 3 → Highest s a → Highest (without s a) b → Highest (without (without s a) b) c → without (without (without s a) b) c ≡ zero
unfolding size
three_left s a b c below few first second third = none_zero _ none
  where
    none : (d : ℕ) → Has (without (without (without s a) b) c) d → ⊥
    none d h =
        let in_c = (without_of _ c d h).0 in
        let in_b = (without_of _ b d in_c).0 in
        let in-s = (without_of _ a d in_b).0 in
        let c_in = (without_of _ b c third.0).0 in
        let one : 1 ≤ count_below s (suc d) = let e = count_has s d in-s in omega arith in
        let two = count_above s c d 1 (without_of _ a c c_in).0 (highest_without _ c d third h) one in
        let three = count_above s b c 2 (without_of _ a b second.0).0 (highest_without _ b c second third.0) two in
        let four = count_above s a b 3 first.0 (highest_without _ a b first second.0) three in
        let all = count_more s (suc a) 64 (omega arith) in
        omega arith

-- the same, where the sets have names
pub none_left : (s a b c O T : ℕ) → a < 64 → size s ≤ 3 → O ≡ without s a → T ≡ without O b → Highest s a → Highest O b → Highest T c → zero ≡ without T c
none_left s a b c O T below few first second h g f =
    let e : T ≡ without (without s a) b = second ∙ ap (λ z. without z b) first in
    sym (ap (λ z. without z c) e ∙ three_left s a b c below few h (subst (λ z. Highest z b) first g) (subst (λ z. Highest z c) e f))
