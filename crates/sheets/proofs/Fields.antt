-- Fields as the reader meets them.
use Rattle.std.proofs.Common.{◌≡◌, ℕ, ◌+◌, ◌*◌, ◌/◌, ◌%◌, ◌<◌, ◌≤◌, List, [], ◌∷◌, ◌++◌, length, get_or, drop, refl, ap, ◌∙◌, arith, length-append, length-drop}
use Rattle.sheets.specs.Sheets.{field_of, Short}

front3 : (bs : List ℕ) → 3 ≤ length bs → bs ≡ get_or bs 0 0 ∷ get_or bs 1 0 ∷ get_or bs 2 0 ∷ drop 3 bs
front3 [] h = absurd (omega arith)
front3 (x ∷ []) h = absurd (omega arith)
front3 (x ∷ y ∷ []) h = absurd (omega arith)
front3 (x ∷ y ∷ z ∷ bs) h = refl

pub whole : (bs body rest : List ℕ) → 3 ≤ length bs → get_or bs 1 0 * 256 + get_or bs 2 0 ≡ length body → get_or bs 2 0 < 256 → drop 3 bs ≡ body ++ rest → bs ≡ field_of (get_or bs 0 0) body ++ rest
whole bs body rest l e h d =
    let hi : get_or bs 1 0 ≡ length body / 256 = omega arith in
    let lo : get_or bs 2 0 ≡ length body % 256 / 1 = omega arith in
    front3 bs l ∙ (λ i. get_or bs 0 0 ∷ hi i ∷ lo i ∷ d i)

pub cut : (bs : List ℕ) (n : ℕ) → get_or bs 1 0 * 256 + get_or bs 2 0 ≡ n → length (drop 3 bs) < n → Short bs
cut bs n e h t b rest w =
    let hi = ap (λ l. get_or l 1 0) w in
    let lo = ap (λ l. get_or l 2 0) w in
    let all = ap length w in
    omega (arith, length-append b rest, length-drop 3 bs)
