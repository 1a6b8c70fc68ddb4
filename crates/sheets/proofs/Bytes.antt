-- Numbers in bytes, high byte first.
use Rattle.std.proofs.Common.{◌≡◌, ℕ, zero, suc, ◌+◌, ◌*◌, ◌/◌, ◌%◌, ◌^◌, ◌<◌, List, [], ◌∷◌, length, refl, ap, ◌∙◌, pow-suc, arith}
use Rattle.std.proofs.lemmas.Nat.{div-add-mod', mod_below}
use Rattle.sheets.specs.Sheets.{bytes_of}

-- what bytes are worth, high byte first
abbrev pub value : List ℕ → ℕ
value [] = 0
value (b ∷ bs) = b * 256 ^ length bs + value bs

length_bytes_of : (n x : ℕ) → length (bytes_of n x) ≡ n
length_bytes_of zero x = refl
length_bytes_of (suc n) x = ap suc (length_bytes_of n (x % 256 ^ n))

pow256 : (n : ℕ) → 0 < 256 ^ n
pow256 zero = omega arith
pow256 (suc n) = rw pow-suc (omega (arith, pow256 n))

-- the first byte, where the rest is read back
value_step : (n x : ℕ) → value (bytes_of n (x % 256 ^ n)) ≡ x % 256 ^ n → value (bytes_of (suc n) x) ≡ x
value_step n x e =
    ap (λ k. x / 256 ^ n * 256 ^ k + value (bytes_of n (x % 256 ^ n))) (length_bytes_of n (x % 256 ^ n))
    ∙ ap (λ v. x / 256 ^ n * 256 ^ n + v) e ∙ div-add-mod' x (256 ^ n)

value_under : (n x : ℕ) → x < 256 ^ n → value (bytes_of n x) ≡ x
value_under zero x h = omega arith
value_under (suc n) x h = value_step n x (value_under n (x % 256 ^ n) (mod_below x (256 ^ n) (pow256 n)))

-- a number is read back from its bytes, where there is one or more
pub value_bytes_of : (n x : ℕ) → value (bytes_of (suc n) x) ≡ x
value_bytes_of n x = value_step n x (value_under n (x % 256 ^ n) (mod_below x (256 ^ n) (pow256 n)))
