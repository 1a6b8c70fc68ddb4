-- How long the pieces of a line are.
use Rattle.std.proofs.Common.{◌≡◌, ℕ, ◌+◌, ◌/◌, ◌^◌, ◌<◌, ◌≤◌, length, decimal, ap, ◌∙◌, arith, length-append}
use Rattle.std.proofs.lemmas.Fmt.{decimal_digit, decimal_step, length-decimal-le}
use Rattle.std.proofs.lemmas.List.{length_push}
use Rattle.terms.specs.declared.refusals.Fault.{Fault}
use Rattle.terms.specs.Refusals.{number}
use Rattle.lines.specs.Lines.{refusal_bytes}

pub length_one_digit : (n : ℕ) → n < 10 → length (decimal n) ≡ 1
length_one_digit n h = ap length (decimal_digit n h)

pub length_more_digits : (n : ℕ) → 10 ≤ n → n < 2 ^ 64 → length (decimal n) ≡ length (decimal (n / 10)) + 1
length_more_digits n h small = ap length (decimal_step n h small) ∙ length_push (decimal (n / 10)) _

pub short_decimal : (n : ℕ) → n < 2 ^ 64 → length (decimal n) ≤ 20
short_decimal n small = length-decimal-le 20 n (omega arith) (omega arith) small

pub length_refusal : (f : Fault) → length (refusal_bytes f) ≡ length (decimal (number f.kind)) + (length (decimal f.place) + 13)
length_refusal f = simp length-append (omega arith)
