use Rattle.std.proofs.Common.{◌≡◌, ◌+◌, ◌%◌, ◌<◌, [], ◌∷◌, length, decimal, sym, ap, ◌∙◌, subst, arith}
use Rattle.std.proofs.lemmas.Fmt.{decimal_digit, decimal_step}
use Rattle.lines.specs.Writing.{Writes}
use Rattle.lines.proofs.Writing.{and_then, writes_same}
use Rattle.lines.proofs.Lengths.{length_one_digit, length_more_digits}
use Rattle.lines.proofs.writer.Writer.+decimal.Goals as goal
use Rattle.lines.proofs.writer.Writer.+decimal.Goals.{then-number-ge10, else-number-ge10}

pub decimal-requires : goal.decimal-requires
decimal-requires t c = (omega arith, omega (arith, length_more_digits c.args.number (omega arith) (omega arith)))

pub byte-requires : goal.byte-requires
byte-requires t c =
    elim c.if-number-ge10.branch [
      | then-number-ge10 w ↦
          let p = w.decimal.ensures in
          subst (λ v. v.place < length v.buffer.now) (sym w.self-is) (omega (arith, p.ends, p.size, length_more_digits c.args.number (omega arith) (omega arith)))
      | else-number-ge10 w ↦
          subst (λ v. v.place < length v.buffer.now) (sym w.self-is) (omega (arith, length_one_digit c.args.number (omega arith)))
    ]

pub returns : goal.returns
returns t c =
    let digit = c.byte.ensures in
    elim c.if-number-ge10.branch [
      | then-number-ge10 w ↦
          writes_same (decimal c.args.number) (sym (decimal_step c.args.number (omega arith) (omega arith)))
          (and_then w.decimal.ensures (subst (λ v. Writes v ((48 + c.args.number % 10) ∷ []) c.byte.new.self) w.self-is digit))
      | else-number-ge10 w ↦
          let only : c.args.number % 10 ≡ c.args.number = omega arith in
          writes_same (decimal c.args.number) (ap (λ d. (48 + d) ∷ []) only ∙ sym (decimal_digit c.args.number (omega arith)))
          (subst (λ v. Writes v ((48 + c.args.number % 10) ∷ []) c.byte.new.self) w.self-is digit)
    ]
