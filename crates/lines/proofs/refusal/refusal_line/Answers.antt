use Rattle.std.proofs.Common.{◌++◌, codes, decimal, ◌∙◌, rules, arith}
use Rattle.terms.specs.Refusals.{number}
use Rattle.lines.specs.Lines.{feed, refusal_bytes}
use Rattle.lines.specs.Writing.{Writes}
use Rattle.lines.proofs.Writing.{and_then, writes_same, from_start, refusal_pieces}
use Rattle.lines.proofs.Lengths.{short_decimal, length_refusal}
use Rattle.lines.proofs.refusal.refusal_line.Goals as goal

pub returns : goal.returns
returns c =
    let f = c.args.fault in
    let n = c.from.result in
    let is = c.from.ensures ∙ c.number.ensures.value in
    let pieces : Writes c.new-line.result (codes "refused " ++ (decimal n ++ (codes " at " ++ (decimal f.place ++ feed)))) c.bytes-3.new.self =
    and_then c.bytes.ensures (and_then c.decimal.ensures (and_then c.bytes-2.ensures (and_then c.decimal-2.ensures c.bytes-3.ensures))) in
    let line = writes_same (refusal_bytes f) (refusal_pieces f n is) pieces in
    record {
      gives = (
        search rules,
        (omega (arith, line.ends), omega (arith, line.ends, length_refusal f, short_decimal (number f.kind) (omega arith), short_decimal f.place (omega arith))),
      );
      after = search rules ∙ from_start (omega arith) (search rules) line;
    }
