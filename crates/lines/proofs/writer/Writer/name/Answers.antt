use Rattle.std.proofs.Common.{◌+◌, ◌<◌, [], ◌∷◌, ◌++◌, length, get_or, take, sym, ap, ◌∙◌, arith}
use Rattle.std.proofs.lemmas.List.{take_more}
use Rattle.sources.specs.Meanings.{name_of}
use Rattle.lines.proofs.Writing.{and_then, writes_same, unwrapped}
use Rattle.lines.proofs.writer.Writer.name.Goals as goal

pub loop-i-preserved : goal.loop-i-preserved
loop-i-preserved g c =
    let name = name_of (g.S.Source.meaning c.args.source.now) c.args.class in
    let i = c.loop-i.i in
    let long = unwrapped c.name_len.result c.unwrap-i-end.result (length name) c.unwrap-i-end.ensures (c.name_len.ensures.there c.requires.there) in
    let within : i < length name = omega arith in
    let byte = unwrapped c.name_byte.result c.unwrap.result (get_or name i 0) c.unwrap.ensures (c.name_byte.ensures.there c.requires.there within) in
    writes_same (take (i + 1) name) (ap (λ b. take i name ++ b ∷ []) byte ∙ sym (take_more name i 0 within)) (and_then c.loop-i.invariant c.byte.ensures)
