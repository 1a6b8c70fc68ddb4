use Rattle.std.proofs.Common.{◌%◌, ap, ◌∙◌, arith}
use Rattle.terms.specs.Sets.{only, join}
use Rattle.worlds.proofs.Marking.{marked_more}
use Rattle.worlds.proofs.marks.Marks.set.Goals as goal

pub returns : goal.returns
returns g c j =
    marked_more c.args.self.now.words c.args.number j c.bits.result (omega arith)
    (c.bits.ensures ∙ c.with.ensures ∙ ap (λ s. join s (only (c.args.number % 64))) (c.from_bits-word.ensures ∙ c.word.ensures))
