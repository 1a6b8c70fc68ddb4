use Rattle.models.proofs.Marking.{Gathered}
use Rattle.models.proofs.links.link_word.Given as goal

abbrev pub invariant-loop-from : goal.invariant-loop-from
invariant-loop-from l = Gathered l.reach.rows l.links.words l.role l.block l.from l.word.bits
