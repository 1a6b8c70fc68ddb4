use Rattle.models.proofs.Marking.{Filled}
use Rattle.models.proofs.elements.Elements.write_row.Given as goal

abbrev pub invariant-loop-at : goal.invariant-loop-at
invariant-loop-at l = Filled l.reach.rows l.links.words l.at l.word-items
