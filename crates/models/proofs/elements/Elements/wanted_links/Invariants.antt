use Rattle.models.specs.Elements.{live_in}
use Rattle.models.proofs.Marking.{Pointed}
use Rattle.models.proofs.elements.Elements.wanted_links.Given as goal

abbrev pub invariant-loop-clause : goal.invariant-loop-clause
invariant-loop-clause l = Pointed l.self.contexts.now l.self.clauses.now (live_in l.self.numbers) l.element.slot l.element.classes.bits l.clause-index l.links.words
