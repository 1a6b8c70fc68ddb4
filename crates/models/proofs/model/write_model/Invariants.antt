use Rattle.std.proofs.Common.{◌≡◌}
use Rattle.models.specs.Elements.{live_before, live_in}
use Rattle.models.proofs.Rows.{Drawn}
use Rattle.models.proofs.model.write_model.Given as goal

abbrev pub invariant-loop-slot : goal.invariant-loop-slot
invariant-loop-slot l = (l.size ≡ live_before (live_in l.elements.numbers) l.slot) × Drawn l.elements.contexts.now l.elements.clauses.now (live_in l.elements.numbers) l.reach.rows l.roles l.slot l.initial.model l.model
