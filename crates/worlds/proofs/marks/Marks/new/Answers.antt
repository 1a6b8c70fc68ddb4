use Rattle.std.proofs.lemmas.List.{length-replicate}
use Rattle.worlds.proofs.Marking.{marked_none}
use Rattle.worlds.proofs.marks.Marks.new.Goals as goal

pub invariant_of-result : goal.invariant_of-result
invariant_of-result g c = record { ok = length-replicate g.row.N _ }

pub returns : goal.returns
returns g c = marked_none g.row.N
