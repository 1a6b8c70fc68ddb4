use Rattle.std.proofs.Common.{replicate, ap, ◌∙◌}
use Rattle.std.proofs.lemmas.List.{length-replicate}
use Rattle.std.proofs.Math.ListN.{get_or-map}
use Rattle.worlds.specs.Slots.{number_in}
use Rattle.worlds.proofs.Zeros.{all_alike}
use Rattle.worlds.proofs.chains.Numbers.new.Goals as goal

pub invariant_of-result : goal.invariant_of-result
invariant_of-result g c = record { ok = length-replicate g.row.N _ }

pub returns : goal.returns
returns g c j = get_or-map number_in (replicate g.row.N 0) j 0 ∙ ap number_in (all_alike g.row.N j 0)
