use Rattle.std.proofs.Common.{ℕ, ◌<◌, get_or}
use Rattle.terms.specs.Axioms.{blank}
use Rattle.worlds.specs.Worlds.{Holds}
use Rattle.worlds.proofs.audit.audit.Given as goal

abbrev pub invariant-loop-number : goal.invariant-loop-number
invariant-loop-number g l = (j : ℕ) → j < l.number → Holds (g.W.World.meaning l.world) (get_or (g.S.Source.meaning l.source).axioms j blank)
