use Rattle.std.proofs.Common.{ℕ, ◌<◌}
use Rattle.worlds.specs.Worlds.{Keeps}
use Rattle.worlds.proofs.audit.lowest_breaking.Given as goal

abbrev pub invariant-loop-element : goal.invariant-loop-element
invariant-loop-element g l = (d : ℕ) → d < l.element → Keeps (g.W.World.meaning l.world) d l.axiom
