use Rattle.std.proofs.Common.{below_more}
use Rattle.worlds.specs.Worlds.{Keeps}
use Rattle.worlds.proofs.audit.lowest_breaking.Goals as goal

pub loop-element-preserved : goal.loop-element-preserved
loop-element-preserved g c =
    below_more (λ d. Keeps (g.W.World.meaning c.args.world.now) d c.args.axiom) c.loop-element.element c.loop-element.invariant (c.keeps.ensures.0 c.if-not-keeps.false)
