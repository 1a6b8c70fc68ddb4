use Rattle.std.proofs.Common.{ℕ, rules}
use borrow.Author.Tests.{tests}
use Rattle.worlds.specs.Worlds.{Linked}
use Rattle.worlds.proofs.Ranges.{decides_every}
use Rattle.worlds.proofs.world.World.successors_within.Goals as goal

pub returns : goal.returns
returns g c =
    let w = g.Self.World.meaning c.args.self.now in
    let P : ℕ → Type 0 = λ f. Linked w c.args.sub c.args.element f → Linked w c.args.sup c.args.element f in
    let d = decides_every w.size P (cc) c.all.new.self _ c.all.result c.all.ensures.ran (λ x q k. search (rules, tests)) (λ x q k. search (rules, tests)) in
    (λ e f s. d.0 e f s.0 s.1, λ h. d.1 (λ f l m. h f (l, m)))
