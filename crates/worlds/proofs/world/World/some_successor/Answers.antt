use Rattle.std.proofs.Common.{ℕ, rules}
use borrow.Author.Tests.{tests}
use Rattle.worlds.specs.Worlds.{Linked, In}
use Rattle.worlds.proofs.Ranges.{decides_some}
use Rattle.worlds.proofs.world.World.some_successor.Goals as goal

pub returns : goal.returns
returns g c =
    let w = g.Self.World.meaning c.args.self.now in
    let P : ℕ → Type 0 = λ f. Linked w c.args.role c.args.element f × In w f c.args.class in
    let d = decides_some w.size P (cc) c.any.new.self _ c.any.result c.any.ensures.ran (λ x q k. search (rules, tests)) (λ x q k. search (rules, tests)) in
    (λ e. (let s = d.0 e in (s.0, (s.1, s.2.0), s.2.1)), λ s. d.1 (s.0, s.1.0, (s.1.1, s.2)))
