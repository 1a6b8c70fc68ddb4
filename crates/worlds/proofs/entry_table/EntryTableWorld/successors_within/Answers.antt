use Rattle.std.proofs.Common.{sym, ◌∙◌, arith}
use Rattle.worlds.proofs.Joins.{any_join}
use Rattle.worlds.proofs.entry_table.EntryTableWorld.successors_within.Goals as goal

pub returns : goal.returns
returns c =
    let t = c.args.self.now in (
      λ e f s. sym (c.successors-outer.ensures f) ∙ c.is_subset.ensures.0 e f (c.successors-inner.ensures f ∙ s.1),
      λ h. c.is_subset.ensures.1 (λ f m.
          let linked = sym (c.successors-inner.ensures f) ∙ m in
          let q = any_join t.chains.links.now c.args.sub c.args.element f linked in
          c.successors-outer.ensures f ∙ h f (omega (arith, (t.fit q.0 q.1.there).2, q.1.to_is), linked)),
    )
