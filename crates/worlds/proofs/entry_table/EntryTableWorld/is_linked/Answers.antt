use Rattle.std.proofs.Common.{◌∙◌, rules}
use borrow.Author.Tests.{tests}
use Rattle.std.proofs.lemmas.Iterator.Search.{any_from_yields_List}
use Rattle.worlds.proofs.Chaining.{yields_links}
use Rattle.worlds.proofs.Successors.{leads, leads_linked}
use Rattle.worlds.proofs.entry_table.EntryTableWorld.is_linked.Goals as goal

pub returns : goal.returns
returns c =
    let t = c.args.self.now in
    any_from_yields_List (leads c.args.role c.args.to) c.any.new.self _ c.any.result c.any.ensures.ran
    (yields_links _ c.links_of-links.ensures) (λ x b q k. search (rules, tests))
    ∙ leads_linked t.chains.links.now c.args.role c.args.from c.args.to
