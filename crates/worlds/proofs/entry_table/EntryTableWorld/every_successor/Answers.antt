use Rattle.std.proofs.Common.{rules}
use borrow.Author.Tests.{tests}
use Rattle.std.proofs.lemmas.Iterator.Search.{all_from_yields_List}
use Rattle.worlds.proofs.Chaining.{yields_links}
use Rattle.worlds.proofs.Successors.{stays, every_stays}
use Rattle.worlds.proofs.entry_table.EntryTableWorld.every_successor.Goals as goal

pub returns : goal.returns
returns c =
    let t = c.args.self.now in
    rw (all_from_yields_List (stays t.classes.now t.chains.links.now c.args.role c.args.element c.args.class) c.all.new.self _ c.all.result c.all.ensures.ran
    (yields_links _ c.links_of-links.ensures) (λ x b q k. search (rules, tests)))
    (every_stays t.classes.now t.chains.links.now c.args.role c.args.element t.fit c.args.class)
