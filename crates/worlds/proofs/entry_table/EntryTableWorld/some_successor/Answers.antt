use Rattle.std.proofs.Common.{rules}
use borrow.Author.Tests.{tests}
use Rattle.std.proofs.lemmas.Iterator.Search.{any_from_yields_List}
use Rattle.worlds.proofs.Chaining.{yields_links}
use Rattle.worlds.proofs.Successors.{reaches, some_reaches}
use Rattle.worlds.proofs.entry_table.EntryTableWorld.some_successor.Goals as goal

pub returns : goal.returns
returns c =
    let t = c.args.self.now in
    rw (any_from_yields_List (reaches t.classes.now t.chains.links.now c.args.role c.args.element c.args.class) c.any.new.self _ c.any.result c.any.ensures.ran
    (yields_links _ c.links_of-links.ensures) (λ x b q k. search (rules, tests)))
    (some_reaches t.classes.now t.chains.links.now c.args.role c.args.element t.fit c.args.class)
