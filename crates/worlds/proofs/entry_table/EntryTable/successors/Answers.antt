use Rattle.std.proofs.Common.{length, sym, ap, subst, ◌∙◌, map-id, arith}
use Rattle.std.specs.List.{list_any}
use Rattle.std.proofs.lemmas.Iterator.Consumers.{YieldsList-turn, YieldsList-end}
use Rattle.worlds.specs.Entries.{Fits, links_from}
use Rattle.worlds.proofs.Chaining.{each_from, yields_links}
use Rattle.worlds.proofs.Successors.{leads, leads_linked}
use Rattle.worlds.proofs.entry_table.EntryTable.successors.Goals as goal

pub set-requires : goal.set-requires
set-requires c =
    let t = c.args.self.now in
    let xs = t.chains.links.now in
    let link = c.in-Some.link in
    let turn = YieldsList-turn (yields_links (links_from xs c.args.element (length xs)) (cc)) c.loop-link.yielded _ c.loop-link.yielded_by _ c.next.new.self link c.in-Some.is c.next.ensures.steps in
    let fits = subst (Fits (length t.classes.now)) (sym turn.1) (each_from xs (Fits (length t.classes.now)) c.args.element (length xs) (length c.loop-link.yielded) link t.fit turn.0) in
    (omega arith, omega (arith, fits.2, t.sized.1))

pub returns : goal.returns
returns c f =
    let t = c.args.self.now in
    let xs = t.chains.links.now in
    let end = YieldsList-end (yields_links (links_from xs c.args.element (length xs)) (cc)) c.loop-link.yielded _ c.loop-link.yielded_by _ c.next.new.self c.in-None.is c.next.ensures.steps in
    c.loop-link.invariant f ∙ ap (list_any (leads c.args.role f)) (sym (map-id c.loop-link.yielded) ∙ end.0) ∙ leads_linked xs c.args.role c.args.element f
