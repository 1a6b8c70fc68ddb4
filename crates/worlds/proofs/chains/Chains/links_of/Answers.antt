use Rattle.std.proofs.Common.{◌≡◌, get_or, sym, ap, ◌∙◌, rules}
use Rattle.std.proofs.Math.ListN.{get_or-map}
use Rattle.worlds.specs.Entries.{chain}
use Rattle.worlds.specs.Slots.{number_in, numbers_in}
use Rattle.worlds.proofs.Slots.{length_numbers}
use Rattle.worlds.proofs.Chaining.{chain_starts, chain_latest, latest_below}
use Rattle.worlds.proofs.chains.Chains.links_of.Goals as goal

pub invariant_of-result : goal.invariant_of-result
invariant_of-result c =
    let t = c.args.self.now in
    let read : c.unwrap_or.result ≡ get_or t.last.items c.args.element 0 = search rules in
    let starts = ap number_in read ∙ sym (get_or-map number_in t.last.items c.args.element 0) ∙ chain_starts t.links.now (numbers_in t.last.items) c.args.element (length_numbers t.last.items ∙ t.last.ok) t.lasts t.starts in
    record { ok = λ k e. latest_below t.links.now c.args.element _ k (sym starts ∙ e) }

pub returns : goal.returns
returns c =
    let t = c.args.self.now in
    let read : c.unwrap_or.result ≡ get_or t.last.items c.args.element 0 = search rules in
    let starts = ap number_in read ∙ sym (get_or-map number_in t.last.items c.args.element 0) ∙ chain_starts t.links.now (numbers_in t.last.items) c.args.element (length_numbers t.last.items ∙ t.last.ok) t.lasts t.starts in
    ap (chain t.links.now) starts ∙ chain_latest t.links.now c.args.element _
