use Rattle.std.proofs.Common.{◌≡◌, ◌+◌, Some, ◌∷◌, length, get_or, sym, ap, ◌∙◌, add-one, rules, arith}
use Rattle.std.proofs.Math.ListN.{get_or-map}
use Rattle.std.proofs.iter.Next.{firm}
use Rattle.worlds.specs.Slots.{number_in, numbers_in}
use Rattle.worlds.specs.Entries.{no_link, chain}
use Rattle.worlds.proofs.Chaining.{chain_goes_on, latest_below}
use Rattle.worlds.proofs.chains.LinksOfIterator.next.Goals as goal

pub invariant_of-self : goal.invariant_of-self
invariant_of-self c =
    let t = c.args.self.now in
    let i = c.from-number.result in
    let more : t.at ≡ i + 1 = search rules in
    let l = t.ok i (ap number_in (more ∙ add-one i)) in
    let before = sym (get_or-map number_in t.chains.now.previous.items i 0) in
    record { ok = λ k e. omega (arith, l, latest_below t.chains.now.links.now _ i k (sym (t.chains.now.chained i l) ∙ (sym before ∙ e))) }

pub returns : goal.returns
returns c =
    let t = c.args.self.now in
    let i = c.from-number.result in
    let more : t.at ≡ i + 1 = search rules in
    let at : number_in t.at ≡ Some i = ap number_in (more ∙ add-one i) in
    let xs = t.chains.now.links.now in
    let before = sym (get_or-map number_in t.chains.now.previous.items i 0) in
    let goes_on = chain_goes_on xs (numbers_in t.chains.now.previous.items) (number_in t.at) i at (t.ok i at) t.chains.now.chained ∙ ap (λ o. get_or xs i no_link ∷ chain xs o) (sym before) in
    record { steps = goes_on; goes = firm (tt, tt, omega (arith, ap length goes_on)) (λ h. search rules) }
