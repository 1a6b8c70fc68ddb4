use Rattle.std.proofs.Common.{◌≡◌, ℕ, ◌+◌, ◌*◌, ◌-◌, ◌<◌, ◌≤◌, true, ◌↔◌, length, set, ◌∙◌, subst, arith, length-set, length-drop, length-take}
use Rattle.std.proofs.lemmas.List.{get_or-set_same}
use Rattle.worlds.specs.Entries.{marked}
use Rattle.models.specs.Elements.{live_in}
use Rattle.models.specs.Targets.{Points}
use Rattle.models.proofs.Marking.{filled_row}
use Rattle.models.proofs.Rows.{part_before, part_at}
use Rattle.models.proofs.elements.Elements.write_row.Goals as goal

pub returns : goal.returns
returns c roles width =
    let cs = c.args.self.now.contexts.now in
    let xs = c.args.self.now.clauses.now in
    let live = live_in c.args.self.now.numbers in
    let links = c.wanted_links-links.result.words in
    let s = c.of-element.result.classes.bits in
    let row = set c.args.row.now 0 c.bits.result in
    let n = length row - 1 in
    let items = c.loop-at.word-items in
    let same : length row ≡ length c.args.row.now = length-set c.args.row.now 0 c.bits.result in
    let size : length items ≡ n = c.loop-at.auto.word-items ∙ simp (length-take, length-drop) (omega arith) in
    let end : n ≤ c.loop-at.at = omega (arith, size, c.loop-at.auto.word-items) in
    filled_row cs xs live c.args.reach.now.rows links roles c.args.slot s n _ items (omega (arith, same, width)) c.of-element.ensures.classes
    (subst (λ (h : ℕ). (p f : ℕ) → f < 256 → marked links (256 * p + f) ≡ true ↔ Points cs xs live (length xs) h s p f) c.of-element.ensures.slot c.wanted_links-links.ensures)
    (part_before 1 n row items 0 0 (omega arith) (omega (arith, same, c.requires.0)) ∙ get_or-set_same c.args.row.now 0 c.bits.result 0 c.requires.0 ∙ c.bits.ensures)
    (λ j l. part_at 1 n row items 0 j (omega (arith, size)) (omega (arith, same, c.requires.0)))
    (λ j l. c.loop-at.invariant j (omega arith))
