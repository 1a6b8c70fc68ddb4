use Rattle.std.proofs.Common.{◌≡◌, ◌+◌, ◌*◌, length, get_or, is_some, Some, None, sym, refl, ap, ◌∙◌, subst, arith}
use Rattle.std.proofs.lemmas.Bool.Decides.{not_from_Decides}
use Rattle.worlds.specs.Entries.{marked}
use Rattle.worlds.specs.declared.marks.Marks.{Marks}
use Rattle.tables.specs.declared.records.RolePart.{RolePart}
use Rattle.models.specs.Elements.{clause_at, live_in}
use Rattle.models.specs.Targets.{Wishes, Beaten}
use Rattle.models.proofs.Counting.{live_at, live_number, live_le}
use Rattle.models.proofs.Marking.{pointed_no, pointed_yes, wish_safe, wishes_one}
use Rattle.models.proofs.elements.Elements.wanted_links.Goals as goal
use Rattle.models.proofs.elements.Elements.wanted_links.Goals.{in-Some+in-Some-number+then-not-is_beaten, in-Some+in-Some-number+else-not-is_beaten, in-Some+in_default-number, in_default}

pub number-requires : goal.number-requires
number-requires c = (wish_safe c.loop-clause.clause-index c.args.self.now.safe c.loop-clause-test.true c.in-Some.ensures).1

pub is_beaten-requires : goal.is_beaten-requires
is_beaten-requires c = (wish_safe c.loop-clause.clause-index c.args.self.now.safe c.loop-clause-test.true c.in-Some.ensures).0

pub set-requires : goal.set-requires
set-requires c =
    let safe = wish_safe c.loop-clause.clause-index c.args.self.now.safe c.loop-clause-test.true c.in-Some.ensures in
    let number = c.args.self.now.numbered.right c.in-Some.part.context c.in-Some-number.number (sym c.in-Some-number.ensures) in
    (omega arith, omega (arith, safe.1, safe.2, number, live_le (live_in c.args.self.now.numbers) c.in-Some.part.context))

pub loop-clause-preserved : goal.loop-clause-preserved
loop-clause-preserved c =
    let cs = c.args.self.now.contexts.now in
    let xs = c.args.self.now.clauses.now in
    let numbers = c.args.self.now.numbers in
    let live = live_in numbers in
    let h = c.args.element.slot in
    let s = c.args.element.classes.bits in
    let k = c.loop-clause.clause-index in
    let links = c.loop-clause.links.words in
    elim c.match-wish.branch [
      | in-Some+in-Some-number+then-not-is_beaten w ↦ (
          let r = w.in-Some.part in
          let y : Wishes h s r (clause_at xs k) = (w.in-Some.ensures r).0 refl in
          let safe = wish_safe k c.args.self.now.safe c.loop-clause-test.true w.in-Some.ensures in
          let number : get_or numbers r.context None ≡ Some w.in-Some-number.number = sym w.in-Some-number.ensures in
          let is = c.args.self.now.numbered.right r.context w.in-Some-number.number number in
          pointed_yes cs xs live h s k r links c.match-wish.links.words (256 * w.from.result + w.from-then-not-is_beaten.result)
          (omega (arith, safe.1, live_le live r.context)) (omega (arith, is, w.from.ensures, w.from-then-not-is_beaten.ensures))
          (λ j. ap (λ (m : Marks 64). marked m.words j) w.links-is ∙ w.set.ensures j) y (live_at numbers r.context ∙ ap is_some number)
          (not_from_Decides _ w.is_beaten.ensures w.if-not-is_beaten.true) c.loop-clause.invariant)
      | in-Some+in-Some-number+else-not-is_beaten w ↦ pointed_no cs xs live h s k links c.match-wish.links.words (ap (λ (m : Marks 64). m.words) w.links-is)
          (λ r y there best. best (subst (Beaten cs xs (length xs) h s) (wishes_one h s w.in-Some.part r (clause_at xs k) ((w.in-Some.ensures w.in-Some.part).0 refl) y) (w.is_beaten.ensures.0 w.if-not-is_beaten.false)))
          c.loop-clause.invariant
      | in-Some+in_default-number w ↦ pointed_no cs xs live h s k links c.match-wish.links.words (ap (λ (m : Marks 64). m.words) w.links-is)
          (λ r y there best.
          let one = wishes_one h s w.in-Some.part r (clause_at xs k) ((w.in-Some.ensures w.in-Some.part).0 refl) y in
          let number = live_number numbers r.context there in
          w.in_default-number.not-Some number.0 (w.number.ensures ∙ ap (λ (q : RolePart). get_or numbers q.context None) one ∙ number.1))
          c.loop-clause.invariant
      | in_default w ↦ pointed_no cs xs live h s k links c.match-wish.links.words (ap (λ (m : Marks 64). m.words) w.links-is) (λ r y there best. w.in_default.not-Some r ((c.wish.ensures r).1 y)) c.loop-clause.invariant
    ]
