use Rattle.std.proofs.Common.{◌≡◌, [], length, take, refl, ap, ◌∙◌, arith, rules, length-take}
use Rattle.runs.specs.Law.{LastShown}
use Rattle.runs.specs.Tables.{slots, slots_of, Untouched, Left}
use Rattle.runs.proofs.Running.{lawful_new}
use Rattle.runs.proofs.Leaving.{left_new, left_shown}
use Rattle.runs.proofs.drivers.life.Goals as goal

pub returns : goal.returns
returns g c =
    let m = g.S.Source.meaning c.args.source in
    let calls = take c.min-count.result c.args.calls.now in
    let heard = take c.min-count.result c.replay.new.heard in
    let found = slots c.args.contexts.now c.args.clauses.now c.args.model.now in
    let same = ap g.S.Source.meaning c.new-book.ensures.over in
    let made : length calls ≡ c.min-count.result = length-take c.min-count.result c.args.calls.now ∙ omega (arith, c.min-count.ensures) in
    let filled = ap (λ z. take z c.replay.new.heard) made in
    let left : Left Untouched m [] found calls heard (slots_of c.replay.new.tables) =
    left_new Untouched same c.new-book.ensures.none refl filled c.replay.ensures.tables in
    let shown : LastShown m [] calls heard c.replay.new.tables.model.now = left_shown Untouched left in
    record {
      made = c.min-count.ensures;
      rest = rw made at c.replay.ensures.rest;
      law = lawful_new same c.new-book.ensures.none refl filled c.replay.ensures.run;
      tables = search rules;
      shown = λ i d h e a. let z = shown i d h e a in search rules;
    }
