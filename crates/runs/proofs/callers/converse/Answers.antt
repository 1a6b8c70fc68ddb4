use Rattle.std.proofs.Common.{take, set, ◌+◌, ◌≡◌, sym, refl, ap, ◌∙◌, subst, arith, rules}
use Rattle.std.proofs.lemmas.List.{take_more_set, drop-set-lt}
use Rattle.book.specs.Books.{book_meaning}
use Rattle.book.specs.Owned.{own_of}
use Rattle.runs.specs.Calls.{lent, no_calls, ShownBy}
use Rattle.runs.specs.Tables.{slots, slots_of, Rewritten, Left, as_found}
use Rattle.runs.proofs.Leaving.{leaves_shown, left_on, left_new}
use Rattle.runs.proofs.Running.{answered_lent, run_on, lawful_new, shown_after}
use Rattle.runs.proofs.callers.converse.Goals as goal

pub loop-i-init : goal.loop-i-init
loop-i-init g c = record { over = refl; run = no_calls; sizes = (refl, refl, refl); tables = as_found; calls = refl; heard = refl }

pub hear-requires : goal.hear-requires
hear-requires g c =
    let e = c.serve-answer.ensures in
    let over = sym e.over in
    let shown : ShownBy (book_meaning (g.S.Source.meaning c.serve-answer.new.book.source) (own_of c.serve-answer.new.book)) c.call-call.result c.serve-answer.result c.serve-answer.new.tables.model.now =
    subst (λ x. ShownBy (book_meaning (g.S.Source.meaning x) (own_of c.serve-answer.new.book)) c.call-call.result c.serve-answer.result c.serve-answer.new.tables.model.now) over
    (shown_after _ _ _ _ _ _ c.serve-answer.new.tables.model.now e.plain (leaves_shown _ _ _ _ _ e.tables)) in
    search rules

pub loop-i-preserved : goal.loop-i-preserved
loop-i-preserved g c =
    let i = c.loop-i.invariant in
    let e = c.serve-answer.ensures in
    let k = c.call-call.auto in
    let t = c.loop-i-test.true in
    let n = c.min-count.ensures in
    let x = c.loop-i.auto.calls in
    let y = c.loop-i.auto.heard in
    let m = g.S.Source.meaning c.new-book.result.source in
    let calls = take (c.loop-i.i + 1) (set c.loop-i.calls c.loop-i.i c.call-call.result) in
    let heard = take (c.loop-i.i + 1) (set c.loop-i.heard c.loop-i.i c.serve-answer.result) in
    let called = take_more_set c.loop-i.calls c.loop-i.i c.call-call.result (omega (arith, t, n, x)) in
    let filled = take_more_set c.loop-i.heard c.loop-i.i c.serve-answer.result (omega (arith, t, n, y)) in
    let left : Left Rewritten m (own_of c.new-book.result) (slots c.args.contexts.now c.args.clauses.now c.args.model.now) calls heard (slots_of c.serve-answer.new.tables) =
    left_on Rewritten c.call-call.result c.serve-answer.result called filled (ap (λ s. book_meaning (g.S.Source.meaning s) (own_of c.loop-i.book)) i.over) i.run i.tables (k.contexts, k.clauses, k.model) e.tables in
    record {
      over = e.over ∙ i.over;
      run = run_on called filled (ap g.S.Source.meaning i.over) i.run (answered_lent (k.contexts ∙ i.sizes.0) (k.clauses ∙ i.sizes.1) (k.model ∙ i.sizes.2) e.plain);
      sizes = search rules;
      tables = search rules;
      calls = drop-set-lt c.min-count.result c.loop-i.calls c.loop-i.i c.call-call.result t ∙ i.calls;
      heard = drop-set-lt c.min-count.result c.loop-i.heard c.loop-i.i c.serve-answer.result t ∙ i.heard;
    }

pub returns : goal.returns
returns g c =
    let room = lent c.args.contexts.now c.args.clauses.now c.args.model.now in
    let same = ap g.S.Source.meaning c.new-book.ensures.over in
    let made : c.loop-i.i ≡ c.min-count.result = omega arith in
    let called = ap (λ z. take z c.loop-i.calls) made in
    let filled = ap (λ z. take z c.loop-i.heard) made in
    record {
      made = c.min-count.ensures;
      rest = (c.loop-i.invariant.calls, c.loop-i.invariant.heard);
      law = lawful_new {l = room} same c.new-book.ensures.none called filled c.loop-i.invariant.run;
      tables = left_new Rewritten same c.new-book.ensures.none called filled c.loop-i.invariant.tables;
    }
