use Rattle.std.proofs.Common.{◌≡◌, length, take, refl, ap, ◌∙◌, arith}
use Rattle.std.proofs.lemmas.List.{take_all, take_more, take_more_set, drop-set-lt}
use Rattle.book.specs.Owned.{own_of}
use Rattle.book.specs.Books.{book_meaning}
use Rattle.runs.specs.Tables.{Untouched, as_found}
use Rattle.runs.specs.Calls.{no_calls}
use Rattle.runs.proofs.Running.{run_on, answered_lent}
use Rattle.runs.proofs.Leaving.{left_on, still_same}
use Rattle.runs.proofs.serving.replay.Goals as goal

pub loop-i-init : goal.loop-i-init
loop-i-init g c = record { over = refl; run = no_calls; same = record { contexts = refl; clauses = refl; model = refl; sizes = (refl, refl, refl) }; tables = as_found; rest = refl }

pub loop-i-preserved : goal.loop-i-preserved
loop-i-preserved g c =
    let i = c.loop-i.invariant in
    let e = c.serve.ensures in
    let filled = take_more_set c.loop-i.heard c.loop-i.i c.serve.result (omega arith) in
    let called = take_more c.args.calls.now c.loop-i.i _ (omega arith) in
    record {
      over = e.over ∙ i.over;
      run = run_on called filled (ap g.S.Source.meaning i.over) i.run (answered_lent i.same.sizes.0 i.same.sizes.1 i.same.sizes.2 e.plain);
      same = still_same e.same i.same;
      tables = left_on Untouched _ c.serve.result called filled (ap (λ s. book_meaning (g.S.Source.meaning s) (own_of c.loop-i.book)) i.over) i.run i.tables refl e.tables;
      rest = drop-set-lt (length c.args.calls.now) c.loop-i.heard c.loop-i.i c.serve.result (omega arith) ∙ i.rest;
    }

pub returns : goal.returns
returns g c =
    let made : c.loop-i.i ≡ length c.args.calls.now = omega arith in
    let whole : take (length c.args.calls.now) c.args.calls.now ≡ c.args.calls.now = take_all _ c.args.calls.now (omega arith) in
    record {
      run = rw (made, whole) at c.loop-i.invariant.run;
      tables = rw (made, whole) at c.loop-i.invariant.tables;
      same = c.loop-i.invariant.same;
      rest = c.loop-i.invariant.rest;
      over = c.loop-i.invariant.over;
    }
