use Rattle.std.proofs.Common.{◌≡◌, ◌+◌, ◌*◌, List, length, is_some, sym, ap, ◌∙◌, subst, arith, length-drop, length-take, rules}
use Rattle.tables.specs.Tables.{tables}
use Rattle.tables.specs.declared.records.ContextRecord.{ContextRecord}
use Rattle.tables.specs.declared.records.ClauseRecord.{ClauseRecord}
use Rattle.models.specs.Elements.{Tells, live_in}
use Rattle.models.proofs.Counting.{live_at, live_none, live_no}
use Rattle.models.proofs.Meanings.{used_clauses, ready_orderly, orderly_safe}
use Rattle.models.proofs.Rows.{Drawn, row_room, drawn_none, drawn_no, drawn_turn}
use Rattle.models.proofs.Worlds.{all_written}
use Rattle.models.proofs.model.write_model.Goals as goal
use Rattle.models.proofs.model.write_model.Goals.{then-is_some, else-is_some}

pub of-elements-requires : goal.of-elements-requires
of-elements-requires c =
    let t = tables c.args.contexts.now c.args.clauses.now c.args.counts in
    orderly_safe c.args.contexts.now (used_clauses t) c.args.counts.contexts c.args.roles c.requires.ready.few_roles (ready_orderly t c.args.roles c.requires.ready)

pub loop-slot-init : goal.loop-slot-init
loop-slot-init c =
    let es = c.of-elements.result in (sym (live_none (live_in es.numbers)), drawn_none es.contexts.now es.clauses.now (live_in es.numbers) c.args.reach.now.rows c.args.roles c.args.model.now)

pub slice_bounds-write_row-end : goal.slice_bounds-write_row-end
slice_bounds-write_row-end c =
    let h = row_room (live_in c.of-elements.result.numbers) c.loop-slot.size c.loop-slot.slot c.args.counts.contexts c.row_words-width.result c.args.roles (length c.args.model.now) c.row_words-width.ensures c.loop-slot.invariant.0 c.loop-slot-test.true c.requires.room in
    search rules

pub loop-slot-preserved : goal.loop-slot-preserved
loop-slot-preserved c =
    let es = c.of-elements.result in
    let cs = es.contexts.now in
    let xs = es.clauses.now in
    let live = live_in es.numbers in
    let k = c.loop-slot.slot in
    let reach = c.args.reach.now.rows in
    let roles = c.args.roles in
    let here = live_at es.numbers k ∙ ap is_some (sym c.number.ensures) ∙ sym c.is_some.ensures in
    elim c.if-is_some.branch [
      | then-is_some w ↦ (
          let h = row_room live c.loop-slot.size k c.args.counts.contexts c.row_words-width.result roles (length c.args.model.now) c.row_words-width.ensures c.loop-slot.invariant.0 c.loop-slot-test.true c.requires.room in
          drawn_turn cs xs live reach roles k c.loop-slot.size c.if-is_some.size c.row_words-width.result c.args.model.now c.loop-slot.model w.write_row.new.row c.if-is_some.model
          c.row_words-width.ensures w.model-is c.loop-slot.invariant.0 (omega arith) (w.write_row.auto.row ∙ simp (length-take, length-drop) (omega arith))
          w.size-is (here ∙ w.if-is_some.true) (w.write_row.ensures roles (simp (length-take, length-drop) (omega arith))) c.loop-slot.invariant.1)
      | else-is_some w ↦ (
        w.size-is ∙ c.loop-slot.invariant.0 ∙ sym (live_no live k (here ∙ w.if-is_some.false)),
        drawn_no cs xs live reach roles k c.args.model.now c.loop-slot.model c.if-is_some.model w.model-is (here ∙ w.if-is_some.false) c.loop-slot.invariant.1,
      )
    ]

pub returns : goal.returns
returns c =
    let es = c.of-elements.result in
    let t = tables c.args.contexts.now c.args.clauses.now c.args.counts in
    let live = live_in es.numbers in
    let reach = c.args.reach.now.rows in
    let k = c.loop-slot.slot in
    let drawn =
    subst (λ (xs : List ClauseRecord). Drawn c.args.contexts.now xs live reach c.args.roles k c.args.model.now c.loop-slot.model) c.of-elements.ensures.clauses
    (subst (λ (cs : List ContextRecord). Drawn cs es.clauses.now live reach c.args.roles k c.args.model.now c.loop-slot.model) c.of-elements.ensures.contexts c.loop-slot.invariant.1) in
    let last : k ≡ c.args.counts.contexts = omega arith in
    all_written t c.args.roles c.requires.ready live (subst (λ (xs : List ClauseRecord). Tells xs (length xs) live) c.of-elements.ensures.clauses es.numbered.tells)
    reach c.args.model.now c.loop-slot.model k last drawn c.loop-slot.auto.model c.loop-slot.size c.loop-slot.invariant.0
