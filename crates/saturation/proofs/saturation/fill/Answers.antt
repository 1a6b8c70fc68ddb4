use Rattle.std.proofs.Common.{sym, ◌∙◌, arith}
use Rattle.terms.proofs.Masks.{below_of}
use Rattle.tables.proofs.Slots.{among_upto}
use Rattle.tables.proofs.Meanings.{context_in_kept}
use Rattle.tables.proofs.Lending.{same_then}
use Rattle.tables.proofs.Additions.{none_in, ends_stuck, stuck_as, stuck_then}
use Rattle.saturation.proofs.Givens.{given_any}
use Rattle.saturation.proofs.Saturating.{sofar_goal, goal_in, begun, sofar_more, sofar_end, sofar_stuck, sofar_at, closure_then, turn_in, slots_in, start_slots_in, roles_low}
use Rattle.saturation.proofs.saturation.fill.Goals as goal

pub returns-in_err-enter_context-clause-closure : goal.returns-in_err-enter_context-clause-closure
returns-in_err-enter_context-clause-closure c = ends_stuck _ _ _ c.from_residual.result c.from_residual.ensures.1 (stuck_as c.in_err-enter_context.ensures.adds (goal_in c.args.theory.axioms.now))

pub returns-in_err-unfold_all-clause-closure : goal.returns-in_err-unfold_all-clause-closure
returns-in_err-unfold_all-clause-closure c =
    let first = c.in_ok-enter_context.ensures.adds in
    ends_stuck _ _ _ c.from_residual-in_err-unfold_all.result c.from_residual-in_err-unfold_all.ensures.1
    (stuck_then first c.in_err-unfold_all.ensures.unfolds (goal_in c.args.theory.axioms.now) (start_slots_in c.args.theory.axioms.now (none_in _ c.requires.empty.0 c.requires.empty.1) first))

pub loop-slot-init : goal.loop-slot-init
loop-slot-init c =
    let en = c.in_ok-enter_context.ensures in
    let second = c.in_ok-unfold_all.ensures in
    let b = begun c.args.theory.axioms.now c.args.goal c.requires.empty en.entered en.adds second.unfolds second.kept.contexts second.kept.used in
    (sofar_goal (sym b.at) (sofar_at b.start), omega arith, same_then en.same second.same)

pub turn-requires-clause-roles : goal.turn-requires-clause-roles
turn-requires-clause-roles c x a =
    let en = c.in_ok-enter_context.ensures in
    let second = c.in_ok-unfold_all.ensures in
    let b = begun c.args.theory.axioms.now c.args.goal c.requires.empty en.entered en.adds second.unfolds second.kept.contexts second.kept.used in
    roles_low (sofar_goal b.at c.loop-slot.invariant.0) c.args.theory.formed (record { held = λ a h. below_of 64 _ a (omega arith) h; denied = λ a h. below_of 64 _ a (omega arith) h }) x (among_upto (omega (arith, c.loop-slot-test.true)) a)

pub unfold_all-requires-in-loop-slot : goal.unfold_all-requires-in-loop-slot
unfold_all-requires-in-loop-slot c =
    let g = given_any _ c.loop-slot.slot c.loop-slot.tables.good c.loop-slot-test.true in
    (c.in_ok-turn.ensures.gives _ g.0 g.1).grows.contexts.more

pub loop-slot-preserved : goal.loop-slot-preserved
loop-slot-preserved c =
    let g = given_any _ c.loop-slot.slot c.loop-slot.tables.good c.loop-slot-test.true in
    let p = c.in_ok-turn.ensures.gives _ g.0 g.1 in
    let q = c.in_ok-unfold_all-2.ensures in (
      sofar_more c.loop-slot.invariant.0 g.1 p q.unfolds q.kept.contexts q.kept.used,
      omega (arith, c.loop-slot-test.true, p.grows.clauses.more, q.unfolds.grows.clauses.more),
      same_then c.loop-slot.invariant.2 (same_then c.in_ok-turn.ensures.same q.same),
    )

pub returns-in_err-turn-clause-closure : goal.returns-in_err-turn-clause-closure
returns-in_err-turn-clause-closure c =
    let en = c.in_ok-enter_context.ensures in
    let second = c.in_ok-unfold_all.ensures in
    let b = begun c.args.theory.axioms.now c.args.goal c.requires.empty en.entered en.adds second.unfolds second.kept.contexts second.kept.used in
    let g = given_any _ c.loop-slot.slot c.loop-slot.tables.good c.loop-slot-test.true in
    ends_stuck _ _ _ c.from_residual-in_err-turn.result c.from_residual-in_err-turn.ensures.1
    (sofar_stuck b.start (λ m h. h) (sofar_stuck (sofar_goal b.at c.loop-slot.invariant.0) (turn_in (sofar_goal b.at c.loop-slot.invariant.0) g.1) (c.in_err-turn.ensures.gives _ g.0 g.1)))

pub returns-in_err-unfold_all-2-clause-closure : goal.returns-in_err-unfold_all-2-clause-closure
returns-in_err-unfold_all-2-clause-closure c =
    let en = c.in_ok-enter_context.ensures in
    let second = c.in_ok-unfold_all.ensures in
    let b = begun c.args.theory.axioms.now c.args.goal c.requires.empty en.entered en.adds second.unfolds second.kept.contexts second.kept.used in
    let i = sofar_goal b.at c.loop-slot.invariant.0 in
    let g = given_any _ c.loop-slot.slot c.loop-slot.tables.good c.loop-slot-test.true in
    let p = c.in_ok-turn.ensures.gives _ g.0 g.1 in
    ends_stuck _ _ _ c.from_residual-in_err-unfold_all-2.result c.from_residual-in_err-unfold_all-2.ensures.1
    (sofar_stuck b.start (λ m h. h) (sofar_stuck i (λ m h. h) (stuck_then p c.in_err-unfold_all-2.ensures.unfolds (turn_in i g.1) (slots_in i g.1 p))))

pub returns-clause-closure : goal.returns-clause-closure
returns-clause-closure c =
    let en = c.in_ok-enter_context.ensures in
    let second = c.in_ok-unfold_all.ensures in
    let b = begun c.args.theory.axioms.now c.args.goal c.requires.empty en.entered en.adds second.unfolds second.kept.contexts second.kept.used in
    closure_then b.start (sofar_end (sofar_goal b.at c.loop-slot.invariant.0) c.loop-slot-test.false)

pub returns-clause-first : goal.returns-clause-first
returns-clause-first c =
    let en = c.in_ok-enter_context.ensures in
    let second = c.in_ok-unfold_all.ensures in
    let b = begun c.args.theory.axioms.now c.args.goal c.requires.empty en.entered en.adds second.unfolds second.kept.contexts second.kept.used in
    let w = c.loop-slot.invariant.0.grows in
    (omega (arith, en.entered.below, second.kept.used, w.contexts.more), context_in_kept w.contexts.kept 0 (omega (arith, en.entered.below, second.kept.used)) ∙ b.at)
