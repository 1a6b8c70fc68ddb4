use Rattle.std.proofs.Common.{refl, ap, ◌∙◌, subst, arith}
use Rattle.terms.specs.Sets.{Has, join}
use Rattle.terms.proofs.Masks.{zero_none}
use Rattle.tables.proofs.Slots.{holds_get_or}
use Rattle.tables.proofs.Lending.{same_refl, kept_refl}
use Rattle.tables.proofs.Additions.{ends_stuck, below_more, below_stuck}
use Rattle.saturation.specs.Choices.{given_record}
use Rattle.saturation.proofs.Narrows.{none_left}
use Rattle.saturation.proofs.Givens.{given_cited}
use Rattle.saturation.proofs.Levels.{Room, choosing_start, choosing_then, choosing_entered, now_listed, now_held, passed, none_before, level_adds, level_stuck, last_adds, last_stuck, whole_adds, whole_stuck}
use Rattle.saturation.proofs.choices.choose.Goals as goal

pub returns-in_default-clause-picks : goal.returns-in_default-clause-picks
returns-in_default-clause-picks c Ts listed = absurd (zero_none _ (subst (λ s. Has s c.args.top) c.in_default.ensures c.requires.narrow.0))

pub first-init : goal.first-init
first-init c =
    let good = c.args.tables.now.good in
    let room : Room c.args.slot (given_record c.args.tables.now.clauses.now c.args.slot) c.args.tables.now.counts c.args.tables.now.clauses.now = record { used = c.requires.used; fits = good.clauses_fit; holds = holds_get_or _ _ _ (omega (arith, c.requires.used, good.clauses_fit)); lonely = c.requires.headed.0.lonely } in (
      record {
        room = room;
        now = room;
        same = same_refl;
        kept = kept_refl;
        cited = (given_cited good c.requires.used).0;
      },
      λ Ts listed. none_before _ refl refl good room c.start-i.ensures.1,
      omega (arith, c.start-i.ensures.0),
    )

pub second-init : goal.second-init
second-init c = (choosing_start c.first.invariant.0, λ Ts listed. none_before _ refl refl c.first.tables.good c.first.invariant.0.now c.start-j.ensures.1, omega (arith, c.start-j.ensures.0))

pub third-init : goal.third-init
third-init c = (choosing_start c.second.invariant.0, λ Ts listed. none_before _ refl refl c.second.tables.good c.second.invariant.0.now c.start-k.ensures.1, omega (arith, c.start-k.ensures.0))

pub first-preserved-then-not-is_premise : goal.first-preserved-then-not-is_premise
first-preserved-then-not-is_premise c = (
  c.first.invariant.0,
  λ Ts listed. passed c.first.invariant.0.room (c.first.invariant.1 Ts listed) _ (omega arith) c.is_premise.ensures c.if-not-is_premise.true,
  omega arith,
)

pub second-preserved-then-not-is_premise-2 : goal.second-preserved-then-not-is_premise-2
second-preserved-then-not-is_premise-2 c = (
  c.second.invariant.0,
  λ Ts listed. passed c.second.invariant.0.room (c.second.invariant.1 Ts listed) _ (omega arith) c.is_premise-in-second.ensures c.if-not-is_premise-2.true,
  omega arith,
)

pub third-preserved-then-not-is_premise-3 : goal.third-preserved-then-not-is_premise-3
third-preserved-then-not-is_premise-3 c = (
  c.third.invariant.0,
  λ Ts listed. passed c.third.invariant.0.room (c.third.invariant.1 Ts listed) _ (omega arith) c.is_premise-in-third.ensures c.if-not-is_premise-3.true,
  omega arith,
)

pub first-preserved-in_default-highest : goal.first-preserved-in_default-highest
first-preserved-in_default-highest c = (
  choosing_entered c.first.invariant.0 c.enter_clause.new.self c.in_ok-enter_clause.ensures.same c.in_ok-enter_clause.ensures.kept c.in_ok-enter_clause.ensures.entered.1,
  λ Ts listed.
      let i = c.first.invariant.1 Ts listed in
      below_more (now_held c.first.invariant.0.room i _ (omega arith)) i
      (last_adds c.args.tables.now.contexts.now _ c.lone.ensures (c.union-with_first.ensures ∙ ap (join _) c.without.ensures) (c.if-not-is_premise.ensures.0 refl) c.in_default-highest.ensures c.first.invariant.0.kept.contexts c.in_ok-enter_clause.ensures.adds),
  omega arith,
)

pub second-preserved-in_default-highest-2 : goal.second-preserved-in_default-highest-2
second-preserved-in_default-highest-2 c = (
  choosing_entered c.second.invariant.0 c.enter_clause-in_default-highest-2.new.self c.in_ok-enter_clause-2.ensures.same c.in_ok-enter_clause-2.ensures.kept c.in_ok-enter_clause-2.ensures.entered.1,
  λ Ts listed.
      let i = c.second.invariant.1 Ts listed in
      below_more (now_held c.second.invariant.0.room i _ (omega arith)) i
      (last_adds c.args.tables.now.contexts.now _ c.lone-in_default-highest-2.ensures (c.union-with_second.ensures ∙ ap (join _) c.without-in-second.ensures) (c.if-not-is_premise-2.ensures.0 refl) c.in_default-highest-2.ensures c.second.invariant.0.kept.contexts c.in_ok-enter_clause-2.ensures.adds),
  omega arith,
)

pub third-preserved : goal.third-preserved
third-preserved c = (
  choosing_entered c.third.invariant.0 c.enter_clause-in-third.new.self c.in_ok-enter_clause-3.ensures.same c.in_ok-enter_clause-3.ensures.kept c.in_ok-enter_clause-3.ensures.entered.1,
  λ Ts listed.
      let i = c.third.invariant.1 Ts listed in
      below_more (now_held c.third.invariant.0.room i _ (omega arith)) i
      (last_adds c.args.tables.now.contexts.now _ c.lone-in-third.ensures (c.union-with_third.ensures ∙ ap (join _) c.without-in-third.ensures) (c.if-not-is_premise-3.ensures.0 refl) refl c.third.invariant.0.kept.contexts c.in_ok-enter_clause-3.ensures.adds),
  omega arith,
)

pub second-preserved : goal.second-preserved
second-preserved c = (
  choosing_then c.second.invariant.0 c.third.invariant.0,
  λ Ts listed.
      let i = c.second.invariant.1 Ts listed in
      let known = now_listed c.second.invariant.0.room i listed in
      below_more (now_held c.second.invariant.0.room i _ (omega arith)) i
      (level_adds (c.union-with_second.ensures ∙ ap (join _) c.without-in-second.ensures) (c.if-not-is_premise-2.ensures.0 refl) known c.in-Some-highest-2.ensures.0 (none_left _ _ _ _ _ _ c.in-Some.ensures.1 c.requires.narrow.1 c.without-others.ensures c.without-last.ensures c.in-Some.ensures.0 c.in-Some-highest.ensures.0 c.in-Some-highest-2.ensures.0) c.third.invariant.2 (omega arith)
      (c.third.invariant.1 Ts known)),
  omega arith,
)

pub first-preserved : goal.first-preserved
first-preserved c = (
  choosing_then c.first.invariant.0 c.second.invariant.0,
  λ Ts listed.
      let i = c.first.invariant.1 Ts listed in
      let known = now_listed c.first.invariant.0.room i listed in
      below_more (now_held c.first.invariant.0.room i _ (omega arith)) i
      (level_adds (c.union-with_first.ensures ∙ ap (join _) c.without.ensures) (c.if-not-is_premise.ensures.0 refl) known c.in-Some-highest.ensures.0 c.without-last.ensures c.second.invariant.2 (omega arith)
      (c.second.invariant.1 Ts known)),
  omega arith,
)

pub returns-in_err-enter_clause-clause-picks : goal.returns-in_err-enter_clause-clause-picks
returns-in_err-enter_clause-clause-picks c Ts listed =
    let i = c.first.invariant.1 Ts listed in
    ends_stuck _ _ _ c.from_residual.result c.from_residual.ensures.1
    (whole_stuck listed c.in-Some.ensures.0 c.without-others.ensures
    (below_stuck c.first-test.true (now_held c.first.invariant.0.room i _ (omega arith)) i
    (last_stuck c.args.tables.now.contexts.now _ c.lone.ensures (c.union-with_first.ensures ∙ ap (join _) c.without.ensures) (c.if-not-is_premise.ensures.0 refl) c.in_default-highest.ensures c.first.invariant.0.kept.contexts c.in_err-enter_clause.ensures.adds)))

pub returns-in_err-enter_clause-2-clause-picks : goal.returns-in_err-enter_clause-2-clause-picks
returns-in_err-enter_clause-2-clause-picks c Ts listed =
    let i = c.first.invariant.1 Ts listed in
    let known = now_listed c.first.invariant.0.room i listed in
    let j = c.second.invariant.1 Ts known in
    ends_stuck _ _ _ c.from_residual-in_err-enter_clause-2.result c.from_residual-in_err-enter_clause-2.ensures.1
    (whole_stuck listed c.in-Some.ensures.0 c.without-others.ensures
    (below_stuck c.first-test.true (now_held c.first.invariant.0.room i _ (omega arith)) i
    (level_stuck (c.union-with_first.ensures ∙ ap (join _) c.without.ensures) (c.if-not-is_premise.ensures.0 refl) known c.in-Some-highest.ensures.0 c.without-last.ensures
    (below_stuck c.second-test.true (now_held c.second.invariant.0.room j _ (omega arith)) j
    (last_stuck c.args.tables.now.contexts.now _ c.lone-in_default-highest-2.ensures (c.union-with_second.ensures ∙ ap (join _) c.without-in-second.ensures) (c.if-not-is_premise-2.ensures.0 refl) c.in_default-highest-2.ensures c.second.invariant.0.kept.contexts c.in_err-enter_clause-2.ensures.adds)))))

pub returns-in_err-enter_clause-3-clause-picks : goal.returns-in_err-enter_clause-3-clause-picks
returns-in_err-enter_clause-3-clause-picks c Ts listed =
    let i = c.first.invariant.1 Ts listed in
    let known = now_listed c.first.invariant.0.room i listed in
    let j = c.second.invariant.1 Ts known in
    let then = now_listed c.second.invariant.0.room j known in
    let k = c.third.invariant.1 Ts then in
    ends_stuck _ _ _ c.from_residual-in_err-enter_clause-3.result c.from_residual-in_err-enter_clause-3.ensures.1
    (whole_stuck listed c.in-Some.ensures.0 c.without-others.ensures
    (below_stuck c.first-test.true (now_held c.first.invariant.0.room i _ (omega arith)) i
    (level_stuck (c.union-with_first.ensures ∙ ap (join _) c.without.ensures) (c.if-not-is_premise.ensures.0 refl) known c.in-Some-highest.ensures.0 c.without-last.ensures
    (below_stuck c.second-test.true (now_held c.second.invariant.0.room j _ (omega arith)) j
    (level_stuck (c.union-with_second.ensures ∙ ap (join _) c.without-in-second.ensures) (c.if-not-is_premise-2.ensures.0 refl) then c.in-Some-highest-2.ensures.0 (none_left _ _ _ _ _ _ c.in-Some.ensures.1 c.requires.narrow.1 c.without-others.ensures c.without-last.ensures c.in-Some.ensures.0 c.in-Some-highest.ensures.0 c.in-Some-highest-2.ensures.0)
    (below_stuck c.third-test.true (now_held c.third.invariant.0.room k _ (omega arith)) k
    (last_stuck c.args.tables.now.contexts.now _ c.lone-in-third.ensures (c.union-with_third.ensures ∙ ap (join _) c.without-in-third.ensures) (c.if-not-is_premise-3.ensures.0 refl) refl c.third.invariant.0.kept.contexts c.in_err-enter_clause-3.ensures.adds)))))))

pub returns-clause-picks : goal.returns-clause-picks
returns-clause-picks c Ts listed = whole_adds listed c.in-Some.ensures.0 c.without-others.ensures c.first.invariant.2 (omega arith) (c.first.invariant.1 Ts listed)
