use Rattle.std.proofs.Common.{subst, sym, inl, inr, ⊎_elim, arith}
use Rattle.tables.proofs.Slots.{holds_get_or}
use Rattle.tables.proofs.Lending.{same_then}
use Rattle.tables.proofs.Additions.{adds_then, ends_stuck, stuck_as, stuck_then, below_none, below_more, below_stuck, below_end}
use Rattle.saturation.specs.Conclusions.{Headed, Brought, DeniedHead}
use Rattle.saturation.proofs.Tops.{tops_of}
use Rattle.saturation.specs.Choices.{given_record}
use Rattle.saturation.proofs.Givens.{given_cited, given_on, given_any, tops_on, denied_one, none_headless}
use Rattle.saturation.proofs.turns.alone.Goals as goal

pub returns-in_default-clause-gives : goal.returns-in_default-clause-gives
returns-in_default-clause-gives c d Ts given =
    none_headless c.args.tables.now.good (λ a h. c.in_default.ensures a (tops_of (given_record c.args.tables.now.clauses.now c.args.slot) c.args.tables.now.contexts.now (subst (λ x. Headed x a) (sym given.means) h)))

pub deny-requires-clause-cited : goal.deny-requires-clause-cited
deny-requires-clause-cited c = given_cited c.args.tables.now.good c.requires

pub loop-axiom-init : goal.loop-axiom-init
loop-axiom-init c =
    let w = c.in_ok-deny.ensures.denies.grows in
    (λ d Ts given. below_none w.good, omega (arith, c.requires, w.clauses.more), tops_on w c.requires c.in-Some.ensures.0, c.in_ok-deny.ensures.same)

pub apply-requires-clause-used : goal.apply-requires-clause-used
apply-requires-clause-used c =
    let a = given_any _ _ c.deny.new.tables.good c.loop-axiom.invariant.1 in
    omega (arith, c.loop-axiom.invariant.1, (c.loop-axiom.invariant.0 _ a.0 a.1).grows.clauses.more)

pub apply-requires-clause-headed : goal.apply-requires-clause-headed
apply-requires-clause-headed c =
    let a = given_any _ _ c.deny.new.tables.good c.loop-axiom.invariant.1 in
    (tops_on (c.loop-axiom.invariant.0 _ a.0 a.1).grows c.loop-axiom.invariant.1 c.loop-axiom.invariant.2, c.in-Some.ensures.1)

pub loop-axiom-preserved : goal.loop-axiom-preserved
loop-axiom-preserved c = (
  λ d Ts given.
      let p = c.loop-axiom.invariant.0 d Ts given in
      below_more (holds_get_or _ _ _ c.loop-axiom-test.true) p (c.in_ok-apply.ensures.applies d Ts (given_on c.deny.new.tables.good p.grows given)),
  c.loop-axiom.invariant.1,
  c.loop-axiom.invariant.2,
  same_then c.loop-axiom.invariant.3 c.in_ok-apply.ensures.same,
)

pub returns-in_err-deny-clause-gives : goal.returns-in_err-deny-clause-gives
returns-in_err-deny-clause-gives c d Ts given =
    ends_stuck _ _ _ c.from_residual.result c.from_residual.ensures.1 (stuck_as c.in_err-deny.ensures.denies (denied_one given.means))

pub returns-in_err-apply-clause-gives : goal.returns-in_err-apply-clause-gives
returns-in_err-apply-clause-gives c d Ts given =
    let first = c.in_ok-deny.ensures.denies in
    let then = given_on c.args.tables.now.good first.grows given in
    let more = c.loop-axiom.invariant.0 d Ts then in
    ends_stuck _ _ _ c.from_residual-in_err-apply.result c.from_residual-in_err-apply.ensures.1
    (stuck_then first (below_stuck c.loop-axiom-test.true (holds_get_or _ _ _ c.loop-axiom-test.true) more (c.in_err-apply.ensures.applies d Ts (given_on first.grows.good more.grows then))) (denied_one given.means) (λ m b. inr b))

pub returns-clause-gives : goal.returns-clause-gives
returns-clause-gives c d Ts given =
    let first = c.in_ok-deny.ensures.denies in
    adds_then first (below_end (omega arith) (omega arith) (c.loop-axiom.invariant.0 d Ts (given_on c.args.tables.now.good first.grows given)))
    (λ m o. ⊎_elim (λ b. inl (subst (λ x. Brought (DeniedHead x) m) (sym given.means) b)) inr o) (denied_one given.means) (λ m b. inr b)
