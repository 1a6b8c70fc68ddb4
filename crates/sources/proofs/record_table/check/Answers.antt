use Rattle.std.proofs.Common.{subst}
use Rattle.std.specs.List.{AllByRecursion}
use Rattle.std.proofs.ByRecursion.{All-more}
use Rattle.std.proofs.lemmas.List.{take_all}
use Rattle.std.proofs.lemmas.Result.{err_from_is_err_and}
use Rattle.terms.specs.Axioms.{WellFormed, blank}
use Rattle.terms.proofs.Checking.{axiom_formed}
use Rattle.sources.proofs.Opened.{stopped}
use Rattle.sources.proofs.record_table.check.Goals as goal

pub loop-i-preserved : goal.loop-i-preserved
loop-i-preserved c =
    let passed = c.in_ok-check.ensures.0 in
    (c.loop-i.invariant.0, All-more (WellFormed c.args.classes c.args.roles) c.args.records.now c.loop-i.i blank c.loop-i-test.true c.loop-i.invariant.1 (axiom_formed _ _ _ passed))

pub returns-in_err-check : goal.returns-in_err-check
returns-in_err-check c =
    let p = err_from_is_err_and c.from_residual.result c.from_residual.ensures.1 in
    let bad = c.in_err-check.ensures in
    rw (p.1, p.2) (stopped _ _ _ c.loop-i.i _ _ _ c.loop-i.invariant.0 c.loop-i-test.true c.loop-i.invariant.1 bad.0 bad.1 bad.2)

pub returns : goal.returns
returns c = (c.loop-i.invariant.0, subst (AllByRecursion (WellFormed c.args.classes c.args.roles)) (take_all c.loop-i.i c.args.records.now c.loop-i-test.false) c.loop-i.invariant.1)
