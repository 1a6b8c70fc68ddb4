use Rattle.std.proofs.Common.{◌≡◌, length, None, Result, refl, ap, subst, inl, rules}
use Rattle.std.proofs.lemmas.Result.{err_from_is_err_and}
use Rattle.std.proofs.lemmas.Bool.Decides.{not_from_Decides}
use Rattle.terms.specs.Refusals.{number, check, end}
use Rattle.terms.specs.declared.refusals.Fault.{Fault}
use Rattle.terms.specs.declared.refusals.Refusal.TheVariants.{ClosureFull}
use Rattle.terms.proofs.Checking.{refuses}
use Rattle.closure.specs.Closures.{rising}
use Rattle.tables.specs.Adding.{Enters}
use Rattle.tables.specs.Tables.{tables, InClosure}
use Rattle.tables.specs.declared.members.Counts.{Counts}
use Rattle.tables.specs.declared.entering.Full.{Full}
use Rattle.reasoner.specs.Asks.{in_ask, goal_of, FitsInto, unused}
use Rattle.reasoner.proofs.Results.{kept, turned}
use Rattle.reasoner.proofs.Closing.{among_taken, overflows, begun, saturated, starts, fits, filled, empty_refuted, refuted_empty, right_nothing, right_something}
use Rattle.reasoner.proofs.asking.fill.Goals as goal

pub returns-in_err-counts : goal.returns-in_err-counts
returns-in_err-counts c =
    let p = err_from_is_err_and c.from_residual.result c.from_residual.ensures.1 in
    let f = c.in_err-counts.field-0.0 in
    let made : f ≡ record { kind = ClosureFull; place = 0; layer = in_ask } = search rules in
    let t = turned _ c.map_err.ensures.cases _ c.in_err-counts.was in
    let G = goal_of c.args.goal.held c.args.goal.denied in
    let q =
    subst (λ (r : Result Counts Full). Enters (InClosure rising c.args.axioms.now G) (tables c.args.contexts.now c.args.clauses.now unused) (tables c.saturate.new.contexts c.saturate.new.clauses) r) t.1 c.saturate.ensures.closure in
    let cs = check 23 (FitsInto c.args.axioms.now G (length c.args.contexts.now) (length c.args.clauses.now)) end in
    rw (p.1, p.2) (record { gives = refuses cs 0 in_ask ClosureFull f made (inl (refl, overflows q.1)); after = inl (ap (λ (f : Fault). number f.kind) made, (q.0, begun q.1)) })

pub returns-then-is_refuted : goal.returns-then-is_refuted
returns-then-is_refuted c =
    let told = kept _ c.map_err.ensures.cases _ c.in_ok-counts.was in
    let p = saturated told c.saturate.ensures.closure in
    let first = starts (goal_of c.args.goal.held c.args.goal.denied) c.saturate.new.contexts told c.saturate.ensures.first in
    record { gives = ((fits p, tt), (right_nothing p (empty_refuted p first.0 first.1 ((among_taken _ _ _ p.grows.good.clauses_fit).0 (c.is_refuted.ensures.0 c.if-is_refuted.true))), tt)); after = filled p first.0 first.1 }

pub returns : goal.returns
returns c =
    let told = kept _ c.map_err.ensures.cases _ c.in_ok-counts.was in
    let p = saturated told c.saturate.ensures.closure in
    let first = starts (goal_of c.args.goal.held c.args.goal.denied) c.saturate.new.contexts told c.saturate.ensures.first in
    record { gives = ((fits p, tt), (right_something p (λ h. not_from_Decides _ c.is_refuted.ensures c.if-is_refuted.false ((among_taken _ _ _ p.grows.good.clauses_fit).1 (refuted_empty p first.0 first.1 h))) None, tt)); after = filled p first.0 first.1 }
