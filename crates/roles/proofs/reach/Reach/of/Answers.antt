use Rattle.std.proofs.Common.{rules, ◌≡◌, [], ◌++◌, sym, ◌∙◌, ap, subst, append-nil, arith}
use Rattle.std.proofs.lemmas.List.{nil_from_length}
use Rattle.roles.proofs.Rows.{Tested, tested_none, tested_other, tested_more, tested_shows, one_done, sup_low, own_turn}
use Rattle.roles.proofs.reach.Reach.of.Goals as goal

pub loop-role-preserved : goal.loop-role-preserved
loop-role-preserved c = own_turn c.loop-role.row-items c.loop-role.role c.bits.result c.loop-role-test.true (c.bits.ensures ∙ c.single.ensures) c.loop-role.invariant

pub loop-axiom-init : goal.loop-axiom-init
loop-axiom-init c =
    let all : c.into_iter-axiom-iterator.result.iter.rest.now ≡ c.args.axioms.now = search rules in
    (c.loop-role.invariant.0, ([], sym (append-nil _ ∙ all), tested_none c.loop-role.row-items (λ p l. c.loop-role.invariant.1 p (omega arith))))

pub include-requires : goal.include-requires
include-requires c =
    let i = c.loop-axiom.invariant in
    (i.0, sup_low _ _ i.1.0 _ _ _ c.requires (one_done _ _ _ i.1.0 _ i.1.1 c.in-Some.ensures.steps) c.in-RoleInclusion.is)

pub loop-axiom-preserved-in-RoleInclusion : goal.loop-axiom-preserved-in-RoleInclusion
loop-axiom-preserved-in-RoleInclusion c =
    let i = c.loop-axiom.invariant in
    let e = one_done _ _ _ i.1.0 _ i.1.1 c.in-Some.ensures.steps in
    (c.include.auto.rows ∙ i.0, (_, e, tested_more _ i.1.0 _ _ c.loop-axiom.rows c.include.new.rows c.in-RoleInclusion.is (sup_low _ _ i.1.0 _ _ _ c.requires e c.in-RoleInclusion.is) c.include.ensures i.1.2))

pub loop-axiom-preserved : goal.loop-axiom-preserved
loop-axiom-preserved c =
    let i = c.loop-axiom.invariant in
    (i.0, (_, one_done _ _ _ i.1.0 _ i.1.1 c.in-Some.ensures.steps, tested_other _ i.1.0 c.loop-axiom.rows c.in_default.not-RoleInclusion i.1.2))

pub invariant_of-result : goal.invariant_of-result
invariant_of-result c = record { ok = c.loop-axiom.invariant.0 }

pub returns : goal.returns
returns c =
    let i = c.loop-axiom.invariant in
    tested_shows c.args.axioms.now c.loop-axiom.rows i.0 c.requires (subst (λ xs. Tested xs c.loop-axiom.rows) (sym (i.1.1 ∙ ap (λ r. r ++ i.1.0) (nil_from_length _ c.in-None.ensures.steps.0))) i.1.2)
