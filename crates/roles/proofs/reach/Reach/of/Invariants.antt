use Rattle.std.proofs.Common.{◌≡◌, List, ◌++◌, length}
use Rattle.terms.specs.declared.axioms.Axiom.{Axiom}
use Rattle.roles.proofs.Rows.{Own, Tested}
use Rattle.roles.proofs.reach.Reach.of.Given as goal

abbrev pub invariant-loop-role : goal.invariant-loop-role
invariant-loop-role l = Own l.row-items l.role

-- the axioms to go, and those that are done
abbrev pub invariant-loop-axiom : goal.invariant-loop-axiom
invariant-loop-axiom l = (length l.rows ≡ 16) × ((done : List Axiom) × (l.axioms ≡ l.axiom-iterator.iter.rest.now ++ done) × Tested done l.rows)
