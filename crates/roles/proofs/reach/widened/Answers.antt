use Rattle.std.proofs.Common.{arith}
use Rattle.std.proofs.lemmas.Bool.Decides.{nat_tests}
use Rattle.terms.proofs.Masks.{has_join}
use Rattle.roles.proofs.reach.widened.Goals as goal

pub returns-then-contains : goal.returns-then-contains
returns-then-contains c q =
    let joined = has_join c.args.row.bits c.args.more.bits q in
    let there = c.if-contains.ensures in
    rw c.union.ensures (grind (arith, nat_tests))

pub returns-else-contains : goal.returns-else-contains
returns-else-contains c q = let not_there = c.if-contains.ensures in grind (arith, nat_tests)
