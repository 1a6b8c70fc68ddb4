use Rattle.std.proofs.Common.{◌<◌, ◌≤◌, sym, ◌∙◌, arith}
use Rattle.std.proofs.lemmas.Bool.{le-ltb}
use Rattle.terms.proofs.Masks.{past_none}
use Rattle.terms.proofs.Words.{shift_only, test_only}
use Rattle.terms.proofs.class_set.ClassSet.contains.Goals as goal

pub returns-then-class-lt-MOST : goal.returns-then-class-lt-MOST
returns-then-class-lt-MOST c =
    let lt : c.args.class < 64 = omega arith in
    rw (shift_only c.args.class lt) (test_only c.args.self.bits c.args.class)

pub returns-else-class-lt-MOST : goal.returns-else-class-lt-MOST
returns-else-class-lt-MOST c =
    let past : 64 ≤ c.args.class = omega arith in
    le-ltb c.args.class 64 past ∙ sym (past_none 64 c.args.self.bits c.args.class (omega arith) past)
