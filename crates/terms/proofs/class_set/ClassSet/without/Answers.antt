use Rattle.std.proofs.Common.{arith}
use Rattle.terms.proofs.Words.{shift_only, and_not_only}
use Rattle.terms.proofs.class_set.ClassSet.without.Goals as goal

pub returns : goal.returns
returns c = rw (shift_only c.args.class c.requires) (and_not_only 64 c.args.self.bits c.args.class (omega arith) c.requires)
