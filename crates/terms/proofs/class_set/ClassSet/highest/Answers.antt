use Rattle.std.proofs.Common.{arith}
use Rattle.terms.proofs.Masks.{highest_between}
use Rattle.terms.proofs.class_set.ClassSet.highest.Goals as goal

pub returns-else-is_empty : goal.returns-else-is_empty
returns-else-is_empty c = (highest_between c.args.self.bits _ (omega arith) (omega arith), omega arith)
