use Rattle.std.proofs.Common.{arith}
use Rattle.terms.proofs.Words.{count_size}
use Rattle.terms.proofs.class_set.ClassSet.len.Goals as goal

pub returns : goal.returns
returns c = count_size c.args.self.bits (omega arith)
