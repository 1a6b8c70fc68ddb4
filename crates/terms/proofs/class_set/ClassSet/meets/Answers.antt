use Rattle.terms.proofs.Words.{meets_test}
use Rattle.terms.proofs.class_set.ClassSet.meets.Goals as goal

pub returns : goal.returns
returns c = meets_test c.args.self.bits c.args.other.bits
