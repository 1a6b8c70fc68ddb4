use Rattle.terms.proofs.Words.{subset_test}
use Rattle.terms.proofs.class_set.ClassSet.is_subset.Goals as goal

pub returns : goal.returns
returns c = subset_test c.args.self.bits c.args.other.bits
