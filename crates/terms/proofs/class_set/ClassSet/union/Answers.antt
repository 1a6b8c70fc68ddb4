use Rattle.std.proofs.Common.{refl}
use Rattle.terms.specs.Sets.{join}
use Rattle.terms.proofs.class_set.ClassSet.union.Goals as goal

pub returns : goal.returns
unfolding join
returns c = refl
