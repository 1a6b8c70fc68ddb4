use Rattle.terms.proofs.Words.{shift_only}
use Rattle.terms.proofs.class_set.ClassSet.single.Goals as goal

pub returns : goal.returns
returns c = shift_only c.args.class c.requires
