use Rattle.std.proofs.Common.{rules}
use Rattle.terms.proofs.Masks.{some_nonzero}
use Rattle.terms.proofs.class_set.ClassSet.is_below.Goals as goal

pub returns : goal.returns
returns c = search (rules, some_nonzero)
