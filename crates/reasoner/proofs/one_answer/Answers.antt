use Rattle.reasoner.proofs.Pinned.{one_answer}
use Rattle.reasoner.proofs.one_answer.Goals as goal

pub returns : goal.returns
returns c = one_answer
