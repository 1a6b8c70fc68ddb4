use Rattle.closure.proofs.verdict.Goals as goal
use Rattle.closure.proofs.Judgement.{verdict_right, one_verdict}

pub returns : goal.returns
returns c = (verdict_right, one_verdict)
