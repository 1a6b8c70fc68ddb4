use Rattle.closure.proofs.least.Goals as goal
use Rattle.closure.proofs.Leastness.{keeps_rules, least}

pub returns : goal.returns
returns c = (keeps_rules, least)
