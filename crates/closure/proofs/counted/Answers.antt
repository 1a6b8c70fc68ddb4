use Rattle.closure.proofs.counted.Goals as goal
use Rattle.closure.proofs.Counting.{counted}

pub returns : goal.returns
returns c = counted
