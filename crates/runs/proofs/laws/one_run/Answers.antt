use Rattle.runs.proofs.Pinned.{one_run}
use Rattle.runs.proofs.laws.one_run.Goals as goal

pub returns : goal.returns
returns c = one_run
