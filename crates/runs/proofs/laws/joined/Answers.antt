use Rattle.runs.proofs.Running.{run_joined}
use Rattle.runs.proofs.laws.joined.Goals as goal

pub returns : goal.returns
returns c m l own later last cs ds hs ks p q = run_joined p q
