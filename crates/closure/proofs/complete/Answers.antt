use Rattle.closure.proofs.complete.Goals as goal
use Rattle.closure.proofs.Obedience.{canonical_obeys}
use Rattle.closure.proofs.Existence.{canonical_exists, complete}

pub returns : goal.returns
returns c = (canonical_obeys, canonical_exists, complete)
