use Rattle.closure.proofs.sound.Goals as goal
use Rattle.closure.proofs.Truths.{sound_clauses, sound}

pub returns : goal.returns
returns c = (sound_clauses, sound)
