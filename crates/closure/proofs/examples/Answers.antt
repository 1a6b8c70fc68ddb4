use Rattle.closure.proofs.examples.Goals as goal
use Rattle.closure.proofs.Rows.{rows_right, five_slots_short}
use Rattle.closure.proofs.Instances.{word_five, word_five_anywhere, lone_breaks}

pub returns : goal.returns
returns c = (rows_right, five_slots_short, word_five, word_five_anywhere, lone_breaks)
