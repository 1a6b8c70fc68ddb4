use Rattle.tables.proofs.Counting.{each_once, counts_right, full_right, fits_right}
use Rattle.tables.proofs.filled.Goals as goal

pub returns : goal.returns
returns c = (each_once, counts_right, full_right, fits_right)
