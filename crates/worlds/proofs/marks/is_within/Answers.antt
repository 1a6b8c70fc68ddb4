use Rattle.std.proofs.Common.{sym, arith}
use Rattle.worlds.proofs.Marking.{bits_within}
use Rattle.worlds.proofs.marks.is_within.Goals as goal

pub returns : goal.returns
returns c = rw (sym c.from_bits.ensures) (rw (sym c.from_bits-2.ensures) (bits_within _ _ (omega arith) c.is_subset.result c.is_subset.ensures))
