use Rattle.tables.proofs.Additions.{adds_none}
use Rattle.saturation.proofs.Partners.{unshared_none}
use Rattle.saturation.proofs.pairs.pair.Goals as goal

pub returns-in_default-clause-gives : goal.returns-in_default-clause-gives
returns-in_default-clause-gives c t e first second =
    adds_none c.args.tables.now.good (unshared_none c.args.clause c.args.other c.args.tables.now.good c.requires.cited.0 c.requires.cited.1 first second c.in_default.ensures)
