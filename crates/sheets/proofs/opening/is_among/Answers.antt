use Rattle.sheets.proofs.Spellings.{among_spelled}
use Rattle.sheets.proofs.opening.is_among.Goals as goal

pub returns : goal.returns
returns c = among_spelled c.args.names.now c.args.name.now.items c.contains.result c.contains.ensures.value
