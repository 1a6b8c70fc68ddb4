use Rattle.std.proofs.Common.{rules}
use Rattle.lines.specs.Lines.{under_bytes}
use Rattle.lines.specs.Writing.{Writes}
use Rattle.lines.proofs.Writing.{and_then, from_start}
use Rattle.lines.proofs.under.under_line.Goals as goal

pub returns-clause-after : goal.returns-clause-after
returns-clause-after g c =
    let m = g.S.Source.meaning c.args.source.now in
    let line : Writes c.new-line.result (under_bytes m c.args.lower c.args.upper) c.bytes-2.new.self =
    and_then c.name.ensures (and_then c.bytes.ensures (and_then c.name-2.ensures c.bytes-2.ensures)) in
    search (rules, from_start)
