use Rattle.std.proofs.Common.{take}
use Rattle.sources.specs.Meanings.{name_of}
use Rattle.lines.specs.Writing.{Writes}
use Rattle.lines.proofs.writer.Writer.name.Given as goal

abbrev pub invariant-loop-i : goal.invariant-loop-i
invariant-loop-i g l = Writes l.initial.self (take l.i (name_of (g.S.Source.meaning l.source) l.class)) l.self
