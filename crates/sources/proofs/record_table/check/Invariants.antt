use Rattle.std.proofs.Common.{take}
use Rattle.std.specs.List.{AllByRecursion}
use Rattle.terms.specs.Axioms.{WellFormed}
use Rattle.sources.specs.Tables.{Sized}
use Rattle.sources.proofs.record_table.check.Given as goal

abbrev pub invariant-loop-i : goal.invariant-loop-i
invariant-loop-i l = Sized l.classes l.roles l.records × AllByRecursion (WellFormed l.classes l.roles) (take l.i l.records)
