use Rattle.sheets.specs.Held.{held}
use Rattle.sheets.proofs.Progress.{Sofar}
use Rattle.sheets.proofs.contents.Sheet.parse.Given as goal

abbrev pub invariant-loop-field : goal.invariant-loop-field
invariant-loop-field l = Sofar l.text (held l.sheet) l.field-iterator.rest.now l.field-iterator.place
