use Rattle.std.proofs.Common.{◌∙◌}
use Rattle.std.proofs.lemmas.Result.{err_from_is_err_and}
use Rattle.sheets.specs.Held.{entry_of}
use Rattle.sheets.proofs.Progress.{step, stop_field, stop_entry, read_field}
use Rattle.sheets.proofs.contents.Sheet.parse.Goals as goal

pub returns-in_err-item : goal.returns-in_err-item
returns-in_err-item c =
    let p = err_from_is_err_and c.from_residual-in_err-item.result c.from_residual-in_err-item.ensures.1 in
    let read = read_field _ _ _ _ c.in_ok-field.was c.in-Some.ensures.steps in
    let bad = c.in_err-item.ensures in
    rw (p.1, p.2) (stop_field c.loop-field.invariant _ _ _ _ _ _ (bad.1 ∙ read.1) bad.2 read.0 bad.0)

pub loop-field-preserved : goal.loop-field-preserved
loop-field-preserved c =
    let read = read_field _ _ _ _ c.in_ok-field.was c.in-Some.ensures.steps in
    let said = c.in_ok-item.ensures in
    let took = c.in_ok-add.ensures in
    step c.loop-field.invariant _ _ (entry_of c.in_ok-item.field-0) _ _ _ read.0 read.2 said.1 said.0 took.0 took.1

pub returns-in_err-add : goal.returns-in_err-add
returns-in_err-add c =
    let p = err_from_is_err_and c.from_residual-in_err-add.result c.from_residual-in_err-add.ensures.1 in
    let read = read_field _ _ _ _ c.in_ok-field.was c.in-Some.ensures.steps in
    let said = c.in_ok-item.ensures in
    let bad = c.in_err-add.ensures in
    rw (p.1, p.2) (stop_entry c.loop-field.invariant _ _ _ _ _ _ (entry_of c.in_ok-item.field-0) (bad.1 ∙ read.1) bad.2 read.0 said.1 said.0 bad.0)
