-- Going through the fields of a text.
use Rattle.std.specs.Prelude.{◌≡◌, ℕ, ◌+◌, ◌<◌, List, [], ◌++◌, length, Option, Some, None, Result, Ok, Err}
use Rattle.terms.specs.declared.refusals.Fault.{Fault}
use Rattle.terms.specs.declared.refusals.Refusal.TheVariants.{CutShort}
use Rattle.sheets.specs.declared.field.Field.{Field}
use Rattle.sheets.specs.Sheets.{field_of, in_sheet, Short}

-- one step: with the bytes at the place to go, a field or a refusal comes and the rest is left, or the bytes are at their end
abbrev pub Reads : List ℕ → ℕ → Option (Result Field Fault) → List ℕ → ℕ → Type 0
Reads bytes place None rest next = bytes ≡ []
Reads bytes place (Some (Ok f)) rest next = (bytes ≡ field_of f.tag f.body.now ++ rest) × (f.place ≡ place) × (next ≡ place + length (field_of f.tag f.body.now))
Reads bytes place (Some (Err e)) rest next = (e ≡ record { kind = CutShort; place = place; layer = in_sheet }) × Short bytes × (0 < length bytes)
