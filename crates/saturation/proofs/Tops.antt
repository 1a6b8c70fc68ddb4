-- The head of a record, and of the clause that it means.
use Rattle.std.proofs.Common.{◌≡◌, ℕ, List, Some, None, Option, refl, ap, arith}
use Rattle.closure.specs.Closures.{plain}
use Rattle.tables.specs.Records.{Tops}
use Rattle.tables.specs.Tables.{clause_of, part_of}
use Rattle.tables.specs.declared.records.ContextRecord.{ContextRecord}
use Rattle.tables.specs.declared.records.RolePart.{RolePart}
use Rattle.tables.specs.declared.records.ClauseRecord.{ClauseRecord}
use Rattle.saturation.specs.Conclusions.{Headed}

-- only a record without role part means a clause without one
pub plain_none : (xs : List ContextRecord) (p : Option RolePart) → part_of xs p ≡ plain → p ≡ None
plain_none xs None e = refl
plain_none xs (Some r) e = let z : ◌≡◌ {A = ℕ} 0 1 = cc in absurd (omega arith)

-- the record has a head where the clause that it means has one
pub headed_of : (x : ClauseRecord) {a : ℕ} → Tops x a → (xs : List ContextRecord) → Headed (clause_of xs x) a
headed_of x t xs = record { lone = ap (part_of xs) t.lonely; head = t.highest }

pub tops_of : (x : ClauseRecord) (xs : List ContextRecord) {a : ℕ} → Headed (clause_of xs x) a → Tops x a
tops_of x xs h = record { lonely = plain_none xs x.part h.lone; highest = h.head }
