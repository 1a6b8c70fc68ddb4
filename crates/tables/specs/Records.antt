-- Clauses without role part.
use Rattle.std.specs.Prelude.{◌≡◌, ℕ, None}
use Rattle.terms.specs.Sets.{Highest}
use Rattle.terms.specs.Axioms.{set_of}
use Rattle.tables.specs.declared.records.ClauseRecord.{ClauseRecord}

-- the record of a clause of the context in slot h, without role part
abbrev pub lone : ℕ → ℕ → ClauseRecord
lone h D = record { context = h; classes = set_of D; part = None }

-- the record has no role part, and a is its highest class
pub record Tops (x : ClauseRecord) (a : ℕ) : Type 0 where
  pub lonely : x.part ≡ None
  pub highest : Highest x.classes.bits a
