-- Two records that are read together.
use Rattle.std.specs.Prelude.{◌≡◌, ℕ, ◌<◌, Some}
use Rattle.tables.specs.Records.{Tops}
use Rattle.tables.specs.Tables.{Cites}
use Rattle.saturation.specs.declared.pairs.Meeting.{Meeting}

-- the first record has the role part, the second has the head and no role part, and both cite contexts below n
pub record Meets (n : ℕ) (m : Meeting) : Type 0 where
  pub towards : m.clause.part ≡ Some m.part
  pub role_low : m.part.role < 16
  pub cited : Cites n m.clause
  pub tops : Tops m.other m.top
  pub top_low : m.top < 64
  pub there : Cites n m.other
