-- That tables are safe, and that elements are numbered, is one fact each, however it was shown: a type can hold it.
use Rattle.std.specs.Prelude.{ℕ, Bool, List, Some, None, Option}
use Rattle.std.specs.Coded.{×_prop, Π_prop, →_prop, Unit-prop, le_prop, Coded-set, coded_ℕ, coded_bool}
use mathlib.Core.HLevel.{⊥_prop}
use Rattle.tables.specs.declared.records.ContextRecord.{ContextRecord}
use Rattle.tables.specs.declared.records.RolePart.{RolePart}
use Rattle.tables.specs.declared.records.ClauseRecord.{ClauseRecord}
use Rattle.tables.specs.Tables.{PartCites-prop}
use Rattle.models.specs.Writing.{RoleBelow}
use Rattle.models.specs.Elements.{Safe, Tells, live_in, Numbered}

below_prop : (n : ℕ) (p : Option RolePart) → IsProp (RoleBelow n p)
below_prop n None = Unit-prop
below_prop n (Some r) = le_prop

pub safe_prop : (cs : List ContextRecord) (xs : List ClauseRecord) → IsProp (Safe cs xs)
safe_prop cs xs p q = λ i. record {
  few = le_prop p.few q.few i;
  cited = Π_prop (λ k. →_prop (×_prop le_prop (PartCites-prop _ _))) p.cited q.cited i;
  low = Π_prop (λ k. →_prop (below_prop _ _)) p.low q.low i;
}

tells_prop : (xs : List ClauseRecord) (k : ℕ) (live : List Bool) → IsProp (Tells xs k live)
tells_prop xs k live p q = λ i. record {
  size = Coded-set coded_ℕ _ _ p.size q.size i;
  right = Π_prop (λ h. →_prop (×_prop (→_prop (→_prop ⊥_prop)) (→_prop (Coded-set coded_bool _ _)))) p.right q.right i;
}

pub numbered_prop : (xs : List ClauseRecord) (numbers : List (Option ℕ)) → IsProp (Numbered xs numbers)
numbered_prop xs numbers p q = λ i. record {
  tells = tells_prop xs _ (live_in numbers) p.tells q.tells i;
  right = Π_prop (λ h. Π_prop (λ n. →_prop (Coded-set coded_ℕ _ _))) p.right q.right i;
}
