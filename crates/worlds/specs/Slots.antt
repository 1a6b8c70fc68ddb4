-- The number of a link, or none, as one number.
use Rattle.std.specs.Prelude.{ℕ, zero, suc, List, map, Option, Some, None}

-- the number that is one less, and none for 0
abbrev pub number_in : ℕ → Option ℕ
number_in zero = None
number_in (suc k) = Some k

abbrev pub numbers_in : List ℕ → List (Option ℕ)
numbers_in slots = map number_in slots
