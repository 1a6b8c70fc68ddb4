-- The world that a model table shows: rows of 64-bit words, one row an element.
use Rattle.std.specs.Prelude.{ℕ, ◌+◌, ◌*◌, ◌/◌, ◌%◌, ◌≤◌, ◌&&◌, List, length, nat_lt, slice_index}
use Rattle.terms.specs.Sets.{has}
use Rattle.terms.specs.Refusals.{Checks, end, check}
use Rattle.worlds.specs.Worlds.{World}

-- how many words a row has where there are r roles
abbrev pub row_width : ℕ → ℕ
row_width r = 1 + 4 * r

-- The row of element e begins at word e × (1 + 4 × r). Its first word has bit a for class a;
-- successor f by role k is bit f mod 64 of word 1 + 4 × k + (f div 64). Roles from r up link nothing.
abbrev pub model_world : List ℕ → ℕ → ℕ → World
model_world words r n = record {
  size = n;
  is_in = λ e a. nat_lt e n && has (slice_index words (e * row_width r)) a;
  links = λ k d f. nat_lt k r && (nat_lt d n && (nat_lt f n && has (slice_index words (d * row_width r + (1 + 4 * k + f / 64))) (f % 64)));
}

abbrev pub model_checks : List ℕ → ℕ → ℕ → Checks
model_checks words r n = check 11 ((r ≤ 16) × (n * row_width r ≤ length words)) (check 12 ((1 ≤ n) × (n ≤ 256)) end)
