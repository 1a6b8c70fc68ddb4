-- A list of numbers, each of which says a number or none.
use Rattle.std.proofs.Common.{◌≡◌, ℕ, List, Option, length, set, ap, ◌∙◌}
use Rattle.std.proofs.lemmas.List.{map-set, length-map}
use Rattle.worlds.specs.Slots.{number_in, numbers_in}

pub length_numbers : (xs : List ℕ) → length (numbers_in xs) ≡ length xs
length_numbers xs = length-map xs number_in

pub numbers_set : (xs : List ℕ) (i n : ℕ) (o : Option ℕ) → number_in n ≡ o → numbers_in (set xs i n) ≡ set (numbers_in xs) i o
numbers_set xs i n o e = map-set number_in xs i n ∙ ap (set (numbers_in xs) i) e
