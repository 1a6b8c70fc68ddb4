-- The world that a table of entries shows: one word of classes an entry, and a list of links.
use Rattle.std.specs.Prelude.{◌≡◌, ℕ, zero, suc, ◌/◌, ◌%◌, ◌<◌, ◌≤◌, Bool, true, false, cond, ◌&&◌, ◌||◌, List, [], ◌∷◌, Option, Some, None, length, ◌==◌, slice_index, slice_index_or}
use Rattle.std.specs.List.{AllByRecursion}
use Rattle.terms.specs.Sets.{has}
use Rattle.terms.specs.Refusals.{Checks, end, check}
use Rattle.worlds.specs.Worlds.{World}
use Rattle.worlds.specs.declared.link.Link.{Link}

-- the link is one by role k from d to f
abbrev pub is_link : ℕ → ℕ → ℕ → Link → Bool
is_link k d f x = x.from == d && (x.role == k && x.to == f)

-- some link of the list is one by role k from d to f
abbrev pub any_link : List Link → ℕ → ℕ → ℕ → Bool
any_link [] k d f = false
any_link (x ∷ xs) k d f = is_link k d f x || any_link xs k d f

abbrev pub entry_world : List ℕ → List Link → World
entry_world words xs = record { size = length words; is_in = λ e a. has (slice_index words e) a; links = λ k d f. any_link xs k d f }

-- both ends are among n elements, and the role is below 16
abbrev pub Fits : ℕ → Link → Type 0
Fits n x = (x.from < n) × (x.role < 16) × (x.to < n)

abbrev pub entry_checks : List ℕ → List Link → Checks
entry_checks words xs = check 12 ((1 ≤ length words) × (length words ≤ 4096) × (length xs ≤ 16384)) (check 13 (AllByRecursion (Fits (length words)) xs) end)

-- what is read of a list of links past its end; no promise speaks of it
abbrev pub no_link : Link
no_link = record { from = 0; role = 0; to = 0 }

-- the number of the last link from d among the first k, if there is one
abbrev pub latest : List Link → ℕ → ℕ → Option ℕ
latest xs d zero = None
latest xs d (suc k) = cond ((slice_index_or xs k no_link).from == d) (Some k) (latest xs d k)

-- the numbers of the last link from each of 4,096 elements, among the first k
abbrev pub Last : List Link → List (Option ℕ) → ℕ → Type 0
Last xs last k = (d : ℕ) → d < 4096 → slice_index_or last d None ≡ latest xs d k

-- the number before each of the first k links in the chain of the element that it is from
abbrev pub Chained : List Link → List (Option ℕ) → ℕ → Type 0
Chained xs previous k = (i : ℕ) → i < k → slice_index_or previous i None ≡ latest xs (slice_index_or xs i no_link).from i

-- the links from d among the first k, from the last to the first
abbrev pub links_from : List Link → ℕ → ℕ → List Link
links_from xs d zero = []
links_from xs d (suc k) = cond ((slice_index_or xs k no_link).from == d) (slice_index_or xs k no_link ∷ links_from xs d k) (links_from xs d k)

-- the link of that number, and then those before it from the same element
abbrev pub chain : List Link → Option ℕ → List Link
chain xs None = []
chain xs (Some k) = slice_index_or xs k no_link ∷ links_from xs (slice_index_or xs k no_link).from k

-- number j is marked in these words
abbrev pub marked : List ℕ → ℕ → Bool
marked words j = has (slice_index words (j / 64)) (j % 64)

-- each of the 64 bits that is 1 in a word is 1 in another
abbrev pub BitsWithin : ℕ → ℕ → Type 0
BitsWithin word there = (b : ℕ) → b < 64 → has word b ≡ true → has there b ≡ true
