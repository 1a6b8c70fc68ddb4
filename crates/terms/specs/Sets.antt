-- Sets of classes, held as the bits of a number: class a is in s where bit a of s is 1.
use Rattle.std.specs.Prelude.{◌≡◌, ℕ, zero, suc, ◌+◌, ◌-◌, ◌/◌, ◌%◌, ◌^◌, ◌<◌, ◌≤◌, Bool, true, cond, Some, None, Option, ◌==◌, bit_or}

unfoldable pub has : ℕ → ℕ → Bool
has s a = (s / 2 ^ a) % 2 == 1

-- class a is in s
abbrev pub Has : ℕ → ℕ → Type 0
Has s a = has s a ≡ true

-- the set of a alone
unfoldable pub only : ℕ → ℕ
only a = 2 ^ a

-- the classes in s or in t
unfoldable pub join : ℕ → ℕ → ℕ
join s t = bit_or s t

-- s, and a not in it
unfoldable pub without : ℕ → ℕ → ℕ
without s a = cond (has s a) (s - 2 ^ a) s

-- each class of s is in t
abbrev pub Within : ℕ → ℕ → Type 0
Within s t = (a : ℕ) → Has s a → Has t a

-- some class is in both
abbrev pub Meet : ℕ → ℕ → Type 0
Meet s t = (a : ℕ) × Has s a × Has t a

-- each class of s is below c
abbrev pub Below : ℕ → ℕ → Type 0
Below c s = (a : ℕ) → Has s a → a < c

abbrev pub Highest : ℕ → ℕ → Type 0
Highest s a = Has s a × ((b : ℕ) → Has s b → b ≤ a)

abbrev pub Lowest : ℕ → ℕ → Type 0
Lowest s a = Has s a × ((b : ℕ) → Has s b → a ≤ b)

-- how many classes below k are in s
unfoldable pub count_below : ℕ → ℕ → ℕ
count_below s zero = 0
count_below s (suc k) = count_below s k + cond (has s k) 1 0

-- how many classes are in s; classes are numbers below 64
unfoldable pub size : ℕ → ℕ
size s = count_below s 64

-- one step through a set by rising class: with s to go, the lowest class of s comes and t is left, or s has none
abbrev pub Rises : ℕ → Option ℕ → ℕ → Type 0
Rises s None t = (s ≡ zero) × (t ≡ zero)
Rises s (Some a) t = Lowest s a × (a < 64) × (t ≡ without s a)
