-- The two kinds of line, and what making one does to the buffer that it is made in.
use Rattle.std.specs.Prelude.{◌≡◌, ℕ, ◌+◌, ◌<◌, ◌≤◌, List, [], ◌∷◌, ◌++◌, length, take, drop, codes}
use Rattle.terms.specs.declared.refusals.Fault.{Fault}
use Rattle.terms.specs.declared.refusals.Layer.{Layer}
use Rattle.terms.specs.declared.refusals.Layer.TheVariants.{Line}
use Rattle.terms.specs.Refusals.{written, Told, done, refused, Checks, end, check}
use Rattle.sources.specs.Meanings.{Meaning, name_of}

abbrev pub in_line : Layer
in_line = Line

-- a line feed
abbrev pub feed : List ℕ
feed = 10 ∷ []

-- the lower class under the upper, by their names
abbrev pub under_bytes : Meaning → ℕ → ℕ → List ℕ
under_bytes m lower upper = name_of m lower ++ (codes " under " ++ (name_of m upper ++ feed))

abbrev pub refusal_bytes : Fault → List ℕ
refusal_bytes f = written f ++ feed

-- a buffer has room for every line
abbrev pub Room : List ℕ → Type 0
Room buffer = 88 ≤ length buffer

abbrev pub under_checks : Meaning → ℕ → ℕ → List ℕ → Checks
under_checks m lower upper buffer = check 10 ((lower < m.classes) × (upper < m.classes)) (check 11 (Room buffer) end)

abbrev pub refusal_checks : List ℕ → Checks
refusal_checks buffer = check 11 (Room buffer) end

-- n is the length of the line, and no line has more than 88 bytes
abbrev pub Long : List ℕ → ℕ → Type 0
Long line n = (n ≡ length line) × (n ≤ 88)

-- what a buffer holds after a call that told this: the line and behind it what stood there, or after a refusal what it held
abbrev pub buffer_after : List ℕ → List ℕ → Told ℕ → List ℕ
buffer_after line before (done n) = line ++ drop (length line) before
buffer_after line before (refused n p y) = before

-- a buffer that held u holds v now: the text was written from the place on, and nothing else changed
pub record Wrote (u : List ℕ) (place : ℕ) (text : List ℕ) (v : List ℕ) : Type 0 where
  pub is : v ≡ take place u ++ (text ++ drop (place + length text) u)
