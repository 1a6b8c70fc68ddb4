-- Finding a class by its name.
use Rattle.std.specs.Prelude.{◌≡◌, ℕ, ◌<◌, List, Some, None, Option, ◌≢◌}
use Rattle.sources.specs.Meanings.{Meaning, name_of}

-- no class below k has the name
abbrev pub NoneBelow : Meaning → List ℕ → ℕ → Type 0
NoneBelow m name k = (a : ℕ) → a < k → name_of m a ≢ name

-- the lowest class of just that name, or none where no class has it
abbrev pub Finds : Meaning → List ℕ → Option ℕ → Type 0
Finds m name None = NoneBelow m name m.classes
Finds m name (Some a) = (a < m.classes) × (name_of m a ≡ name) × NoneBelow m name a
