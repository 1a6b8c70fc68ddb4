-- What a table of axiom records means, and when it is refused.
use Rattle.std.specs.Prelude.{◌≡◌, ℕ, ◌<◌, ◌≤◌, ◌⊎◌, List, [], length, take, replicate, slice_index_or}
use Rattle.std.specs.List.{AllByRecursion}
use Rattle.terms.specs.declared.axioms.Axiom.{Axiom}
use Rattle.terms.specs.declared.refusals.Layer.{Layer}
use Rattle.terms.specs.declared.refusals.Layer.TheVariants.{RecordTable}
use Rattle.terms.specs.Axioms.{WellFormed, axiom_checks, blank}
use Rattle.terms.specs.Refusals.{Told, done, refused, end, FirstFailing}
use Rattle.sources.specs.Meanings.{Meaning}

abbrev pub in_table : Layer
in_table = RecordTable

-- c classes with empty names, r roles, and the records as axioms
abbrev pub table_meaning : ℕ → ℕ → List Axiom → Meaning
table_meaning c r xs = record { classes = c; roles = r; names = replicate c []; axioms = xs }

-- there are at most 64 classes, 16 roles and 1,024 records
abbrev pub Sized : ℕ → ℕ → List Axiom → Type 0
Sized c r xs = (c ≤ 64) × (r ≤ 16) × (length xs ≤ 1024)

-- record p is the first that fails a check, and n is the number of the first that it fails
pub record Stops (c r : ℕ) (xs : List Axiom) (n p : ℕ) : Type 0 where
  pub sized : Sized c r xs
  pub there : p < length xs
  pub before : AllByRecursion (WellFormed c r) (take p xs)
  pub fails : FirstFailing (axiom_checks c r (slice_index_or xs p blank) end) n

-- what opening such a table tells
abbrev pub Opening : ℕ → ℕ → List Axiom → Told (Unit {0}) → Type 0
Opening c r xs (done u) = Sized c r xs × AllByRecursion (WellFormed c r) xs
Opening c r xs (refused n p y) = (y ≡ in_table) × (((n ≡ 9) × (p ≡ 0) × (Sized c r xs → ⊥)) ⊎ Stops c r xs n p)
