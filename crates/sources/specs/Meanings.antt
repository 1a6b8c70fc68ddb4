-- What a source of axioms means, and the limits that it keeps.
use Rattle.std.specs.Prelude.{◌≡◌, ℕ, ◌≤◌, List, [], length, slice_index_or}
use Rattle.std.specs.List.{AllByRecursion}
use Rattle.terms.specs.declared.axioms.Axiom.{Axiom}
use Rattle.terms.specs.Axioms.{WellFormed}

-- how many classes and roles there are, the classes' names as bytes, and the axioms in order
pub record Meaning : Type 0 where
  pub classes : ℕ
  pub roles : ℕ
  pub names : List (List ℕ)
  pub axioms : List Axiom

-- the name of a class
abbrev pub name_of : Meaning → ℕ → List ℕ
name_of m a = slice_index_or m.names a []

pub record Limits (m : Meaning) : Type 0 where
  pub few_classes : m.classes ≤ 64
  pub few_roles : m.roles ≤ 16
  pub few_axioms : length m.axioms ≤ 1024
  pub formed : AllByRecursion (WellFormed m.classes m.roles) m.axioms
  pub each_named : length m.names ≡ m.classes
  pub short_names : AllByRecursion (λ n. length n ≤ 40) m.names
