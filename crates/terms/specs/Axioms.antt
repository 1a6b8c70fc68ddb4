-- Which axioms keep to the classes and roles that there are.
use Rattle.std.specs.Prelude.{ℕ, ◌<◌, ◌≤◌}
use Rattle.terms.specs.Sets.{Below, size}
use Rattle.terms.specs.Refusals.{Checks, check}
use Rattle.terms.specs.declared.class_set.ClassSet.{ClassSet}
use Rattle.terms.specs.declared.axioms.Axiom.{Axiom}
use Rattle.terms.specs.declared.axioms.Axiom.TheVariants.{Inclusion, Exists, ExistsLower, Forall, RoleInclusion}

abbrev pub set_of : ℕ → ClassSet
set_of s = record { bits = s }

-- the axiom speaks only of classes below c and roles below r
abbrev pub Declared : ℕ → ℕ → Axiom → Type 0
Declared c r (Inclusion lower upper) = Below c lower.bits × Below c upper.bits
Declared c r (Exists lower role filler) = (lower < c) × (role < r) × (filler < c)
Declared c r (ExistsLower role filler upper) = (role < r) × (filler < c) × (upper < c)
Declared c r (Forall lower role filler) = (lower < c) × (role < r) × (filler < c)
Declared c r (RoleInclusion sub sup) = (sub < r) × (sup < r)

-- the axiom has at most three classes on the left
abbrev pub Narrow : Axiom → Type 0
Narrow (Inclusion lower upper) = size lower.bits ≤ 3
Narrow (Exists lower role filler) = Unit {0}
Narrow (ExistsLower role filler upper) = Unit {0}
Narrow (Forall lower role filler) = Unit {0}
Narrow (RoleInclusion sub sup) = Unit {0}

abbrev pub WellFormed : ℕ → ℕ → Axiom → Type 0
WellFormed c r a = Declared c r a × Narrow a

-- the checks of an axiom where there are c classes and r roles, and then the rest
abbrev pub axiom_checks : ℕ → ℕ → Axiom → Checks → Checks
axiom_checks c r a rest = check 7 (Declared c r a) (check 8 (Narrow a) rest)

-- what is read of a list of axioms past its end; no promise speaks of it
abbrev pub blank : Axiom
blank = Inclusion (set_of 0) (set_of 0)
