-- That an axiom is well formed is one fact, however it was shown, so that a type can hold it.
use Rattle.std.specs.Prelude.{ℕ}
use Rattle.std.specs.Coded.{×_prop, Π_prop, →_prop, Unit-prop, le_prop}
use mathlib.Core.HLevel.{×₃_prop}
use Rattle.terms.specs.Axioms.{Declared, Narrow, WellFormed}
use Rattle.terms.specs.declared.axioms.Axiom.{Axiom}
use Rattle.terms.specs.declared.axioms.Axiom.TheVariants.{Inclusion, Exists, ExistsLower, Forall, RoleInclusion}

declared_prop : (c r : ℕ) (a : Axiom) → IsProp (Declared c r a)
declared_prop c r (Inclusion lower upper) = ×_prop (Π_prop (λ a. →_prop le_prop)) (Π_prop (λ a. →_prop le_prop))
declared_prop c r (Exists lower role filler) = ×₃_prop le_prop le_prop le_prop
declared_prop c r (ExistsLower role filler upper) = ×₃_prop le_prop le_prop le_prop
declared_prop c r (Forall lower role filler) = ×₃_prop le_prop le_prop le_prop
declared_prop c r (RoleInclusion sub sup) = ×_prop le_prop le_prop

narrow_prop : (a : Axiom) → IsProp (Narrow a)
narrow_prop (Inclusion lower upper) = le_prop
narrow_prop (Exists lower role filler) = Unit-prop
narrow_prop (ExistsLower role filler upper) = Unit-prop
narrow_prop (Forall lower role filler) = Unit-prop
narrow_prop (RoleInclusion sub sup) = Unit-prop

pub formed_prop : (c r : ℕ) (a : Axiom) → IsProp (WellFormed c r a)
formed_prop c r a = ×_prop (declared_prop c r a) (narrow_prop a)
