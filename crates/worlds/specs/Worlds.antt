-- Finite worlds, and what each axiom says of an element.
use Rattle.std.specs.Prelude.{◌≡◌, ℕ, ◌<◌, Bool, true, List}
use mathlib.Core.List.{Memᴰ}
use Rattle.terms.specs.Sets.{Has}
use Rattle.terms.specs.declared.axioms.Axiom.{Axiom}
use Rattle.terms.specs.declared.axioms.Axiom.TheVariants.{Inclusion, Exists, ExistsLower, Forall, RoleInclusion}

-- elements are numbered from 0
pub record World : Type 0 where
  pub size : ℕ
  pub is_in : ℕ → ℕ → Bool  -- element, class
  pub links : ℕ → ℕ → ℕ → Bool  -- role, from, to

abbrev pub In : World → ℕ → ℕ → Type 0
In w e a = w.is_in e a ≡ true

-- role p links d to e, so e is a successor of d
abbrev pub Linked : World → ℕ → ℕ → ℕ → Type 0
Linked w p d e = w.links p d e ≡ true

-- f is a successor of e by the role p
abbrev pub Successor : World → ℕ → ℕ → ℕ → Type 0
Successor w p e f = (f < w.size) × Linked w p e f

abbrev pub InAll : World → ℕ → ℕ → Type 0
InAll w e s = (a : ℕ) → Has s a → In w e a

abbrev pub InSome : World → ℕ → ℕ → Type 0
InSome w e s = (a : ℕ) × Has s a × In w e a

abbrev pub InNone : World → ℕ → ℕ → Type 0
InNone w e s = (a : ℕ) → Has s a → In w e a → ⊥

-- the axiom's sentence is true of the element e
abbrev pub Keeps : World → ℕ → Axiom → Type 0
Keeps w e (Inclusion lower upper) = InAll w e lower.bits → InSome w e upper.bits
Keeps w e (Exists lower role filler) = In w e lower → (f : ℕ) × Successor w role e f × In w f filler
Keeps w e (ExistsLower role filler upper) = (f : ℕ) → Successor w role e f → In w f filler → In w e upper
Keeps w e (Forall lower role filler) = In w e lower → (f : ℕ) → Successor w role e f → In w f filler
Keeps w e (RoleInclusion sub sup) = (f : ℕ) → Successor w sub e f → Linked w sup e f

abbrev pub Breaks : World → ℕ → Axiom → Type 0
Breaks w e x = Keeps w e x → ⊥

-- no element breaks the axiom
abbrev pub Holds : World → Axiom → Type 0
Holds w x = (e : ℕ) → e < w.size → Keeps w e x

-- the world obeys the axioms
abbrev pub Obeys : World → List Axiom → Type 0
Obeys w axs = (x : Axiom) → Memᴰ x axs → Holds w x

-- some finite world obeys the axioms and has an element in all of P and in none of N
abbrev pub Possible : List Axiom → ℕ → ℕ → Type 0
Possible axs P N = (w : World) × Obeys w axs × (e : ℕ) × (e < w.size) × InAll w e P × InNone w e N
