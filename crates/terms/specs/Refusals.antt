-- What a call tells: a value, or a refusal by number, place and layer; and which of a call's checks refuses.
use Rattle.std.specs.Prelude.{◌≡◌, ℕ, ◌⊎◌, List, ◌++◌, Ok, Err, codes, decimal, Result}
use Rattle.terms.specs.declared.refusals.Fault.{Fault}
use Rattle.terms.specs.declared.refusals.Layer.{Layer}
use Rattle.terms.specs.declared.refusals.Refusal.{Refusal}
use Rattle.terms.specs.declared.refusals.Refusal.TheVariants.{SheetTooLong, CutShort, UnknownTag, WrongLength, NameByte, NameRepeated, Undeclared, TooWide, TooMany, PastEnd, TableSize, WorldSize, BadLink, BookFull, NoOwnAxiom, ListFull, ClosureFull}

-- the number of each kind of refusal
abbrev pub number : Refusal → ℕ
number SheetTooLong = 1
number CutShort = 2
number UnknownTag = 3
number WrongLength = 4
number NameByte = 5
number NameRepeated = 6
number Undeclared = 7
number TooWide = 8
number TooMany = 9
number PastEnd = 10
number TableSize = 11
number WorldSize = 12
number BadLink = 13
number BookFull = 20
number NoOwnAxiom = 21
number ListFull = 22
number ClosureFull = 23

-- how a refusal is written, as "refused 7 at 0"
abbrev pub written : Fault → List ℕ
written f = codes "refused " ++ (decimal (number f.kind) ++ (codes " at " ++ decimal f.place))

-- a value, or a refusal: its number, its place and its layer
pub data Told (V : Type 0) : Type 0 where
  done : V → Told V
  refused : ℕ → ℕ → Layer → Told V

abbrev pub told : {V : Type 0} → Result V Fault → Told V
told (Ok v) = done v
told (Err f) = refused (number f.kind) f.place f.layer

-- the checks of a call in the order in which they run: each has the number of its refusal, and what has to hold
pub data Checks : Type 1 where
  end : Checks
  check : ℕ → Type 0 → Checks → Checks

abbrev pub Passes : Checks → Type 0
Passes end = Unit {0}
Passes (check n P rest) = P × Passes rest

-- n is the number of the first check that fails
abbrev pub FirstFailing : Checks → ℕ → Type 0
FirstFailing end n = ⊥
FirstFailing (check m P rest) n = ((n ≡ m) × (P → ⊥)) ⊎ (P × FirstFailing rest n)

-- what a call with these checks tells: at the place and in the layer given, the first check that fails, or else a value of which P holds
abbrev pub Answers : {V : Type 0} → Checks → ℕ → Layer → (V → Type 0) → Told V → Type 0
Answers cs place layer P (done v) = Passes cs × P v
Answers cs place layer P (refused n p y) = FirstFailing cs n × (p ≡ place) × (y ≡ layer)
