-- The plain book: a list of own axioms over what a source means. For each call, what it tells and the own list after it.
use Rattle.std.specs.Prelude.{◌≡◌, ℕ, suc, ◌<◌, List, [], ◌∷◌, ◌++◌, length, take, drop, slice_set}
use Rattle.terms.specs.declared.axioms.Axiom.{Axiom}
use Rattle.terms.specs.declared.refusals.Layer.{Layer}
use Rattle.terms.specs.declared.refusals.Layer.TheVariants.{Book}
use Rattle.terms.specs.Axioms.{axiom_checks}
use Rattle.terms.specs.Refusals.{Told, done, refused, Checks, end, check, Answers}
use Rattle.sources.specs.Meanings.{Meaning}

abbrev pub in_book : Layer
in_book = Book

-- the axioms standing: those of the source, then the book's own
abbrev pub standing : Meaning → List Axiom → List Axiom
standing m own = m.axioms ++ own

-- what a book means: the classes, roles and names of its source, and the axioms standing
abbrev pub book_meaning : Meaning → List Axiom → Meaning
book_meaning m own = record { classes = m.classes; roles = m.roles; names = m.names; axioms = standing m own }

-- ---- the own list changed

-- the axiom put at the end
abbrev pub added : List Axiom → Axiom → List Axiom
added own a = own ++ a ∷ []

-- own axiom i rewritten; every other stays
abbrev pub amended : List Axiom → ℕ → Axiom → List Axiom
amended own i a = slice_set own i a

-- own axiom i taken out; the later ones move down by one
abbrev pub struck : List Axiom → ℕ → List Axiom
struck own i = take i own ++ drop (suc i) own

-- ---- the checks of each call

abbrev pub add_checks : Meaning → List Axiom → Axiom → Checks
add_checks m own a = axiom_checks m.classes m.roles a (check 20 (length own < 64) (check 22 (length (standing m own) < 1024) end))

abbrev pub amend_checks : Meaning → List Axiom → ℕ → Axiom → Checks
amend_checks m own i a = axiom_checks m.classes m.roles a (check 21 (i < length own) end)

abbrev pub strike_checks : List Axiom → ℕ → Checks
strike_checks own i = check 21 (i < length own) end

-- ---- what each call tells, and the own list after it

-- `changed` after a call that is done; the own list as it was after one that is refused
abbrev pub list_after : Told (Unit {0}) → (own changed : List Axiom) → List Axiom
list_after (done u) own changed = changed
list_after (refused n p y) own changed = own

-- a call is refused with the first of its checks to fail, at place 0 in the book's layer, and the own list stays; else it becomes `changed`
pub record Changes (checks : Checks) (own changed : List Axiom) (t : Told (Unit {0})) (later : List Axiom) : Type 0 where
  pub answer : Answers checks 0 in_book (λ _. Unit {0}) t
  pub list : later ≡ list_after t own changed

abbrev pub PlainAdd : Meaning → List Axiom → Axiom → Told (Unit {0}) → List Axiom → Type 0
PlainAdd m own a t later = Changes (add_checks m own a) own (added own a) t later

abbrev pub PlainAmend : Meaning → List Axiom → ℕ → Axiom → Told (Unit {0}) → List Axiom → Type 0
PlainAmend m own i a t later = Changes (amend_checks m own i a) own (amended own i a) t later

abbrev pub PlainStrike : List Axiom → ℕ → Told (Unit {0}) → List Axiom → Type 0
PlainStrike own i t later = Changes (strike_checks own i) own (struck own i) t later

-- the plain book tells t and then has the own list `later`, and nothing else is open to it
pub record Settles (Plain : Told (Unit {0}) → List Axiom → Type 0) (t : Told (Unit {0})) (later : List Axiom) : Type 0 where
  pub gives : Plain t later
  pub only : (u : Told (Unit {0})) (xs : List Axiom) → Plain u xs → (u ≡ t) × (xs ≡ later)
