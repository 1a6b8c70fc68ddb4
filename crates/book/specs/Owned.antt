-- A book's own axioms, and what it means over what its source means.
use Rattle.std.specs.Prelude.{List, take}
use Rattle.terms.specs.declared.axioms.Axiom.{Axiom}
use Rattle.sources.specs.Meanings.{Meaning}
use Rattle.book.specs.declared.book.Book.{Book}
use Rattle.book.specs.Books.{book_meaning}

abbrev pub own_of : {S : Type 0} {g : _} → Book S g → List Axiom
own_of b = take b.count b.own

abbrev pub whole_of : {S : Type 0} {g : _} → (S → Meaning) → Book S g → Meaning
whole_of meaning b = book_meaning (meaning b.source) (own_of b)
