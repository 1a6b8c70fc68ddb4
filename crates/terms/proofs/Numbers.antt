-- A kind of refusal is read back from its number.
use Rattle.std.proofs.Common.{◌≡◌, ℕ, cond, eqb, sym, refl, ap, ◌∙◌}
use Rattle.terms.specs.declared.refusals.Refusal.{Refusal}
use Rattle.terms.specs.declared.refusals.Refusal.TheVariants.{SheetTooLong, CutShort, UnknownTag, WrongLength, NameByte, NameRepeated, Undeclared, TooWide, TooMany, PastEnd, TableSize, WorldSize, BadLink, BookFull, NoOwnAxiom, ListFull, ClosureFull}
use Rattle.terms.specs.Refusals.{number}

kind_of : ℕ → Refusal
kind_of n =
    cond (eqb n 1) SheetTooLong (cond (eqb n 2) CutShort (cond (eqb n 3) UnknownTag (cond (eqb n 4) WrongLength (cond (eqb n 5) NameByte (cond (eqb n 6) NameRepeated (cond (eqb n 7) Undeclared (cond (eqb n 8) TooWide (cond (eqb n 9) TooMany (cond (eqb n 10) PastEnd (cond (eqb n 11) TableSize (cond (eqb n 12) WorldSize (cond (eqb n 13) BadLink (cond (eqb n 20) BookFull (cond (eqb n 21) NoOwnAxiom (cond (eqb n 22) ListFull ClosureFull)))))))))))))))

kind_of_is : (k : Refusal) → kind_of (number k) ≡ k
unfolding kind_of
kind_of_is SheetTooLong = refl
kind_of_is CutShort = refl
kind_of_is UnknownTag = refl
kind_of_is WrongLength = refl
kind_of_is NameByte = refl
kind_of_is NameRepeated = refl
kind_of_is Undeclared = refl
kind_of_is TooWide = refl
kind_of_is TooMany = refl
kind_of_is PastEnd = refl
kind_of_is TableSize = refl
kind_of_is WorldSize = refl
kind_of_is BadLink = refl
kind_of_is BookFull = refl
kind_of_is NoOwnAxiom = refl
kind_of_is ListFull = refl
kind_of_is ClosureFull = refl

pub same_number : (j k : Refusal) → number j ≡ number k → j ≡ k
same_number j k e = sym (kind_of_is j) ∙ ap kind_of e ∙ kind_of_is k
