-- A call of the plain book has one outcome.
use Rattle.std.proofs.Common.{◌≡◌, ℕ, List, sym, refl, ap, ◌∙◌}
use Rattle.terms.specs.declared.axioms.Axiom.{Axiom}
use Rattle.terms.specs.declared.refusals.Layer.{Layer}
use Rattle.terms.specs.Refusals.{Told, done, refused, Checks, Answers}
use Rattle.terms.proofs.Checking.{first_not_passed, first_one}
use Rattle.book.specs.Books.{in_book, list_after, Changes}

-- where at most one value is right, checks leave one answer open
pub told_only : {V : Type 0} (cs : Checks) (place : ℕ) (layer : Layer) (P : V → Type 0) → ((v w : V) → P v → P w → v ≡ w) → (t u : Told V) → Answers cs place layer P t → Answers cs place layer P u → t ≡ u
told_only cs place layer P one (done v) (done w) a b = ap done (one v w a.1 b.1)
told_only cs place layer P one (done v) (refused n p y) a b = absurd (first_not_passed cs n b.0 a.0)
told_only cs place layer P one (refused n p y) (done w) a b = absurd (first_not_passed cs n a.0 b.0)
told_only cs place layer P one (refused m p y) (refused n q z) a b = λ i. refused (first_one cs m n a.0 b.0 i) ((a.1 ∙ sym b.1) i) ((a.2 ∙ sym b.2) i)

pub changes_one : (cs : Checks) (own changed : List Axiom) (t u : Told (Unit {0})) (xs ys : List Axiom) → Changes cs own changed t xs → Changes cs own changed u ys → (t ≡ u) × (xs ≡ ys)
changes_one cs own changed t u xs ys c d =
    let same = told_only cs 0 in_book (λ (_ : Unit {0}). Unit {0}) (λ v w a b. refl) t u c.answer d.answer in
    (same, c.list ∙ ap (λ v. list_after v own changed) same ∙ sym d.list)
