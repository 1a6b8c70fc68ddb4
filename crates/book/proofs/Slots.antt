-- The slots of a book: its own axioms are the first of them.
use Rattle.std.proofs.Common.{◌≡◌, ℕ, suc, ◌-◌, ◌<◌, ◌≤◌, List, ◌++◌, length, take, drop, sym, ap, ◌∙◌, append_assoc, add-one, arith, length-append, length-drop}
use borrow.Rule.Slice.PartMut.{put_mid}
use Rattle.std.proofs.lemmas.List.{length-take-le, take_at, take-take, drop-drop}
use Rattle.std.proofs.lemmas.Slice.{between_is}
use Rattle.terms.specs.declared.axioms.Axiom.{Axiom}
use Rattle.book.specs.Books.{struck}

-- the first n - 1 slots when those from i up to n are rotated by one
pub take_struck : (xs ys : List Axiom) (i n : ℕ) → i < n → n ≤ length xs
    → ys ≡ drop 1 (take (n - i) (drop i xs)) ++ take 1 (take (n - i) (drop i xs))
    → take (n - 1) (put_mid i (n - i) xs ys) ≡ struck (take n xs) i
take_struck xs ys i n lt fits e =
    let mid : List Axiom = take (n - i) (drop i xs) in
    let size : length mid ≡ n - i = length-take-le (n - i) (drop i xs) (simp length-drop (omega arith)) in
    let front : length (take i xs ++ drop 1 mid) ≡ n - 1 = simp (length-append, length-drop) (omega (arith, length-take-le i xs (omega arith))) in
    let later : drop 1 mid ≡ drop (suc i) (take n xs) = ap (drop 1) (between_is xs i n) ∙ drop-drop 1 i (take n xs) ∙ ap (λ k. drop k (take n xs)) (add-one i) in
    ap (λ z. take (n - 1) (put_mid i (n - i) xs z)) e
    ∙ ap (take (n - 1)) (ap (λ z. take i xs ++ z) (append_assoc (drop 1 mid) (take 1 mid) _) ∙ sym (append_assoc (take i xs) (drop 1 mid) _))
    ∙ take_at (take i xs ++ drop 1 mid) _ (n - 1) front
    ∙ ap (λ z. z ++ drop 1 mid) (sym (take-take i n xs (omega arith)))
    ∙ ap (λ z. take i (take n xs) ++ z) later
