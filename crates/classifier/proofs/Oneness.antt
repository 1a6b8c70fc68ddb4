-- A classification leaves one outcome and one set of rows open.
use Rattle.std.proofs.Common.{◌≡◌, ℕ, ◌<◌, ◌≤◌, ◌⊎◌, List, get_or, sym, ap, ◌∙◌, subst, inl, inr, arith}
use Rattle.std.proofs.lemmas.List.{ext_get_or}
use Rattle.std.proofs.lemmas.Bool.{cases_order}
use Rattle.terms.specs.Refusals.{Told, done, refused}
use Rattle.terms.specs.declared.axioms.Axiom.{Axiom}
use Rattle.terms.proofs.Checking.{first_not_passed, first_one}
use Rattle.terms.proofs.Masks.{same_classes}
use Rattle.sources.specs.Meanings.{Meaning}
use Rattle.classifier.specs.Under.{Row, Written, Lent, classify_checks, Stopped, Classified}

row_one : (axs : List Axiom) (n a w v : ℕ) → Row axs n a w → Row axs n a v → w ≡ v
row_one axs n a w v p q =
    same_classes w v (λ b h. let i = p.no_more b h in (q.under b i).1 ((p.under b i).0 h)) (λ b h. let i = q.no_more b h in (p.under b i).1 ((q.under b i).0 h))

written_one : (m : Meaning) (n : ℕ) (before xs ys : List ℕ) → Written m n before xs → Written m n before ys → xs ≡ ys
written_one m n before xs ys p q = ext_get_or 0 xs ys (p.size ∙ sym q.size) (λ k _. at k (cases_order k n))
  where
    at : (k : ℕ) → (k ≡ n) ⊎ ((k < n) ⊎ (n < k)) → get_or xs k 0 ≡ get_or ys k 0
    at k (inl e) = p.rest k (omega arith) ∙ sym (q.rest k (omega arith))
    at k (inr (inl i)) = row_one m.axioms m.classes k (get_or xs k 0) (get_or ys k 0) (p.rows k i) (q.rows k i)
    at k (inr (inr i)) = p.rest k (omega arith) ∙ sym (q.rest k (omega arith))

module _ (m : Meaning) (few : m.classes ≤ 64) (s : Lent) where
  one_place : (u v : Lent) (p q : ℕ) → Stopped m s u p → Stopped m s v q → p ≡ q
  one_place u v p q x y = go (cases_order p q)
    where
      go : (p ≡ q) ⊎ ((p < q) ⊎ (q < p)) → p ≡ q
      go (inl e) = e
      go (inr (inl i)) = absurd (x.full (y.before x.a x.b x.classes.0 x.classes.1 (omega (arith, x.place, y.place))))
      go (inr (inr i)) = absurd (y.full (x.before y.a y.b y.classes.0 y.classes.1 (omega (arith, x.place, y.place))))

  one_cut : (u v : Lent) (p q : ℕ) → p ≡ q → Stopped m s u p → Stopped m s v q → u.rows ≡ v.rows
  one_cut u v p q e x y =
      let z : x.a ≡ y.a = omega (arith, x.place, y.place, x.classes.1, y.classes.1) in
      written_one m y.a s.rows u.rows v.rows (subst (λ n. Written m n s.rows u.rows) z x.rows) y.rows

  module _ {V : Type 0} (same : (x y : V) → x ≡ y) (u v : Lent) where
    pub one_outcome : (t r : Told V) → Classified m s u t → Classified m s v r → (t ≡ r) × (u.rows ≡ v.rows)
    one_outcome (done x) (done y) p q = (λ i. done (same x y i), written_one m m.classes s.rows u.rows v.rows p.1.rows q.1.rows)
    one_outcome (done x) (refused n k y) p (inl h) = absurd (first_not_passed (classify_checks m s) n h.0 p.0)
    one_outcome (done x) (refused n k y) p (inr h) = absurd (h.3.full (p.1.fits h.3.a h.3.b h.3.classes.0 h.3.classes.1))
    one_outcome (refused n k y) (done x) (inl h) q = absurd (first_not_passed (classify_checks m s) n h.0 q.0)
    one_outcome (refused n k y) (done x) (inr h) q = absurd (h.3.full (q.1.fits h.3.a h.3.b h.3.classes.0 h.3.classes.1))
    one_outcome (refused n k y) (refused o l z) (inl g) (inl h) =
        let e = first_one (classify_checks m s) n o g.0 h.0 in
        let f = g.1 ∙ sym h.1 in
        let d = g.2 ∙ sym h.2 in
        (λ i. refused (e i) (f i) (d i), ap (λ (w : Lent). w.rows) g.3 ∙ sym (ap (λ (w : Lent). w.rows) h.3))
    one_outcome (refused n k y) (refused o l z) (inl g) (inr h) = absurd (first_not_passed (classify_checks m s) n g.0 h.0)
    one_outcome (refused n k y) (refused o l z) (inr g) (inl h) = absurd (first_not_passed (classify_checks m s) o h.0 g.0)
    one_outcome (refused n k y) (refused o l z) (inr g) (inr h) =
        let e = g.1 ∙ sym h.1 in
        let f = one_place u v k l g.3 h.3 in
        let d = g.2 ∙ sym h.2 in
        (λ i. refused (e i) (f i) (d i), one_cut u v k l f g.3 h.3)
