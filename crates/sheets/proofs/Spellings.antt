-- Names among the names that are declared.
use Rattle.std.proofs.Common.{◌≡◌, ℕ, ◌<◌, Bool, eqb, slice_index_or, List, [], ◌∷◌, ◌++◌, length, Decides, sym, refl, ap, ◌∙◌, subst, arith}
use Rattle.std.specs.Cmp.Lexicographic.{pointwise}
use Rattle.std.specs.List.{HoldsAt, ContainsAt, list_any}
use Rattle.std.proofs.lemmas.List.{length-map, get_or-map, map_push}
use Rattle.std.proofs.lemmas.Bool.Decides.{Decides-by_or, Decides-eqb}
use Rattle.std.proofs.lemmas.Slice.Eq.{slice_eq-Decides}
use Rattle.arrayvec.specs.ArrayVec.{ArrayVec}
use Rattle.sheets.specs.Lists.{spelled}

module _ (names : List (ArrayVec ℕ)) (text : List ℕ) where
  -- some name has the bytes of the text
  abbrev Found : Type 0
  Found = (k : ℕ) × (k < length names) × HoldsAt (λ n. n.items ≡ text) names k

  spelling : (k : ℕ) (n : ArrayVec ℕ) (d : List ℕ) → k < length names → slice_index_or (spelled names) k d ≡ (slice_index_or names k n).items
  spelling k n d lt = get_or-map (λ n. n.items) names k n d lt

  found_spelled : Found → ContainsAt (spelled names) text
  found_spelled h = (h.0, omega (arith, h.1, length-map names (λ n. n.items)), λ d. spelling h.0 record { items = [] } d h.1 ∙ h.2 record { items = [] })

  spelled_found : ContainsAt (spelled names) text → Found
  spelled_found h =
      let lt : h.0 < length names = omega (arith, h.1, length-map names (λ n. n.items)) in
      (h.0, lt, λ n. sym (spelling h.0 n [] lt) ∙ h.2 [])

  -- what `contains` tells of the names
  pub among_spelled : (r : Bool) → r ≡ list_any (λ n. pointwise eqb n.items text) names → Decides r (ContainsAt (spelled names) text)
  among_spelled r e =
      let each = λ (n : ArrayVec ℕ). slice_eq-Decides Decides-eqb n.items text (pointwise eqb n.items text) refl in
      let some = Decides-by_or (λ n. pointwise eqb n.items text) (λ n. n.items ≡ text) (list_any (λ n. pointwise eqb n.items text)) each refl (λ _ _. refl) names in
      let any = subst (λ b. Decides b Found) (sym e) some in
      (λ t. found_spelled (any.0 t), λ h. any.1 (spelled_found h))

-- one more name is one more spelling
pub pushed_spelled : (names names' : List (ArrayVec ℕ)) (n : ArrayVec ℕ) (text : List ℕ) → names' ≡ names ++ n ∷ [] → n.items ≡ text → spelled names' ≡ spelled names ++ text ∷ []
pushed_spelled names names' n text e s = ap spelled e ∙ map_push (λ m. m.items) names n ∙ ap (λ t. spelled names ++ t ∷ []) s

pub length_spelled : (names : List (ArrayVec ℕ)) → length (spelled names) ≡ length names
length_spelled names = length-map names (λ n. n.items)
