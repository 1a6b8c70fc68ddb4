-- What a search through the used slots tells.
use Rattle.std.proofs.Common.{ℕ, ◌<◌, ◌≤◌, List, length, take, sym, ◌∙◌, subst, arith, length-take-le}
use Rattle.std.proofs.lemmas.List.{get_or-take}
use Rattle.tables.specs.Entering.{Holds, Among}
use Rattle.tables.proofs.Slots.{holds_get_or}

module _ {X : Type 0} {xs : List X} {n : ℕ} {x : X} (fits : n ≤ length xs) where
  pub found : {i : ℕ} → (i < length (take n xs)) × Holds (take n xs) i x × (Among (take n xs) i x → ⊥) → (i < n) × Holds xs i x
  found {i} p =
      let l : i < n = subst (λ m. i < m) (length-take-le n xs fits) p.0 in
      (l, subst (λ y. Holds xs i y) (sym (get_or-take n xs i x l) ∙ p.1.is x) (holds_get_or xs i x (omega (arith, l, fits))))

  pub not_found : (Among (take n xs) (length (take n xs)) x → ⊥) → Among xs n x → ⊥
  not_found none a = none (record {
    slot = a.slot;
    below = subst (λ m. a.slot < m) (sym (length-take-le n xs fits)) a.below;
    holds = record { is = λ d. get_or-take n xs a.slot d a.below ∙ a.holds.is d };
  })
