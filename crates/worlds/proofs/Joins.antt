-- Links as members of their list.
use Rattle.std.proofs.Common.{◌≡◌, ℕ, zero, suc, ◌<◌, true, false, ◌&&◌, eqb, List, [], ◌∷◌, length, get_or, refl, inl, inr, arith}
use Rattle.std.proofs.lemmas.Bool.{eqb-true, eq-eqb, and_parts, and_from, or_cases, or_left, or_right, both_ways}
use Rattle.worlds.specs.declared.link.Link.{Link}
use Rattle.worlds.specs.Entries.{is_link, any_link, no_link}

-- link j of the list is one by role k from d to f
pub record Joins (xs : List Link) (k d f j : ℕ) : Type 0 where
  pub there : j < length xs
  pub from_is : (get_or xs j no_link).from ≡ d
  pub role_is : (get_or xs j no_link).role ≡ k
  pub to_is : (get_or xs j no_link).to ≡ f

pub any_join : (xs : List Link) (k d f : ℕ) → any_link xs k d f ≡ true → (j : ℕ) × Joins xs k d f j
any_join [] k d f e = absurd (both_ways false refl e)
any_join (x ∷ xs) k d f e = elim (or_cases (is_link k d f x) (any_link xs k d f) e) [
  | inl here ↦ (let p = and_parts (eqb x.from d) (eqb x.role k && eqb x.to f) here in
      let q = and_parts (eqb x.role k) (eqb x.to f) p.1 in
      (0, record { there = omega arith; from_is = eqb-true _ _ p.0; role_is = eqb-true _ _ q.0; to_is = eqb-true _ _ q.1 }))
  | inr later ↦ (let p = any_join xs k d f later in
      let r = p.1 in
      (suc p.0, record { there = omega (arith, r.there); from_is = r.from_is; role_is = r.role_is; to_is = r.to_is }))
]

pub join_any : (xs : List Link) (k d f j : ℕ) → Joins xs k d f j → any_link xs k d f ≡ true
join_any [] k d f j r = absurd (omega (arith, r.there))
join_any (x ∷ xs) k d f zero r = or_left _ _ (and_from _ _ (eq-eqb _ _ r.from_is) (and_from _ _ (eq-eqb _ _ r.role_is) (eq-eqb _ _ r.to_is)))
join_any (x ∷ xs) k d f (suc j) r = or_right (is_link k d f x) _ (join_any xs k d f j (record { there = omega (arith, r.there); from_is = r.from_is; role_is = r.role_is; to_is = r.to_is }))
