-- What tests of the links from an element say of its successors.
use Rattle.std.proofs.Common.{◌≡◌, ℕ, ◌<◌, Bool, ◌&&◌, ◌||◌, not, eqb, List, length, get_or, refl, sym, ap, ◌∙◌, inl, inr}
use Rattle.std.specs.Bool.{Decides}
use Rattle.std.specs.List.{list_any, list_all}
use Rattle.std.proofs.lemmas.Bool.{cases_Bool, eqb-true, eq-eqb, and_parts, and_from, or_cases, or_left, or_right, both_ways}
use Rattle.std.specs.Cmp.{both_ways as same_test}
use Rattle.terms.specs.Sets.{has}
use Rattle.worlds.specs.declared.link.Link.{Link}
use Rattle.worlds.specs.Worlds.{Successor, In}
use Rattle.worlds.specs.Entries.{entry_world, Fits, any_link, links_from, no_link}
use Rattle.worlds.proofs.Chaining.{any_found, any_of, all_found, all_of}
use Rattle.worlds.proofs.Joins.{any_join, join_any}

-- the link is one by role k to f
abbrev pub leads : ℕ → ℕ → Link → Bool
leads k f x = eqb x.role k && eqb x.to f

pub leads_linked : (xs : List Link) (k d f : ℕ) → list_any (leads k f) (links_from xs d (length xs)) ≡ any_link xs k d f
leads_linked xs k d f = same_test _ _
    (λ e. let r = any_found xs (leads k f) d (length xs) e in
    let p = and_parts (eqb (get_or xs r.0 no_link).role k) (eqb (get_or xs r.0 no_link).to f) r.3 in
    join_any xs k d f r.0 (record { there = r.1; from_is = r.2; role_is = eqb-true _ _ p.0; to_is = eqb-true _ _ p.1 }))
    (λ e. let q = any_join xs k d f e in
    let r = q.1 in
    any_of xs (leads k f) d (length xs) q.0 r.there r.from_is (and_from _ _ (eq-eqb _ _ r.role_is) (eq-eqb _ _ r.to_is)))

module _ (words : List ℕ) (xs : List Link) (k d : ℕ) where
  abbrev from_d : List Link
  from_d = links_from xs d (length xs)

  -- the link is one by role k to an element of class a
  abbrev pub reaches : ℕ → Link → Bool
  reaches a x = eqb x.role k && has (get_or words x.to 0) a

  -- the link is by another role, or to an element of class a
  abbrev pub stays : ℕ → Link → Bool
  stays a x = not (eqb x.role k) || has (get_or words x.to 0) a

  module _ (fit : (i : ℕ) → i < length xs → Fits (length words) (get_or xs i no_link)) (a : ℕ) where
    pub some_reaches : Decides (list_any (reaches a) from_d) ((f : ℕ) × Successor (entry_world words xs) k d f × In (entry_world words xs) f a)
    some_reaches = (
      λ e. (let r = any_found xs (reaches a) d (length xs) e in
          let x = get_or xs r.0 no_link in
          let p = and_parts (eqb x.role k) (has (get_or words x.to 0) a) r.3 in
          (x.to, ((fit r.0 r.1).2, join_any xs k d x.to r.0 (record { there = r.1; from_is = r.2; role_is = eqb-true _ _ p.0; to_is = refl })), p.1)),
      λ s. (let q = any_join xs k d s.0 s.1.1 in
          let r = q.1 in
          any_of xs (reaches a) d (length xs) q.0 r.there r.from_is (and_from _ _ (eq-eqb _ _ r.role_is) (ap (λ f. has (get_or words f 0) a) r.to_is ∙ s.2))),
    )

    pub every_stays : Decides (list_all (stays a) from_d) ((f : ℕ) → Successor (entry_world words xs) k d f → In (entry_world words xs) f a)
    every_stays = (
      λ e f s. (let q = any_join xs k d f s.1 in
          let r = q.1 in
          let x = get_or xs q.0 no_link in
          elim (or_cases (not (eqb x.role k)) (has (get_or words x.to 0) a) (all_found xs (stays a) d (length xs) q.0 e r.there r.from_is)) [
            | inl other ↦ absurd (both_ways (not (eqb x.role k)) (ap not (eq-eqb _ _ r.role_is)) other)
            | inr inside ↦ sym (ap (λ f. has (get_or words f 0) a) r.to_is) ∙ inside
          ]),
      λ h. all_of xs (stays a) d (length xs) (λ j l f.
          let x = get_or xs j no_link in
          elim (cases_Bool (eqb x.role k)) [
            | inl same ↦ or_right (not (eqb x.role k)) _ (h x.to ((fit j l).2, join_any xs k d x.to j (record { there = l; from_is = f; role_is = eqb-true _ _ same; to_is = refl })))
            | inr other ↦ or_left _ _ (ap not other)
          ]),
    )
