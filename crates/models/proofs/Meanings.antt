-- What is decided of records and slots is what canonical worlds ask of contexts and clauses.
use Rattle.std.proofs.Common.{◌≡◌, ℕ, zero, ◌<◌, ◌≤◌, List, map, length, take, Some, None, Option, sym, refl, ap, ◌∙◌, subst, inl, inr, arith}
use mathlib.Core.List.Memᴰ
use mathlib.Core.List.{Memᴰ}
use Rattle.std.proofs.lemmas.List.{get_or-take, length-take-le}
use Rattle.std.proofs.lemmas.Bool.{cases_eq}
use Rattle.terms.specs.Sets.{has, Has, without}
use Rattle.terms.proofs.Masks.{same_classes}
use Rattle.closure.specs.Closures.{Context, plain, toward, Clause, clause, rising}
use Rattle.closure.specs.Canonical.{Apart, Produced, Wanted, Extended, Maximal}
use Rattle.closure.proofs.Lists.{get_or_mem, mem_get_or}
use Rattle.closure.proofs.Maxima.{extended_refl}
use Rattle.tables.specs.declared.records.ContextRecord.{ContextRecord}
use Rattle.tables.specs.declared.records.RolePart.{RolePart}
use Rattle.tables.specs.declared.records.ClauseRecord.{ClauseRecord}
use Rattle.tables.specs.Entering.{Among}
use Rattle.tables.specs.Tables.{Tables, context_in, part_of, clause_of, PartCites, Cites}
use Rattle.tables.proofs.Slots.{holds_get_or}
use Rattle.tables.proofs.Meanings.{context_in_one, cites_upto}
use Rattle.models.specs.Writing.{RoleBelow, Ready}
use Rattle.models.specs.Elements.{no_clause, clause_at, Safe, Emptied, Produces}
use Rattle.models.specs.Targets.{Wants, Beaten}

-- the clauses cite the first n contexts, of which no two are the same, and roles below r
pub record Orderly (cs : List ContextRecord) (xs : List ClauseRecord) (n r : ℕ) : Type 0 where
  pub fits : n ≤ length cs
  pub few : length cs ≤ 256
  pub cited : (k : ℕ) → k < length xs → Cites n (clause_at xs k)
  pub once : (i j : ℕ) → i < n → j < n → context_in cs i ≡ context_in cs j → i ≡ j
  pub low : (k : ℕ) → k < length xs → RoleBelow r (clause_at xs k).part

abbrev pub used_clauses : Tables → List ClauseRecord
used_clauses t = take t.used.clauses t.clauses

role_upto : (r s : ℕ) → r ≤ s → (p : Option RolePart) → RoleBelow r p → RoleBelow s p
role_upto r s l None m = tt
role_upto r s l (Some p) m = omega arith

pub ready_orderly : (t : Tables) (roles : ℕ) → Ready t roles → Orderly t.contexts (used_clauses t) t.used.contexts roles
ready_orderly t roles ready = record {
  fits = ready.good.contexts_fit;
  few = ready.few;
  cited = λ k l. ready.good.cited (clause_at (used_clauses t) k) (there k l);
  once = λ i j li lj e. context_in_one ready.good.contexts_fit ready.good.contexts_apart i j li lj e;
  low = λ k l. ready.roles_low (clause_at (used_clauses t) k) (there k l);
}
  where
    there : (k : ℕ) → k < length (used_clauses t) → Among t.clauses t.used.clauses (clause_at (used_clauses t) k)
    there k l =
        let below : k < t.used.clauses = omega (arith, length-take-le t.used.clauses t.clauses ready.good.clauses_fit) in
        subst (Among t.clauses t.used.clauses) (sym (get_or-take t.used.clauses t.clauses k no_clause below))
        (record { slot = k; below = below; holds = holds_get_or t.clauses k no_clause (omega (arith, ready.good.clauses_fit)) })

pub orderly_safe : (cs : List ContextRecord) (xs : List ClauseRecord) (n r : ℕ) → r ≤ 16 → Orderly cs xs n r → Safe cs xs
orderly_safe cs xs n r l o = record {
  few = o.few;
  cited = λ k lk. cites_upto o.fits (clause_at xs k) (o.cited k lk);
  low = λ k lk. role_upto r 16 l (clause_at xs k).part (o.low k lk);
}

plain_only : (cs : List ContextRecord) (p : Option RolePart) → part_of cs p ≡ plain → p ≡ None
plain_only cs None e = refl
plain_only cs (Some r) e = let z : ◌≡◌ {A = ℕ} 0 1 = cc in absurd (omega arith)

toward_only : (cs : List ContextRecord) (o : Option RolePart) (p : ℕ) (M : Context) → part_of cs o ≡ toward p M → (t : ℕ) × (o ≡ Some (record { role = p; context = t })) × (context_in cs t ≡ M)
toward_only cs None p M e = let z : ◌≡◌ {A = ℕ} 0 1 = cc in absurd (omega arith)
toward_only cs (Some r) p M e =
    let a : r.role ≡ p = cc in
    let b : context_in cs r.context ≡ M = cc in
    (r.context, ap (λ (q : ℕ). Some (record { role = q; context = r.context })) a, b)

extended_both : (M N : Context) → Extended M N → Extended N M → M ≡ N
extended_both M N f g =
    let p = same_classes M.held N.held f.0 g.0 in
    let q = same_classes M.denied N.denied f.1 g.1 in
    λ i. record { held = p i; denied = q i }

module _ (cs : List ContextRecord) (xs : List ClauseRecord) (n r : ℕ) (o : Orderly cs xs n r) where
  abbrev pub meant : List Clause
  meant = map (clause_of cs) xs

  -- a clause that is meant has a record
  by_record : (x : Clause) → Memᴰ x meant → (k : ℕ) × (k < length xs) × (clause_of cs (clause_at xs k) ≡ x)
  by_record x m =
      let y = Memᴰ.of_map (clause_of cs) xs m in
      let k = mem_get_or xs no_clause y.0 y.1 in
      (k.0, k.1, ap (clause_of cs) k.2 ∙ y.2)

  -- and a record means a clause
  is_meant : (k : ℕ) → k < length xs → (x : Clause) → clause_of cs (clause_at xs k) ≡ x → Memᴰ x meant
  is_meant k l x e = subst (λ y. Memᴰ y meant) e (Memᴰ.map (clause_of cs) (get_or_mem xs no_clause k l))

  pub part_low : (H M : Context) (D p : ℕ) → Memᴰ (clause H D (toward p M)) meant → p < r
  part_low H M D p m =
      let k = by_record (clause H D (toward p M)) m in
      let t = toward_only cs (clause_at xs k.0).part p M (ap (λ (x : Clause). x.part) k.2) in
      subst (RoleBelow r) t.1 (o.low k.0 k.1)

  module _ (h : ℕ) (below : h < n) where
    its_slot : (k : ℕ) → k < length xs → context_in cs (clause_at xs k).context ≡ context_in cs h → (clause_at xs k).context ≡ h
    its_slot k l e = o.once (clause_at xs k).context h (o.cited k l).0 below e

    -- ---- live contexts

    pub emptied_meant : Emptied xs (length xs) h → Memᴰ (clause (context_in cs h) zero plain) meant
    emptied_meant e = is_meant e.by e.below _ (λ i. record { of = context_in cs (e.empties.its i); classes = e.empties.none i; part = part_of cs (e.empties.is_plain i) })

    pub meant_emptied : Memᴰ (clause (context_in cs h) zero plain) meant → Emptied xs (length xs) h
    meant_emptied m =
        let k = by_record _ m in
        record {
          by = k.0;
          below = k.1;
          empties = record {
            its = its_slot k.0 k.1 (ap (λ (x : Clause). x.of) k.2);
            is_plain = plain_only cs (clause_at xs k.0).part (ap (λ (x : Clause). x.part) k.2);
            none = ap (λ (x : Clause). x.classes) k.2;
          };
        }

    -- ---- classes

    pub produces_meant : (s a : ℕ) → Produces xs h s a → Produced rising meant (context_in cs h) (has s) a
    produces_meant s a p =
        let y = p.yields.heads in (
          (clause_at xs p.by).classes.bits,
          is_meant p.by p.below _ (λ i. record { of = context_in cs (y.its i); classes = (clause_at xs p.by).classes.bits; part = part_of cs (y.tops.lonely i) }),
          y.tops.highest,
          p.yields.apart,
        )

    pub meant_produces : (s a : ℕ) → Produced rising meant (context_in cs h) (has s) a → Produces xs h s a
    meant_produces s a p =
        let k = by_record _ p.1 in
        let e = ap (λ (x : Clause). x.classes) k.2 in
        record {
          by = k.0;
          below = k.1;
          yields = record {
            heads = record {
              its = its_slot k.0 k.1 (ap (λ (x : Clause). x.of) k.2);
              tops = record {
                lonely = plain_only cs (clause_at xs k.0).part (ap (λ (x : Clause). x.part) k.2);
                highest = subst (λ D. Has D a × ((b : ℕ) → Has D b → b ≤ a)) (sym e) p.2;
              };
            };
            apart = subst (λ D. Apart (without D a) (has s)) (sym e) p.3;
          };
        }

    -- ---- targets

    wants_meant : (s : ℕ) (part : RolePart) → Wants xs (length xs) h s part → Wanted meant (context_in cs h) (has s) part.role (context_in cs part.context)
    wants_meant s part w = (
      (clause_at xs w.by).classes.bits,
      is_meant w.by w.below _ (λ i. record { of = context_in cs (w.wishes.its i); classes = (clause_at xs w.by).classes.bits; part = part_of cs (w.wishes.is_part i) }),
      w.wishes.apart,
    )

    meant_wants : (s p : ℕ) (M : Context) → Wanted meant (context_in cs h) (has s) p M → (t : ℕ) × Wants xs (length xs) h s (record { role = p; context = t }) × (context_in cs t ≡ M)
    meant_wants s p M w =
        let k = by_record _ w.1 in
        let t = toward_only cs (clause_at xs k.0).part p M (ap (λ (x : Clause). x.part) k.2) in (
          t.0,
          record {
            by = k.0;
            below = k.1;
            wishes = record {
              its = its_slot k.0 k.1 (ap (λ (x : Clause). x.of) k.2);
              is_part = t.1;
              apart = subst (λ D. Apart D (has s)) (sym (ap (λ (x : Clause). x.classes) k.2)) w.2;
            };
          },
          t.2,
        )

    pub wants_below : (s : ℕ) (part : RolePart) → Wants xs (length xs) h s part → part.context < n
    wants_below s part w = subst (PartCites n) w.wishes.is_part (o.cited w.by w.below).1

    -- what is wanted and not beaten is maximal
    pub best_maximal : (s p t : ℕ) → Wants xs (length xs) h s (record { role = p; context = t }) → (Beaten cs xs (length xs) h s (record { role = p; context = t }) → ⊥)
        → Maximal meant (context_in cs h) (has s) p (context_in cs t)
    best_maximal s p t w best = (wants_meant s (record { role = p; context = t }) w, most)
      where
        most : (N : Context) → Wanted meant (context_in cs h) (has s) p N → Extended (context_in cs t) N → Extended N (context_in cs t)
        most N v e =
            let u = meant_wants s p N v in
            elim (cases_eq u.0 t) [
              | inl q ↦ subst (λ (M : Context). Extended M (context_in cs t)) (ap (context_in cs) (sym q) ∙ u.2) (extended_refl (context_in cs t))
              | inr d ↦ absurd (best (record {
                by = u.1.by;
                below = u.1.below;
                outdone = record {
                  better = record { role = p; context = u.0 };
                  wishes = u.1.wishes;
                  beats = record {
                    same_role = refl;
                    differs = d;
                    above = subst (Extended (context_in cs t)) (sym u.2) e;
                  };
                };
              }))
            ]

    -- and what is maximal is so
    pub maximal_wanted : (s p t : ℕ) → t < n → Maximal meant (context_in cs h) (has s) p (context_in cs t) → Wants xs (length xs) h s (record { role = p; context = t })
    maximal_wanted s p t l m =
        let u = meant_wants s p (context_in cs t) m.0 in
        let same : u.0 ≡ t = o.once u.0 t (wants_below s (record { role = p; context = u.0 }) u.1) l u.2 in
        subst (λ v. Wants xs (length xs) h s (record { role = p; context = v })) same u.1

    pub maximal_best : (s p t : ℕ) → t < n → Maximal meant (context_in cs h) (has s) p (context_in cs t) → Beaten cs xs (length xs) h s (record { role = p; context = t }) → ⊥
    maximal_best s p t l m b =
        let y = b.outdone in
        let N = context_in cs y.better.context in
        let wants : Wants xs (length xs) h s y.better = record { by = b.by; below = b.below; wishes = y.wishes } in
        let wanted : Wanted meant (context_in cs h) (has s) p N =
        subst (λ (q : ℕ). Wanted meant (context_in cs h) (has s) q N) y.beats.same_role (wants_meant s y.better wants) in
        y.beats.differs (o.once y.better.context t (wants_below s y.better wants) l
        (extended_both N (context_in cs t) (m.1 N wanted y.beats.above) y.beats.above))
