-- A table after one record was entered: it has what it had and that record, and nothing twice.
use Rattle.std.proofs.Common.{◌≡◌, ℕ, ◌≤◌, ◌⊎◌, List, length, get_or, sym, ap, ◌∙◌, subst, inl, inr, ⊎_elim, arith, length-set, get_or-set_other}
use Rattle.tables.specs.Entering.{Among, Apart, Kept, Found, Put, Entered}
use Rattle.tables.specs.Adding.{Extends}
use Rattle.tables.proofs.Slots.{at_or_below, holds_back}

-- what was so of a table in which the record was found is so still
found_same : {X : Type 0} {before after : List X} {used used' : ℕ} → Found before used after used' → (P : List X → ℕ → Type 0) → P before used → P after used'
found_same {X} {before} {after} {used} {used'} f P p = subst (λ (xs : List X). P xs used') (sym f.same) (subst (λ (i : ℕ). P before i) (sym f.no_more) p)

module _ {X : Type 0} {before after : List X} {used slot used' : ℕ} {x : X} where
  put_read : Put before used x after slot used' → (k : ℕ) → (k ≡ used → ⊥) → (d : X) → get_or after k d ≡ get_or before k d
  put_read w k ne d = ap (λ (xs : List X). get_or xs k d) w.written ∙ get_or-set_other before used k x d ne

  put_kept : Put before used x after slot used' → Kept before after used
  put_kept w = record { same = λ k l d. put_read w k (λ e. omega arith) d }

  pub entered_fits : used ≤ length before → Entered before used x after slot used' → used' ≤ length after
  entered_fits l e =
      ⊎_elim
      (λ f. found_same f (λ xs n. n ≤ length xs) l)
      (λ w. rw w.written (simp length-set (omega (arith, w.one_more, w.free))))
      e.way

  pub entered_extends : Entered before used x after slot used' → Extends before used after used'
  entered_extends e = ⊎_elim old new e.way
    where
      old : Found before used after used' → Extends before used after used'
      old f = record {
        more = omega (arith, f.no_more);
        size = ap length f.same;
        kept = record { same = λ k l d. ap (λ (xs : List X). get_or xs k d) f.same };
        rest = λ k l d. ap (λ (xs : List X). get_or xs k d) f.same;
      }

      new : Put before used x after slot used' → Extends before used after used'
      new w = record {
        more = omega (arith, w.one_more);
        size = ap length w.written ∙ length-set before used x;
        kept = put_kept w;
        rest = λ k l d. put_read w k (λ q. omega (arith, w.one_more)) d;
      }

  pub entered_there : Entered before used x after slot used' → Among after used' x
  entered_there e = record { slot = slot; below = e.below; holds = e.there }

  pub entered_only : Entered before used x after slot used' → (y : X) → Among after used' y → Among before used y ⊎ (y ≡ x)
  entered_only e y a = ⊎_elim (λ f. inl (subst (λ (xs : List X). Among xs used y) f.same (subst (λ (i : ℕ). Among after i y) f.no_more a))) new e.way
    where
      new : Put before used x after slot used' → Among before used y ⊎ (y ≡ x)
      new w =
          ⊎_elim
          (λ i. inr (sym (a.holds.is y) ∙ ap (λ (j : ℕ). get_or after j y) (i ∙ sym w.next) ∙ e.there.is y))
          (λ l. inl (record { slot = a.slot; below = l; holds = holds_back (put_kept w) l a.holds }))
          (at_or_below a.slot used (omega (arith, w.one_more, a.below)))

  pub entered_apart : Entered before used x after slot used' → Apart before used → Apart after used'
  entered_apart e apart = ⊎_elim (λ f. found_same f (λ xs n. Apart xs n) apart) new e.way
    where
      new : Put before used x after slot used' → Apart after used'
      new w j k jk km y hj hk =
          ⊎_elim
          (λ i. w.absent (record { slot = j; below = omega (arith, i, jk); holds = record { is = λ d. sym ((put_kept w).same j (omega (arith, i, jk)) d) ∙ hj.is d ∙ sym (hk.is d) ∙ ap (λ (u : ℕ). get_or after u d) (i ∙ sym w.next) ∙ e.there.is d } }))
          (λ l. apart j k jk l y (holds_back (put_kept w) (omega (arith, l, jk)) hj) (holds_back (put_kept w) l hk))
          (at_or_below k used (omega (arith, w.one_more, km)))
