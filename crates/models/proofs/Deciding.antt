-- Deciding the classes of an element by rising class.
use Rattle.std.proofs.Common.{◌≡◌, ℕ, ◌+◌, ◌^◌, ◌<◌, ◌≤◌, ◌↔◌, List, length, Some, None, Option, sym, refl, subst, inl, inr, arith, below_more, MatchOption}
use Rattle.std.proofs.lemmas.Bool.{cases_eq}
use Rattle.terms.specs.Sets.{Has, only, join}
use Rattle.terms.proofs.Masks.{zero_none, only_has, only_is, join_l, join_r, join_cases, highest_without, highest_unique, below_of}
use Rattle.tables.specs.declared.records.ClauseRecord.{ClauseRecord}
use Rattle.tables.specs.Records.{Tops}
use Rattle.models.specs.Elements.{clause_at, Heads, Headed, Produces, Turns}

-- the classes below k are decided, and no other is in s
pub record Decided (xs : List ClauseRecord) (h k s : ℕ) : Type 0 where
  pub from : (a : ℕ) → Has s a → Produces xs h s a
  pub to : (a : ℕ) → a < k → Produces xs h s a → Has s a
  pub early : (a : ℕ) → Has s a → a < k

module _ (xs : List ClauseRecord) (h : ℕ) where
  pub decided_none : Decided xs h 0 0
  decided_none = record { from = λ a m. absurd (zero_none a m); to = λ a l p. absurd (omega arith); early = λ a m. absurd (zero_none a m) }

  -- class k is not produced
  decided_no : (k s t : ℕ) → t ≡ s → Decided xs h k s → (Produces xs h s k → ⊥) → Decided xs h (k + 1) t
  decided_no k s t e d n = subst (Decided xs h (k + 1)) (sym e) (record {
    from = d.from;
    to = λ a l p. elim (cases_eq a k) [ inl e ↦ absurd (n (subst (λ b. Produces xs h s b) e p)) | inr ne ↦ d.to a (omega arith) p ];
    early = λ a m. let l = d.early a m in omega arith;
  })

  -- classes that come later do not change what is produced
  produces_same : (s t b : ℕ) → ((c : ℕ) → c < b → Has t c → Has s c) → Produces xs h s b → Produces xs h t b
  produces_same s t b f p = record {
    by = p.by;
    below = p.below;
    yields = record {
      heads = p.yields.heads;
      apart = λ c m k. p.yields.apart c m (f c (highest_without (clause_at xs p.by).classes.bits b c p.yields.heads.tops.highest m) k);
    };
  }

  -- class k is produced
  decided_yes : (k s t : ℕ) → t ≡ join s (only k) → Decided xs h k s → Produces xs h s k → Decided xs h (k + 1) t
  decided_yes k s t e d p = subst (Decided xs h (k + 1)) (sym e) (record {
    from = λ a m. elim (join_cases s (only k) a m) [
      | inl l ↦ produces_same s (join s (only k)) a (back a (let z = d.early a l in omega arith)) (d.from a l)
      | inr o ↦ subst (λ b. Produces xs h (join s (only k)) b) (sym (only_is k a o)) (produces_same s (join s (only k)) k (back k (omega arith)) p)
    ];
    to = λ a l q. elim (cases_eq a k) [
      | inl e ↦ join_r s (only k) a (subst (Has (only k)) (sym e) (only_has k))
      | inr ne ↦ join_l s (only k) a (d.to a (omega arith) (produces_same (join s (only k)) s a (λ c m x. join_l s (only k) c x) q))
    ];
    early = λ a m. elim (join_cases s (only k) a m) [ inl l ↦ (let z = d.early a l in omega arith) | inr o ↦ omega (arith, only_is k a o) ];
  })
    where
      back : (b : ℕ) → b ≤ k → (c : ℕ) → c < b → Has (join s (only k)) c → Has s c
      back b l c m x = elim (join_cases s (only k) c x) [ inl y ↦ y | inr o ↦ absurd (omega (arith, only_is k c o)) ]

  -- either way
  pub decided_turn : (k s t : ℕ) → Turns xs h s k t → Decided xs h k s → Decided xs h (k + 1) t
  decided_turn k s t (inl y) d = decided_yes k s t y.1 d y.0
  decided_turn k s t (inr n) d = decided_no k s t n.1 d n.0

  -- at the end
  pub decided_all : (hs s k : ℕ) → 64 ≤ k → hs < 2 ^ 64 → Headed xs h (length xs) hs → Decided xs h k s → (a : ℕ) → Has s a ↔ Produces xs h s a
  decided_all hs s k n l f d a = (d.from a, λ p. d.to a (let z = below_of 64 hs a l (f p.by p.below a p.yields.heads) in omega arith) p)

-- ---- the heads

-- what a clause with no head found has none of
pub no_top : (x : ClauseRecord) (r : Option ℕ) → MatchOption r ((a : ℕ) → Tops x a → ⊥) (λ a. Tops x a × (a < 64)) → ((b : ℕ) → r ≡ Some b → ⊥) → (a : ℕ) → Tops x a → ⊥
no_top x None m n = m
no_top x (Some b) m n = absurd (n b refl)

pub headed_no : (xs : List ClauseRecord) (h k s t : ℕ) → t ≡ s → ((a : ℕ) → Heads h a (clause_at xs k) → ⊥) → Headed xs h k s → Headed xs h (k + 1) t
headed_no xs h k s t e n f = below_more (λ j. (a : ℕ) → Heads h a (clause_at xs j) → Has t a) k (λ j l a m. subst (λ u. Has u a) (sym e) (f j l a m)) (λ a m. absurd (n a m))

pub headed_yes : (xs : List ClauseRecord) (h k s b t : ℕ) → t ≡ join s (only b) → Heads h b (clause_at xs k) → Headed xs h k s → Headed xs h (k + 1) t
headed_yes xs h k s b t e y f = below_more (λ j. (a : ℕ) → Heads h a (clause_at xs j) → Has t a) k
    (λ j l a m. subst (λ u. Has u a) (sym e) (join_l s (only b) a (f j l a m)))
    (λ a m. subst (λ u. Has u a) (sym e) (join_r s (only b) a
    (subst (Has (only b)) (highest_unique (clause_at xs k).classes.bits b a y.tops.highest m.tops.highest) (only_has b))))
