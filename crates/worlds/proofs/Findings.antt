-- An audit has one finding.
use Rattle.std.proofs.Common.{◌≡◌, ℕ, zero, suc, ◌<◌, List, [], ◌∷◌, Option, Some, None, length, get_or, sym, refl, subst, inl, inr, arith}
use mathlib.Core.List.Memᴰ
use mathlib.Core.List.{Memᴰ}
use Rattle.terms.specs.Axioms.{blank}
use Rattle.terms.specs.declared.axioms.Axiom.{Axiom}
use Rattle.worlds.specs.declared.audit.Breach.{Breach}
use Rattle.worlds.specs.Worlds.{World, Holds, Obeys}
use Rattle.worlds.specs.Audits.{LowestBreaking, FirstBroken, Audited}

at_member : (xs : List Axiom) (i : ℕ) → i < length xs → Memᴰ (get_or xs i blank) xs
at_member [] i l = absurd (omega arith)
at_member (x ∷ xs) zero l = Memᴰ.head refl
at_member (x ∷ xs) (suc i) l = Memᴰ.tail (at_member xs i (omega arith))

-- a world that obeys the axiom at each number obeys them all
pub obeys_each : (w : World) (xs : List Axiom) → ((j : ℕ) → j < length xs → Holds w (get_or xs j blank)) → Obeys w xs
obeys_each w [] h x m = elim m [ ]
obeys_each w (y ∷ ys) h x m = elim (Memᴰ.cases_cons m) [
  | inl e ↦ subst (Holds w) (sym e) (h 0 (omega arith))
  | inr r ↦ obeys_each w ys (λ j l. h (suc j) (omega arith)) x r
]

lowest_one : (w : World) (x : Axiom) (d e : ℕ) → LowestBreaking w x d → LowestBreaking w x e → d ≡ e
lowest_one w x d e p q = omega (arith, λ (l : d < e). p.breaks (q.lowest d l), λ (l : e < d). q.breaks (p.lowest e l))

module _ (xs : List Axiom) (w : World) where
  broken_fails : (i e : ℕ) → FirstBroken xs w i e → Holds w (get_or xs i blank) → ⊥
  broken_fails i e b h = b.broken.breaks (h e b.broken.element)

  numbers_one : (i j d e : ℕ) → FirstBroken xs w i d → FirstBroken xs w j e → i ≡ j
  numbers_one i j d e p q = omega (arith, λ (l : i < j). broken_fails i d p (q.before i l), λ (l : j < i). broken_fails j e q (p.before j l))

  pub one_finding : (a b : Option Breach) → Audited xs w a → Audited xs w b → a ≡ b
  one_finding None None p q = refl
  one_finding None (Some b) p q = absurd (broken_fails b.number b.element q (p (get_or xs b.number blank) (at_member xs b.number q.there)))
  one_finding (Some a) None p q = absurd (broken_fails a.number a.element p (q (get_or xs a.number blank) (at_member xs a.number p.there)))
  one_finding (Some a) (Some b) p q =
      let s = numbers_one a.number b.number a.element b.element p q in
      let r = lowest_one w (get_or xs a.number blank) a.element b.element p.broken (subst (λ k. LowestBreaking w (get_or xs k blank) b.element) (sym s) q.broken) in
      λ k. Some (record { number = s k; element = r k })
