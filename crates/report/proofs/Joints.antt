-- The names of a set, one class at a time.
use Rattle.std.proofs.Common.{◌≡◌, ℕ, zero, suc, ◌+◌, ◌<◌, ◌≤◌, false, cond, List, [], ◌++◌, ap, ◌∙◌, sym, subst, inl, inr, append-nil, add-one, arith}
use Rattle.std.proofs.lemmas.Bool.{cond-true, cond-false, cases_lt, ne_eqb}
use Rattle.terms.specs.Sets.{has, Has, Lowest, without, count_below}
use Rattle.terms.proofs.Masks.{without_keeps, without_of, zero_none, not_has, some_nonzero}
use Rattle.sheets.specs.Sheets.{Contents}
use Rattle.sheets.specs.Held.{held}
use Rattle.report.specs.Sentences.{before, class_name, joined_below, listed}
use Rattle.report.specs.Writing.{Adds}
use Rattle.report.specs.declared.sentences.Sentences.{Sentences}
use Rattle.report.proofs.Appends.{and_then, adds_same}

-- ---- the classes that are left

-- r has just the classes of s from k up
pub record From (s k r : ℕ) : Type 0 where
  pub within : (a : ℕ) → Has r a → Has s a × (k ≤ a)
  pub whole : (a : ℕ) → Has s a → k ≤ a → Has r a

from_all : (s : ℕ) → From s 0 s
from_all s = record { within = λ a h. (h, omega arith); whole = λ a h l. h }

from_next : {s k r : ℕ} (a t : ℕ) → From s k r → Lowest r a → t ≡ without r a → From s (a + 1) t
from_next {s} {k} {r} a t f low e = record {
  within = λ b h.
      let left = without_of r a b (subst (λ x. Has x b) e h) in
      let least = low.1 b left.0 in
      ((f.within b left.0).0, ne_lt a b least left.1);
  whole = λ b h l.
      let least = (f.within a low.0).1 in
      subst (λ x. Has x b) (sym e) (without_keeps r a b (f.whole b h (omega arith)) (λ q. omega arith));
}
  where
    ne_lt : (a b : ℕ) → a ≤ b → (b ≡ a → ⊥) → a + 1 ≤ b
    ne_lt a b l n = elim (cases_lt a b) [ inl p ↦ omega arith | inr p ↦ absurd (n (omega arith)) ]

none_between : {s k r a : ℕ} → From s k r → Lowest r a → (b : ℕ) → k ≤ b → b < a → has s b ≡ false
none_between {s} f low b l lt = not_has s b (λ h. let least = low.1 b (f.whole b h l) in omega arith)

none_left : {s k r : ℕ} → From s k r → r ≡ 0 → (b : ℕ) → k ≤ b → b < 64 → has s b ≡ false
none_left {s} f e b l lt = not_has s b (λ h. zero_none b (subst (λ x. Has x b) e (f.whole b h l)))

-- ---- what is written

module _ (c : Contents) (joint : List ℕ) (s k : ℕ) where
  -- where no class of s is from k up to m, nothing is counted or written there
  skip : (m : ℕ) → k ≤ m → ((a : ℕ) → k ≤ a → a < m → has s a ≡ false) → (count_below s m ≡ count_below s k) × (joined_below c joint s m ≡ joined_below c joint s k)
  unfolding count_below
  skip zero l none = let z : zero ≡ k = omega arith in (ap (count_below s) z, ap (joined_below c joint s) z)
  skip (suc m) l none =
      elim (cases_lt m k) [
        | inl p ↦ let z : suc m ≡ k = omega arith in (ap (count_below s) z, ap (joined_below c joint s) z)
        | inr p ↦
            let earlier = skip m p (λ a h q. none a h (omega arith)) in
            let absent = none m p (omega arith) in
            let nought : cond {A = ℕ} (has s m) 1 0 ≡ 0 = cond-false _ _ _ absent in
            let piece = cond-false _ (before joint (count_below s m) ++ class_name c m) [] absent in
            (omega (arith, earlier.0), ap (λ l. joined_below c joint s m ++ l) piece ∙ append-nil (joined_below c joint s m) ∙ earlier.1)
      ]

  -- the next class of s after those below k
  next : (a : ℕ) → Has s a → k ≤ a → ((b : ℕ) → k ≤ b → b < a → has s b ≡ false)
      → (count_below s (a + 1) ≡ count_below s k + 1) × (joined_below c joint s (a + 1) ≡ joined_below c joint s k ++ (before joint (count_below s k) ++ class_name c a))
  unfolding count_below
  next a h l none =
      let same = skip a l none in
      let one : cond {A = ℕ} (has s a) 1 0 ≡ 1 = cond-true _ _ _ h in
      let piece = cond-true _ (before joint (count_below s a) ++ class_name c a) [] h in
      rw (add-one a) (
        omega (arith, same.0),
        ap (λ l. joined_below c joint s a ++ l) piece ∙ (λ i. same.1 i ++ (before joint (same.0 i) ++ class_name c a)),
      )

-- the classes of s below some k are written behind u, and those in r are left
pub record Joined (joint : List ℕ) (s r : ℕ) (u v : Sentences) : Type 0 where
  pub k : ℕ
  pub few : k ≤ 64
  pub some : 0 < count_below s k
  pub left : From s k r
  pub adds : Adds u (joined_below (held u.sheet.now) joint s k) v

pub joined_first : (joint : List ℕ) (s a t : ℕ) {u v : Sentences} → Lowest s a → a < 64 → t ≡ without s a → Adds u (class_name (held u.sheet.now) a) v → Joined joint s t u v
unfolding count_below
joined_first joint s a t {u} low small e wrote =
    let more = next (held u.sheet.now) joint s 0 a low.0 (omega arith) (none_between (from_all s) low) in
    record {
      k = a + 1;
      few = omega arith;
      some = omega (arith, more.0);
      left = from_next a t (from_all s) low e;
      adds = adds_same _ (sym more.1) wrote;
    }

pub joined_next : (joint : List ℕ) (s r a t : ℕ) {u v w x : Sentences} → Joined joint s r u v → Lowest r a → a < 64 → t ≡ without r a → Adds v joint w → Adds w (class_name (held w.sheet.now) a) x → Joined joint s t u x
joined_next joint s r a t {u} {v} {w} {x} j low small e gap wrote =
    let c = held u.sheet.now in
    let here = j.left.within a low.0 in
    let more = next c joint s j.k a here.0 here.1 (none_between j.left low) in
    let later = cond-false _ [] joint (ne_eqb (count_below s j.k) 0 (omega (arith, j.some))) in
    let name : Adds w (class_name c a) x = adds_same (class_name c a) (ap (λ s. class_name (held s) a) (gap.sheet ∙ j.adds.sheet)) wrote in
    record {
      k = a + 1;
      few = omega arith;
      some = omega (arith, more.0);
      left = from_next a t j.left low e;
      adds = adds_same _ (ap (λ b. joined_below c joint s j.k ++ (b ++ class_name c a)) (sym later) ∙ sym more.1) (and_then j.adds (and_then gap name));
    }

pub joined_all : (joint none : List ℕ) (s r a : ℕ) {u v : Sentences} → Joined joint s r u v → r ≡ 0 → Has s a → Adds u (listed (held u.sheet.now) joint none s) v
joined_all joint none s r a {u} j e h =
    let c = held u.sheet.now in
    let whole = (skip c joint s j.k 64 j.few (none_left j.left e)).1 in
    let some = cond-false _ none (joined_below c joint s 64) (ne_eqb s 0 (some_nonzero s a h)) in
    adds_same _ (sym whole ∙ sym some) j.adds
