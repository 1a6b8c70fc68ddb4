-- What records mean: it stays as the contexts grow, and two records never mean the same.
use Rattle.std.proofs.Common.{◌≡◌, ℕ, ◌<◌, ◌≤◌, List, length, get_or, Some, None, Option, sym, refl, ap, subst, arith}
use Rattle.closure.specs.Closures.{Context, toward, Clause}
use Rattle.tables.specs.declared.records.ContextRecord.{ContextRecord}
use Rattle.tables.specs.declared.records.RolePart.{RolePart}
use Rattle.tables.specs.declared.records.ClauseRecord.{ClauseRecord}
use Rattle.tables.specs.Entering.{Holds, Apart, Kept}
use Rattle.tables.specs.Tables.{blank, context_of, context_in, part_of, clause_of, PartCites, Cites}
use Rattle.tables.proofs.Slots.{holds_get_or, slot_one}

-- ---- the first n slots are kept

module _ {xs ys : List ContextRecord} {n : ℕ} (kept : Kept xs ys n) where
  pub context_in_kept : (k : ℕ) → k < n → context_in ys k ≡ context_in xs k
  context_in_kept k l = ap context_of (kept.same k l blank)

  part_of_kept : (p : Option RolePart) → PartCites n p → part_of ys p ≡ part_of xs p
  part_of_kept None c = refl
  part_of_kept (Some r) c = ap (toward r.role) (context_in_kept r.context c)

  pub clause_of_kept : (x : ClauseRecord) → Cites n x → clause_of ys x ≡ clause_of xs x
  clause_of_kept x c =
      let p = context_in_kept x.context c.0 in
      let q = part_of_kept x.part c.1 in
      λ i. record { of = p i; classes = x.classes.bits; part = q i }

pub part_upto : {m n : ℕ} → m ≤ n → (p : Option RolePart) → PartCites m p → PartCites n p
part_upto l None c = c
part_upto l (Some r) c = omega arith

pub cites_upto : {m n : ℕ} → m ≤ n → (x : ClauseRecord) → Cites m x → Cites n x
cites_upto l x c = (omega (arith, c.0), part_upto l x.part c.1)

-- ---- a meaning has one record

pub context_of_one : (x y : ContextRecord) → context_of x ≡ context_of y → x ≡ y
context_of_one x y e =
    let p = ap (λ (K : Context). K.held) e in
    let q = ap (λ (K : Context). K.denied) e in
    λ i. record { held = record { bits = p i }; denied = record { bits = q i } }

module _ {xs : List ContextRecord} {n : ℕ} (fits : n ≤ length xs) (apart : Apart xs n) where
  pub context_in_one : (j k : ℕ) → j < n → k < n → context_in xs j ≡ context_in xs k → j ≡ k
  context_in_one j k lj lk e =
      let same = context_of_one (get_or xs j blank) (get_or xs k blank) e in
      slot_one apart j k lj lk (holds_get_or xs j blank (omega arith)) (subst (λ (x : ContextRecord). Holds xs k x) (sym same) (holds_get_or xs k blank (omega arith)))

  part_of_one : (p q : Option RolePart) → PartCites n p → PartCites n q → part_of xs p ≡ part_of xs q → p ≡ q
  part_of_one None None c d e = refl
  part_of_one None (Some r) c d e = let z : ◌≡◌ {A = ℕ} 0 1 = cc in absurd (omega arith)
  part_of_one (Some r) None c d e = let z : ◌≡◌ {A = ℕ} 0 1 = cc in absurd (omega arith)
  part_of_one (Some r) (Some s) c d e =
      let p : r.role ≡ s.role = cc in
      let in_one : context_in xs r.context ≡ context_in xs s.context = cc in
      let q = context_in_one r.context s.context c d in_one in
      λ i. Some (record { role = p i; context = q i })

  pub clause_of_one : (x y : ClauseRecord) → Cites n x → Cites n y → clause_of xs x ≡ clause_of xs y → x ≡ y
  clause_of_one x y c d e =
      let p = context_in_one x.context y.context c.0 d.0 (ap (λ (a : Clause). a.of) e) in
      let q = ap (λ (a : Clause). a.classes) e in
      let r = part_of_one x.part y.part c.1 d.1 (ap (λ (a : Clause). a.part) e) in
      λ i. record { context = p i; classes = record { bits = q i }; part = r i }
