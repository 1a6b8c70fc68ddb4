-- Tests of equality: of contexts, of role parts, of clauses.
use Rattle.std.proofs.Common.{◌≡◌, Bool, true, false, ◌&&◌, eqb, List, refl, subst}
use mathlib.Core.Bool.{false≢true}
use mathlib.Core.List.{Memᴰ}
use Rattle.std.proofs.lemmas.Bool.{eqb-true, eq-eqb, and_parts, and_from}
use Rattle.closure.specs.Closures.{Context, Part, plain, toward, Clause}
use Rattle.closure.proofs.Decisions.{is_true, dec_map}
use Rattle.closure.proofs.Computed.{is_in, is_in_of, in_is_in}

abbrev pub same_context : Context → Context → Bool
same_context H K = eqb H.held K.held && eqb H.denied K.denied

abbrev pub same_part : Part → Part → Bool
same_part plain plain = true
same_part plain (toward q L) = false
same_part (toward p K) plain = false
same_part (toward p K) (toward q L) = eqb p q && same_context K L

abbrev pub same_clause : Clause → Clause → Bool
same_clause x y = same_context x.of y.of && (eqb x.classes y.classes && same_part x.part y.part)

-- ---- each says no more and no less than equality

pub context_eq : (H K : Context) → same_context H K ≡ true → H ≡ K
context_eq H K e =
    let h = and_parts (eqb H.held K.held) (eqb H.denied K.denied) e in
    let p = eqb-true H.held K.held h.0 in
    let q = eqb-true H.denied K.denied h.1 in
    λ i. record { held = p i; denied = q i }

pub context_rfl : (H : Context) → same_context H H ≡ true
context_rfl H = and_from (eqb H.held H.held) (eqb H.denied H.denied) (eq-eqb H.held H.held refl) (eq-eqb H.denied H.denied refl)

pub part_eq : (r s : Part) → same_part r s ≡ true → r ≡ s
part_eq plain plain e = refl
part_eq plain (toward q L) e = absurd (false≢true e)
part_eq (toward p K) plain e = absurd (false≢true e)
part_eq (toward p K) (toward q L) e =
    let h = and_parts (eqb p q) (same_context K L) e in
    let u = eqb-true p q h.0 in
    let v = context_eq K L h.1 in
    λ i. toward (u i) (v i)

pub part_rfl : (r : Part) → same_part r r ≡ true
part_rfl plain = refl
part_rfl (toward p K) = and_from (eqb p p) (same_context K K) (eq-eqb p p refl) (context_rfl K)

pub clause_eq : (x y : Clause) → same_clause x y ≡ true → x ≡ y
clause_eq x y e =
    let h = and_parts (same_context x.of y.of) (eqb x.classes y.classes && same_part x.part y.part) e in
    let k = and_parts (eqb x.classes y.classes) (same_part x.part y.part) h.1 in
    let p = context_eq x.of y.of h.0 in
    let q = eqb-true x.classes y.classes k.0 in
    let r = part_eq x.part y.part k.1 in
    λ i. record { of = p i; classes = q i; part = r i }

pub clause_rfl : (x : Clause) → same_clause x x ≡ true
clause_rfl x =
    and_from (same_context x.of x.of) (eqb x.classes x.classes && same_part x.part x.part) (context_rfl x.of)
    (and_from (eqb x.classes x.classes) (same_part x.part x.part) (eq-eqb x.classes x.classes refl) (part_rfl x.part))

-- ---- so equality can be decided

dec_same : {A : Type 0} (same : A → A → Bool) → ((x y : A) → same x y ≡ true → x ≡ y) → ((x : A) → same x x ≡ true) → (x y : A) → Dec (x ≡ y)
dec_same same eq rfl x y = dec_map (eq x y) (λ p. subst (λ z. same x z ≡ true) p (rfl x)) (is_true (same x y))

pub dec_context : (M N : Context) → Dec (M ≡ N)
dec_context = dec_same same_context context_eq context_rfl

pub dec_plain : (r : Part) → Dec (r ≡ plain)
dec_plain r = dec_same same_part part_eq part_rfl r plain

-- the list has the clause
pub dec_listed : (clauses : List Clause) (x : Clause) → Dec (Memᴰ x clauses)
dec_listed clauses x = dec_map (is_in_of same_clause clause_eq clause_rfl x clauses) (in_is_in same_clause clause_eq clause_rfl x) (is_true (is_in same_clause x clauses))
