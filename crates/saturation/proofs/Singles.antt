-- What follows from one record with a head.
use Rattle.std.proofs.Common.{◌≡◌, ℕ, zero, ◌⊎◌, List, Result, sym, refl, ap, ◌∙◌, subst}
use Rattle.terms.specs.Sets.{Has, only, without}
use Rattle.terms.specs.declared.class_set.ClassSet.{ClassSet}
use Rattle.terms.specs.declared.axioms.Axiom.{Axiom}
use Rattle.terms.specs.declared.axioms.Axiom.TheVariants.{Inclusion}
use Rattle.terms.proofs.Masks.{highest_unique}
use Rattle.closure.specs.Closures.{context, plain, toward, Clause, clause, Head, rising}
use Rattle.tables.specs.Tables.{Tables, a_context, a_clause, context_in, context_of, clause_of, Good}
use Rattle.tables.specs.Adding.{Adds, Ends}
use Rattle.tables.specs.declared.records.ContextRecord.{ContextRecord}
use Rattle.tables.specs.declared.records.ClauseRecord.{ClauseRecord}
use Rattle.tables.specs.declared.entering.Full.{Full}
use Rattle.tables.proofs.Additions.{adds_none, ends_as}
use Rattle.tables.specs.Records.{lone}
use Rattle.saturation.specs.Choices.{Picks}
use Rattle.saturation.specs.Conclusions.{Headed, Brought, DeniedHead, Succeeds, ByAxiom}
use Rattle.saturation.proofs.Bringing.{enters_one, enters_plain}
use Rattle.saturation.proofs.Picks.{picks_chooses, chooses_picks, chooses_class}

same_head : {c : Clause} {a b : ℕ} → Headed c a → Headed c b → a ≡ b
same_head {c} {a} {b} h g = highest_unique c.classes a b h.head g.head

-- ---- a denied head

pub denied_enters : (xs : List ContextRecord) (x : ClauseRecord) {z : ClauseRecord} {a S : ℕ} {X : Type 0} (s u : Tables) (r : Result X Full)
    → Headed (clause_of xs x) a → Has (context_in xs x.context).denied a → z ≡ lone x.context S → S ≡ without x.classes.bits a
    → Ends (λ m. m ≡ a_clause (clause_of xs z)) s u r → Ends (Brought (DeniedHead (clause_of xs x))) s u r
denied_enters xs x {z} {a} {S} s u r h d is rest p =
    enters_plain (clause (context_in xs x.context) (without x.classes.bits a) plain)
    (λ c v. v.is ∙ ap (λ b. clause (context_in xs x.context) (without x.classes.bits b) plain) (same_head v.headed h))
    s u r (ap (λ T. clause (context_in xs x.context) T plain) (sym rest))
    (record { class = a; headed = h; denied = d; is = refl })
    (ends_as s u r p (λ m q. q ∙ ap (λ c. a_clause (clause_of xs c)) (sym is)) (λ m q. q ∙ ap (λ c. a_clause (clause_of xs c)) is))

-- ---- one axiom

module _ {x : Axiom} (y : Axiom) (is : x ≡ y) (Ts : List ℕ) (c : Clause) where
  pub none_of : {s : Tables} → Good s → ((d : Clause) → ByAxiom y Ts c d → ⊥) → Adds (Brought (ByAxiom x Ts c)) s s
  none_of good none = adds_none good (λ m b. none b.by (subst (λ z. ByAxiom z Ts c b.by) is b.follows))

  pub some_of : {X : Type 0} (s u : Tables) (r : Result X Full) → Ends (Brought (ByAxiom y Ts c)) s u r → Ends (Brought (ByAxiom x Ts c)) s u r
  some_of s u r p = subst (λ z. Ends (Brought (ByAxiom z Ts c)) s u r) (sym is) p

-- an existential
pub succeeds_enters : (xs : List ContextRecord) (x : ClauseRecord) {c : Clause} (a p b : ℕ) {top : ℕ} (D : ClassSet) (N : ContextRecord) {X : Type 0} (s u : Tables) (r : Result X Full)
    → clause_of xs x ≡ c → Headed c top → a ≡ top → D.bits ≡ without x.classes.bits top → N.held.bits ≡ only b → N.denied.bits ≡ zero
    → Ends (λ m. (m ≡ a_context (context_of N)) ⊎ (m ≡ a_clause (clause (context_in xs x.context) D.bits (toward p (context_of N))))) s u r
    → Ends (Brought (Succeeds a p b c)) s u r
succeeds_enters xs x {c} a p b {top} D N s u r cx h same rest held denied q =
    enters_one (clause c.of (without c.classes a) (toward p (context (only b) zero))) (λ d v. v.is) s u r
    (let o = ap (λ (z : Clause). z.of) (sym cx) in
    let t = ap (λ z. without c.classes z) same ∙ ap (λ (z : Clause). without z.classes top) (sym cx) ∙ sym rest in
    let k = sym held in let g = sym denied in λ j. clause (o j) (t j) (toward p (context (k j) (g j))))
    (record { headed = subst (λ z. Headed c z) (sym same) h; is = refl })
    q

-- an inclusion
pub no_class : {c : Clause} {Ts : List ℕ} {top : ℕ} {L M : ClassSet} → Headed c top → (Has L.bits top → ⊥) → (d : Clause) → ByAxiom (Inclusion L M) Ts c d → ⊥
no_class h none d v = none (chooses_class h.head d v.1)

pub chooses_enters : (xs : List ContextRecord) (x : ClauseRecord) (c : Clause) (Ts : List ℕ) (top : ℕ) (L M : ClassSet) {X : Type 0} (s u : Tables) (r : Result X Full)
    → clause_of xs x ≡ c → Headed c top → Has L.bits top
    → Ends (Picks (context_in xs x.context) Ts top x.classes.bits L.bits M.bits) s u r → Ends (Brought (ByAxiom (Inclusion L M) Ts c)) s u r
chooses_enters xs x c Ts top L M s u r cx h l p =
    subst (λ (z : Clause). Ends (Brought (ByAxiom (Inclusion L M) Ts z)) s u r) cx
    (ends_as s u r p
    (λ m b. chooses_picks g m (record { by = b.by; follows = b.follows.1; brings = b.brings }))
    (λ m q. let b = picks_chooses g l m q in record { by = b.by; follows = (lonely, b.follows); brings = b.brings }))
  where
    g : Head rising x.classes.bits top
    g = subst (λ (z : Clause). Head rising z.classes top) (sym cx) h.head

    lonely : (clause_of xs x).part ≡ plain
    lonely = ap (λ (z : Clause). z.part) cx ∙ h.lone
