-- All that follows from two records: by the axioms where the second has a head, and else only where it is empty.
use Rattle.std.proofs.Common.{◌≡◌, ℕ, zero, suc, ◌<◌, ◌≤◌, ◌⊎◌, List, [], ◌∷◌, length, Some, None, Option, Result, sym, refl, ap, ◌∙◌, subst, inl, inr, ⊎_elim, le_of_suc-le-suc, arith}
use mathlib.Core.List.Memᴰ
use mathlib.Core.List.{Memᴰ}
use Rattle.terms.specs.Sets.{Has}
use Rattle.terms.specs.declared.axioms.Axiom.{Axiom}
use Rattle.terms.specs.declared.axioms.Axiom.TheVariants.{Inclusion, Exists, ExistsLower, Forall, RoleInclusion}
use Rattle.terms.proofs.Masks.{zero_none}
use Rattle.closure.specs.Closures.{plain, toward, Clause, clause, Context}
use Rattle.tables.specs.Entering.{Holds, Among}
use Rattle.tables.specs.Tables.{Tables, tables, Member, a_clause, context_in, part_of, clause_of, PartCites, Cites, Good}
use Rattle.tables.specs.Adding.{Adds, Ends, Below}
use Rattle.tables.specs.declared.records.ContextRecord.{ContextRecord}
use Rattle.tables.specs.declared.records.RolePart.{RolePart}
use Rattle.tables.specs.declared.records.ClauseRecord.{ClauseRecord}
use Rattle.tables.specs.declared.entering.Full.{Full}
use Rattle.tables.specs.declared.members.Counts.{Counts}
use Rattle.tables.proofs.Meanings.{context_in_one}
use Rattle.tables.proofs.Additions.{adds_none, ends_as}
use Rattle.tables.specs.Records.{lone}
use Rattle.saturation.specs.Conclusions.{Headed, Brought, PairBy, OfPair, impossible, by_axiom, Shares}
use Rattle.saturation.proofs.Tops.{plain_none}
use Rattle.saturation.proofs.Bringing.{enters_plain}

-- ---- the members of a list are what its slots hold

module _ {X : Type 0} where
  pub mem_among : (xs : List X) {x : X} → Memᴰ x xs → Among xs (length xs) x
  mem_among [] m = absurd (Memᴰ.not-nil m)
  mem_among (y ∷ ys) m = ⊎_elim
      (λ e. record { slot = 0; below = omega arith; holds = record { is = λ d. sym e } })
      (λ k. let a = mem_among ys k in record { slot = suc a.slot; below = omega (arith, a.below); holds = record { is = λ d. a.holds.is d } })
      (Memᴰ.cases_cons m)

  slot_mem : (xs : List X) (k : ℕ) (x : X) → k < length xs → Holds xs k x → Memᴰ x xs
  slot_mem [] k x l h = absurd (omega arith)
  slot_mem (y ∷ ys) zero x l h = Memᴰ.head (sym (h.is y))
  slot_mem (y ∷ ys) (suc k) x l h = Memᴰ.tail (slot_mem ys k x (le_of_suc-le-suc l) (record { is = λ d. h.is d }))

  pub among_mem : {xs : List X} {n : ℕ} {x : X} → n ≤ length xs → Among xs n x → Memᴰ x xs
  among_mem {xs} {n} {x} l a = slot_mem xs a.slot x (omega (arith, a.below)) a.holds

-- ---- the second has a head

by_head : (axs : List Axiom) (x : Axiom) (t e d : Clause) → PairBy axs x t e d → (a : ℕ) × Headed e a
by_head axs (Inclusion l m) t e d w = absurd w
by_head axs (Exists a p b) t e d w = absurd w
by_head axs (ExistsLower q a b) t e d w = (a, w.headed)
by_head axs (Forall a q b) t e d w = (a, w.headed)
by_head axs (RoleInclusion p q) t e d w = absurd w

-- it is not empty, so only axioms give something
pub headed_enters : (axs : List Axiom) (t e : Clause) (a : ℕ) → Headed e a → {X : Type 0} (s u : Tables) (r : Result X Full)
    → Ends (Below axs (length axs) (λ x. Brought (PairBy axs x t e))) s u r → Ends (Brought (OfPair axs t e)) s u r
headed_enters axs t e a h s u r p = ends_as s u r p to from
  where
    axiom_of : (d : Clause) → OfPair axs t e d → (x : Axiom) × Memᴰ x axs × PairBy axs x t e d
    axiom_of d (impossible w) = absurd (zero_none a (subst (λ (c : Clause). Has c.classes a) w.empty h.head.0))
    axiom_of d (by_axiom x m w) = (x, m, w)

    to : (m : Member) → Brought (OfPair axs t e) m → Below axs (length axs) (λ x. Brought (PairBy axs x t e)) m
    to m b = let q = axiom_of b.by b.follows in record { by = q.0; among = mem_among axs q.1; gives = record { by = b.by; follows = q.2; brings = b.brings } }

    from : (m : Member) → Below axs (length axs) (λ x. Brought (PairBy axs x t e)) m → Brought (OfPair axs t e) m
    from m b = record { by = b.gives.by; follows = by_axiom b.by (among_mem (omega arith) b.among) b.gives.follows; brings = b.gives.brings }

-- ---- it stands elsewhere

by_of : (axs : List Axiom) (x : Axiom) (t e d : Clause) (p : ℕ) (K : Context) → t.part ≡ toward p K → PairBy axs x t e d → (e.of ≡ K) ⊎ (e.of ≡ t.of)
by_of axs (Inclusion l m) t e d p K is w = absurd w
by_of axs (Exists a q b) t e d p K is w = absurd w
by_of axs (ExistsLower q a b) t e d p K is w = let v : toward w.role w.target ≡ toward p K = sym w.part ∙ is in let k : w.target ≡ K = cc in inl (w.of ∙ k)
by_of axs (Forall a q b) t e d p K is w = inr w.of
by_of axs (RoleInclusion q r) t e d p K is w = absurd w

pair_of : {axs : List Axiom} {t e d : Clause} (p : ℕ) (K : Context) → t.part ≡ toward p K → OfPair axs t e d → (e.of ≡ K) ⊎ (e.of ≡ t.of)
pair_of p K is (impossible w) = let v : toward w.role w.target ≡ toward p K = sym w.part ∙ is in let k : w.target ≡ K = cc in inl (ap (λ (c : Clause). c.of) w.empty ∙ k)
pair_of {axs} {t} {e} {d} p K is (by_axiom x m w) = by_of axs x t e d p K is w

elsewhere_none : {axs : List Axiom} {xs : List ContextRecord} {ys : List ClauseRecord} {n : Counts} (x y : ClauseRecord) (part : RolePart) {t e : Clause} → Good (tables xs ys n) → x.part ≡ Some part → Cites n.contexts x → y.context < n.contexts
    → clause_of xs x ≡ t → clause_of xs y ≡ e → (y.context ≡ part.context → ⊥) → (y.context ≡ x.context → ⊥) → (m : Member) → Brought (OfPair axs t e) m → ⊥
elsewhere_none {axs} {xs} {ys} {n} x y part {t} {e} good is cites there first second far other m b =
    ⊎_elim
    (λ q. far (slot part.context (subst (λ p. PartCites n.contexts p) is cites.1) q))
    (λ q. other (slot x.context cites.0 (q ∙ ap (λ (c : Clause). c.of) (sym first))))
    (pair_of part.role (context_in xs part.context) (ap (λ (c : Clause). c.part) (sym first) ∙ ap (part_of xs) is) b.follows)
  where
    slot : (k : ℕ) → k < n.contexts → e.of ≡ context_in xs k → y.context ≡ k
    slot k l q = context_in_one good.contexts_fit good.contexts_apart y.context k there l (ap (λ (c : Clause). c.of) second ∙ q)

-- a clause without role part gives nothing in the first place
first_part : (axs : List Axiom) (x : Axiom) (t e d : Clause) → PairBy axs x t e d → t.part ≡ plain → ⊥
first_part axs (Inclusion l m) t e d w z = absurd w
first_part axs (Exists a q b) t e d w z = absurd w
first_part axs (ExistsLower q a b) t e d w z = let v : plain ≡ toward w.role w.target = sym z ∙ w.part in let u : ◌≡◌ {A = ℕ} 0 1 = cc in omega arith
first_part axs (Forall a q b) t e d w z = let v : plain ≡ toward w.role w.target = sym z ∙ w.part in let u : ◌≡◌ {A = ℕ} 0 1 = cc in omega arith
first_part axs (RoleInclusion q r) t e d w z = absurd w

lone_none : {axs : List Axiom} {t e d : Clause} → OfPair axs t e d → t.part ≡ plain → ⊥
lone_none (impossible w) z = let v : plain ≡ toward w.role w.target = sym z ∙ w.part in let u : ◌≡◌ {A = ℕ} 0 1 = cc in omega arith
lone_none {axs} {t} {e} {d} (by_axiom x m w) z = first_part axs x t e d w z

-- two records that share no context give nothing
pub unshared_none : {axs : List Axiom} {xs : List ContextRecord} {ys : List ClauseRecord} {n : Counts} (x y : ClauseRecord) {t e : Clause} → Good (tables xs ys n) → Cites n.contexts x → Cites n.contexts y
    → clause_of xs x ≡ t → clause_of xs y ≡ e → (Shares x y → ⊥) → (m : Member) → Brought (OfPair axs t e) m → ⊥
unshared_none {axs} {xs} {ys} {n} x y {t} {e} good cx cy first second apart m b = go x.part refl
  where
    go : (p : Option RolePart) → x.part ≡ p → ⊥
    go None is = lone_none b.follows (ap (λ (c : Clause). c.part) (sym first) ∙ ap (part_of xs) is)
    go (Some part) is =
        elsewhere_none x y part good is cx cy.0 first second (λ q. apart (record { role_part = part; is = is; same = inl q })) (λ q. apart (record { role_part = part; is = is; same = inr q })) m b

-- ---- it has none

-- the records x, with a role part, and y, without a head, mean t and e
pub record Ending (xs : List ContextRecord) (ys : List ClauseRecord) (n : Counts) (x y : ClauseRecord) (part : RolePart) (t e : Clause) : Type 0 where
  pub good : Good (tables xs ys n)
  pub towards : x.part ≡ Some part
  pub cited : Cites n.contexts x
  pub there : y.context < n.contexts
  pub headless : (a : ℕ) → Headed (clause_of xs y) a → ⊥
  pub first : clause_of xs x ≡ t
  pub second : clause_of xs y ≡ e

module _ {xs : List ContextRecord} {ys : List ClauseRecord} {n : Counts} {x y : ClauseRecord} {part : RolePart} {t e : Clause} (w : Ending xs ys n x y part t e) (axs : List Axiom) where
  only_impossible : (d : Clause) → OfPair axs t e d → (e ≡ clause (context_in xs part.context) zero plain) × (d ≡ clause t.of t.classes plain)
  only_impossible d (impossible v) =
      let p : t.part ≡ toward part.role (context_in xs part.context) = ap (λ (c : Clause). c.part) (sym w.first) ∙ ap (part_of xs) w.towards in
      let q : toward v.role v.target ≡ toward part.role (context_in xs part.context) = sym v.part ∙ p in
      let k : v.target ≡ context_in xs part.context = cc in
      (v.empty ∙ ap (λ K. clause K zero plain) k, v.is)
  only_impossible d (by_axiom z m v) = let h = by_head axs z t e d v in absurd (w.headless h.0 (subst (λ c. Headed c h.0) (sym w.second) h.1))

  -- a test fails, and nothing follows
  pub not_there : (y.context ≡ part.context → ⊥) → Adds (Brought (OfPair axs t e)) (tables xs ys n) (tables xs ys n)
  not_there ne = adds_none w.good (λ m b.
      let i = (only_impossible b.by b.follows).0 in
      ne (context_in_one w.good.contexts_fit w.good.contexts_apart y.context part.context w.there (subst (λ p. PartCites n.contexts p) w.towards w.cited.1) (ap (λ (c : Clause). c.of) (w.second ∙ i))))

  pub not_empty : ((y.part ≡ None) × (y.classes.bits ≡ zero) → ⊥) → Adds (Brought (OfPair axs t e)) (tables xs ys n) (tables xs ys n)
  not_empty ne = adds_none w.good (λ m b.
      let i = w.second ∙ (only_impossible b.by b.follows).0 in
      ne (plain_none xs y.part (ap (λ (c : Clause). c.part) i), ap (λ (c : Clause). c.classes) i))

  -- they pass, and the clause without its role part was entered
  pub ending_enters : {z : ClauseRecord} {X : Type 0} (u : Tables) (r : Result X Full) → y.context ≡ part.context → (y.part ≡ None) × (y.classes.bits ≡ zero) → z ≡ lone x.context x.classes.bits
      → Ends (λ m. m ≡ a_clause (clause_of xs z)) (tables xs ys n) u r → Ends (Brought (OfPair axs t e)) (tables xs ys n) u r
  ending_enters {z} u r same empty is p =
      enters_plain (clause t.of t.classes plain) (λ c v. (only_impossible c v).1) (tables xs ys n) u r
      (ap (λ (c : Clause). clause c.of c.classes plain) (sym w.first))
      (impossible (record {
        role = part.role;
        target = context_in xs part.context;
        part = ap (λ (c : Clause). c.part) (sym w.first) ∙ ap (part_of xs) w.towards;
        empty = sym w.second ∙ (let o = ap (context_in xs) same in let l = ap (part_of xs) empty.0 in let z = empty.1 in λ j. clause (o j) (z j) (l j));
        is = refl;
      }))
      (ends_as (tables xs ys n) u r p (λ m q. q ∙ ap (λ c. a_clause (clause_of xs c)) (sym is)) (λ m q. q ∙ ap (λ c. a_clause (clause_of xs c)) is))
