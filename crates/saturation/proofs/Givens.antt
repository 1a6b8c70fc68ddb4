-- The given clause and its premises, as the tables grow; and what follows where it has no head.
use Rattle.std.proofs.Common.{◌≡◌, ℕ, zero, suc, ◌+◌, ◌<◌, ◌≤◌, ◌⊎◌, List, [], ◌∷◌, length, Some, None, Option, sym, refl, ap, ◌∙◌, subst, inl, inr, ⊎_elim, le_of_suc-le-suc, eq-or-lt_of_le, arith}
use mathlib.Core.List.Memᴰ
use mathlib.Core.List.{Memᴰ}
use Rattle.std.proofs.lemmas.Bool.{cases_eq}
use Rattle.tables.specs.declared.records.RolePart.{RolePart}
use Rattle.terms.specs.declared.axioms.Axiom.{Axiom}
use Rattle.terms.specs.declared.axioms.Axiom.TheVariants.{Inclusion, Exists, ExistsLower, Forall, RoleInclusion}
use Rattle.closure.specs.Closures.{Clause, Head, rising, Chosen, none_left, take}
use Rattle.tables.specs.Entering.{Holds, Among}
use Rattle.tables.specs.Tables.{Tables, Member, clause_of, Cites, Good}
use Rattle.tables.specs.Adding.{Grows, Adds, Stuck, Below}
use Rattle.tables.specs.declared.records.ClauseRecord.{ClauseRecord}
use Rattle.tables.proofs.Slots.{holds_get_or, holds_back, among_upto, among_kept}
use Rattle.tables.proofs.Meanings.{clause_of_kept, cites_upto}
use Rattle.tables.proofs.Additions.{adds_none, adds_as, stuck_as, grows_then}
use Rattle.tables.specs.Records.{lone, Tops}
use Rattle.saturation.specs.Choices.{Listed, Given, given_record}
use Rattle.saturation.specs.Conclusions.{Headed, Brought, DeniedHead, ByAxiom, OfOne, Either}
use Rattle.saturation.proofs.Tops.{headed_of}
use Rattle.saturation.proofs.Levels.{kept_back, listed_kept}

-- ---- tables that grow

-- what a used slot holds stays
pub given_same : {s u : Tables} → Grows s u → (slot : ℕ) → slot < s.used.clauses → given_record u.clauses slot ≡ given_record s.clauses slot
given_same w slot l = w.clauses.kept.same slot l _

pub given_cited : {s : Tables} {slot : ℕ} → Good s → slot < s.used.clauses → Cites s.used.contexts (given_record s.clauses slot)
given_cited {s} {slot} g l = g.cited (given_record s.clauses slot) (record { slot = slot; below = l; holds = holds_get_or s.clauses slot _ (omega (arith, g.clauses_fit)) })

pub given_on : {s u : Tables} {slot : ℕ} {c : Clause} {Ts : List ℕ} → Good s → Grows s u → Given s slot c Ts → Given u slot c Ts
given_on {s} {u} {slot} {c} {Ts} g w v =
    let e = given_same w slot v.used in
    record {
      used = omega (arith, v.used, w.clauses.more);
      means = ap (clause_of u.contexts) e ∙ clause_of_kept w.contexts.kept (given_record s.clauses slot) (given_cited g v.used) ∙ v.means;
      listed = subst (λ (x : ClauseRecord). Listed u.clauses (slot + 1) x.context Ts) (sym e) (listed_kept w.clauses.kept (omega (arith, v.used)) v.listed);
    }

pub given_headed : {s : Tables} {slot top : ℕ} {c : Clause} {Ts : List ℕ} → Given s slot c Ts → Tops (given_record s.clauses slot) top → Headed c top
given_headed {s} {slot} {top} v t = subst (λ x. Headed x top) v.means (headed_of (given_record s.clauses slot) t s.contexts)

-- the record in the slot keeps its head
pub tops_on : {s u : Tables} {slot top : ℕ} → Grows s u → slot < s.used.clauses → Tops (given_record s.clauses slot) top → Tops (given_record u.clauses slot) top
tops_on {slot = slot} {top = top} w l t = subst (λ (x : ClauseRecord). Tops x top) (sym (given_same w slot l)) t

-- what a slot up to a used one holds now, it held then
other_holds : {s u : Tables} {slot j : ℕ} → Good s → Grows s u → slot < s.used.clauses → j < slot + 1 → Holds s.clauses j (given_record u.clauses j)
other_holds {s} {u} {slot} {j} g w l b = holds_back w.clauses.kept (omega arith) (holds_get_or u.clauses j _ (omega (arith, g.clauses_fit, w.clauses.size)))

pub other_among : {s u : Tables} {slot j : ℕ} → Good s → Grows s u → slot < s.used.clauses → j < slot + 1 → Among s.clauses (slot + 1) (given_record u.clauses j)
other_among {j = j} g w l b = record { slot = j; below = b; holds = other_holds g w l b }

pub among_then : {s u : Tables} {slot : ℕ} {x : ClauseRecord} → Good s → Grows s u → slot < s.used.clauses → Among u.clauses (slot + 1) x → Among s.clauses (slot + 1) x
among_then g w l a = among_kept (kept_back w.clauses.kept) (omega arith) a

-- a record that cites used slots means the same in tables that have grown
pub means_on : {s u : Tables} {c : Clause} → Grows s u → (x : ClauseRecord) → Cites s.used.contexts x → clause_of s.contexts x ≡ c → clause_of u.contexts x ≡ c
means_on w x c e = clause_of_kept w.contexts.kept x c ∙ e

-- ---- a clause that is given, and another

-- where the loop of a turn stands: good tables s have grown to u, and the given record x is met by the one in slot j, which is not past the given one's
pub record Facing (s u : Tables) (x : ClauseRecord) (slot j : ℕ) : Type 0 where
  pub good : Good s
  pub grows : Grows s u
  pub used : slot < s.used.clauses
  pub below : j < slot + 1
  pub given : Cites s.used.contexts x
  pub other : Cites s.used.contexts (given_record u.clauses j)

module _ {s u : Tables} {slot j : ℕ} {R : ClauseRecord → Type 0} where
  pub facing : (x : ClauseRecord) → Good s → Grows s u → slot < s.used.clauses → Cites s.used.contexts x
      → ((y : ClauseRecord) → Among s.clauses (slot + 1) y → R y × Cites s.used.contexts y) → j < slot + 1 → Facing s u x slot j
  facing x g w l given others b = record { good = g; grows = w; used = l; below = b; given = given; other = (others (given_record u.clauses j) (other_among g w l b)).1 }

module _ {s u : Tables} {x : ClauseRecord} {slot j : ℕ} (f : Facing s u x slot j) where
  pub other_held : Holds s.clauses j (given_record u.clauses j)
  other_held = other_holds f.good f.grows f.used f.below

  -- and when the tables have grown on
  module _ {v : Tables} (w : Grows u v) where
    pub both_cite : Cites v.used.contexts x × Cites v.used.contexts (given_record u.clauses j)
    both_cite = let z = grows_then f.grows w in (cites_upto z.contexts.more x f.given, cites_upto z.contexts.more (given_record u.clauses j) f.other)

    pub given_means : {c : Clause} → clause_of s.contexts x ≡ c → clause_of v.contexts x ≡ c
    given_means is = means_on (grows_then f.grows w) x f.given is

    pub other_means : clause_of v.contexts (given_record u.clauses j) ≡ clause_of s.contexts (given_record u.clauses j)
    other_means = means_on (grows_then f.grows w) (given_record u.clauses j) f.other refl

-- ---- the premises can be listed

module _ (ys : List ClauseRecord) (h : ℕ) where
  abbrev at : ℕ → ClauseRecord
  at k = given_record ys k

  -- the record in slot k is another clause, or one without role part of the context in slot h
  which : (x : ClauseRecord) → ((D : ℕ) → x ≡ lone h D → ⊥) ⊎ (x ≡ lone h x.classes.bits)
  which x = go x.part refl
    where
      go : (p : Option RolePart) → x.part ≡ p → ((D : ℕ) → x ≡ lone h D → ⊥) ⊎ (x ≡ lone h x.classes.bits)
      go (Some r) e = inl (λ D q. let w : Some r ≡ None = sym e ∙ ap (λ (y : ClauseRecord). y.part) q in let z : ◌≡◌ {A = ℕ} 0 1 = cc in omega arith)
      go None e = ⊎_elim (λ c. inr (λ i. record { context = c i; classes = x.classes; part = e i })) (λ ne. inl (λ D q. ne (ap (λ (y : ClauseRecord). y.context) q))) (cases_eq x.context h)

  here : {n k D : ℕ} (a : Among ys n (lone h D)) → a.slot ≡ k → at k ≡ lone h D
  here {D = D} a e = subst (λ i. at i ≡ lone h D) e (a.holds.is _)

  next : (k : ℕ) → k < length ys → (Ts : List ℕ) × Listed ys k h Ts → (Ts : List ℕ) × Listed ys (suc k) h Ts
  next k l rest = ⊎_elim
      (λ other. (
        rest.0,
        record {
          from = λ D a. ⊎_elim (λ e. absurd (other D (here a e))) (λ b. rest.1.from D (record { slot = a.slot; below = b; holds = a.holds })) (eq-or-lt_of_le (le_of_suc-le-suc a.below));
          to = λ D i. among_upto (omega arith) (rest.1.to D i);
        },
      ))
      (λ this. (
        (at k).classes.bits ∷ rest.0,
        record {
          from = λ D a. ⊎_elim
              (λ e. Memᴰ.head (ap (λ (y : ClauseRecord). y.classes.bits) (sym (here a e))))
              (λ b. Memᴰ.tail (rest.1.from D (record { slot = a.slot; below = b; holds = a.holds })))
              (eq-or-lt_of_le (le_of_suc-le-suc a.below));
          to = λ D i. ⊎_elim
              (λ e. record { slot = k; below = omega arith; holds = subst (λ y. Holds ys k y) (this ∙ ap (lone h) (sym e)) (holds_get_or ys k _ (omega arith)) })
              (λ j. among_upto (omega arith) (rest.1.to D j))
              (Memᴰ.cases_cons i);
        },
      ))
      (which (at k))

  listing : (n : ℕ) → n ≤ length ys → (Ts : List ℕ) × Listed ys n h Ts
  listing zero l = ([], record { from = λ D a. absurd (let b = a.below in omega arith); to = λ D i. absurd (Memᴰ.not-nil i) })
  listing (suc k) l = next k l (listing k (omega arith))

pub given_any : (s : Tables) (slot : ℕ) → Good s → slot < s.used.clauses → (Ts : List ℕ) × Given s slot (clause_of s.contexts (given_record s.clauses slot)) Ts
given_any s slot g l =
    let t = listing s.clauses (given_record s.clauses slot).context (slot + 1) (omega (arith, g.clauses_fit)) in
    (t.0, record { used = l; means = refl; listed = t.1 })

-- ---- no head

chosen_head : {L E : ℕ} {sets : List ℕ} {D : ℕ} → Chosen rising L sets E → Memᴰ D sets → (a : ℕ) × Head rising D a
chosen_head none_left i = absurd (Memᴰ.not-nil i)
chosen_head (take a l d r) i = ⊎_elim (λ e. (a, subst (λ z. Head rising z a) (sym e) d)) (λ k. chosen_head r k) (Memᴰ.cases_cons i)

by_headed : (x : Axiom) (Ts : List ℕ) (c d : Clause) → ByAxiom x Ts c d → (a : ℕ) × Headed c a
by_headed (Inclusion L M) Ts c d v = let h = chosen_head v.1.chosen v.1.given in (h.0, record { lone = v.0; head = h.1 })
by_headed (Exists a p b) Ts c d v = (a, v.headed)
by_headed (ExistsLower q a b) Ts c d v = absurd v
by_headed (Forall a q b) Ts c d v = absurd v
by_headed (RoleInclusion p q) Ts c d v = absurd v

-- what the denied head gives, said of the clause that the record means
pub denied_one : {axs : List Axiom} {Ts : List ℕ} {c d : Clause} → d ≡ c → (m : Member) → Brought (DeniedHead d) m → OfOne axs Ts c m
denied_one is m b = inl (subst (λ x. Brought (DeniedHead x) m) is b)

pub none_headless : {s : Tables} {axs : List Axiom} {Ts : List ℕ} {c : Clause} → Good s → ((a : ℕ) → Headed c a → ⊥) → Adds (OfOne axs Ts c) s s
none_headless {axs = axs} {Ts = Ts} {c = c} good none = adds_none good (λ m o. ⊎_elim
    (λ b. none b.follows.class b.follows.headed)
    (λ b. let h = by_headed b.by Ts c b.gives.by b.gives.follows in none h.0 h.1) o)

-- ---- pairs with the clauses of the first slots

module _ {s u : Tables} {slot : ℕ} (g : Good s) (w : Grows s u) (l : slot < s.used.clauses) {axs : List Axiom} {c : Clause} where
  -- said of the tables as they were, or as they are
  either_now : (m : Member) → Below s.clauses (slot + 1) (λ y. Either axs c (clause_of s.contexts y)) m → Below u.clauses (slot + 1) (λ y. Either axs c (clause_of u.contexts y)) m
  either_now m b =
      let same = clause_of_kept w.contexts.kept b.by (g.cited b.by (among_upto (omega arith) b.among)) in
      record { by = b.by; among = among_kept w.clauses.kept (omega arith) b.among; gives = subst (λ (d : Clause). Either axs c d m) (sym same) b.gives }

  either_then : (m : Member) → Below u.clauses (slot + 1) (λ y. Either axs c (clause_of u.contexts y)) m → Below s.clauses (slot + 1) (λ y. Either axs c (clause_of s.contexts y)) m
  either_then m b =
      let h = holds_back w.clauses.kept (omega (arith, b.among.below)) b.among.holds in
      let a : Among s.clauses (slot + 1) b.by = record { slot = b.among.slot; below = b.among.below; holds = h } in
      let same = clause_of_kept w.contexts.kept b.by (g.cited b.by (among_upto (omega arith) a)) in
      record { by = b.by; among = a; gives = subst (λ (d : Clause). Either axs c d m) same b.gives }

  pub pairs_adds : {v z : Tables} → Adds (Below u.clauses (slot + 1) (λ y. Either axs c (clause_of u.contexts y))) v z → Adds (Below s.clauses (slot + 1) (λ y. Either axs c (clause_of s.contexts y))) v z
  pairs_adds p = adds_as p either_now either_then

  pub pairs_stuck : {v z : Tables} → Stuck (Below u.clauses (slot + 1) (λ y. Either axs c (clause_of u.contexts y))) v z → Stuck (Below s.clauses (slot + 1) (λ y. Either axs c (clause_of s.contexts y))) v z
  pairs_stuck p = stuck_as p either_then
