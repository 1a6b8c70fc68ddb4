-- What a context gives by itself: its held classes one after another, then the inclusions with no lower classes.
use Rattle.std.proofs.Common.{◌≡◌, ℕ, zero, ◌+◌, ◌<◌, ◌≤◌, ◌⊎◌, List, length, Result, sym, refl, ap, ◌∙◌, subst, inl, inr, ⊎_elim, arith}
use mathlib.Core.List.{Memᴰ}
use Rattle.std.proofs.lemmas.Bool.{cases_eq}
use Rattle.terms.specs.Sets.{Has, only, without}
use Rattle.terms.specs.Axioms.{set_of}
use Rattle.terms.specs.declared.axioms.Axiom.{Axiom}
use Rattle.terms.specs.declared.axioms.Axiom.TheVariants.{Inclusion}
use Rattle.terms.specs.declared.class_set.ClassSet.{ClassSet}
use Rattle.terms.proofs.Masks.{zero_none, without_keeps, without_of}
use Rattle.closure.specs.Closures.{Context, plain, Clause, clause}
use Rattle.tables.specs.Tables.{Tables, Member, a_clause, context_in, clause_of}
use Rattle.tables.specs.Adding.{Adds, Stuck, Ends, Below}
use Rattle.tables.specs.declared.records.ContextRecord.{ContextRecord}
use Rattle.tables.specs.declared.records.ClauseRecord.{ClauseRecord}
use Rattle.tables.specs.declared.entering.Full.{Full}
use Rattle.tables.proofs.Slots.{at_or_below}
use Rattle.tables.proofs.Additions.{adds_as, adds_then, stuck_as, stuck_then, ends_then}
use Rattle.tables.specs.Records.{lone}
use Rattle.saturation.specs.Conclusions.{Brings, Brought, OfContext, held_class, no_lower, Held, Unconditional, NoLower, FromSlots}
use Rattle.saturation.proofs.Partners.{mem_among, among_mem}

-- a class that H holds, not one of those still to go
pub record HeldBut (H : Context) (rest : ℕ) (m : Member) : Type 0 where
  pub holds : Held H m
  pub past : Has rest holds.class → ⊥

-- all are past
module _ {H : Context} {rest : ℕ} {s : Tables} where
  pub held_end : {u : Tables} → rest ≡ zero → Adds (HeldBut H rest) s u → Adds (Held H) s u
  held_end e p = adds_as p (λ m h. record { holds = h; past = λ t. zero_none h.class (subst (λ t. Has t h.class) e t) }) (λ m h. h.holds)

-- a class of the context in slot h was entered
module _ (xs : List ContextRecord) {h S : ℕ} (k : ℕ) (x : ClauseRecord) (held : Has (context_in xs h).held k) (is : x ≡ lone h S) (single : S ≡ only k) where
  means : clause_of xs x ≡ clause (context_in xs h) (only k) plain
  means = ap (clause_of xs) is ∙ ap (λ z. clause (context_in xs h) z plain) single

  given_class : (m : Member) → m ≡ a_clause (clause_of xs x) → Held (context_in xs h) m
  given_class m e = record { class = k; held = held; is = e ∙ ap a_clause means }

  pub held_more : {rest rest' : ℕ} {s u v : Tables} → rest' ≡ without rest k → Adds (HeldBut (context_in xs h) rest) s u → Adds (λ m. m ≡ a_clause (clause_of xs x)) u v → Adds (HeldBut (context_in xs h) rest') s v
  unfolding given_class
  held_more {rest} {rest'} less p q = adds_then p q split
      (λ m o. record { holds = o.holds; past = λ t. o.past (without_of rest k o.holds.class (subst (λ r. Has r o.holds.class) less t)).0 })
      (λ m e. record { holds = given_class m e; past = λ t. (without_of rest k k (subst (λ r. Has r k) less t)).1 refl })
    where
      split : (m : Member) → HeldBut (context_in xs h) rest' m → HeldBut (context_in xs h) rest m ⊎ (m ≡ a_clause (clause_of xs x))
      split m o = ⊎_elim
          (λ e. inr (o.holds.is ∙ ap (λ a. a_clause (clause (context_in xs h) (only a) plain)) e ∙ ap a_clause (sym means)))
          (λ ne. inl (record { holds = o.holds; past = λ t. o.past (subst (λ r. Has r o.holds.class) (sym less) (without_keeps rest k o.holds.class t ne)) }))
          (cases_eq o.holds.class k)

  pub held_stuck : {rest : ℕ} {s u v : Tables} → Adds (HeldBut (context_in xs h) rest) s u → Stuck (λ m. m ≡ a_clause (clause_of xs x)) u v → Stuck (Held (context_in xs h)) s v
  held_stuck p q = stuck_then p q (λ m o. o.holds) given_class

-- the upper classes of an unconditional inclusion were entered
module _ (xs : List ContextRecord) {h : ℕ} (x : ClauseRecord) (M : ClassSet) {y : Axiom} (y_is : y ≡ Inclusion (set_of 0) M) (is : x ≡ lone h M.bits) where
  given : (m : Member) → m ≡ a_clause (clause_of xs x) → NoLower (context_in xs h) y m
  given m e = record { by = record { lower = set_of 0; upper = M; inclusion = y_is; empty = refl }; is = e ∙ ap (λ z. a_clause (clause_of xs z)) is }

  same_upper : (v : Unconditional y) → v.upper ≡ M
  same_upper v = let e : Inclusion v.lower v.upper ≡ Inclusion (set_of 0) M = sym v.inclusion ∙ y_is in cc

  pub lower_adds : {s u : Tables} → Adds (λ m. m ≡ a_clause (clause_of xs x)) s u → Adds (NoLower (context_in xs h) y) s u
  lower_adds p = adds_as p (λ m v. v.is ∙ ap (λ (z : ClassSet). a_clause (clause (context_in xs h) z.bits plain)) (same_upper v.by) ∙ ap (λ z. a_clause (clause_of xs z)) (sym is)) given

  pub lower_stuck : {s u : Tables} → Stuck (λ m. m ≡ a_clause (clause_of xs x)) s u → Stuck (NoLower (context_in xs h) y) s u
  lower_stuck p = stuck_as p given

-- ---- both

module _ {H : Context} (axs : List Axiom) where
  from_held : (m : Member) → Held H m → Brought (OfContext axs H) m
  from_held m h = record { by = clause H (only h.class) plain; follows = held_class h.class h.held; brings = inr h.is }

  from_lower : (m : Member) → Below axs (length axs) (NoLower H) m → Brought (OfContext axs H) m
  from_lower m b =
      let v = b.gives.by in
      record { by = clause H v.upper.bits plain; follows = no_lower v.lower v.upper (subst (λ z. Memᴰ z axs) v.inclusion (among_mem (omega arith) b.among)) v.empty; brings = inr b.gives.is }

  split : (m : Member) → Brought (OfContext axs H) m → Held H m ⊎ Below axs (length axs) (NoLower H) m
  split m b = go b.by b.follows b.brings
    where
      go : (d : Clause) → OfContext axs H d → Brings d m → Held H m ⊎ Below axs (length axs) (NoLower H) m
      go d (held_class a h) w = inl (record { class = a; held = h; is = ⊎_elim absurd (λ e. e) w })
      go d (no_lower L M i z) w = inr (record { by = Inclusion L M; among = mem_among axs i; gives = record { by = record { lower = L; upper = M; inclusion = refl; empty = z }; is = ⊎_elim absurd (λ e. e) w } })

  pub unfold_stuck : {s u : Tables} → Stuck (Held H) s u → Stuck (Brought (OfContext axs H)) s u
  unfold_stuck p = stuck_as p from_held

-- the contexts were kept by the first part
pub unfold_ends : (axs : List Axiom) (slot : ℕ) {xs zs : List ContextRecord} (s : Tables) {v : Tables} {X : Type 0} (u : Tables) (r : Result X Full) → zs ≡ xs
    → Adds (Held (context_in xs slot)) s v → Ends (Below axs (length axs) (NoLower (context_in zs slot))) v u r → Ends (Brought (OfContext axs (context_in xs slot))) s u r
unfold_ends axs slot s {v} u r kept p q =
    ends_then s u r p (subst (λ (us : List ContextRecord). Ends (Below axs (length axs) (NoLower (context_in us slot))) v u r) kept q) (split axs) (from_held axs) (from_lower axs)

-- ---- one context after another

module _ {axs : List Axiom} {xs : List ContextRecord} {from : ℕ} where
  slots_upto : {k l : ℕ} {m : Member} → k ≤ l → FromSlots axs xs from k m → FromSlots axs xs from l m
  slots_upto l f = record { slot = f.slot; low = f.low; high = omega (arith, f.high); gives = f.gives }

  -- the contexts were kept so far
  pub slots_more : {zs : List ContextRecord} {s u v : Tables} {k : ℕ} → zs ≡ xs → from ≤ k → Adds (FromSlots axs xs from k) s u → Adds (Brought (OfContext axs (context_in zs k))) u v → Adds (FromSlots axs xs from (k + 1)) s v
  slots_more {u = u} {v = v} {k = k} kept l p q =
      adds_then p (subst (λ (us : List ContextRecord). Adds (Brought (OfContext axs (context_in us k))) u v) kept q)
      (λ m f. ⊎_elim (λ e. inr (subst (λ i. Brought (OfContext axs (context_in xs i)) m) e f.gives)) (λ b. inl (record { slot = f.slot; low = f.low; high = b; gives = f.gives })) (at_or_below f.slot k f.high))
      (λ m f. slots_upto (omega arith) f)
      (λ m b. record { slot = k; low = l; high = omega arith; gives = b })

  pub slots_stuck : {zs : List ContextRecord} {s u v : Tables} {k n : ℕ} → zs ≡ xs → from ≤ k → k < n → Adds (FromSlots axs xs from k) s u → Stuck (Brought (OfContext axs (context_in zs k))) u v → Stuck (FromSlots axs xs from n) s v
  slots_stuck {u = u} {v = v} {k = k} kept l h p q =
      stuck_then p (subst (λ (us : List ContextRecord). Stuck (Brought (OfContext axs (context_in us k))) u v) kept q) (λ m f. slots_upto (omega arith) f) (λ m b. record { slot = k; low = l; high = h; gives = b })
