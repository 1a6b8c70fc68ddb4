-- What an axiom gives from a record with a role part and one without.
use Rattle.std.proofs.Common.{◌≡◌, ℕ, ◌<◌, ◌≤◌, ◌⊎◌, List, Result, Bool, true, false, slice_index, sym, refl, ap, ◌∙◌, subst}
use Rattle.std.proofs.lemmas.Bool.{both_ways}
use Rattle.terms.specs.Sets.{has, only, join, without}
use Rattle.terms.specs.declared.class_set.ClassSet.{ClassSet}
use Rattle.terms.specs.declared.axioms.Axiom.{Axiom}
use Rattle.terms.proofs.Masks.{highest_unique}
use Rattle.closure.specs.Closures.{Context, context, toward, Clause, clause, Reaches}
use Rattle.tables.specs.Tables.{Tables, a_context, a_clause, context_in, context_of, part_of, clause_of, PartCites, Good}
use Rattle.tables.specs.Adding.{Adds, Ends}
use Rattle.tables.specs.declared.records.ContextRecord.{ContextRecord}
use Rattle.tables.specs.declared.entering.Full.{Full}
use Rattle.tables.proofs.Meanings.{context_in_one, cites_upto}
use Rattle.tables.proofs.Additions.{adds_none}
use Rattle.roles.specs.Reaching.{Shows}
use Rattle.roles.proofs.Rows.{shows_told}
use Rattle.saturation.specs.Meets.{Meets}
use Rattle.saturation.specs.declared.pairs.Meeting.{Meeting}
use Rattle.saturation.specs.Conclusions.{Headed, Brought, Denies, HoldsToo, PairBy}
use Rattle.saturation.proofs.Tops.{headed_of}
use Rattle.saturation.proofs.Bringing.{enters_one}

-- the parts of a role part
toward_role : {p q : ℕ} {K N : Context} → toward p K ≡ toward q N → p ≡ q
toward_role e = cc

toward_target : {p q : ℕ} {K N : Context} → toward p K ≡ toward q N → K ≡ N
toward_target e = cc

-- they still do when more contexts are there
pub meets_on : {n k : ℕ} {mt : Meeting} → n ≤ k → Meets n mt → Meets k mt
meets_on {mt = mt} l m = record { towards = m.towards; role_low = m.role_low; cited = cites_upto l mt.clause m.cited; tops = m.tops; top_low = m.top_low; there = cites_upto l mt.other m.there }

-- the two records stand in good tables, and mean t and e
pub record Met (s : Tables) (mt : Meeting) (t e : Clause) : Type 0 where
  pub good : Good s
  pub meets : Meets s.used.contexts mt
  pub first : clause_of s.contexts mt.clause ≡ t
  pub second : clause_of s.contexts mt.other ≡ e

pub met : {s : Tables} {mt : Meeting} {t e : Clause} → Good s → Meets s.used.contexts mt → clause_of s.contexts mt.clause ≡ t → clause_of s.contexts mt.other ≡ e → Met s mt t e
met g m first second = record { good = g; meets = m; first = first; second = second }

-- what the test of a role's row tells
module _ {axs : List Axiom} {rows : List ℕ} {p q : ℕ} {b : Bool} (t : ∥ Shows axs rows ∥₁) (l : p < 16) (tested : b ≡ has (slice_index rows p) q) where
  pub leads : b ≡ true → Reaches axs p q
  leads e = ((shows_told t).right p q l).0 (sym tested ∙ e)

  pub leads_not : b ≡ false → Reaches axs p q → ⊥
  leads_not e r = both_ways b e (tested ∙ ((shows_told t).right p q l).1 r)

module _ {s : Tables} {mt : Meeting} {t e : Clause} (w : Met s mt t e) where
  t_part : t.part ≡ toward mt.part.role (context_in s.contexts mt.part.context)
  t_part = ap (λ (c : Clause). c.part) (sym w.first) ∙ ap (part_of s.contexts) w.meets.towards

  t_of : t.of ≡ context_in s.contexts mt.clause.context
  t_of = ap (λ (c : Clause). c.of) (sym w.first)

  t_classes : t.classes ≡ mt.clause.classes.bits
  t_classes = ap (λ (c : Clause). c.classes) (sym w.first)

  e_of : e.of ≡ context_in s.contexts mt.other.context
  e_of = ap (λ (c : Clause). c.of) (sym w.second)

  e_classes : e.classes ≡ mt.other.classes.bits
  e_classes = ap (λ (c : Clause). c.classes) (sym w.second)

  -- the role part of t is this one
  same_role : {p : ℕ} {K : Context} → t.part ≡ toward p K → p ≡ mt.part.role
  same_role q = toward_role (sym q ∙ t_part)

  same_target : {p : ℕ} {K : Context} → t.part ≡ toward p K → K ≡ context_in s.contexts mt.part.context
  same_target q = toward_target (sym q ∙ t_part)

  -- and the head of e
  e_headed : Headed e mt.top
  e_headed = subst (λ c. Headed c mt.top) w.second (headed_of mt.other w.meets.tops s.contexts)

  same_head : {a : ℕ} → Headed e a → a ≡ mt.top
  same_head {a} h = highest_unique e.classes a mt.top h.head e_headed.head

  slot_of : (k : ℕ) → k < s.used.contexts → e.of ≡ context_in s.contexts k → mt.other.context ≡ k
  slot_of k l q = context_in_one w.good.contexts_fit w.good.contexts_apart mt.other.context k w.meets.there.0 l (sym e_of ∙ q)

  part_there : mt.part.context < s.used.contexts
  part_there = subst (λ p. PartCites s.used.contexts p) w.meets.towards w.meets.cited.1

  -- where a test of the axiom fails there is nothing to enter
  module _ {axs : List Axiom} {q a b : ℕ} where
    pub denies_top : (a ≡ mt.top → ⊥) → (d : Clause) → Denies axs q a b t e d → ⊥
    denies_top ne d p = ne (same_head p.headed)

    pub denies_context : (mt.other.context ≡ mt.part.context → ⊥) → (d : Clause) → Denies axs q a b t e d → ⊥
    denies_context ne d p = ne (slot_of mt.part.context part_there (p.of ∙ same_target p.part))

    pub denies_role : (Reaches axs mt.part.role q → ⊥) → (d : Clause) → Denies axs q a b t e d → ⊥
    denies_role ne d p = ne (subst (λ z. Reaches axs z q) (same_role p.part) p.reaches)

    pub holds_top : (a ≡ mt.top → ⊥) → (d : Clause) → HoldsToo axs a q b t e d → ⊥
    holds_top ne d p = ne (same_head p.headed)

    pub holds_context : (mt.other.context ≡ mt.clause.context → ⊥) → (d : Clause) → HoldsToo axs a q b t e d → ⊥
    holds_context ne d p = ne (slot_of mt.clause.context w.meets.cited.0 (p.of ∙ t_of))

    pub holds_role : (Reaches axs mt.part.role q → ⊥) → (d : Clause) → HoldsToo axs a q b t e d → ⊥
    holds_role ne d p = ne (subst (λ z. Reaches axs z q) (same_role p.part) p.reaches)

  -- where they pass, the conclusion and its context are entered
  module _ {axs : List Axiom} {q : ℕ} (a b : ℕ) {X : Type 0} (u : Tables) (r : Result X Full) (is_top : a ≡ mt.top) (lead : Reaches axs mt.part.role q) where
    pub denies_enters : (D : ClassSet) (N : ContextRecord) → mt.other.context ≡ mt.part.context → D.bits ≡ join mt.clause.classes.bits (only b)
        → N.held.bits ≡ (context_in s.contexts mt.part.context).held → N.denied.bits ≡ join (context_in s.contexts mt.part.context).denied (only a)
        → Ends (λ m. (m ≡ a_context (context_of N)) ⊎ (m ≡ a_clause (clause (context_in s.contexts mt.clause.context) D.bits (toward mt.part.role (context_of N))))) s u r
        → Ends (Brought (Denies axs q a b t e)) s u r
    denies_enters D N same more held denied p =
        let K = context_in s.contexts mt.part.context in
        enters_one (clause t.of (join t.classes (only b)) (toward mt.part.role (context K.held (join K.denied (only a)))))
        (λ c v. v.is ∙ (let i = same_role v.part in let k = same_target v.part in λ j. clause t.of (join t.classes (only b)) (toward (i j) (context (k j).held (join (k j).denied (only a))))))
        s u r
        (let o = t_of in let v = ap (λ z. join z (only b)) t_classes ∙ sym more in let h = sym held in let g = sym denied in λ j. clause (o j) (v j) (toward mt.part.role (context (h j) (g j))))
        (record { role = mt.part.role; target = K; part = t_part; reaches = lead; of = e_of ∙ ap (context_in s.contexts) same; headed = subst (λ z. Headed e z) (sym is_top) e_headed; is = refl })
        p

    pub holds_enters : (D : ClassSet) (N : ContextRecord) → mt.other.context ≡ mt.clause.context → D.bits ≡ join mt.clause.classes.bits (without mt.other.classes.bits a)
        → N.held.bits ≡ join (context_in s.contexts mt.part.context).held (only b) → N.denied.bits ≡ (context_in s.contexts mt.part.context).denied
        → Ends (λ m. (m ≡ a_context (context_of N)) ⊎ (m ≡ a_clause (clause (context_in s.contexts mt.clause.context) D.bits (toward mt.part.role (context_of N))))) s u r
        → Ends (Brought (HoldsToo axs a q b t e)) s u r
    holds_enters D N same more held denied p =
        let K = context_in s.contexts mt.part.context in
        enters_one (clause t.of (join t.classes (without e.classes a)) (toward mt.part.role (context (join K.held (only b)) K.denied)))
        (λ c v. v.is ∙ (let i = same_role v.part in let k = same_target v.part in λ j. clause t.of (join t.classes (without e.classes a)) (toward (i j) (context (join (k j).held (only b)) (k j).denied))))
        s u r
        (let o = t_of in let v = ap (λ z. join z (without e.classes a)) t_classes ∙ ap (λ z. join mt.clause.classes.bits (without z a)) e_classes ∙ sym more in let h = sym held in let g = sym denied in λ j. clause (o j) (v j) (toward mt.part.role (context (h j) (g j))))
        (record { role = mt.part.role; target = K; part = t_part; reaches = lead; of = e_of ∙ ap (context_in s.contexts) same ∙ sym t_of; headed = subst (λ z. Headed e z) (sym is_top) e_headed; is = refl })
        p

module _ (axs : List Axiom) (t e : Clause) {x : Axiom} (y : Axiom) (is : x ≡ y) where
  -- the axiom gives nothing here
  pub none_by : {s : Tables} → Good s → ((d : Clause) → PairBy axs y t e d → ⊥) → Adds (Brought (PairBy axs x t e)) s s
  none_by good none = adds_none good (λ m b. none b.by (subst (λ z. PairBy axs z t e b.by) is b.follows))

  pub some_by : {X : Type 0} (s u : Tables) (r : Result X Full) → Ends (Brought (PairBy axs y t e)) s u r → Ends (Brought (PairBy axs x t e)) s u r
  some_by s u r p = subst (λ z. Ends (Brought (PairBy axs z t e)) s u r) (sym is) p
