-- Giving one clause after another: what is entered is in the closure, and when every clause was given the tables have all of it.
use Rattle.std.proofs.Common.{◌≡◌, ℕ, zero, ◌+◌, ◌<◌, ◌≤◌, ◌⊎◌, List, [], ◌∷◌, Some, None, Option, sym, refl, ap, ◌∙◌, subst, inl, inr, ⊎_elim, arith}
use mathlib.Core.List.Memᴰ
use mathlib.Core.List.{Memᴰ}
use Rattle.std.specs.List.{AllByRecursion}
use Rattle.std.proofs.lemmas.Bool.{cases_lt}
use Rattle.terms.specs.Sets.{only, join}
use Rattle.terms.specs.Axioms.{WellFormed}
use Rattle.terms.specs.declared.class_set.ClassSet.{ClassSet}
use Rattle.terms.specs.declared.axioms.Axiom.{Axiom}
use Rattle.terms.specs.declared.axioms.Axiom.TheVariants.{Inclusion, Exists}
use Rattle.terms.proofs.Masks.{join_none_r}
use Rattle.closure.specs.Closures.{Context, plain, toward, Clause, clause, rising, Chosen, none_left, take, goal}
use Rattle.closure.specs.Rules.{Rules}
use Rattle.closure.proofs.Leastness.{least_contexts, least_clauses}
use Rattle.closure.proofs.Bounds.{ContextBelow, PartBelow, clauses_below, formed_declared}
use Rattle.tables.specs.Entering.{Holds, Among, Entered}
use Rattle.tables.specs.Tables.{Tables, Member, a_context, a_clause, blank, context_in, context_of, part_of, clause_of, PartCites, Cites, Stands, InClosure, In, Good}
use Rattle.tables.specs.Adding.{Grows, Adds, Stuck}
use Rattle.tables.specs.declared.records.ContextRecord.{ContextRecord}
use Rattle.tables.specs.declared.records.RolePart.{RolePart}
use Rattle.tables.specs.declared.records.ClauseRecord.{ClauseRecord}
use Rattle.tables.proofs.Slots.{at_or_below, holds_get_or, among_upto}
use Rattle.tables.proofs.Meanings.{context_in_one, clause_of_kept}
use Rattle.tables.proofs.Additions.{none_in, grows_refl, grows_then, in_on, in_context_slot, adds_then, stuck_then}
use Rattle.tables.specs.Records.{lone}
use Rattle.saturation.specs.Choices.{Given, given_record}
use Rattle.saturation.specs.Conclusions.{Brought, OfContext, held_class, no_lower, DeniedHead, Succeeds, ByAxiom, OfPair, impossible, by_axiom, OfTurn, FromSlots, RolesBelow}
use Rattle.saturation.proofs.Tops.{plain_none}
use Rattle.saturation.proofs.Givens.{given_cited}
use Rattle.saturation.proofs.Partners.{mem_among, among_mem}
use Rattle.saturation.proofs.Steps.{context_in_lem, denied_in, axiom_in, pair_in}

-- one of the first n clauses
abbrev pub Taken : Tables → ℕ → Clause → Type 0
Taken u n c = Stands (clause_of u.contexts) u.clauses n c

-- where the saturation from s stands in u, when the clauses in the first n slots were given
pub record Sofar (axs : List Axiom) (G : Context) (s u : Tables) (n : ℕ) : Type 0 where
  pub grows : Grows s u
  pub goal : In u (a_context G)
  -- there are members of the closure, and nothing else
  pub within : (m : Member) → In u m → InClosure rising axs G m
  -- what follows from contexts and given clauses is there
  pub unfolded : (H : Context) → In u (a_context H) → (m : Member) → Brought (OfContext axs H) m → In u m
  pub denied : (c : Clause) → Taken u n c → (m : Member) → Brought (DeniedHead c) m → In u m
  pub succeeds : (c : Clause) → Taken u n c → (a p b : ℕ) → Memᴰ (Exists a p b) axs → (m : Member) → Brought (Succeeds a p b c) m → In u m
  pub chosen : (H : Context) (L M : ClassSet) (sets : List ℕ) (rest : ℕ) → Memᴰ (Inclusion L M) axs → Chosen rising L.bits sets rest → (D : ℕ) → Memᴰ D sets
      → ((E : ℕ) → Memᴰ E sets → Taken u n (clause H E plain)) → In u (a_clause (clause H (join M.bits rest) plain))
  pub paired : (t e : Clause) → Taken u n t → Taken u n e → (m : Member) → Brought (OfPair axs t e) m → In u m

-- ---- slots and meanings

-- what stands in a slot that was used before the tables grew stood there then
taken_then : {s u : Tables} {n : ℕ} {c : Clause} → Good s → Grows s u → n ≤ s.used.clauses → Taken u n c → Taken s n c
taken_then {s} {u} {n} g w l t =
    let a : Among s.clauses n t.by = record { slot = t.among.slot; below = t.among.below; holds = record { is = λ d. sym (w.clauses.kept.same t.among.slot (omega (arith, t.among.below)) d) ∙ t.among.holds.is d } } in
    record { by = t.by; among = a; means = sym (clause_of_kept w.contexts.kept t.by (g.cited t.by (among_upto l a))) ∙ t.means }

-- the context of a clause is there
of_there : {u : Tables} {c : Clause} → Good u → In u (a_clause c) → In u (a_context c.of)
of_there {u} g a = subst (λ (x : Clause). In u (a_context x.of)) a.means (in_context_slot g a.by.context (g.cited a.by a.among).0)

target_there : {u : Tables} {H K : Context} {D p : ℕ} → Good u → In u (a_clause (clause H D (toward p K))) → In u (a_context K)
target_there {u} {H} {K} {D} {p} g a = go a.by.part refl (g.cited a.by a.among).1
  where
    go : (x : Option RolePart) → a.by.part ≡ x → PartCites u.used.contexts x → In u (a_context K)
    go None e c = let q : plain ≡ toward p K = ap (part_of u.contexts) (sym e) ∙ ap (λ (y : Clause). y.part) a.means in let z : ◌≡◌ {A = ℕ} 0 1 = cc in absurd (omega arith)
    go (Some r) e c =
        let q : toward r.role (context_in u.contexts r.context) ≡ toward p K = ap (part_of u.contexts) (sym e) ∙ ap (λ (y : Clause). y.part) a.means in
        let k : context_in u.contexts r.context ≡ K = cc in
        subst (λ z. In u (a_context z)) k (in_context_slot g r.context c)

-- a clause of the given one's context, among the first ones, has its classes in the list
premise_listed : {u : Tables} {slot : ℕ} {c : Clause} {Ts : List ℕ} {D : ℕ} → Good u → Given u slot c Ts → Taken u (slot + 1) (clause c.of D plain) → Memᴰ D Ts
premise_listed {u} {slot} {c} {Ts} {D} g v t = v.listed.from D (subst (λ y. Among u.clauses (slot + 1) y) same t.among)
  where
    cites : Cites u.used.contexts t.by
    cites = g.cited t.by (among_upto (omega (arith, v.used)) t.among)

    h : t.by.context ≡ (given_record u.clauses slot).context
    h = context_in_one g.contexts_fit g.contexts_apart t.by.context (given_record u.clauses slot).context cites.0 (given_cited g v.used).0
        (ap (λ (x : Clause). x.of) t.means ∙ ap (λ (x : Clause). x.of) (sym v.means))

    same : t.by ≡ lone (given_record u.clauses slot).context D
    same =
        let d : t.by.classes.bits ≡ D = ap (λ (x : Clause). x.classes) t.means in
        let p = plain_none u.contexts t.by.part (ap (λ (x : Clause). x.part) t.means) in
        λ i. record { context = h i; classes = record { bits = d i }; part = p i }

listed_there : {u : Tables} {slot : ℕ} {c : Clause} {Ts : List ℕ} (D : ℕ) → Given u slot c Ts → Memᴰ D Ts → Taken u (slot + 1) (clause c.of D plain)
listed_there {u} {slot} {c} D v i =
    record { by = lone (given_record u.clauses slot).context D; among = v.listed.to D i; means = ap (λ (x : Clause). clause x.of D plain) v.means }

-- the last of the first clauses is the given one
last_taken : {u : Tables} {slot : ℕ} {c : Clause} {Ts : List ℕ} → Good u → Given u slot c Ts → (d : Clause) → Taken u (slot + 1) d → (c ≡ d) ⊎ Taken u slot d
last_taken {u} {slot} {c} g v d t =
    ⊎_elim
    (λ e. inl (sym v.means ∙ ap (clause_of u.contexts) (ap (given_record u.clauses) (sym e) ∙ t.among.holds.is _) ∙ t.means))
    (λ l. inr (record { by = t.by; among = record { slot = t.among.slot; below = l; holds = t.among.holds }; means = t.means }))
    (at_or_below t.among.slot slot t.among.below)

given_taken : {u : Tables} {slot : ℕ} {c : Clause} {Ts : List ℕ} → Good u → Given u slot c Ts → Taken u (slot + 1) c
given_taken {u} {slot} g v = record { by = given_record u.clauses slot; among = record { slot = slot; below = omega arith; holds = holds_get_or u.clauses slot _ (omega (arith, v.used, g.clauses_fit)) }; means = v.means }

-- ---- one turn

module _ {axs : List Axiom} {G : Context} {s : Tables} where
  module _ {u : Tables} {slot : ℕ} {c : Clause} {Ts : List ℕ} (f : Sofar axs G s u slot) (v : Given u slot c Ts) where
    u_good : Good u
    u_good = f.grows.good

    taken_in : (d : Clause) → Taken u (slot + 1) d → InClosure rising axs G (a_clause d)
    taken_in d t = f.within (a_clause d) (record { by = t.by; among = among_upto (omega (arith, v.used)) t.among; means = t.means })

    c_in : InClosure rising axs G (a_clause c)
    c_in = taken_in c (given_taken u_good v)

    c_of : InClosure rising axs G (a_context c.of)
    c_of = f.within (a_context c.of) (of_there u_good (let t = given_taken u_good v in record { by = t.by; among = among_upto (omega (arith, v.used)) t.among; means = t.means }))

    -- what the turn gives is in the closure
    pub turn_in : (m : Member) → OfTurn axs u.contexts u.clauses (slot + 1) Ts c m → InClosure rising axs G m
    turn_in m (inl (inl b)) = denied_in axs G c c_in m b
    turn_in m (inl (inr b)) = axiom_in axs G c c_in c_of Ts (λ D i. taken_in (clause c.of D plain) (listed_there D v i)) b.by (among_mem (omega arith) b.among) m b.gives
    turn_in m (inr b) =
        let d = clause_of u.contexts b.by in
        let d-in = taken_in d (record { by = b.by; among = b.among; means = refl }) in
        ⊎_elim (λ w. pair_in axs G c d c_in d-in m w) (λ w. pair_in axs G d c d-in c_in m w) b.gives

    -- then what follows from the new contexts
    module _ {w : Tables} (p : Adds (OfTurn axs u.contexts u.clauses (slot + 1) Ts c) u w) where
      w_in : (m : Member) → In w m → InClosure rising axs G m
      w_in m a = ⊎_elim (f.within m) (turn_in m) (p.only m a)

      pub slots_in : (m : Member) → FromSlots axs w.contexts u.used.contexts w.used.contexts m → InClosure rising axs G m
      slots_in m b = context_in_lem axs G (context_in w.contexts b.slot) (w_in (a_context (context_in w.contexts b.slot)) (in_context_slot p.grows.good b.slot b.high)) m b.gives

      module _ {z : Tables} (q : Adds (FromSlots axs w.contexts u.used.contexts w.used.contexts) w z) (same : z.contexts ≡ w.contexts) (as_many : z.used.contexts ≡ w.used.contexts) where
        on : (m : Member) → In u m → In z m
        on m a = in_on p.grows.good q.grows m (in_on u_good p.grows m a)

        turned : (m : Member) → OfTurn axs u.contexts u.clauses (slot + 1) Ts c m → In z m
        turned m o = in_on p.grows.good q.grows m (p.all m o)

        all_grow : Grows u z
        all_grow = grows_then p.grows q.grows

        back : (d : Clause) → Taken z (slot + 1) d → Taken u (slot + 1) d
        back d t = taken_then u_good all_grow (omega (arith, v.used)) t

        which : (d : Clause) → Taken z (slot + 1) d → (c ≡ d) ⊎ Taken u slot d
        which d t = last_taken u_good v d (back d t)

        -- a context is an old one, or in a slot that was unfolded now
        unfold_now : (H : Context) → In z (a_context H) → (m : Member) → Brought (OfContext axs H) m → In z m
        unfold_now H a m b = go (cases_lt a.among.slot u.used.contexts)
          where
            holds_w : Holds w.contexts a.among.slot a.by
            holds_w = subst (λ xs. Holds xs a.among.slot a.by) same a.among.holds

            is_H : context_in w.contexts a.among.slot ≡ H
            is_H = ap context_of (holds_w.is blank) ∙ a.means

            go : (a.among.slot < u.used.contexts) ⊎ (u.used.contexts ≤ a.among.slot) → In z m
            go (inl l) = on m (f.unfolded H (record { by = a.by; among = record { slot = a.among.slot; below = l; holds = record { is = λ d. sym (p.grows.contexts.kept.same a.among.slot l d) ∙ holds_w.is d } }; means = a.means }) m b)
            go (inr l) = q.all m (record { slot = a.among.slot; low = l; high = omega (arith, a.among.below, as_many); gives = subst (λ K. Brought (OfContext axs K) m) (sym is_H) b })

        pub sofar_more : Sofar axs G s z (slot + 1)
        sofar_more = record {
          grows = grows_then f.grows all_grow;
          goal = on (a_context G) f.goal;
          within = λ m a. ⊎_elim (w_in m) (slots_in m) (q.only m a);
          unfolded = unfold_now;
          denied = λ d t m b. ⊎_elim (λ e. turned m (inl (inl (subst (λ x. Brought (DeniedHead x) m) (sym e) b)))) (λ o. on m (f.denied d o m b)) (which d t);
          succeeds = λ d t a r b i m k. ⊎_elim
              (λ e. turned m (inl (inr (record { by = Exists a r b; among = mem_among axs i; gives = subst (λ x. Brought (Succeeds a r b x) m) (sym e) k }))))
              (λ o. on m (f.succeeds d o a r b i m k))
              (which d t);
          chosen = λ H L M sets rest i ch D at all. ⊎_elim
              (λ old. on (a_clause (clause H (join M.bits rest) plain)) (f.chosen H L M sets rest i ch D at old))
              (λ new. turned (a_clause (clause H (join M.bits rest) plain)) (inl (inr (record { by = Inclusion L M; among = mem_among axs i; gives = by_choice H L M sets rest ch all new.0 new.1 new.2 }))))
              (old_or_given H sets all);
          paired = λ t e a b m k. ⊎_elim
              (λ i. turned m (inr (record { by = (back e b).by; among = (back e b).among; gives = inl (subst (λ x. Brought (OfPair axs c x) m) (sym (back e b).means) (subst (λ x. Brought (OfPair axs x e) m) (sym i) k)) })))
              (λ o. ⊎_elim
              (λ i. turned m (inr (record { by = (back t a).by; among = (back t a).among; gives = inr (subst (λ x. Brought (OfPair axs x c) m) (sym (back t a).means) (subst (λ x. Brought (OfPair axs t x) m) (sym i) k)) })))
              (λ r. on m (f.paired t e o r m k))
              (which e b))
              (which t a);
        }
          where
            -- each premise was given before, or one of them is given now
            old_or_given : (H : Context) (sets : List ℕ) → ((E : ℕ) → Memᴰ E sets → Taken z (slot + 1) (clause H E plain))
                → ((E : ℕ) → Memᴰ E sets → Taken u slot (clause H E plain)) ⊎ ((E : ℕ) × Memᴰ E sets × (c ≡ clause H E plain))
            old_or_given H [] all = inl (λ E i. absurd (Memᴰ.not-nil i))
            old_or_given H (D ∷ sets) all = ⊎_elim
                (λ e. inr (D, Memᴰ.head refl, e))
                (λ o. ⊎_elim
                (λ old. inl (λ E i. ⊎_elim (λ e. subst (λ F. Taken u slot (clause H F plain)) (sym e) o) (old E) (Memᴰ.cases_cons i)))
                (λ n. inr (n.0, Memᴰ.tail n.1, n.2))
                (old_or_given H sets (λ E i. all E (Memᴰ.tail i))))
                (which (clause H D plain) (all D (Memᴰ.head refl)))

            by_choice : (H : Context) (L M : ClassSet) (sets : List ℕ) (rest : ℕ) → Chosen rising L.bits sets rest → ((E : ℕ) → Memᴰ E sets → Taken z (slot + 1) (clause H E plain))
                → (E : ℕ) → Memᴰ E sets → c ≡ clause H E plain → Brought (ByAxiom (Inclusion L M) Ts c) (a_clause (clause H (join M.bits rest) plain))
            by_choice H L M sets rest ch all E i e =
                let o : H ≡ c.of = ap (λ (x : Clause). x.of) (sym e) in
                record {
                  by = clause H (join M.bits rest) plain;
                  follows = (
                    ap (λ (x : Clause). x.part) e,
                    record {
                      sets = sets;
                      rest = rest;
                      chosen = ch;
                      each = λ F j. premise_listed u_good v (subst (λ K. Taken u (slot + 1) (clause K F plain)) o (back (clause H F plain) (all F j)));
                      given = subst (λ F. Memᴰ F sets) (ap (λ (x : Clause). x.classes) (sym e)) i;
                      is = ap (λ K. clause K (join M.bits rest) plain) o;
                    },
                  );
                  brings = inr refl;
                }

  -- ---- the end

  module _ {u : Tables} {n : ℕ} (f : Sofar axs G s u n) (every : u.used.clauses ≤ n) where
    take_all : (c : Clause) → In u (a_clause c) → Taken u n c
    take_all c a = record { by = a.by; among = among_upto every a.among; means = a.means }

    chosen_none : {L E : ℕ} {sets : List ℕ} → Chosen rising L sets E → sets ≡ [] → (L ≡ zero) × (E ≡ zero)
    chosen_none none_left e = (refl, refl)
    chosen_none (take a l d r) e = let z : ◌≡◌ {A = ℕ} 0 1 = cc in absurd (omega arith)

    u_rules : Rules rising axs (λ H. In u (a_context H)) (λ c. In u (a_clause c))
    u_rules = record {
      target = λ H N D p a. target_there f.grows.good a;
      held_class = λ H a h m. f.unfolded H h (a_clause (clause H (only a) plain)) (record { by = clause H (only a) plain; follows = held_class a m; brings = inr refl });
      denied_head = λ H D a x l m. f.denied (clause H D plain) (take_all _ x) _ (record { by = _; follows = record { class = a; headed = record { lone = refl; head = l }; denied = m; is = refl }; brings = inr refl });
      inclusion = λ H L M sets E i h ch all. choose H L M sets E i h ch all;
      existential = λ H D a p b i x l. f.succeeds (clause H D plain) (take_all _ x) a p b i _ (record { by = _; follows = record { headed = record { lone = refl; head = l }; is = refl }; brings = inr refl });
      existential_left = λ H N D E p q a b i r x y l. f.paired (clause H D (toward p N)) (clause N E plain) (take_all _ x) (take_all _ y) _
          (record { by = _; follows = by_axiom _ i (record { role = p; target = N; part = refl; reaches = r; of = refl; headed = record { lone = refl; head = l }; is = refl }); brings = inr refl });
      impossible_target = λ H N D p x y. f.paired (clause H D (toward p N)) (clause N zero plain) (take_all _ x) (take_all _ y) _
          (record { by = _; follows = impossible (record { role = p; target = N; part = refl; empty = refl; is = refl }); brings = inr refl });
      universal = λ H N D E p q a b i r x y l. f.paired (clause H D (toward p N)) (clause H E plain) (take_all _ x) (take_all _ y) _
          (record { by = _; follows = by_axiom _ i (record { role = p; target = N; part = refl; reaches = r; of = refl; headed = record { lone = refl; head = l }; is = refl }); brings = inr refl });
    }
      where
        choose : (H : Context) (L M : ClassSet) (sets : List ℕ) (E : ℕ) → Memᴰ (Inclusion L M) axs → In u (a_context H) → Chosen rising L.bits sets E
            → ((D : ℕ) → Memᴰ D sets → In u (a_clause (clause H D plain))) → In u (a_clause (clause H (join M.bits E) plain))
        choose H L M [] E i h ch all =
            let z = chosen_none ch refl in
            subst (λ T. In u (a_clause (clause H T plain))) (sym (ap (join M.bits) z.1 ∙ join_none_r M.bits))
            (f.unfolded H h (a_clause (clause H M.bits plain)) (record { by = clause H M.bits plain; follows = no_lower L M i z.0; brings = inr refl }))
        choose H L M (D ∷ sets) E i h ch all = f.chosen H L M (D ∷ sets) E i ch D (Memᴰ.head refl) (λ F j. take_all _ (all F j))

    closure_there : (m : Member) → InClosure rising axs G m → In u m
    closure_there (a_context K) h = least_contexts rising axs G (λ H. In u (a_context H)) (λ c. In u (a_clause c)) f.goal u_rules h
    closure_there (a_clause c) h = least_clauses rising axs G (λ H. In u (a_context H)) (λ c. In u (a_clause c)) f.goal u_rules h

    pub sofar_end : Adds (InClosure rising axs G) s u
    sofar_end = record { grows = f.grows; all = closure_there; only = λ m a. inr (f.within m a) }

-- ---- the beginning

-- the goal is of the closure
pub goal_in : (axs : List Axiom) {G : Context} (m : Member) → m ≡ a_context G → InClosure rising axs G m
goal_in axs {G} m e = subst (λ z. InClosure rising axs G z) (sym e) goal_there
  where
    goal_there : InClosure rising axs G (a_context G)
    goal_there = goal

module _ (axs : List Axiom) {G : Context} {s u : Tables} (none : (m : Member) → In s m → ⊥) (first : Adds (λ m. m ≡ a_context G) s u) where
  start_in : (m : Member) → In u m → InClosure rising axs G m
  start_in m a = ⊎_elim (λ b. absurd (none m b)) (goal_in axs m) (first.only m a)

  pub start_slots_in : (m : Member) → FromSlots axs u.contexts 0 u.used.contexts m → InClosure rising axs G m
  start_slots_in m b = context_in_lem axs G (context_in u.contexts b.slot) (start_in (a_context (context_in u.contexts b.slot)) (in_context_slot first.grows.good b.slot b.high)) m b.gives

  sofar_start : {z : Tables} → Adds (FromSlots axs u.contexts 0 u.used.contexts) u z → z.contexts ≡ u.contexts → z.used.contexts ≡ u.used.contexts → Sofar axs G s z 0
  sofar_start {z} q same as_many = record {
    grows = grows_then first.grows q.grows;
    goal = in_on first.grows.good q.grows (a_context G) (first.all (a_context G) refl);
    within = λ m a. ⊎_elim (start_in m) (start_slots_in m) (q.only m a);
    unfolded = λ H a m b. q.all m (record {
      slot = a.among.slot;
      low = omega arith;
      high = omega (arith, a.among.below, as_many);
      gives = subst (λ K. Brought (OfContext axs K) m) (sym (ap context_of ((subst (λ xs. Holds xs a.among.slot a.by) same a.among.holds).is blank) ∙ a.means)) b;
    });
    denied = λ c t. absurd (let l = t.among.below in omega arith);
    succeeds = λ c t. absurd (let l = t.among.below in omega arith);
    chosen = λ H L M sets rest i ch D at all. absurd (let l = (all D at).among.below in omega arith);
    paired = λ t e a. absurd (let l = a.among.below in omega arith);
  }

-- the first context stands in the first slot
goal_slot : {xs us : List ContextRecord} (x : ContextRecord) {slot n used : ℕ} → n ≡ 0 → Entered xs n x us slot used → context_in us 0 ≡ context_of x
goal_slot {us = us} x z e =
    ⊎_elim (λ f. absurd (let n = f.no_more in let b = e.below in omega (arith, z))) (λ p. ap context_of ((subst (λ k. Holds us k x) (p.next ∙ z) e.there).is blank)) e.way

-- the goal stands in the first slot of s, where nothing was; and what each context gives by itself is in z
pub record Begun (axs : List Axiom) (x : ContextRecord) (s z : Tables) : Type 0 where
  pub start : Sofar axs (context_of x) s z 0
  pub at : context_in z.contexts 0 ≡ context_of x

pub begun : (axs : List Axiom) (x : ContextRecord) {s u z : Tables} {slot : ℕ} → (s.used.contexts ≡ 0) × (s.used.clauses ≡ 0) → Entered s.contexts s.used.contexts x u.contexts slot u.used.contexts
    → Adds (λ m. m ≡ a_context (context_of x)) s u → Adds (FromSlots axs u.contexts 0 u.used.contexts) u z → z.contexts ≡ u.contexts → z.used.contexts ≡ u.used.contexts → Begun axs x s z
begun axs x {s = s} empty e first q same as_many = record {
  start = sofar_start axs (none_in s empty.0 empty.1) first q same as_many;
  at = ap (λ xs. context_in xs 0) same ∙ goal_slot x empty.0 e;
}

-- ---- a table is full

-- all that was added so far
sofar_adds : {axs : List Axiom} {G : Context} {s u : Tables} {n : ℕ} → Sofar axs G s u n → Adds (λ m. In u m × InClosure rising axs G m) s u
sofar_adds f = record { grows = f.grows; all = λ m q. q.0; only = λ m a. inr (a, f.within m a) }

pub sofar_stuck : {C : Member → Type 0} {axs : List Axiom} {G : Context} {s u v : Tables} {n : ℕ} → Sofar axs G s u n → ((m : Member) → C m → InClosure rising axs G m) → Stuck C u v → Stuck (InClosure rising axs G) s v
sofar_stuck f into q = stuck_then (sofar_adds f) q (λ m a. a.1) into

pub sofar_goal : {axs : List Axiom} {G K : Context} {s u : Tables} {n : ℕ} → G ≡ K → Sofar axs G s u n → Sofar axs K s u n
sofar_goal {axs} {s = s} {u = u} {n = n} e f = subst (λ H. Sofar axs H s u n) e f

-- said from where it stands
pub sofar_at : {axs : List Axiom} {G : Context} {s u : Tables} {n : ℕ} → Sofar axs G s u n → Sofar axs G u u n
sofar_at f = record { grows = grows_refl f.grows.good; goal = f.goal; within = f.within; unfolded = f.unfolded; denied = f.denied; succeeds = f.succeeds; chosen = f.chosen; paired = f.paired }

pub closure_then : {axs : List Axiom} {G : Context} {s u v : Tables} {n : ℕ} → Sofar axs G s u n → Adds (InClosure rising axs G) u v → Adds (InClosure rising axs G) s v
closure_then f q = adds_then (sofar_adds f) q (λ m h. inr h) (λ m a. a.1) (λ m h. h)

-- ---- roles stay low

pub roles_low : {axs : List Axiom} {G : Context} {s u : Tables} {n : ℕ} → Sofar axs G s u n → AllByRecursion (WellFormed 64 16) axs → ContextBelow 64 G → (x : ClauseRecord) → Among u.clauses u.used.clauses x → RolesBelow 16 x.part
roles_low {axs} {G} {u = u} f formed low x a = go x.part (clauses_below 64 16 rising axs G (formed_declared 64 16 axs formed) low (clause_of u.contexts x) (f.within (a_clause (clause_of u.contexts x)) (record { by = x; among = a; means = refl }))).its_part
  where
    go : (p : Option RolePart) → PartBelow 64 16 (part_of u.contexts p) → RolesBelow 16 p
    go None b = tt
    go (Some r) b = b.0
