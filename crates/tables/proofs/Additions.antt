-- The laws of adding: nothing, one record, one thing after another, and what each slot of a list gives.
use Rattle.std.proofs.Common.{◌≡◌, ℕ, ◌+◌, ◌<◌, ◌≤◌, ◌⊎◌, List, get_or, Ok, Err, Result, sym, refl, ap, ◌∙◌, subst, inl, inr, ⊎_elim, arith}
use Rattle.std.specs.Result.{IsErrAnd}
use Rattle.tables.specs.declared.records.ContextRecord.{ContextRecord}
use Rattle.tables.specs.declared.records.ClauseRecord.{ClauseRecord}
use Rattle.tables.specs.declared.entering.Full.{Full}
use Rattle.tables.specs.declared.members.Counts.{Counts}
use Rattle.tables.specs.Entering.{Holds, Among, Entered, Refused}
use Rattle.tables.specs.Tables.{Tables, tables, Member, a_context, a_clause, blank, context_of, context_in, clause_of, Cites, In, Good}
use Rattle.tables.specs.Adding.{Extends, Grows, Adds, Stuck, Ends, Enters, Below}
use Rattle.tables.proofs.Slots.{at_or_below, holds_one, holds_get_or, among_upto, among_kept, extends_refl, extends_then}
use Rattle.tables.proofs.Entries.{entered_fits, entered_extends, entered_there, entered_only, entered_apart}
use Rattle.tables.proofs.Meanings.{clause_of_kept, cites_upto, context_of_one, clause_of_one}

-- ---- tables that grow from nothing

pub none_in : (s : Tables) → s.used.contexts ≡ 0 → s.used.clauses ≡ 0 → (m : Member) → In s m → ⊥
none_in s c d (a_context K) a = let h = a.among.below in omega (arith, c)
none_in s c d (a_clause e) a = let h = a.among.below in omega (arith, d)

pub grows_refl : {s : Tables} → Good s → Grows s s
grows_refl {s} g = record { good = g; contexts = extends_refl s.contexts s.used.contexts; clauses = extends_refl s.clauses s.used.clauses }

pub grows_then : {s u v : Tables} → Grows s u → Grows u v → Grows s v
grows_then p q = record { good = q.good; contexts = extends_then p.contexts q.contexts; clauses = extends_then p.clauses q.clauses }

-- what good tables have, they have when they have grown
pub in_on : {s u : Tables} → Good s → Grows s u → (m : Member) → In s m → In u m
in_on g w (a_context K) a = record { by = a.by; among = among_upto w.contexts.more (among_kept w.contexts.kept (omega arith) a.among); means = a.means }
in_on g w (a_clause c) a = record {
  by = a.by;
  among = among_upto w.clauses.more (among_kept w.clauses.kept (omega arith) a.among);
  means = clause_of_kept w.contexts.kept a.by (g.cited a.by a.among) ∙ a.means;
}

-- what stands in a used slot is there
module _ {s : Tables} (g : Good s) (k : ℕ) where
  pub in_context_slot : k < s.used.contexts → In s (a_context (context_in s.contexts k))
  in_context_slot l = record { by = get_or s.contexts k blank; among = record { slot = k; below = l; holds = holds_get_or s.contexts k blank (omega (arith, g.contexts_fit)) }; means = refl }

-- ---- one record

module _ {xs us : List ContextRecord} {ys : List ClauseRecord} {n : Counts} {x : ContextRecord} (g : Good (tables xs ys n)) where
  pub adds_context : {slot used : ℕ} → Entered xs n.contexts x us slot used
      → Adds (λ m. m ≡ a_context (context_of x)) (tables xs ys n) (tables us ys (record { contexts = used; clauses = n.clauses }))
  adds_context {slot} {used} e = record {
    grows = record {
      good = record {
        contexts_fit = entered_fits g.contexts_fit e;
        clauses_fit = g.clauses_fit;
        cited = λ y a. cites_upto w.more y (g.cited y a);
        contexts_apart = entered_apart e g.contexts_apart;
        clauses_apart = g.clauses_apart;
      };
      contexts = w;
      clauses = extends_refl ys n.clauses;
    };
    all = λ m q. subst (λ (z : Member). In (tables us ys (record { contexts = used; clauses = n.clauses })) z) (sym q) (record { by = x; among = entered_there e; means = refl });
    only = only;
  }
    where
      w : Extends xs n.contexts us used
      w = entered_extends e

      only : (m : Member) → In (tables us ys (record { contexts = used; clauses = n.clauses })) m → In (tables xs ys n) m ⊎ (m ≡ a_context (context_of x))
      only (a_context K) a =
          ⊎_elim
          (λ b. inl (record { by = a.by; among = b; means = a.means }))
          (λ q. inr (ap a_context (sym a.means ∙ ap context_of q)))
          (entered_only e a.by a.among)
      only (a_clause c) a = inl (record { by = a.by; among = a.among; means = sym (clause_of_kept w.kept a.by (g.cited a.by a.among)) ∙ a.means })

  pub stuck_context : Refused xs n.contexts x us → Stuck (λ m. m ≡ a_context (context_of x)) (tables xs ys n) (tables us ys n)
  stuck_context r = subst (λ (z : List ContextRecord). Stuck (λ m. m ≡ a_context (context_of x)) (tables xs ys n) (tables z ys n)) (sym r.same) (record {
    grows = grows_refl g;
    only = λ m a. inl a;
    left_out = a_context (context_of x);
    wanted = refl;
    absent = λ a. r.absent (subst (λ (z : ContextRecord). Among xs n.contexts z) (context_of_one a.by x a.means) a.among);
    no_slot = r.full;
  })

module _ {xs : List ContextRecord} {ys vs : List ClauseRecord} {n : Counts} {x : ClauseRecord} (g : Good (tables xs ys n)) (c : Cites n.contexts x) where
  pub adds_clause : {slot used : ℕ} → Entered ys n.clauses x vs slot used
      → Adds (λ m. m ≡ a_clause (clause_of xs x)) (tables xs ys n) (tables xs vs (record { contexts = n.contexts; clauses = used }))
  adds_clause {slot} {used} e = record {
    grows = record {
      good = record {
        contexts_fit = g.contexts_fit;
        clauses_fit = entered_fits g.clauses_fit e;
        cited = λ y a. ⊎_elim (g.cited y) (λ q. subst (λ (z : ClauseRecord). Cites n.contexts z) (sym q) c) (entered_only e y a);
        contexts_apart = g.contexts_apart;
        clauses_apart = entered_apart e g.clauses_apart;
      };
      contexts = extends_refl xs n.contexts;
      clauses = entered_extends e;
    };
    all = λ m q. subst (λ (z : Member). In (tables xs vs (record { contexts = n.contexts; clauses = used })) z) (sym q) (record { by = x; among = entered_there e; means = refl });
    only = only;
  }
    where
      only : (m : Member) → In (tables xs vs (record { contexts = n.contexts; clauses = used })) m → In (tables xs ys n) m ⊎ (m ≡ a_clause (clause_of xs x))
      only (a_context K) a = inl a
      only (a_clause d) a =
          ⊎_elim
          (λ b. inl (record { by = a.by; among = b; means = a.means }))
          (λ q. inr (ap a_clause (sym a.means ∙ ap (clause_of xs) q)))
          (entered_only e a.by a.among)

  pub stuck_clause : Refused ys n.clauses x vs → Stuck (λ m. m ≡ a_clause (clause_of xs x)) (tables xs ys n) (tables xs vs n)
  stuck_clause r = subst (λ (z : List ClauseRecord). Stuck (λ m. m ≡ a_clause (clause_of xs x)) (tables xs ys n) (tables xs z n)) (sym r.same) (record {
    grows = grows_refl g;
    only = λ m a. inl a;
    left_out = a_clause (clause_of xs x);
    wanted = refl;
    absent = λ a. r.absent (subst (λ (z : ClauseRecord). Among ys n.clauses z) (clause_of_one g.contexts_fit g.contexts_apart a.by x (g.cited a.by a.among) c a.means) a.among);
    no_slot = r.full;
  })

-- ---- the algebra

module _ {C : Member → Type 0} {s : Tables} where
  -- all of it is there already
  pub adds_there : Good s → ((m : Member) → C m → In s m) → Adds C s s
  adds_there g there = record { grows = grows_refl g; all = there; only = λ m a. inl a }

  pub adds_none : Good s → ((m : Member) → C m → ⊥) → Adds C s s
  adds_none g none = adds_there g (λ m c. absurd (none m c))

module _ {C E : Member → Type 0} {s u : Tables} where
  pub adds_as : Adds C s u → ((m : Member) → E m → C m) → ((m : Member) → C m → E m) → Adds E s u
  adds_as p to from = record { grows = p.grows; all = λ m e. p.all m (to m e); only = λ m a. ⊎_elim inl (λ c. inr (from m c)) (p.only m a) }

  pub stuck_as : Stuck C s u → ((m : Member) → C m → E m) → Stuck E s u
  stuck_as p from = record {
    grows = p.grows;
    only = λ m a. ⊎_elim inl (λ c. inr (from m c)) (p.only m a);
    left_out = p.left_out;
    wanted = from p.left_out p.wanted;
    absent = p.absent;
    no_slot = p.no_slot;
  }

module _ {C D E : Member → Type 0} {s u v : Tables} where
  pub adds_then : Adds C s u → Adds D u v → ((m : Member) → E m → C m ⊎ D m) → ((m : Member) → C m → E m) → ((m : Member) → D m → E m) → Adds E s v
  adds_then p q split left right = record {
    grows = grows_then p.grows q.grows;
    all = λ m e. ⊎_elim (λ c. in_on p.grows.good q.grows m (p.all m c)) (q.all m) (split m e);
    only = λ m a. ⊎_elim (λ b. ⊎_elim inl (λ c. inr (left m c)) (p.only m b)) (λ d. inr (right m d)) (q.only m a);
  }

  pub stuck_then : Adds C s u → Stuck D u v → ((m : Member) → C m → E m) → ((m : Member) → D m → E m) → Stuck E s v
  stuck_then p q left right = record {
    grows = grows_then p.grows q.grows;
    only = λ m a. ⊎_elim (λ b. ⊎_elim inl (λ c. inr (left m c)) (p.only m b)) (λ d. inr (right m d)) (q.only m a);
    left_out = q.left_out;
    wanted = right q.left_out q.wanted;
    absent = q.absent;
    no_slot = q.no_slot;
  }

-- ---- the same of a call, by its result

module _ {C : Member → Type 0} {X : Type 0} (s u : Tables) where
  pub ends_as : {E : Member → Type 0} (r : Result X Full) → Ends C s u r → ((m : Member) → E m → C m) → ((m : Member) → C m → E m) → Ends E s u r
  ends_as (Ok n) p to from = adds_as p to from
  ends_as (Err f) p to from = stuck_as p from

  pub ends_then : {D E : Member → Type 0} {v : Tables} (r : Result X Full) → Adds C s v → Ends D v u r
      → ((m : Member) → E m → C m ⊎ D m) → ((m : Member) → C m → E m) → ((m : Member) → D m → E m) → Ends E s u r
  ends_then (Ok n) p q split left right = adds_then p q split left right
  ends_then (Err f) p q split left right = stuck_then p q left right

  -- the error of a step is handed on
  pub ends_stuck : (P : Full → Type 0) (r : Result X Full) → IsErrAnd r P → Stuck C s u → Ends C s u r
  ends_stuck P (Ok n) e p = absurd e
  ends_stuck P (Err f) e p = p

-- the same of a call that answers with its counts
pub enters_then : {C D E : Member → Type 0} {s v : Tables} (u : Counts → Tables) (r : Result Counts Full) → Adds C s v → Enters D v u r
    → ((m : Member) → E m → C m ⊎ D m) → ((m : Member) → C m → E m) → ((m : Member) → D m → E m) → Enters E s u r
enters_then u (Ok n) p q split left right = adds_then p q split left right
enters_then u (Err f) p q split left right = (q.0, stuck_then p q.1 left right)

-- ---- a loop over the slots of a list: what those below k give is there, then what slot k gives is added

module _ {Z : Type 0} {w : List Z} {Q : Z → Member → Type 0} where
  pub below_upto : {i k : ℕ} {m : Member} → k ≤ i → Below w k Q m → Below w i Q m
  below_upto l b = record { by = b.by; among = among_upto l b.among; gives = b.gives }

  pub below_at : {i k : ℕ} {z : Z} {m : Member} → k < i → Holds w k z → Q z m → Below w i Q m
  below_at {k = k} {z = z} l h q = record { by = z; among = record { slot = k; below = l; holds = h }; gives = q }

  below_cases : {k : ℕ} {z : Z} {m : Member} → Holds w k z → Below w (k + 1) Q m → Below w k Q m ⊎ Q z m
  below_cases {k} {z} {m} h b =
      ⊎_elim
      (λ i. inr (subst (λ (y : Z). Q y m) (holds_one (subst (λ (j : ℕ). Holds w j b.by) i b.among.holds) h) b.gives))
      (λ l. inl (record { by = b.by; among = record { slot = b.among.slot; below = l; holds = b.among.holds }; gives = b.gives }))
      (at_or_below b.among.slot k b.among.below)

  pub below_none : {s : Tables} → Good s → Adds (Below w 0 Q) s s
  below_none g = adds_none g (λ m b. let h = b.among.below in omega arith)

  pub below_more : {s u v : Tables} {k : ℕ} {z : Z} → Holds w k z → Adds (Below w k Q) s u → Adds (Q z) u v → Adds (Below w (k + 1) Q) s v
  below_more h p q = adds_then p q (λ m b. below_cases h b) (λ m b. below_upto (omega arith) b) (λ m e. below_at (omega arith) h e)

  pub below_skip : {s u : Tables} {k : ℕ} {z : Z} → Holds w k z → Adds (Below w k Q) s u → ((m : Member) → Q z m → ⊥) → Adds (Below w (k + 1) Q) s u
  below_skip h p none = below_more h p (adds_none p.grows.good none)

  pub below_stuck : {s u v : Tables} {i k : ℕ} {z : Z} → k < i → Holds w k z → Adds (Below w k Q) s u → Stuck (Q z) u v → Stuck (Below w i Q) s v
  below_stuck l h p q = stuck_then p q (λ m b. below_upto (omega arith) b) (λ m e. below_at l h e)

  -- the loop is over
  pub below_end : {s u : Tables} {i k : ℕ} → k ≤ i → i ≤ k → Adds (Below w k Q) s u → Adds (Below w i Q) s u
  below_end l g p = adds_as p (λ m b. below_upto g b) (λ m b. below_upto l b)
