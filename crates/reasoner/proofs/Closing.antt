-- Tables that were filled with the closure, or got full: what an ask may tell of them.
use Rattle.std.proofs.Common.{◌≡◌, ℕ, zero, ◌<◌, ◌≤◌, ◌⊎◌, ◌↔◌, List, ◌++◌, length, get_or, take, Ok, Result, Option, IfOk, sym, refl, ap, ◌∙◌, subst, ⊎_elim, arith}
use Rattle.std.proofs.lemmas.List.{ext_get_or, get_or-take, length-take-le, take_at}
use Rattle.terms.specs.Axioms.{blank}
use Rattle.terms.specs.declared.class_set.ClassSet.{ClassSet}
use Rattle.terms.specs.declared.axioms.Axiom.{Axiom}
use Rattle.closure.specs.Closures.{Context, plain, Clause, clause, rising, InContexts, InClauses, Refuted}
use Rattle.closure.specs.Counts.{Lists}
use Rattle.closure.specs.Verdicts.{Tabled}
use Rattle.closure.proofs.Judgement.{verdict_right}
use Rattle.tables.specs.Entering.{Among}
use Rattle.tables.specs.Tables.{Tables, tables, Member, a_context, a_clause, context_in, InClosure, In, contexts_of, clauses_of}
use Rattle.tables.specs.Adding.{Adds, Stuck, Enters}
use Rattle.tables.specs.declared.records.ContextRecord.{ContextRecord}
use Rattle.tables.specs.declared.records.ClauseRecord.{ClauseRecord}
use Rattle.tables.specs.declared.members.Counts.{Counts}
use Rattle.tables.specs.declared.entering.Full.{Full}
use Rattle.tables.proofs.Meanings.{context_in_one}
use Rattle.tables.proofs.Additions.{none_in}
use Rattle.tables.proofs.Counting.{contexts_listed, clauses_listed, contexts_distinct, clauses_distinct, counts_right, full_right, fits_right}
use Rattle.tables.specs.Records.{lone}
use Rattle.saturation.proofs.Tops.{plain_none}
use Rattle.reasoner.specs.Asks.{goal_of, FitsInto, Right, unused, Filled, Begun}
use Rattle.reasoner.specs.declared.answer.Answer.TheVariants.{Nothing, Something}

-- slots, the leading ones of which hold a list
pub loaded : (xs later ys : List Axiom) (n : ℕ) → n ≡ length ys → length xs ≡ n → ((j : ℕ) → j < n → get_or xs j blank ≡ get_or ys j blank) → take n (xs ++ later) ≡ ys
loaded xs later ys n e size h = take_at xs later n size ∙ ext_get_or blank xs ys (size ∙ e) (λ k b. h k (omega (arith, size)))

-- one of the leading slots holds a record exactly where the list of them has it
pub among_taken : {X : Type 0} (xs : List X) (n : ℕ) (x : X) → n ≤ length xs → Among (take n xs) (length (take n xs)) x ↔ Among xs n x
among_taken xs n x l =
    let size = length-take-le n xs l in (
      λ a. let low : a.slot < n = omega (arith, a.below, size) in record { slot = a.slot; below = low; holds = record { is = λ d. sym (get_or-take n xs a.slot d low) ∙ a.holds.is d } },
      λ a. record { slot = a.slot; below = omega (arith, a.below, size); holds = record { is = λ d. get_or-take n xs a.slot d a.below ∙ a.holds.is d } },
    )

-- nothing was there at first
start : (axs : List Axiom) (G : Context) (xs : List ContextRecord) (ys : List ClauseRecord) (m : Member) → In (tables xs ys unused) m → InClosure rising axs G m
start axs G xs ys m a = absurd (none_in (tables xs ys unused) refl refl m a)

members : {C : Member → Type 0} (xs : List ContextRecord) (ys : List ClauseRecord) {u : Tables} → ((m : Member) → In u m → In (tables xs ys unused) m ⊎ C m) → (m : Member) → In u m → C m
members xs ys only m a = ⊎_elim (λ b. absurd (none_in (tables xs ys unused) refl refl m b)) (λ c. c) (only m a)

-- what saturating tells of the first slot, where it tells counts
pub starts : (G : Context) (us : List ContextRecord) {n : Counts} {r : Result Counts Full} → r ≡ Ok n → IfOk r (λ (k : Counts). (0 < k.contexts) × (context_in us 0 ≡ G)) → (0 < n.contexts) × (context_in us 0 ≡ G)
starts G us is h = subst (λ (r : Result Counts Full). IfOk r (λ (k : Counts). (0 < k.contexts) × (context_in us 0 ≡ G))) is h

module _ {axs : List Axiom} {G : Context} {xs us : List ContextRecord} {ys vs : List ClauseRecord} {n : Counts} where
  -- ---- full

  module _ (p : Stuck (InClosure rising axs G) (tables xs ys unused) (tables us vs n)) where
    pub overflows : FitsInto axs G (length xs) (length ys) → ⊥
    overflows fits = fits (full_right rising axs G (tables xs ys unused) (tables us vs n) (start axs G xs ys) p)

    pub begun : Begun axs G (tables xs ys unused) (tables us vs n)
    begun = record {
      grows = p.grows;
      contexts = λ K i. members xs ys p.only (a_context K) ((contexts_listed p.grows.good K).1 i);
      clauses = λ c i. members xs ys p.only (a_clause c) ((clauses_listed p.grows.good c).1 i);
      contexts_once = contexts_distinct p.grows.good;
      clauses_once = clauses_distinct p.grows.good;
    }

  -- what it tells of the tables then
  pub saturated : {r : Result Counts Full} → r ≡ Ok n → Enters (InClosure rising axs G) (tables xs ys unused) (tables us vs) r → Adds (InClosure rising axs G) (tables xs ys unused) (tables us vs n)
  saturated is h = subst (λ (r : Result Counts Full). Enters (InClosure rising axs G) (tables xs ys unused) (tables us vs) r) is h

  -- ---- filled

  module _ (p : Adds (InClosure rising axs G) (tables xs ys unused) (tables us vs n)) where
    abbrev u : Tables
    u = tables us vs n

    all_contexts : Lists (InContexts rising axs G) (contexts_of u)
    all_contexts K = (λ h. (contexts_listed p.grows.good K).0 (p.all (a_context K) h), λ i. members xs ys p.only (a_context K) ((contexts_listed p.grows.good K).1 i))

    all_clauses : Lists (InClauses rising axs G) (clauses_of u)
    all_clauses c = (λ h. (clauses_listed p.grows.good c).0 (p.all (a_clause c) h), λ i. members xs ys p.only (a_clause c) ((clauses_listed p.grows.good c).1 i))

    pub tabled : Tabled rising axs G (contexts_of u) (clauses_of u)
    tabled = (all_contexts, all_clauses)

    pub fits : FitsInto axs G (length xs) (length ys)
    fits = fits_right rising axs G (tables xs ys unused) u (start axs G xs ys) p

    module _ (some_context : 0 < n.contexts) (first : context_in us 0 ≡ G) where
      pub filled : Filled axs G (tables xs ys unused) u
      filled = record {
        grows = p.grows;
        contexts = all_contexts;
        clauses = all_clauses;
        contexts_once = contexts_distinct p.grows.good;
        clauses_once = clauses_distinct p.grows.good;
        some_context = some_context;
        goal_first = first;
      }

      -- the goal is refuted exactly where its empty clause stands in a used slot
      pub empty_refuted : Among vs n.clauses (lone 0 0) → Refuted rising axs G
      empty_refuted a = subst (λ K. InClauses rising axs G (clause K zero plain)) first (members xs ys p.only (a_clause (clause (context_in us 0) zero plain)) (record { by = lone 0 0; among = a; means = refl }))

      pub refuted_empty : Refuted rising axs G → Among vs n.clauses (lone 0 0)
      refuted_empty h = subst (λ y. Among vs n.clauses y) same a.among
        where
          a : In u (a_clause (clause G zero plain))
          a = p.all (a_clause (clause G zero plain)) h

          slot : a.by.context ≡ 0
          slot = context_in_one p.grows.good.contexts_fit p.grows.good.contexts_apart a.by.context 0 (p.grows.good.cited a.by a.among).0 some_context (ap (λ (c : Clause). c.of) a.means ∙ sym first)

          same : a.by ≡ lone 0 0
          same =
              let d : a.by.classes.bits ≡ zero = ap (λ (c : Clause). c.classes) a.means in
              let q = plain_none us a.by.part (ap (λ (c : Clause). c.part) a.means) in
              λ i. record { context = slot i; classes = record { bits = d i }; part = q i }

-- ---- the answer

module _ {axs : List Axiom} {P N : ClassSet} {xs us : List ContextRecord} {ys vs : List ClauseRecord} {n : Counts}
    (p : Adds (InClosure rising axs (goal_of P N)) (tables xs ys unused) (tables us vs n)) where
  pub right_nothing : Refuted rising axs (goal_of P N) → Right axs P N (Nothing n)
  right_nothing h =
      let v = verdict_right rising (λ a b e. e) axs (goal_of P N) (_, _, tabled p) in
      let k = counts_right rising axs (goal_of P N) (tables xs ys unused) (tables us vs n) (start axs (goal_of P N) xs ys) p in
      record { verdict = h; worlds = v.0.0 h; contexts = k.0; clauses = k.1 }

  pub right_something : (Refuted rising axs (goal_of P N) → ⊥) → (e : Option ℕ) → Right axs P N (Something n e)
  right_something h e =
      let v = verdict_right rising (λ a b e. e) axs (goal_of P N) (_, _, tabled p) in
      let k = counts_right rising axs (goal_of P N) (tables xs ys unused) (tables us vs n) (start axs (goal_of P N) xs ys) p in
      record { verdict = h; worlds = v.1.0 h; contexts = k.0; clauses = k.1 }
