-- The test of a row is right, and every row passes it.
use Rattle.std.proofs.Common.{◌≡◌, ℕ, zero, Bool, true, ◌&&◌, eqb, List, [], length, refl, arith}
use mathlib.Core.List.Memᴰ.{head as at_head}
use mathlib.Core.List.Memᴰ.{not-nil}
use Rattle.std.proofs.lemmas.Bool.{eqb-true, and_parts, not-true, both_ways}
use Rattle.terms.specs.declared.axioms.Axiom.{Axiom}
use Rattle.closure.specs.Closures.{Context, plain, Clause, clause, rising, InContexts, InClauses, Refuted, Verdict, none, some, Judges}
use Rattle.closure.specs.Counts.{Distinct}
use Rattle.closure.specs.Verdicts.{Tabled}
use Rattle.closure.specs.Examples.{Row, Gives, row, both_shared, kept_payroll, every_row, RowsRight, FiveSlotsShort}
use Rattle.closure.proofs.Conclusions.{contexts_good, grow_good, grow_distinct, list_closed, list_goal}
use Rattle.closure.proofs.Leastness.{keeps_rules}
use Rattle.closure.proofs.Counting.{count_right}
use Rattle.closure.proofs.Tables.{closed_tabled}
use Rattle.closure.proofs.Computed.{one, flat, every, every_of, is_in, all_in, is_in_of, in_is_in, all_in_of, add_distinct}
use Rattle.closure.proofs.Equality.{same_context, same_clause, context_eq, context_rfl, clause_eq, clause_rfl}
use Rattle.closure.proofs.Rounds.{targets, contexts, conclusions, grow, agrees, check}

contexts_distinct : (G : Context) (xs : List Clause) → Distinct (contexts G xs)
unfolding contexts
contexts_distinct G xs = add_distinct same_context context_eq context_rfl (flat targets xs) (one G) ((λ m. not-nil m), tt)

answered : (v : Verdict) (axs : List Axiom) (G : Context) (b : Bool) → (b ≡ true → Refuted rising axs G) → (Refuted rising axs G → b ≡ true) → agrees v b ≡ true → Judges v rising axs G
answered none axs G b f g e = f e
answered some axs G b f g e = λ d. both_ways b (not-true b e) (g d)

module _ (n : ℕ) (r : Row) (right : check n r ≡ true) where
  -- the clauses of the row
  abbrev grown : List Clause
  grown = grow n r.axioms r.goal []

  abbrev empty : Bool
  empty = is_in same_clause (clause r.goal zero plain) grown

  parts : (all_in same_clause (conclusions r.axioms r.goal grown) grown ≡ true) × (agrees r.verdict empty ≡ true) × (length (contexts r.goal grown) ≡ r.contexts) × (length grown ≡ r.clauses)
  unfolding check
  parts =
      let verdict : Bool = agrees r.verdict empty in
      let counts : Bool = eqb (length (contexts r.goal grown)) r.contexts && eqb (length grown) r.clauses in
      let a = and_parts (all_in same_clause (conclusions r.axioms r.goal grown) grown) (verdict && counts) right in
      let b = and_parts verdict counts a.1 in
      let c = and_parts (eqb (length (contexts r.goal grown)) r.contexts) (eqb (length grown) r.clauses) b.1 in
      (a.0, b.0, eqb-true (length (contexts r.goal grown)) r.contexts c.0, eqb-true (length grown) r.clauses c.1)

  pub tabled : Tabled rising r.axioms r.goal (contexts r.goal grown) grown
  tabled =
      let K : Context → Type 0 = InContexts rising r.axioms r.goal in
      let C : Clause → Type 0 = InClauses rising r.axioms r.goal in
      let kept = keeps_rules rising r.axioms r.goal in
      let known = grow_good r.axioms r.goal K C kept.0 kept.1 n [] (λ x m. absurd (not-nil m)) in
      let closed = all_in_of same_clause clause_eq clause_rfl (conclusions r.axioms r.goal grown) grown parts.0 in
      closed_tabled rising r.axioms r.goal (contexts r.goal grown) grown
      (list_goal r.axioms r.goal grown closed) (list_closed r.axioms r.goal grown closed) (contexts_good r.axioms r.goal K C kept.0 kept.1 grown known) known

  pub gives : Gives r
  gives =
      let goal-empty : Clause = clause r.goal zero plain in
      record {
        answer = answered r.verdict r.axioms r.goal empty
            (λ h. (tabled.1 goal-empty).1 (is_in_of same_clause clause_eq clause_rfl goal-empty grown h))
            (λ h. in_is_in same_clause clause_eq clause_rfl goal-empty ((tabled.1 goal-empty).0 h)) parts.1;
        all_contexts = (contexts r.goal grown, tabled.0, contexts_distinct r.goal grown, parts.2);
        all_clauses = (grown, tabled.1, grow_distinct r.axioms r.goal n [] tt, parts.3);
      }

-- it stops by itself: 64 is no more than a bound on the rounds
all_check : every (check 64) every_row ≡ true
unfolding check
all_check = refl

pub rows_right : RowsRight
rows_right r m = gives 64 r (every_of (check 64) m all_check)

pub five_slots_short : FiveSlotsShort
five_slots_short =
    let r = rows_right (row both_shared kept_payroll none 1 6) (at_head refl) in
    ((count_right (InClauses rising both_shared kept_payroll)).above 6 5 r.all_clauses).1 (omega arith)
