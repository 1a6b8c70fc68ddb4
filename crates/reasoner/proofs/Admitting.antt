-- What an ask tells once its question is admitted.
use Rattle.std.proofs.Common.{◌≡◌, ℕ, ◌≤◌, List, [], ◌∷◌, subst, inr, arith}
use Rattle.std.specs.List.{AllByRecursion}
use Rattle.terms.specs.Axioms.{Declared, WellFormed}
use Rattle.terms.specs.declared.axioms.Axiom.TheVariants.{Inclusion, Exists, ExistsLower, Forall, RoleInclusion}
use Rattle.terms.specs.Refusals.{Told, done, refused, end, check, Passes, Answers}
use Rattle.terms.specs.declared.class_set.ClassSet.{ClassSet}
use Rattle.terms.specs.declared.axioms.Axiom.{Axiom}
use Rattle.sources.specs.Meanings.{Meaning}
use Rattle.tables.specs.declared.records.ContextRecord.{ContextRecord}
use Rattle.tables.specs.declared.records.ClauseRecord.{ClauseRecord}
use Rattle.reasoner.specs.Asks.{in_ask, goal_of, FitsInto, admit_checks, ask_checks, NoTable, Right, TablesAfter}
use Rattle.reasoner.specs.declared.answer.Answer.{Answer}

-- ---- higher limits

declared_up : {c r d s : ℕ} → c ≤ d → r ≤ s → (x : Axiom) → Declared c r x → Declared d s x
declared_up l k (Inclusion L M) p = (λ a h. omega (arith, p.0 a h), λ a h. omega (arith, p.1 a h))
declared_up l k (Exists a p b) q = (omega (arith, q.0), omega (arith, q.1), omega (arith, q.2))
declared_up l k (ExistsLower p a b) q = (omega (arith, q.0), omega (arith, q.1), omega (arith, q.2))
declared_up l k (Forall a p b) q = (omega (arith, q.0), omega (arith, q.1), omega (arith, q.2))
declared_up l k (RoleInclusion p q) h = (omega (arith, h.0), omega (arith, h.1))

pub formed_up : {c r d s : ℕ} → c ≤ d → r ≤ s → (axs : List Axiom) → AllByRecursion (WellFormed c r) axs → AllByRecursion (WellFormed d s) axs
formed_up l k [] p = tt
formed_up l k (x ∷ axs) p = ((declared_up l k x p.0.0, p.0.1), formed_up l k axs p.1)

-- ---- the checks

module _ (m : Meaning) (P N : ClassSet) (k l : ℕ) (B : Type 0) where
  -- what passes goes on to the closure
  pub then_answers : (room : B) (Q : Answer → Type 0) (t : Told Answer) → Passes (admit_checks m.classes P N k l NoTable) → Answers (check 23 (FitsInto m.axioms (goal_of P N) k l) end) 0 in_ask Q t
      → Answers (ask_checks m P N k l B) 0 in_ask Q t
  then_answers room Q (done v) p a = ((p.0, ((p.1.0.0, p.1.0.1, room), (a.0.0, tt))), a.1)
  then_answers room Q (refused n q y) p a = (inr (p.0, inr ((p.1.0.0, p.1.0.1, room), a.0)), a.1, a.2)

-- what is told of the axioms loaded is told of the source's
module _ (P N : ClassSet) {axs bxs : List Axiom} (same : axs ≡ bxs) where
  pub answers_of : (Q : Answer → Type 0) (k l : ℕ) (t : Told Answer) → Answers (check 23 (FitsInto axs (goal_of P N) k l) end) 0 in_ask (λ a. Right axs P N a × Q a) t
      → Answers (check 23 (FitsInto bxs (goal_of P N) k l) end) 0 in_ask (λ a. Right bxs P N a × Q a) t
  answers_of Q k l t h = subst (λ zs. Answers (check 23 (FitsInto zs (goal_of P N) k l) end) 0 in_ask (λ a. Right zs P N a × Q a) t) same h

  pub tables_of : (xs us : List ContextRecord) (ys vs : List ClauseRecord) (t : Told Answer) → TablesAfter axs (goal_of P N) xs ys us vs t → TablesAfter bxs (goal_of P N) xs ys us vs t
  tables_of xs us ys vs t h = subst (λ zs. TablesAfter zs (goal_of P N) xs ys us vs t) same h
