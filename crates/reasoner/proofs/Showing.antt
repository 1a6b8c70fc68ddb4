-- The world that filled tables show.
use Rattle.std.proofs.Common.{◌≡◌, ℕ, zero, ◌≤◌, List, length, Some, None, Option, sym, refl, ◌∙◌, subst, arith}
use Rattle.std.specs.List.{AllByRecursion}
use Rattle.terms.specs.Sets.{Below}
use Rattle.terms.specs.Axioms.{WellFormed}
use Rattle.terms.specs.declared.class_set.ClassSet.{ClassSet}
use Rattle.terms.specs.declared.axioms.Axiom.{Axiom}
use Rattle.sources.specs.Meanings.{Meaning}
use Rattle.worlds.specs.Worlds.{Obeys}
use Rattle.worlds.specs.Models.{model_world}
use Rattle.closure.specs.Closures.{plain, clause, rising, InClauses, Refuted}
use Rattle.closure.specs.Soundness.{Fits}
use Rattle.closure.proofs.Tables.{tabled_closed}
use Rattle.closure.proofs.Obedience.{canonical_obeys}
use Rattle.closure.proofs.Bounds.{PartBelow, clauses_below, formed_declared}
use Rattle.terms.specs.Refusals.{done}
use Rattle.tables.specs.declared.records.ContextRecord.{ContextRecord}
use Rattle.tables.specs.declared.records.RolePart.{RolePart}
use Rattle.tables.specs.declared.records.ClauseRecord.{ClauseRecord}
use Rattle.tables.specs.declared.members.Counts.{Counts}
use Rattle.tables.specs.Tables.{Tables, tables, context_in, part_of, clause_of, contexts_of, clauses_of}
use Rattle.tables.proofs.Counting.{clauses_listed}
use Rattle.roles.specs.Reaching.{Shows}
use Rattle.roles.proofs.Rows.{formed_included}
use Rattle.models.specs.Writing.{RoleBelow, Ready, Written}
use Rattle.reasoner.specs.Asks.{goal_of, Right, unused, Filled, TablesAfter, Shown}
use Rattle.reasoner.specs.declared.answer.Answer.{Answer}
use Rattle.reasoner.specs.declared.answer.Answer.TheVariants.{Something}

module _ {axs : List Axiom} {P N : ClassSet} {s u : Tables} (f : Filled axs (goal_of P N) s u) where
  -- the tables are such that a model can be written
  pub ready : {roles : ℕ} → (Refuted rising axs (goal_of P N) → ⊥) → AllByRecursion (WellFormed 64 roles) axs → roles ≤ 16 → Below 64 P.bits → Below 64 N.bits → length s.contexts ≤ 256 → Ready u roles
  ready {roles} live formed few held denied short = record {
    good = f.grows.good;
    few = omega (arith, f.grows.contexts.size);
    goal = f.some_context;
    live = λ m. live (subst (λ K. InClauses rising axs (goal_of P N) (clause K zero plain)) f.goal_first ((f.clauses (clause (context_in u.contexts 0) zero plain)).1 m));
    few_roles = few;
    roles_low = λ x a. part_low x.part (clauses_below 64 roles rising axs (goal_of P N) (formed_declared 64 roles axs formed) (record { held = held; denied = denied }) (clause_of u.contexts x)
        ((f.clauses (clause_of u.contexts x)).1 ((clauses_listed f.grows.good (clause_of u.contexts x)).0 (record { by = x; among = a; means = refl })))).its_part;
  }
    where
      part_low : (p : Option RolePart) → PartBelow 64 roles (part_of u.contexts p) → RoleBelow roles p
      part_low None b = tt
      part_low (Some r) b = b.0

  -- and the model is one of the axioms
  module _ (c : ℕ) {roles n : ℕ} {reach before after : List ℕ} (shows : Shows axs reach) (formed : AllByRecursion (WellFormed c roles) axs) (w : Written u reach roles n before after) where
    model : Obeys (model_world after roles n) axs × Fits (model_world after roles n) 0 (goal_of P N)
    model =
        let k = w.canonical axs shows (formed_included c roles roles (omega arith) axs formed) in
        let co = canonical_obeys rising axs (contexts_of u) (clauses_of u) (model_world after roles n) k.0 (tabled_closed rising axs (goal_of P N) (contexts_of u) (clauses_of u) (f.contexts, f.clauses)) k.1 in
        (co.0, subst (λ H. Fits (model_world after roles n) 0 H) (k.2 ∙ f.goal_first) (co.1 0 w.some_element))

    pub shown : Below c P.bits → Below c N.bits → Shown c roles axs P N u.used n before after
    shown held denied = record {
      some_element = w.some_element;
      few = w.few;
      obeys = model.0;
      held = model.1.0;
      denied = model.1.1;
      no_more_classes = λ e a l h. let q = w.no_more_classes e a l h in (clauses_below c roles rising axs (goal_of P N) (formed_declared c roles axs formed) (record { held = held; denied = denied }) (clause q.0 q.1 plain) ((f.clauses (clause q.0 q.1 plain)).1 q.2)).all_classes a q.3;
      no_more_links = w.no_more_links;
      size = w.size;
      rest = w.rest;
    }

-- said of a meaning with these roles and axioms
pub shown_of : (m : Meaning) {roles n : ℕ} {axs : List Axiom} {P N : ClassSet} {counts : Counts} {before after : List ℕ} → m.roles ≡ roles → m.axioms ≡ axs → Shown m.classes roles axs P N counts n before after
    → Shown m.classes m.roles m.axioms P N counts n before after
shown_of m {roles} {n} {axs} {P} {N} {counts} {before} {after} r a h =
    subst (λ k. Shown m.classes k m.axioms P N counts n before after) (sym r) (subst (λ xs. Shown m.classes roles xs P N counts n before after) (sym a) h)

pub formed_of : (m : Meaning) {roles : ℕ} {axs : List Axiom} → m.roles ≡ roles → m.axioms ≡ axs → AllByRecursion (WellFormed m.classes m.roles) m.axioms → AllByRecursion (WellFormed m.classes roles) axs
formed_of m {roles} {axs} r a h = subst (λ xs. AllByRecursion (WellFormed m.classes roles) xs) a (subst (λ k. AllByRecursion (WellFormed m.classes k) m.axioms) r h)

-- an answer by its case
module _ {axs : List Axiom} {P N : ClassSet} {a : Answer} {n : Counts} {e : Option ℕ} (is : a ≡ Something n e) where
  pub some_right : Right axs P N a → (k : Option ℕ) → Right axs P N (Something n k)
  some_right h k = let r = subst (λ x. Right axs P N x) is h in record { verdict = r.verdict; worlds = r.worlds; contexts = r.contexts; clauses = r.clauses }

  pub some_filled : (xs us : List ContextRecord) (ys vs : List ClauseRecord) → TablesAfter axs (goal_of P N) xs ys us vs (done a) → Filled axs (goal_of P N) (tables xs ys unused) (tables us vs n)
  some_filled xs us ys vs h = subst (λ x. TablesAfter axs (goal_of P N) xs ys us vs (done x)) is h
