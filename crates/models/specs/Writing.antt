-- What writing a model promises.
use Rattle.std.specs.Prelude.{◌≡◌, ℕ, ◌+◌, ◌*◌, ◌/◌, ◌%◌, ◌<◌, ◌≤◌, List, length, Some, None, Option, slice_index}
use mathlib.Core.List.{Memᴰ}
use Rattle.std.specs.List.{AllByRecursion}
use Rattle.terms.specs.Sets.{Has}
use Rattle.terms.specs.declared.axioms.Axiom.{Axiom}
use Rattle.worlds.specs.Models.{row_width, model_world}
use Rattle.closure.specs.Closures.{Context, plain, clause, rising}
use Rattle.closure.specs.Canonical.{Live, Canonical}
use Rattle.tables.specs.declared.records.RolePart.{RolePart}
use Rattle.tables.specs.declared.records.ClauseRecord.{ClauseRecord}
use Rattle.tables.specs.Entering.{Among}
use Rattle.tables.specs.Tables.{Tables, context_in, contexts_of, clauses_of, Good}
use Rattle.roles.specs.Reaching.{Included, Shows}

-- where there is a role part, its role is below r
abbrev pub RoleBelow : ℕ → Option RolePart → Type 0
RoleBelow r None = Unit {0}
RoleBelow r (Some part) = part.role < r

-- tables of which a model can be written: slot 0 has the goal, which is live
pub record Ready (t : Tables) (roles : ℕ) : Type 0 where
  pub good : Good t
  pub few : length t.contexts ≤ 256
  pub goal : 0 < t.used.contexts
  pub live : Live (clauses_of t) (context_in t.contexts 0)
  pub few_roles : roles ≤ 16
  pub roles_low : (x : ClauseRecord) → Among t.clauses t.used.clauses x → RoleBelow roles x.part

-- the model table was `before` and is `after`, with the canonical world of the tables in its first n rows
pub record Written (t : Tables) (reach : List ℕ) (roles n : ℕ) (before after : List ℕ) : Type 0 where
  -- there is an element, and there are no more than contexts
  pub some_element : 0 < n
  pub few : n ≤ t.used.contexts
  -- what stands after the rows is as it was
  pub size : length after ≡ length before
  pub rest : (k : ℕ) → n * row_width roles ≤ k → slice_index after k ≡ slice_index before k
  -- whatever axioms the reach was worked out from: the rows show the canonical world, with the goal's element first
  pub canonical : (axs : List Axiom) → Shows axs reach → AllByRecursion (Included roles) axs
      → (at : ℕ → Context) × Canonical rising axs (contexts_of t) (clauses_of t) (model_world after roles n) at × (at 0 ≡ context_in t.contexts 0)
  -- no bit stands for a link to an element from n up
  pub no_more_links : (e k f : ℕ) → e < n → k < roles → n ≤ f → f < 256 → Has (slice_index after (e * row_width roles + (1 + 4 * k + f / 64))) (f % 64) → ⊥
  -- nor for a class that no clause has
  pub no_more_classes : (e a : ℕ) → e < n → Has (slice_index after (e * row_width roles)) a → (H : Context) × (D : ℕ) × Memᴰ (clause H D plain) (clauses_of t) × Has D a
