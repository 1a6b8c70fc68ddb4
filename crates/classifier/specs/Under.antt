-- Which classes are under which, and what a classification tells and leaves in the tables that it was lent.
use Rattle.std.specs.Prelude.{◌≡◌, ℕ, suc, ◌+◌, ◌*◌, ◌<◌, ◌≤◌, ◌⊎◌, ◌↔◌, List, length, slice_index}
use mathlib.Core.List.{Memᴰ}
use Rattle.terms.specs.Sets.{Has, only, Below}
use Rattle.terms.specs.Refusals.{Told, done, refused, Checks, end, check, Passes, FirstFailing}
use Rattle.terms.specs.declared.axioms.Axiom.{Axiom}
use Rattle.terms.specs.declared.refusals.Layer.{Layer}
use Rattle.terms.specs.declared.refusals.Layer.TheVariants.{Classify}
use Rattle.sources.specs.Meanings.{Meaning}
use Rattle.worlds.specs.Worlds.{Possible}
use Rattle.closure.specs.Closures.{Context, context, Clause, rising, InContexts, InClauses, Refuted}
use Rattle.closure.specs.Counts.{Distinct, Lists}
use Rattle.tables.specs.declared.records.ContextRecord.{ContextRecord}
use Rattle.tables.specs.declared.records.ClauseRecord.{ClauseRecord}
use Rattle.tables.specs.declared.members.Counts.{Counts}
use Rattle.tables.specs.Tables.{tables, context_in, contexts_of, clauses_of, Good}
use Rattle.reasoner.specs.Asks.{in_ask, FitsInto}

abbrev pub in_classify : Layer
in_classify = Classify

-- ---- one pair of classes

-- the goal of a pair: what is in a and not in b
abbrev pub goal : ℕ → ℕ → Context
goal a b = context (only a) (only b)

-- a is under b: the closure of the pair's goal has its empty clause
abbrev pub Under : List Axiom → ℕ → ℕ → Type 0
Under axs a b = Refuted rising axs (goal a b)

-- some world that obeys the axioms has an element in a and not in b
abbrev pub Outside : List Axiom → ℕ → ℕ → Type 0
Outside axs a b = Possible axs (only a) (only b)

-- the closure of the pair's goal fits into so many context slots and clause slots
abbrev pub Fits : List Axiom → ℕ → ℕ → ℕ → ℕ → Type 0
Fits axs k l a b = FitsInto axs (goal a b) k l

-- ---- the two tables after an ask

-- the leading slots hold each member of the closure of G once, G first; of the slots behind them nothing is said
pub record Holding (axs : List Axiom) (G : Context) (k l : ℕ) (us : List ContextRecord) (vs : List ClauseRecord) : Type 0 where
  pub used : Counts
  pub good : Good (tables us vs used)
  pub contexts : Lists (InContexts rising axs G) (contexts_of (tables us vs used))
  pub clauses : Lists (InClauses rising axs G) (clauses_of (tables us vs used))
  pub contexts_once : Distinct (contexts_of (tables us vs used))
  pub clauses_once : Distinct (clauses_of (tables us vs used))
  pub some_context : 0 < used.contexts
  pub goal_first : context_in us 0 ≡ G
  pub sizes : (length us ≡ k) × (length vs ≡ l)

-- the leading slots hold distinct members of the closure of G
pub record Begun (axs : List Axiom) (G : Context) (k l : ℕ) (us : List ContextRecord) (vs : List ClauseRecord) : Type 0 where
  pub used : Counts
  pub good : Good (tables us vs used)
  pub contexts : (K : Context) → Memᴰ K (contexts_of (tables us vs used)) → InContexts rising axs G K
  pub clauses : (c : Clause) → Memᴰ c (clauses_of (tables us vs used)) → InClauses rising axs G c
  pub contexts_once : Distinct (contexts_of (tables us vs used))
  pub clauses_once : Distinct (clauses_of (tables us vs used))
  pub sizes : (length us ≡ k) × (length vs ≡ l)

-- ---- rows

-- w is the row of a as far as the classes below n: bit b is 1 exactly where a is under b, and 0 from n up
pub record Row (axs : List Axiom) (n a w : ℕ) : Type 0 where
  pub under : (b : ℕ) → b < n → Has w b ↔ Under axs a b
  -- the same of worlds: where bit b is 1, none has an element in a and not in b, and where it is 0, some has
  pub inside : (b : ℕ) → b < n → Has w b → Outside axs a b → ⊥
  pub outside : (b : ℕ) → b < n → (Has w b → ⊥) → Outside axs a b
  pub no_more : Below n w

-- the first n rows are written, and the others are as they were
pub record Written (m : Meaning) (n : ℕ) (before after : List ℕ) : Type 0 where
  pub rows : (a : ℕ) → a < n → Row m.axioms m.classes a (slice_index after a)
  pub rest : (k : ℕ) → n ≤ k → slice_index after k ≡ slice_index before k
  pub size : length after ≡ length before

-- ---- the whole

-- what is lent: a context table, a clause table and the rows
pub record Lent : Type 0 where
  pub contexts : List ContextRecord
  pub clauses : List ClauseRecord
  pub rows : List ℕ

abbrev pub lent : List ContextRecord → List ClauseRecord → List ℕ → Lent
lent xs ys zs = record { contexts = xs; clauses = ys; rows = zs }

-- before anything is asked: there is a row for each class, and the tables are within their most
abbrev pub classify_checks : Meaning → Lent → Checks
classify_checks m s = check 11 ((m.classes ≤ length s.rows) × (length s.contexts ≤ 256) × (length s.clauses ≤ 65535)) end

-- the closure of the pair fits into the tables
abbrev pub PairFits : Meaning → Lent → ℕ → ℕ → Type 0
PairFits m s a b = Fits m.axioms (length s.contexts) (length s.clauses) a b

-- each pair fits, and each class has its row; the tables hold the closure of the last pair, or, where there is no class, what they held
pub record Complete (m : Meaning) (s u : Lent) : Type 0 where
  pub fits : (a b : ℕ) → a < m.classes → b < m.classes → PairFits m s a b
  pub rows : Written m m.classes s.rows u.rows
  pub last : (c : ℕ) → m.classes ≡ suc c → Holding m.axioms (goal c c) (length s.contexts) (length s.clauses) u.contexts u.clauses
  pub no_class : m.classes ≡ 0 → (u.contexts ≡ s.contexts) × (u.clauses ≡ s.clauses)

-- of the pairs by rising a × 64 + b, the one at the place p is the first that does not fit; the rows before a are written
pub record Stopped (m : Meaning) (s u : Lent) (p : ℕ) : Type 0 where
  pub a : ℕ
  pub b : ℕ
  pub place : p ≡ a * 64 + b
  pub classes : (a < m.classes) × (b < m.classes)
  pub full : PairFits m s a b → ⊥
  pub before : (d e : ℕ) → d < m.classes → e < m.classes → d * 64 + e < a * 64 + b → PairFits m s d e
  pub rows : Written m a s.rows u.rows
  pub last : Begun m.axioms (goal a b) (length s.contexts) (length s.clauses) u.contexts u.clauses

-- what a classification tells of the tables s, which have become u: it is complete, or the check fails and nothing has changed,
-- or an ask refuses with 23
abbrev pub Classified : {V : Type 0} → Meaning → Lent → Lent → Told V → Type 0
Classified m s u (done v) = Passes (classify_checks m s) × Complete m s u
Classified m s u (refused n p y) =
    (FirstFailing (classify_checks m s) n × (p ≡ 0) × (y ≡ in_classify) × (u ≡ s)) ⊎ (Passes (classify_checks m s) × (n ≡ 23) × (y ≡ in_ask) × Stopped m s u p)
