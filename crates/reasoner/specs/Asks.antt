-- What an ask tells, and what it leaves in the tables that it was lent.
use Rattle.std.specs.Prelude.{◌≡◌, ℕ, ◌+◌, ◌*◌, ◌/◌, ◌%◌, ◌<◌, ◌≤◌, ◌⊎◌, List, length, Some, None, Option, ◌≢◌, slice_index}
use mathlib.Core.List.{Memᴰ}
use Rattle.terms.specs.Sets.{Has, Below}
use Rattle.terms.specs.Refusals.{Told, done, refused, Checks, end, check, Answers}
use Rattle.terms.specs.declared.class_set.ClassSet.{ClassSet}
use Rattle.terms.specs.declared.axioms.Axiom.{Axiom}
use Rattle.terms.specs.declared.refusals.Layer.{Layer}
use Rattle.terms.specs.declared.refusals.Layer.TheVariants.{Ask}
use Rattle.sources.specs.Meanings.{Meaning}
use Rattle.worlds.specs.Worlds.{InAll, InNone, Obeys, Possible}
use Rattle.worlds.specs.Models.{row_width, model_world}
use Rattle.closure.specs.Closures.{Context, context, Clause, rising, InContexts, InClauses, Verdict, none, some, Judges}
use Rattle.closure.specs.Counts.{Distinct, Lists, Exactly, More}
use Rattle.tables.specs.declared.records.ContextRecord.{ContextRecord}
use Rattle.tables.specs.declared.records.ClauseRecord.{ClauseRecord}
use Rattle.tables.specs.declared.members.Counts.{Counts}
use Rattle.tables.specs.Tables.{Tables, tables, context_in, contexts_of, clauses_of}
use Rattle.tables.specs.Adding.{Grows}
use Rattle.reasoner.specs.declared.answer.Answer.{Answer}
use Rattle.reasoner.specs.declared.answer.Answer.TheVariants.{Nothing, Something}

abbrev pub in_ask : Layer
in_ask = Ask

-- the goal of an ask: what is in all of P and in none of N
abbrev pub goal_of : ClassSet → ClassSet → Context
goal_of P N = context P.bits N.bits

-- ---- the checks

-- the closure has no more contexts and no more clauses than there are slots
abbrev pub FitsInto : List Axiom → Context → ℕ → ℕ → Type 0
FitsInto axs G contexts clauses = More (InContexts rising axs G) contexts ⊎ More (InClauses rising axs G) clauses → ⊥

-- before anything is read: the classes are there, and the tables are within their most
abbrev pub admit_checks : ℕ → ClassSet → ClassSet → ℕ → ℕ → Type 0 → Checks
admit_checks c P N contexts clauses room = check 10 (Below c P.bits × Below c N.bits) (check 11 ((contexts ≤ 256) × (clauses ≤ 65535) × room) end)

-- where `room` says what a model table needs
abbrev pub ask_checks : Meaning → ClassSet → ClassSet → ℕ → ℕ → Type 0 → Checks
ask_checks m P N contexts clauses room =
    check 10 (Below m.classes P.bits × Below m.classes N.bits)
    (check 11 ((contexts ≤ 256) × (clauses ≤ 65535) × room)
    (check 23 (FitsInto m.axioms (goal_of P N) contexts clauses) end))

-- no model table needs nothing
abbrev pub NoTable : Type 0
NoTable = Unit {0}

-- a model table has a row for each context slot
abbrev pub RowEach : ℕ → ℕ → ℕ → Type 0
RowEach roles contexts words = contexts * row_width roles ≤ words

-- ---- the answer

abbrev pub verdict_of : Answer → Verdict
verdict_of (Nothing n) = none
verdict_of (Something n e) = some

abbrev pub counts_of : Answer → Counts
counts_of (Nothing n) = n
counts_of (Something n e) = n

-- what the verdict says of worlds: none has such an element, or some has
abbrev pub Says : Verdict → List Axiom → ℕ → ℕ → Type 0
Says none axs P N = Possible axs P N → ⊥
Says some axs P N = Possible axs P N

-- the verdict and the counts are those of the goal's closure
pub record Right (axs : List Axiom) (P N : ClassSet) (a : Answer) : Type 0 where
  pub verdict : Judges (verdict_of a) rising axs (goal_of P N)
  pub worlds : Says (verdict_of a) axs P.bits N.bits
  pub contexts : Exactly (counts_of a).contexts (InContexts rising axs (goal_of P N))
  pub clauses : Exactly (counts_of a).clauses (InClauses rising axs (goal_of P N))

-- no number of elements
abbrev pub Unshown : Answer → Type 0
Unshown (Nothing n) = Unit {0}
Unshown (Something n None) = Unit {0}
Unshown (Something n (Some e)) = ⊥

-- some brings the number of elements
abbrev pub Numbered : Answer → Type 0
Numbered (Nothing n) = Unit {0}
Numbered (Something n None) = ⊥
Numbered (Something n (Some e)) = Unit {0}

-- ---- the two tables afterwards

abbrev pub unused : Counts
unused = record { contexts = 0; clauses = 0 }

-- from s, with no slot used, to u: the used slots hold each member of the closure once, the goal first, and the others are as they were
pub record Filled (axs : List Axiom) (G : Context) (s u : Tables) : Type 0 where
  pub grows : Grows s u
  pub contexts : Lists (InContexts rising axs G) (contexts_of u)
  pub clauses : Lists (InClauses rising axs G) (clauses_of u)
  pub contexts_once : Distinct (contexts_of u)
  pub clauses_once : Distinct (clauses_of u)
  pub some_context : 0 < u.used.contexts
  pub goal_first : context_in u.contexts 0 ≡ G

-- the used slots hold distinct members of the closure, and the others are as they were
pub record Begun (axs : List Axiom) (G : Context) (s u : Tables) : Type 0 where
  pub grows : Grows s u
  pub contexts : (K : Context) → Memᴰ K (contexts_of u) → InContexts rising axs G K
  pub clauses : (c : Clause) → Memᴰ c (clauses_of u) → InClauses rising axs G c
  pub contexts_once : Distinct (contexts_of u)
  pub clauses_once : Distinct (clauses_of u)

-- after an answer they are filled, after 23 begun, and after another refusal nothing has changed
abbrev pub TablesAfter : List Axiom → Context → List ContextRecord → List ClauseRecord → List ContextRecord → List ClauseRecord → Told Answer → Type 0
TablesAfter axs G xs ys us vs (done a) = Filled axs G (tables xs ys unused) (tables us vs (counts_of a))
TablesAfter axs G xs ys us vs (refused n p y) = ((n ≡ 23) × ((k : Counts) × Begun axs G (tables xs ys unused) (tables us vs k))) ⊎ ((n ≢ 23) × (us ≡ xs) × (vs ≡ ys))

-- ---- the model table afterwards

-- its first n rows show a world that obeys the axioms, with an element in all of P and in none of N as element 0
pub record Shown (c r : ℕ) (axs : List Axiom) (P N : ClassSet) (counts : Counts) (n : ℕ) (before after : List ℕ) : Type 0 where
  pub some_element : 0 < n
  pub few : n ≤ counts.contexts
  pub obeys : Obeys (model_world after r n) axs
  pub held : InAll (model_world after r n) 0 P.bits
  pub denied : InNone (model_world after r n) 0 N.bits
  -- no bit of a class from the class count up, or of an element from n up
  pub no_more_classes : (e a : ℕ) → e < n → Has (slice_index after (e * row_width r)) a → a < c
  pub no_more_links : (e k f : ℕ) → e < n → k < r → n ≤ f → f < 256 → Has (slice_index after (e * row_width r + (1 + 4 * k + f / 64))) (f % 64) → ⊥
  -- the words after the last row are as they were
  pub size : length after ≡ length before
  pub rest : (k : ℕ) → n * row_width r ≤ k → slice_index after k ≡ slice_index before k

-- after some with a number of elements it shows a world, and after anything else nothing has changed
abbrev pub ModelAfter : Meaning → ClassSet → ClassSet → List ℕ → List ℕ → Told Answer → Type 0
ModelAfter m P N before after (done (Nothing counts)) = after ≡ before
ModelAfter m P N before after (done (Something counts None)) = after ≡ before
ModelAfter m P N before after (done (Something counts (Some n))) = Shown m.classes m.roles m.axioms P N counts n before after
ModelAfter m P N before after (refused n p y) = after ≡ before

-- ---- nothing is left open

-- the same verdict and counts, or the same refusal; the number of elements is free
abbrev pub Same : Told Answer → Told Answer → Type 0
Same (done a) (done b) = (verdict_of a ≡ verdict_of b) × (counts_of a ≡ counts_of b)
Same (done a) (refused n p y) = ⊥
Same (refused n p y) (done b) = ⊥
Same (refused n p y) (refused k q z) = (n ≡ k) × (p ≡ q) × (y ≡ z)

-- what the model table of so many words needs, where one was lent
abbrev pub RoomOf : Meaning → ℕ → Option ℕ → Type 0
RoomOf m contexts None = NoTable
RoomOf m contexts (Some words) = RowEach m.roles contexts words

-- for a meaning, a question and the tables' sizes there is one answer
abbrev pub OneAnswer : Type 0
OneAnswer = (m : Meaning) (P N : ClassSet) (contexts clauses : ℕ) (words : Option ℕ) (t u : Told Answer)
    → Answers (ask_checks m P N contexts clauses (RoomOf m contexts words)) 0 in_ask (Right m.axioms P N) t
    → Answers (ask_checks m P N contexts clauses (RoomOf m contexts words)) 0 in_ask (Right m.axioms P N) u → Same t u
