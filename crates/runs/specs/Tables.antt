-- What the calls of a run leave in the tables that are lent for it.
use Rattle.std.specs.Prelude.{◌≡◌, ℕ, List, [], ◌∷◌, ◌++◌, length, take, drop, Some, None, Option}
use Rattle.terms.specs.Refusals.{Told, told}
use Rattle.terms.specs.declared.class_set.ClassSet.{ClassSet}
use Rattle.terms.specs.declared.axioms.Axiom.{Axiom}
use Rattle.sources.specs.Meanings.{Meaning}
use Rattle.tables.specs.declared.records.ContextRecord.{ContextRecord}
use Rattle.tables.specs.declared.records.ClauseRecord.{ClauseRecord}
use Rattle.reasoner.specs.Asks.{goal_of, TablesAfter, ModelAfter}
use Rattle.reasoner.specs.declared.answer.Answer.{Answer}
use Rattle.book.specs.Books.{book_meaning}
use Rattle.runs.specs.declared.calls.Call.{Call}
use Rattle.runs.specs.declared.calls.Call.TheVariants as call
use Rattle.runs.specs.declared.calls.Heard.{Heard}
use Rattle.runs.specs.declared.calls.Heard.TheVariants as heard
use Rattle.runs.specs.declared.run_tables.RunTables.{RunTables}
use Rattle.runs.specs.Calls.{Lent, lent}
use Rattle.runs.specs.Law.{own_after}

-- what stands in the tables
pub record Slots : Type 0 where
  pub contexts : List ContextRecord
  pub clauses : List ClauseRecord
  pub model : List ℕ

abbrev pub slots : List ContextRecord → List ClauseRecord → List ℕ → Slots
slots xs ys zs = record { contexts = xs; clauses = ys; model = zs }

-- how many slots there are of each, and what stands in them, in the tables as they are lent
abbrev pub room_of : RunTables → Lent
room_of t = lent t.contexts.now t.clauses.now t.model.now

abbrev pub slots_of : RunTables → Slots
slots_of t = slots t.contexts.now t.clauses.now t.model.now

abbrev pub ModelLeft : Meaning → ClassSet → ClassSet → Option ℕ → Told Answer → List ℕ → List ℕ → Type 0
ModelLeft b P N None t before after = after ≡ before
ModelLeft b P N (Some w) t before after = ModelAfter b P N (take w before) (take w after) t × (drop w after ≡ drop w before)

-- an ask with k context slots, j clause slots and so many words does to these what an ask promises, and leaves all others
pub record AskLeaves (b : Meaning) (P N : ClassSet) (k j : ℕ) (words : Option ℕ) (t : Told Answer) (s u : Slots) : Type 0 where
  pub tables : TablesAfter b.axioms (goal_of P N) (take k s.contexts) (take j s.clauses) (take k u.contexts) (take j u.clauses) t
  pub other_contexts : drop k u.contexts ≡ drop k s.contexts
  pub other_clauses : drop j u.clauses ≡ drop j s.clauses
  pub model : ModelLeft b P N words t s.model u.model

-- the call, of which this was heard, found s in the tables and left u; b is what the book meant then
abbrev pub Leaves : Meaning → Call → Heard → Slots → Slots → Type 0
Leaves b (call.Ask P N k j words) (heard.Asked r) s u = AskLeaves b P N k j words (told r) s u
Leaves b (call.Ask P N k j words) (heard.Changed r) s u = ⊥
Leaves b (call.Ask P N k j words) (heard.Audited r) s u = ⊥
Leaves b (call.Strike i) h s u = u ≡ s
Leaves b (call.Add a) h s u = u ≡ s
Leaves b (call.Amend i a) h s u = u ≡ s
Leaves b (call.AuditModel words roles size) h s u = u ≡ s
Leaves b (call.AuditEntries classes links) h s u = u ≡ s

-- nothing is written between calls
abbrev pub Untouched : Slots → Slots → Type 0
Untouched s u = u ≡ s

-- anything may be written between calls
abbrev pub Rewritten : Slots → Slots → Type 0
Rewritten s u = (length u.contexts ≡ length s.contexts) × (length u.clauses ≡ length s.clauses) × (length u.model ≡ length s.model)

-- the tables are the same as they were lent, whatever was written into them
-- It compares before with after, which no type can keep.
pub record SameTables (t u : RunTables) : Type 0 where
  pub contexts : u.contexts.ghost_name ≡ t.contexts.ghost_name
  pub clauses : u.clauses.ghost_name ≡ t.clauses.ghost_name
  pub model : u.model.ghost_name ≡ t.model.ghost_name
  pub sizes : Rewritten (slots_of t) (slots_of u)

-- a run that found s in the tables left u, where before each call they were changed as Between allows
pub data Left (Between : Slots → Slots → Type 0) (m : Meaning) (own : List Axiom) (s : Slots) : List Call → List Heard → Slots → Type 0 where
  as_found : Left Between m own s [] [] s
  by_one_more : (u v w : Slots) (c : Call) (h : Heard) (cs : List Call) (hs : List Heard)
      → Left Between m own s cs hs u → Between u v → Leaves (book_meaning m (own_after own cs hs)) c h v w → Left Between m own s (cs ++ c ∷ []) (hs ++ h ∷ []) w
