-- The plain book: what it tells of each call, fed with what the call brings, and its own list after it.
use Rattle.std.specs.Prelude.{ℕ, ◌<◌, ◌≤◌, min, List, [], ◌∷◌, ◌++◌, length, take, Some, None, Ok, Err, Option, Result}
use Rattle.std.specs.Borrow.{Bor}
use Rattle.terms.specs.Refusals.{Told, told, Answers}
use Rattle.terms.specs.declared.class_set.ClassSet.{ClassSet}
use Rattle.terms.specs.declared.axioms.Axiom.{Axiom}
use Rattle.terms.specs.declared.refusals.Fault.{Fault}
use Rattle.sources.specs.Meanings.{Meaning}
use Rattle.worlds.specs.Worlds.{InAll, InNone, Obeys}
use Rattle.worlds.specs.Models.{model_world, model_checks}
use Rattle.worlds.specs.Entries.{entry_world, entry_checks}
use Rattle.worlds.specs.Audits.{in_world, Audited}
use Rattle.worlds.specs.declared.audit.Breach.{Breach}
use Rattle.worlds.specs.declared.link.Link.{Link}
use Rattle.tables.specs.declared.records.ContextRecord.{ContextRecord}
use Rattle.tables.specs.declared.records.ClauseRecord.{ClauseRecord}
use Rattle.tables.specs.declared.members.Counts.{Counts}
use Rattle.reasoner.specs.Asks.{in_ask, ask_checks, RoomOf, Right, Unshown, Numbered}
use Rattle.reasoner.specs.declared.answer.Answer.{Answer}
use Rattle.reasoner.specs.declared.answer.Answer.TheVariants.{Nothing, Something}
use Rattle.book.specs.Books.{standing, book_meaning, PlainAdd, PlainAmend, PlainStrike}
use Rattle.runs.specs.declared.calls.Call.{Call}
use Rattle.runs.specs.declared.calls.Call.TheVariants as call
use Rattle.runs.specs.declared.calls.Heard.{Heard}
use Rattle.runs.specs.declared.calls.Heard.TheVariants as heard

-- what is lent for a run: how many context slots, clause slots and words; an ask has as many of them as it brings, but no more
pub record Lent : Type 0 where
  pub contexts : ℕ
  pub clauses : ℕ
  pub words : ℕ

abbrev pub lent : List ContextRecord → List ClauseRecord → List ℕ → Lent
lent xs ys zs = record { contexts = length xs; clauses = length ys; words = length zs }

abbrev pub words_of : Lent → Option ℕ → Option ℕ
words_of l None = None
words_of l (Some w) = Some (min w l.words)

-- some brings a number of elements exactly where a model table was brought
abbrev pub Brings : Option ℕ → Answer → Type 0
Brings None a = Unshown a
Brings (Some w) a = Numbered a

-- an ask of what is in all of P and in none of N, on a book that means b
abbrev pub PlainAsk : Meaning → Lent → ClassSet → ClassSet → ℕ → ℕ → Option ℕ → Told Answer → Type 0
PlainAsk b l P N k j words t =
    Answers (ask_checks b P N (min k l.contexts) (min j l.clauses) (RoomOf b (min k l.contexts) (words_of l words))) 0 in_ask (λ a. Right b.axioms P N a × Brings words a) t

-- the plain book over a source that means m, with the own list given, hears this call so, and then has that own list
pub data Answered (m : Meaning) (l : Lent) (own : List Axiom) : Call → Heard → List Axiom → Type 0 where
  strikes : (i : ℕ) (r : Result (Unit {0}) Fault) (later : List Axiom) → PlainStrike own i (told r) later → Answered m l own (call.Strike i) (heard.Changed r) later
  adds : (a : Axiom) (r : Result (Unit {0}) Fault) (later : List Axiom) → PlainAdd m own a (told r) later → Answered m l own (call.Add a) (heard.Changed r) later
  amends : (i : ℕ) (a : Axiom) (r : Result (Unit {0}) Fault) (later : List Axiom) → PlainAmend m own i a (told r) later → Answered m l own (call.Amend i a) (heard.Changed r) later
  asks : (P N : ClassSet) (k j : ℕ) (words : Option ℕ) (r : Result Answer Fault) → PlainAsk (book_meaning m own) l P N k j words (told r) → Answered m l own (call.Ask P N k j words) (heard.Asked r) own
  audits_model : (words : Bor (List ℕ)) (roles size : ℕ) (r : Result (Option Breach) Fault) → Answers (model_checks words.now roles size) 0 in_world (Audited (standing m own) (model_world words.now roles size)) (told r)
      → Answered m l own (call.AuditModel words roles size) (heard.Audited r) own
  audits_entries : (classes : Bor (List ℕ)) (links : Bor (List Link)) (r : Result (Option Breach) Fault) → Answers (entry_checks classes.now links.now) 0 in_world (Audited (standing m own) (entry_world classes.now links.now)) (told r)
      → Answered m l own (call.AuditEntries classes links) (heard.Audited r) own

-- every call of a list is answered so, one after the other: from one own list to another
pub data Run (m : Meaning) (l : Lent) (own : List Axiom) : List Call → List Heard → List Axiom → Type 0 where
  no_calls : Run m l own [] [] own
  one_more : (later last : List Axiom) (c : Call) (h : Heard) (cs : List Call) (hs : List Heard) → Run m l own cs hs later → Answered m l later c h last → Run m l own (cs ++ c ∷ []) (hs ++ h ∷ []) last

-- ---- what a model table shows after a call

-- the words show a world of n elements, no more than there are contexts, that obeys the axioms, with an element in all of P and in none of N as element 0
pub record ShowsWorld (axs : List Axiom) (roles : ℕ) (P N : ClassSet) (counts : Counts) (n : ℕ) (words : List ℕ) : Type 0 where
  pub some_element : 0 < n
  pub few : n ≤ counts.contexts
  pub obeys : Obeys (model_world words roles n) axs
  pub held : InAll (model_world words roles n) 0 P.bits
  pub denied : InNone (model_world words roles n) 0 N.bits

abbrev pub ShownAnswer : Meaning → ClassSet → ClassSet → ℕ → Answer → List ℕ → Type 0
ShownAnswer b P N w (Nothing counts) model = Unit {0}
ShownAnswer b P N w (Something counts None) model = Unit {0}
ShownAnswer b P N w (Something counts (Some n)) model = ShowsWorld b.axioms b.roles P N counts n (take w model)

abbrev pub ShownAsk : Meaning → ClassSet → ClassSet → Option ℕ → Result Answer Fault → List ℕ → Type 0
ShownAsk b P N None r model = Unit {0}
ShownAsk b P N (Some w) (Ok a) model = ShownAnswer b P N w a model
ShownAsk b P N (Some w) (Err f) model = Unit {0}

-- after an ask with a model table that brings a number of elements, its words show such a world; b is what the book meant then
abbrev pub ShownBy : Meaning → Call → Heard → List ℕ → Type 0
ShownBy b (call.Strike i) h model = Unit {0}
ShownBy b (call.Add a) h model = Unit {0}
ShownBy b (call.Amend i a) h model = Unit {0}
ShownBy b (call.Ask P N k j words) (heard.Changed r) model = Unit {0}
ShownBy b (call.Ask P N k j words) (heard.Asked r) model = ShownAsk b P N words r model
ShownBy b (call.Ask P N k j words) (heard.Audited r) model = Unit {0}
ShownBy b (call.AuditModel words roles size) h model = Unit {0}
ShownBy b (call.AuditEntries classes links) h model = Unit {0}
