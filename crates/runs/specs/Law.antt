-- The law that holds for every list of calls on a book.
use Rattle.std.specs.Prelude.{◌≡◌, ℕ, suc, ◌<◌, min, ◌↔◌, List, [], ◌∷◌, ◌++◌, length, take, None, Ok, Err, Option, Result, slice_index_or}
use Rattle.terms.specs.Refusals.{told, refused, Passes}
use Rattle.terms.specs.declared.class_set.ClassSet.{ClassSet}
use Rattle.terms.specs.declared.axioms.Axiom.{Axiom}
use Rattle.terms.specs.declared.refusals.Fault.{Fault}
use Rattle.sources.specs.Meanings.{Meaning}
use Rattle.worlds.specs.Worlds as Of
use Rattle.worlds.specs.Worlds.{InAll, InNone}
use Rattle.worlds.specs.Models.{model_world}
use Rattle.worlds.specs.Entries.{entry_world}
use Rattle.reasoner.specs.Asks.{in_ask, goal_of, FitsInto, admit_checks, RoomOf, verdict_of, Says, Same}
use Rattle.reasoner.specs.declared.answer.Answer.{Answer}
use Rattle.reasoner.specs.declared.answer.Answer.TheVariants.{Nothing}
use Rattle.book.specs.Books.{standing, book_meaning, added, amended, struck}
use Rattle.runs.specs.declared.calls.Call.{Call}
use Rattle.runs.specs.declared.calls.Call.TheVariants as call
use Rattle.runs.specs.declared.calls.Heard.{Heard}
use Rattle.runs.specs.declared.calls.Heard.TheVariants as heard
use Rattle.runs.specs.Calls.{Lent, words_of, Answered, Run, ShownBy}

-- ---- the own list as the calls go on

-- a change that was not refused is made
abbrev pub changed_by : List Axiom → Call → Result (Unit {0}) Fault → List Axiom
changed_by own (call.Strike i) (Ok u) = struck own i
changed_by own (call.Add a) (Ok u) = added own a
changed_by own (call.Amend i a) (Ok u) = amended own i a
changed_by own (call.Ask P N k j words) (Ok u) = own
changed_by own (call.AuditModel words roles size) (Ok u) = own
changed_by own (call.AuditEntries classes links) (Ok u) = own
changed_by own c (Err f) = own

abbrev pub later_of : List Axiom → Call → Heard → List Axiom
later_of own c (heard.Changed r) = changed_by own c r
later_of own c (heard.Asked r) = own
later_of own c (heard.Audited r) = own

-- the own list after some calls
abbrev pub own_after : List Axiom → List Call → List Heard → List Axiom
own_after own [] hs = own
own_after own (c ∷ cs) [] = own
own_after own (c ∷ cs) (h ∷ hs) = own_after (later_of own c h) cs hs

-- the own list, and the axioms standing, when call i is made
abbrev pub own_at : List Axiom → List Call → List Heard → ℕ → List Axiom
own_at own cs hs i = own_after own (take i cs) (take i hs)

abbrev pub standing_at : Meaning → List Axiom → List Call → List Heard → ℕ → List Axiom
standing_at m own cs hs i = standing m (own_at own cs hs i)

-- ---- the law

-- call i is c, and h was heard of it
pub record At (cs : List Call) (hs : List Heard) (i : ℕ) (c : Call) (h : Heard) : Type 0 where
  pub there : i < length cs
  pub call : (d : Call) → slice_index_or cs i d ≡ c
  pub heard : (d : Heard) → slice_index_or hs i d ≡ h

-- the world that an audit was given
pub data Audits : Call → Of.World → Type 0 where
  a_model : {words : _} {roles size : ℕ} → Audits (call.AuditModel words roles size) (model_world words.now roles size)
  entries : {classes links : _} → Audits (call.AuditEntries classes links) (entry_world classes.now links.now)

-- of a run on a book over a source that means m, with the own list given at first
pub record Lawful (m : Meaning) (l : Lent) (own : List Axiom) (cs : List Call) (hs : List Heard) : Type 0 where
  -- each call is answered as the plain book answers it
  pub plain : (i : ℕ) (c : Call) (h : Heard) → At cs hs i c h → Answered m l (own_at own cs hs i) c h (own_at own cs hs (suc i))
  -- an ask that is answered says none exactly where no world obeys the axioms standing and has such an element, and some exactly where one does
  pub verdicts : (i : ℕ) (P N : ClassSet) (k j : ℕ) (words : Option ℕ) (a : Answer) → At cs hs i (call.Ask P N k j words) (heard.Asked (Ok a)) → Says (verdict_of a) (standing_at m own cs hs i) P.bits N.bits
  -- after a none, no audit passes a world with such an element while the same axioms stand
  pub none_stays : (i n : ℕ) (P N : ClassSet) (k j : ℕ) (words : Option ℕ) (counts : _) (c : Call) (w : Of.World)
      → At cs hs i (call.Ask P N k j words) (heard.Asked (Ok (Nothing counts))) → standing_at m own cs hs n ≡ standing_at m own cs hs i
      → At cs hs n c (heard.Audited (Ok None)) → Audits c w → (e : ℕ) → e < w.size → InAll w e P.bits → InNone w e N.bits → ⊥
  -- an ask that nothing else refuses is refused as full exactly where its closure does not fit into its tables
  pub full : (i : ℕ) (P N : ClassSet) (k j : ℕ) (words : Option ℕ) (r : Result Answer Fault) → At cs hs i (call.Ask P N k j words) (heard.Asked r)
      → Passes (admit_checks m.classes P N (min k l.contexts) (min j l.clauses) (RoomOf m (min k l.contexts) (words_of l words)))
      → (told r ≡ refused 23 0 in_ask) ↔ (FitsInto (standing_at m own cs hs i) (goal_of P N) (min k l.contexts) (min j l.clauses) → ⊥)

-- where the last call is an ask with a model table, what that table shows at the end
abbrev pub LastShown : Meaning → List Axiom → List Call → List Heard → List ℕ → Type 0
LastShown m own cs hs model = (i : ℕ) (c : Call) (h : Heard) → suc i ≡ length cs → At cs hs i c h → ShownBy (book_meaning m (own_at own cs hs i)) c h model

-- ---- nothing is left open, and runs join

-- the same was heard of a call, but for the number of elements
abbrev pub SameHeard : Heard → Heard → Type 0
SameHeard (heard.Changed r) (heard.Changed s) = told r ≡ told s
SameHeard (heard.Asked r) (heard.Asked s) = Same (told r) (told s)
SameHeard (heard.Audited r) (heard.Audited s) = told r ≡ told s
SameHeard (heard.Changed r) (heard.Asked s) = ⊥
SameHeard (heard.Changed r) (heard.Audited s) = ⊥
SameHeard (heard.Asked r) (heard.Changed s) = ⊥
SameHeard (heard.Asked r) (heard.Audited s) = ⊥
SameHeard (heard.Audited r) (heard.Changed s) = ⊥
SameHeard (heard.Audited r) (heard.Asked s) = ⊥

-- the plain book leaves no answer open: of the same calls, from the same own list, the same is heard, and the same own list stands in the end
abbrev pub OneRun : Type 0
OneRun = (m : Meaning) (l : Lent) (own later last : List Axiom) (cs : List Call) (hs ks : List Heard) → Run m l own cs hs later → Run m l own cs ks last
    → (length hs ≡ length ks) × ((i : ℕ) (c : Call) (h k : Heard) → At cs hs i c h → At cs ks i c k → SameHeard h k) × (later ≡ last)

-- runs can be put end to end
abbrev pub Joined : Type 0
Joined = (m : Meaning) (l : Lent) (own later last : List Axiom) (cs ds : List Call) (hs ks : List Heard) → Run m l own cs hs later → Run m l later ds ks last → Run m l own (cs ++ ds) (hs ++ ks) last
