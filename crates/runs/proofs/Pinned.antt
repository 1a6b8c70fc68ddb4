-- The plain book leaves no answer open.
use Rattle.std.proofs.Common.{◌≡◌, ℕ, zero, suc, ◌<◌, ◌≤◌, min, List, [], ◌∷◌, length, get_or, take, Option, Result, sym, refl, ap, ◌∙◌, subst, arith, take_all}
use Rattle.terms.specs.Refusals.{told, Answers}
use Rattle.terms.specs.declared.axioms.Axiom.{Axiom}
use Rattle.terms.specs.declared.refusals.Fault.{Fault}
use Rattle.terms.specs.declared.class_set.ClassSet.{ClassSet}
use Rattle.terms.proofs.Checking.{answers_weaker}
use Rattle.sources.specs.Meanings.{Meaning}
use Rattle.worlds.specs.Models.{model_world, model_checks}
use Rattle.worlds.specs.Entries.{entry_world, entry_checks}
use Rattle.worlds.specs.Audits.{in_world, Audited}
use Rattle.worlds.specs.declared.audit.Breach.{Breach}
use Rattle.worlds.proofs.Findings.{one_finding}
use Rattle.reasoner.specs.Asks.{in_ask, ask_checks, RoomOf, Right, Same}
use Rattle.reasoner.specs.declared.answer.Answer.{Answer}
use Rattle.reasoner.proofs.Pinned.{one_answer}
use Rattle.book.specs.Books.{standing, book_meaning, added, amended, struck, add_checks, amend_checks, strike_checks, PlainAdd, PlainAmend, PlainStrike}
use Rattle.book.proofs.Outcomes.{told_only, changes_one}
use Rattle.runs.specs.declared.calls.Call.{Call}
use Rattle.runs.specs.declared.calls.Call.TheVariants as call
use Rattle.runs.specs.declared.calls.Heard.{Heard}
use Rattle.runs.specs.declared.calls.Heard.TheVariants as heard
use Rattle.runs.specs.Calls.{Lent, words_of, Brings, PlainAsk, Answered, strikes, adds, amends, asks, audits_model, audits_entries, Run}
use Rattle.runs.specs.Law.{own_after, own_at, At, SameHeard, OneRun}
use Rattle.runs.proofs.Running.{run_lengths, run_own, run_at}

-- ---- one call

-- what the plain book tells of a call, by the call
abbrev Tells : Meaning → Lent → List Axiom → Call → Heard → List Axiom → Type 0
Tells m l own (call.Strike i) h later = (r : Result (Unit {0}) Fault) × (h ≡ heard.Changed r) × PlainStrike own i (told r) later
Tells m l own (call.Add a) h later = (r : Result (Unit {0}) Fault) × (h ≡ heard.Changed r) × PlainAdd m own a (told r) later
Tells m l own (call.Amend i a) h later = (r : Result (Unit {0}) Fault) × (h ≡ heard.Changed r) × PlainAmend m own i a (told r) later
Tells m l own (call.Ask P N k j words) h later = (r : Result Answer Fault) × (h ≡ heard.Asked r) × PlainAsk (book_meaning m own) l P N k j words (told r) × (later ≡ own)
Tells m l own (call.AuditModel words roles size) h later = (r : Result (Option Breach) Fault) × (h ≡ heard.Audited r)
    × Answers (model_checks words.now roles size) 0 in_world (Audited (standing m own) (model_world words.now roles size)) (told r) × (later ≡ own)
Tells m l own (call.AuditEntries classes links) h later = (r : Result (Option Breach) Fault) × (h ≡ heard.Audited r)
    × Answers (entry_checks classes.now links.now) 0 in_world (Audited (standing m own) (entry_world classes.now links.now)) (told r) × (later ≡ own)

tells : {m : Meaning} {l : Lent} {own : List Axiom} {c : Call} {h : Heard} {later : List Axiom} → Answered m l own c h later → Tells m l own c h later
tells (strikes i r later p) = (r, refl, p)
tells (adds a r later p) = (r, refl, p)
tells (amends i a r later p) = (r, refl, p)
tells (asks P N k j words r p) = (r, refl, p, refl)
tells (audits_model words roles size r p) = (r, refl, p, refl)
tells (audits_entries classes links r p) = (r, refl, p, refl)

heard_same : {a b h k : Heard} → h ≡ a → k ≡ b → SameHeard a b → SameHeard h k
heard_same {a} {b} {h} {k} p q s = subst (λ x. SameHeard x k) (sym p) (subst (λ y. SameHeard a y) (sym q) s)

ask_one : (m : Meaning) (l : Lent) (P N : ClassSet) (k j : ℕ) (words : Option ℕ) (r s : Result Answer Fault)
    → PlainAsk m l P N k j words (told r) → PlainAsk m l P N k j words (told s) → Same (told r) (told s)
ask_one m l P N k j words r s p q =
    let cs = ask_checks m P N (min k l.contexts) (min j l.clauses) (RoomOf m (min k l.contexts) (words_of l words)) in
    let right = λ (a : Answer) (b : Right m.axioms P N a × Brings words a). b.0 in
    one_answer m P N (min k l.contexts) (min j l.clauses) (words_of l words) (told r) (told s)
    (answers_weaker cs 0 in_ask (λ a. Right m.axioms P N a × Brings words a) (Right m.axioms P N) (told r) right p)
    (answers_weaker cs 0 in_ask (λ a. Right m.axioms P N a × Brings words a) (Right m.axioms P N) (told s) right q)

-- of one call from one own list the same is heard, and the same own list stands after it
call_one : (m : Meaning) (l : Lent) (own : List Axiom) (c : Call) (h k : Heard) (later last : List Axiom) → Tells m l own c h later → Tells m l own c k last → SameHeard h k × (later ≡ last)
call_one m l own (call.Strike i) h k later last (r, e, p) (s, f, q) =
    let o = changes_one (strike_checks own i) own (struck own i) (told r) (told s) later last p q in (heard_same e f o.0, o.1)
call_one m l own (call.Add a) h k later last (r, e, p) (s, f, q) =
    let o = changes_one (add_checks m own a) own (added own a) (told r) (told s) later last p q in (heard_same e f o.0, o.1)
call_one m l own (call.Amend i a) h k later last (r, e, p) (s, f, q) =
    let o = changes_one (amend_checks m own i a) own (amended own i a) (told r) (told s) later last p q in (heard_same e f o.0, o.1)
call_one m l own (call.Ask P N x y words) h k later last (r, e, p, u) (s, f, q, v) = (heard_same e f (ask_one (book_meaning m own) l P N x y words r s p q), u ∙ sym v)
call_one m l own (call.AuditModel words roles size) h k later last (r, e, p, u) (s, f, q, v) =
    let w = model_world words.now roles size in
    (heard_same e f (told_only (model_checks words.now roles size) 0 in_world (Audited (standing m own) w) (one_finding (standing m own) w) (told r) (told s) p q), u ∙ sym v)
call_one m l own (call.AuditEntries classes links) h k later last (r, e, p, u) (s, f, q, v) =
    let w = entry_world classes.now links.now in
    (heard_same e f (told_only (entry_checks classes.now links.now) 0 in_world (Audited (standing m own) w) (one_finding (standing m own) w) (told r) (told s) p q), u ∙ sym v)

-- ---- runs

-- what stands at a place of a list
entry : {A : Type 0} (xs : List A) (i : ℕ) → i < length xs → (x : A) × ((d : A) → get_or xs i d ≡ x)
entry [] i l = absurd (omega arith)
entry (x ∷ xs) zero l = (x, λ d. refl)
entry (x ∷ xs) (suc i) l = entry xs i (omega arith)

module _ {m : Meaning} {l : Lent} {own later last : List Axiom} {cs : List Call} {hs ks : List Heard} (p : Run m l own cs hs later) (q : Run m l own cs ks last) where
  -- one more call that starts from the same own list
  one_step : (i : ℕ) (c : Call) (h k : Heard) → At cs hs i c h → At cs ks i c k → own_at own cs hs i ≡ own_at own cs ks i → SameHeard h k × (own_at own cs hs (suc i) ≡ own_at own cs ks (suc i))
  one_step i c h k a b e =
      call_one m l (own_at own cs ks i) c h k _ _ (tells (subst (λ o. Answered m l o c h (own_at own cs hs (suc i))) e (run_at p i c h a))) (tells (run_at q i c k b))

  same_own : (i : ℕ) → i ≤ length cs → own_at own cs hs i ≡ own_at own cs ks i
  same_own zero b = refl
  same_own (suc i) b =
      let c = entry cs i b in
      let h = entry hs i (let n = run_lengths p in omega arith) in
      let k = entry ks i (let n = run_lengths q in omega arith) in
      (one_step i c.0 h.0 k.0 (record { there = b; call = c.1; heard = h.1 }) (record { there = b; call = c.1; heard = k.1 }) (same_own i (omega arith))).1

  same_end : later ≡ last
  same_end =
      run_own p ∙ sym (whole hs (run_lengths p)) ∙ same_own (length cs) (omega arith) ∙ whole ks (run_lengths q) ∙ sym (run_own q)
    where
      whole : (gs : List Heard) → length cs ≡ length gs → own_at own cs gs (length cs) ≡ own_after own cs gs
      whole gs e = ap (λ ds. own_after own ds (take (length cs) gs)) (take_all (length cs) cs (omega arith)) ∙ ap (own_after own cs) (take_all (length cs) gs (omega arith))

pub one_run : OneRun
one_run m l own later last cs hs ks p q = (
  (let x = run_lengths p in let y = run_lengths q in omega arith),
  (λ i c h k a b. (one_step p q i c h k a b (same_own p q i (let z = a.there in omega arith))).0),
  same_end p q,
)
