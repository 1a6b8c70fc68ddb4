-- The law, of every run: by going from its end to its beginning.
use Rattle.std.proofs.Common.{◌≡◌, ℕ, suc, ◌+◌, ◌<◌, ◌≤◌, min, ◌⊎◌, ◌↔◌, List, [], ◌∷◌, ◌++◌, length, get_or, take, None, Ok, Err, Option, Result, sym, refl, ap, ◌∙◌, subst, inl, inr, ⊎_elim, append_assoc, append-nil, arith, length-append, take_all}
use lib.Seq.{take-append-le, take-append_seam}
use Rattle.std.proofs.lemmas.List.{get_or_append_left, get_or-append-add}
use Rattle.std.proofs.lemmas.Bool.{cases_lt}
use Rattle.terms.specs.Refusals.{Told, done, refused, told, Passes, FirstFailing, Answers}
use Rattle.terms.specs.declared.class_set.ClassSet.{ClassSet}
use Rattle.terms.specs.declared.axioms.Axiom.{Axiom}
use Rattle.terms.specs.declared.refusals.Fault.{Fault}
use Rattle.sources.specs.Meanings.{Meaning}
use Rattle.worlds.specs.Worlds as Of
use Rattle.worlds.specs.Worlds.{Obeys, Possible}
use Rattle.reasoner.specs.Asks.{in_ask, goal_of, FitsInto, admit_checks, ask_checks, RoomOf}
use Rattle.reasoner.specs.declared.answer.Answer.{Answer}
use Rattle.book.specs.Books.{standing, book_meaning}
use Rattle.runs.specs.declared.calls.Call.{Call}
use Rattle.runs.specs.declared.calls.Call.TheVariants as call
use Rattle.runs.specs.declared.calls.Heard.{Heard}
use Rattle.runs.specs.declared.calls.Heard.TheVariants as heard
use Rattle.runs.specs.Calls.{Lent, words_of, PlainAsk, Answered, strikes, adds, amends, asks, audits_model, audits_entries, Run, no_calls, one_more, ShownBy}
use Rattle.runs.specs.Law.{later_of, own_after, own_at, At, Audits, a_model, entries, Lawful}

-- one more call, on a book over a source that means n
pub run_on : {m n : Meaning} {l : Lent} {own later last : List Axiom} {c : Call} {h : Heard} {cs ds : List Call} {hs ks : List Heard} → ds ≡ cs ++ c ∷ [] → ks ≡ hs ++ h ∷ []
    → n ≡ m → Run m l own cs hs later → Answered n l later c h last → Run m l own ds ks last
run_on {m} {n} {l} {own} {later} {last} {c} {h} {cs} {ds} {hs} {ks} p q e r a =
    subst (λ zs. Run m l own zs ks last) (sym p) (subst (λ zs. Run m l own (cs ++ c ∷ []) zs last) (sym q) (one_more later last c h cs hs r (subst (λ x. Answered x l later c h last) e a)))

-- tables of the same sizes
pub answered_lent : {m : Meaning} {l n : Lent} {own later : List Axiom} {c : Call} {h : Heard} → l.contexts ≡ n.contexts → l.clauses ≡ n.clauses → l.words ≡ n.words → Answered m l own c h later → Answered m n own c h later
answered_lent {m} {l} {n} {own} {later} {c} {h} a b d p = subst (λ z. Answered m z own c h later) (λ i. record { contexts = a i; clauses = b i; words = d i }) p

-- the own list after a call is the one that the call and what was heard make
pub answered_later : {m : Meaning} {l : Lent} {own : List Axiom} {c : Call} {h : Heard} {later : List Axiom} → Answered m l own c h later → later ≡ later_of own c h
answered_later (strikes i (Ok u) later p) = p.list
answered_later (strikes i (Err f) later p) = p.list
answered_later (adds a (Ok u) later p) = p.list
answered_later (adds a (Err f) later p) = p.list
answered_later (amends i a (Ok u) later p) = p.list
answered_later (amends i a (Err f) later p) = p.list
answered_later (asks P N k j words r p) = refl
answered_later (audits_model words roles size r p) = refl
answered_later (audits_entries classes links r p) = refl

-- ---- runs and their lists

split_last : (i n : ℕ) → i < n + 1 → (i < n) ⊎ (i ≡ n)
split_last i n l = ⊎_elim (λ b. inl b) (λ g. inr (omega arith)) (cases_lt i n)

pub run_lengths : {m : Meaning} {l : Lent} {own later : List Axiom} {cs : List Call} {hs : List Heard} → Run m l own cs hs later → length cs ≡ length hs
run_lengths no_calls = refl
run_lengths (one_more later last c h cs hs r a) = length-append cs (c ∷ []) ∙ (let e = run_lengths r in ap (λ n. n + 1) e) ∙ sym (length-append hs (h ∷ []))

after_more : (own : List Axiom) (cs : List Call) (hs : List Heard) (c : Call) (h : Heard) → length cs ≡ length hs → own_after own (cs ++ c ∷ []) (hs ++ h ∷ []) ≡ later_of (own_after own cs hs) c h
after_more own [] [] c h e = refl
after_more own [] (k ∷ hs) c h e = absurd (omega arith)
after_more own (d ∷ cs) [] c h e = absurd (omega arith)
after_more own (d ∷ cs) (k ∷ hs) c h e = after_more (later_of own d k) cs hs c h (let z = e in omega arith)

pub run_own : {m : Meaning} {l : Lent} {own later : List Axiom} {cs : List Call} {hs : List Heard} → Run m l own cs hs later → later ≡ own_after own cs hs
run_own no_calls = refl
run_own {own = own} (one_more later last c h cs hs r a) = answered_later a ∙ ap (λ o. later_of o c h) (run_own r) ∙ sym (after_more own cs hs c h (run_lengths r))

-- the lists before one more call
at_left : {cs : List Call} {hs : List Heard} (c : Call) (h : Heard) {d : Call} {k : Heard} {i : ℕ} → length cs ≡ length hs → i < length cs → At (cs ++ c ∷ []) (hs ++ h ∷ []) i d k → At cs hs i d k
at_left {cs} {hs} c h {d} {k} {i} e l a = record {
  there = l;
  call = λ z. sym (get_or_append_left cs (c ∷ []) z i l) ∙ a.call z;
  heard = λ z. sym (get_or_append_left hs (h ∷ []) z i (omega arith)) ∙ a.heard z;
}

-- the own list when one of the calls before was made
own_left : (own : List Axiom) (cs : List Call) (hs : List Heard) (c : Call) (h : Heard) (i : ℕ) → length cs ≡ length hs → i ≤ length cs → own_at own (cs ++ c ∷ []) (hs ++ h ∷ []) i ≡ own_at own cs hs i
own_left own cs hs c h i e l =
    ap (λ ds. own_after own ds (take i (hs ++ h ∷ []))) (take-append-le i cs (c ∷ []) l) ∙ ap (λ ks. own_after own (take i cs) ks) (take-append-le i hs (h ∷ []) (omega arith))

-- and when the last was
pub own_last : (own : List Axiom) (cs : List Call) (hs : List Heard) (c : Call) (h : Heard) → length cs ≡ length hs → own_at own (cs ++ c ∷ []) (hs ++ h ∷ []) (length cs) ≡ own_after own cs hs
own_last own cs hs c h e =
    ap (λ ds. own_after own ds (take (length cs) (hs ++ h ∷ []))) (take-append_seam cs (c ∷ [])) ∙ ap (λ n. own_after own cs (take n (hs ++ h ∷ []))) e ∙ ap (λ ks. own_after own cs ks) (take-append_seam hs (h ∷ []))

own_all : (own : List Axiom) (cs : List Call) (hs : List Heard) (c : Call) (h : Heard) → length cs ≡ length hs → own_at own (cs ++ c ∷ []) (hs ++ h ∷ []) (suc (length cs)) ≡ own_after own (cs ++ c ∷ []) (hs ++ h ∷ [])
own_all own cs hs c h e =
    ap (λ ds. own_after own ds (take (suc (length cs)) (hs ++ h ∷ []))) (take_all (suc (length cs)) (cs ++ c ∷ []) (omega (arith, length-append cs (c ∷ []))))
    ∙ ap (λ ks. own_after own (cs ++ c ∷ []) ks) (take_all (suc (length cs)) (hs ++ h ∷ []) (omega (arith, length-append hs (h ∷ []))))

answered_as : {m : Meaning} {l : Lent} {c d : Call} {h k : Heard} {own own' later later' : List Axiom} → c ≡ d → h ≡ k → own ≡ own' → later ≡ later' → Answered m l own c h later → Answered m l own' d k later'
answered_as {m} {l} {c} {d} {h} {k} {own} {own'} {later} {later'} e f o p a =
    subst (λ z. Answered m l own' d k z) p (subst (λ z. Answered m l z d k later) o (subst (λ z. Answered m l own d z later) f (subst (λ z. Answered m l own z h later) e a)))

pub run_at : {m : Meaning} {l : Lent} {own later : List Axiom} {cs : List Call} {hs : List Heard} → Run m l own cs hs later → (i : ℕ) (c : Call) (h : Heard) → At cs hs i c h → Answered m l (own_at own cs hs i) c h (own_at own cs hs (suc i))
run_at no_calls i c h a = absurd (let b = a.there in omega arith)
run_at {m} {l} {own} (one_more later last d k cs hs r w) i c h a = ⊎_elim
    (λ b. answered_as refl refl (sym (own_left own cs hs d k i (run_lengths r) (omega arith))) (sym (own_left own cs hs d k (suc i) (run_lengths r) (omega arith))) (run_at r i c h (at_left d k (run_lengths r) b a)))
    (λ b. answered_as
    (sym (get_or-append-add cs (d ∷ []) 0 d) ∙ ap (λ n. get_or (cs ++ d ∷ []) n d) (omega arith) ∙ a.call d)
    (sym (get_or-append-add hs (k ∷ []) 0 k) ∙ ap (λ n. get_or (hs ++ k ∷ []) n k) (let e = run_lengths r in omega arith) ∙ a.heard k)
    (run_own r ∙ sym (own_last own cs hs d k (run_lengths r)) ∙ ap (own_at own (cs ++ d ∷ []) (hs ++ k ∷ [])) (sym b))
    (run_own (one_more later last d k cs hs r w) ∙ sym (own_all own cs hs d k (run_lengths r)) ∙ ap (λ n. own_at own (cs ++ d ∷ []) (hs ++ k ∷ []) (suc n)) (sym b))
    w)
    (split_last i (length cs) (subst (λ n. i < n) (length-append cs (d ∷ [])) a.there))

-- ---- the law

ask_of : {m : Meaning} {l : Lent} {own later : List Axiom} {P N : ClassSet} {k j : ℕ} {words : Option ℕ} {r : Result Answer Fault} → Answered m l own (call.Ask P N k j words) (heard.Asked r) later → PlainAsk (book_meaning m own) l P N k j words (told r)
ask_of (asks P N k j words r p) = p

passed_of : {m : Meaning} {l : Lent} {own later : List Axiom} {c : Call} {w : Of.World} → Answered m l own c (heard.Audited (Ok None)) later → Audits c w → Obeys w (standing m own)
passed_of (audits_model words roles size r p) a_model = p.1
passed_of (audits_entries classes links r p) entries = p.1

full_of : (b : Meaning) (P N : ClassSet) (k l : ℕ) (room : Type 0) (Q : Answer → Type 0) (t : Told Answer) → Answers (ask_checks b P N k l room) 0 in_ask Q t → Passes (admit_checks b.classes P N k l room)
    → (t ≡ refused 23 0 in_ask) ↔ (FitsInto b.axioms (goal_of P N) k l → ⊥)
full_of b P N k l room Q t h p = (λ e. unfit (subst (λ z. Answers (ask_checks b P N k l room) 0 in_ask Q z) e h).0, fulls t h)
  where
    unfit : FirstFailing (ask_checks b P N k l room) 23 → FitsInto b.axioms (goal_of P N) k l → ⊥
    unfit (inl f) = absurd (let z = f.0 in omega arith)
    unfit (inr (q, inl f)) = absurd (let z = f.0 in omega arith)
    unfit (inr (q, inr (o, inl f))) = f.1
    unfit (inr (q, inr (o, inr f))) = absurd f.1

    fulls : (t : Told Answer) → Answers (ask_checks b P N k l room) 0 in_ask Q t → (FitsInto b.axioms (goal_of P N) k l → ⊥) → t ≡ refused 23 0 in_ask
    fulls (done a) h n = absurd (n h.0.1.1.0)
    fulls (refused x y z) h n = at h.0 h.1 h.2
      where
        at : FirstFailing (ask_checks b P N k l room) x → y ≡ 0 → z ≡ in_ask → ◌≡◌ {A = Told Answer} (refused x y z) (refused 23 0 in_ask)
        at (inl f) e g = absurd (f.1 p.0)
        at (inr (q, inl f)) e g = absurd (f.1 p.1.0)
        at (inr (q, inr (o, inl f))) e g = λ i. refused (f.0 i) (e i) (g i)
        at (inr (q, inr (o, inr f))) e g = absurd f.1

pub run_lawful : {m : Meaning} {l : Lent} {own later : List Axiom} {cs : List Call} {hs : List Heard} → Run m l own cs hs later → Lawful m l own cs hs
run_lawful {m} {l} {own} {later} {cs} {hs} r = record {
  plain = run_at r;
  verdicts = λ i P N k j words a at. (ask_of (run_at r i _ _ at)).1.0.worlds;
  none_stays = λ i n P N k j words counts c w at same later-at audits e b held denied.
      (ask_of (run_at r i _ _ at)).1.0.worlds (subst (λ axs. Possible axs P.bits N.bits) same (w, passed_of (run_at r n _ _ later-at) audits, e, b, held, denied));
  full = λ i P N k j words x at p. full_of (book_meaning m (own_at own cs hs i)) P N (min k l.contexts) (min j l.clauses) (RoomOf m (min k l.contexts) (words_of l words)) _ (told x) (ask_of (run_at r i _ _ at)) p;
}

-- ---- nothing is left open, and runs join

pub run_joined : {m : Meaning} {l : Lent} {own later last : List Axiom} {cs ds : List Call} {hs ks : List Heard} → Run m l own cs hs later → Run m l later ds ks last → Run m l own (cs ++ ds) (hs ++ ks) last
run_joined {m} {l} {own} {later} {cs = cs} {hs = hs} p no_calls = subst (λ zs. Run m l own zs (hs ++ []) later) (sym (append-nil cs)) (subst (λ zs. Run m l own cs zs later) (sym (append-nil hs)) p)
run_joined {m} {l} {own} {cs = cs} {hs = hs} p (one_more mid last c h ds ks q a) =
    subst (λ zs. Run m l own zs (hs ++ (ks ++ h ∷ [])) last) (append_assoc cs ds (c ∷ []))
    (subst (λ zs. Run m l own ((cs ++ ds) ++ c ∷ []) zs last) (append_assoc hs ks (h ∷ [])) (one_more mid last c h (cs ++ ds) (hs ++ ks) (run_joined p q) a))

-- the law, of a book that is new
pub lawful_new : {m n : Meaning} {l : Lent} {own later : List Axiom} {cs ds : List Call} {hs ks : List Heard} → n ≡ m → own ≡ [] → cs ≡ ds → hs ≡ ks → Run n l own cs hs later → Lawful m l [] ds ks
lawful_new {m} {n} {l} {own} {later} {cs} {ds} {hs} {ks} p q r o x =
    run_lawful (subst (λ z. Run m l [] ds z later) o (subst (λ z. Run m l [] z hs later) r (subst (λ z. Run m l z cs hs later) q (subst (λ z. Run z l own cs hs later) p x))))

-- an ask leaves the own list, so what its table shows is so of the book as it is afterwards
pub shown_after : (m : Meaning) (l : Lent) (own later : List Axiom) (c : Call) (h : Heard) (model : List ℕ) → Answered m l own c h later → ShownBy (book_meaning m own) c h model → ShownBy (book_meaning m later) c h model
shown_after m l own later c h model (strikes i r later' p) s = tt
shown_after m l own later c h model (adds a r later' p) s = tt
shown_after m l own later c h model (amends i a r later' p) s = tt
shown_after m l own later c h model (asks P N k j words r p) s = s
shown_after m l own later c h model (audits_model words roles size r p) s = tt
shown_after m l own later c h model (audits_entries classes links r p) s = tt
