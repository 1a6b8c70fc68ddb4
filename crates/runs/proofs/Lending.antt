-- An ask with as much of the lent tables as it brings.
use Rattle.std.proofs.Common.{◌≡◌, ℕ, min, List, ◌++◌, length, take, drop, Some, None, Ok, Err, Option, Result, sym, ap, ◌∙◌, subst, ⊎_elim, append-nil, arith, length-take, take_all}
use lib.Seq.{take-append_seam}
use Rattle.std.proofs.lemmas.List.{drop_all}
use Rattle.std.proofs.lemmas.Slice.{drop-append-drop}
use Rattle.std.proofs.lemmas.Bool.{cases_lt}
use Rattle.terms.specs.Refusals.{Told, told, Answers}
use Rattle.terms.specs.declared.class_set.ClassSet.{ClassSet}
use Rattle.terms.specs.declared.refusals.Fault.{Fault}
use Rattle.sources.specs.Meanings.{Meaning}
use Rattle.tables.specs.declared.records.ContextRecord.{ContextRecord}
use Rattle.tables.specs.declared.records.ClauseRecord.{ClauseRecord}
use Rattle.reasoner.specs.Asks.{in_ask, goal_of, ask_checks, RoomOf, Right, TablesAfter, ModelAfter}
use Rattle.reasoner.specs.declared.answer.Answer.{Answer}
use Rattle.reasoner.specs.declared.answer.Answer.TheVariants.{Nothing, Something}
use Rattle.runs.specs.Calls.{words_of, Brings, PlainAsk, ShowsWorld, ShownAsk}
use Rattle.runs.specs.declared.run_tables.RunTables.{RunTables}
use Rattle.runs.specs.Tables.{slots, room_of, ModelLeft, AskLeaves}

-- so many slots are lent
lent_slots : {X : Type 0} (k r : ℕ) (xs : List X) → r ≡ min k (length xs) → length (take r xs) ≡ min k (length xs)
lent_slots k r xs e = length-take r xs ∙ (omega (arith, e))

module _ (b : Meaning) (l : RunTables) (P N : ClassSet) (k j : ℕ) {n o : ℕ} (few : n ≡ min k (length l.contexts.now)) (some : o ≡ min j (length l.clauses.now)) where
  -- what an ask tells that is lent x context slots, y clause slots and so many words
  abbrev pub Tells : ℕ → ℕ → Option ℕ → Option ℕ → Told Answer → Type 0
  Tells x y lent_words words t = Answers (ask_checks b P N x y (RoomOf b x lent_words)) 0 in_ask (λ a. Right b.axioms P N a × Brings words a) t

  pub plain_ask : (words : Option ℕ) (t : Told Answer) → Tells (length (take n l.contexts.now)) (length (take o l.clauses.now)) (words_of (room_of l) words) words t → PlainAsk b (room_of l) P N k j words t
  plain_ask words t h =
      subst (λ z. Tells (min k (length l.contexts.now)) z (words_of (room_of l) words) words t) (lent_slots j o l.clauses.now some)
      (subst (λ z. Tells z (length (take o l.clauses.now)) (words_of (room_of l) words) words t) (lent_slots k n l.contexts.now few) h)

  pub plain_ask_model : (w : ℕ) (t : Told Answer) {m : ℕ} → m ≡ min w (length l.model.now)
      → Tells (length (take n l.contexts.now)) (length (take o l.clauses.now)) (Some (length (take m l.model.now))) (Some w) t → PlainAsk b (room_of l) P N k j (Some w) t
  plain_ask_model w t {m} e h =
      plain_ask (Some w) t (subst (λ z. Tells (length (take n l.contexts.now)) (length (take o l.clauses.now)) (Some z) (Some w) t) (lent_slots w m l.model.now e) h)

-- what is lent of a table where n is as many of its slots as k allows, and ys is what stands in them afterwards
module _ {X : Type 0} (k : ℕ) (xs : List X) (n : ℕ) (few : n ≡ min k (length xs)) where
  pub lent_front : take n xs ≡ take k xs
  lent_front = ⊎_elim (λ l. ap (λ i. take i xs) (omega arith)) (λ l. take_all n xs (omega arith) ∙ sym (take_all k xs (omega arith))) (cases_lt k (length xs))

  pub lent_part : (ys : List X) → length ys ≡ n → take k (ys ++ drop n xs) ≡ ys
  lent_part ys e = ⊎_elim
      (λ l. let z : n ≡ k = omega arith in ap (λ i. take i (ys ++ drop n xs)) (sym z ∙ sym e) ∙ take-append_seam ys (drop n xs))
      (λ l. ap (λ zs. take k (ys ++ zs)) (drop_all n xs (omega arith)) ∙ ap (take k) (append-nil ys) ∙ take_all k ys (omega arith))
      (cases_lt k (length xs))

  pub lent_rest : (ys : List X) → length ys ≡ n → drop k (ys ++ drop n xs) ≡ drop k xs
  lent_rest ys e = drop-append-drop n xs ys k (omega (arith, few)) e

-- what an ask promises of what it was lent, said of the whole tables
pub ask_left : (b : Meaning) (P N : ClassSet) (k j : ℕ) (words : Option ℕ) (t : Told Answer) (xs : List ContextRecord) (ys : List ClauseRecord) (zs ws : List ℕ) (n o : ℕ) (us : List ContextRecord) (vs : List ClauseRecord)
    → n ≡ min k (length xs) → o ≡ min j (length ys) → length us ≡ length (take n xs) → length vs ≡ length (take o ys) → TablesAfter b.axioms (goal_of P N) (take n xs) (take o ys) us vs t → ModelLeft b P N words t zs ws
    → AskLeaves b P N k j words t (slots xs ys zs) (slots (us ++ drop n xs) (vs ++ drop o ys) ws)
ask_left b P N k j words t xs ys zs ws n o us vs few some sx sy h m =
    let lx = sx ∙ lent_slots k n xs few ∙ sym few in
    let ly = sy ∙ lent_slots j o ys some ∙ sym some in
    record {
      tables =
          let u = us ++ drop n xs in
          let v = vs ++ drop o ys in
          let G = goal_of P N in
          subst (λ z. TablesAfter b.axioms G z (take j ys) (take k u) (take j v) t) (lent_front k xs n few)
          (subst (λ z. TablesAfter b.axioms G (take n xs) z (take k u) (take j v) t) (lent_front j ys o some)
          (subst (λ z. TablesAfter b.axioms G (take n xs) (take o ys) z (take j v) t) (sym (lent_part k xs n few us lx))
          (subst (λ z. TablesAfter b.axioms G (take n xs) (take o ys) us z t) (sym (lent_part j ys o some vs ly)) h)));
      other_contexts = lent_rest k xs n few us lx;
      other_clauses = lent_rest j ys o some vs ly;
      model = m;
    }

pub model_left : (b : Meaning) (P N : ClassSet) (w : ℕ) (t : Told Answer) (zs : List ℕ) (n : ℕ) (ws : List ℕ) → n ≡ min w (length zs) → length ws ≡ length (take n zs) → ModelAfter b P N (take n zs) ws t → ModelLeft b P N (Some w) t zs (ws ++ drop n zs)
model_left b P N w t zs n ws few s h =
    let l = s ∙ lent_slots w n zs few ∙ sym few in
    (subst (λ z. ModelAfter b P N z (take w (ws ++ drop n zs)) t) (lent_front w zs n few) (subst (λ z. ModelAfter b P N (take n zs) z t) (sym (lent_part w zs n few ws l)) h), lent_rest w zs n few ws l)

pub shown_ask : (b : Meaning) (P N : ClassSet) (w : ℕ) (r : Result Answer Fault) (before whole : List ℕ) {after : List ℕ} → take w whole ≡ after → ModelAfter b P N before after (told r) → ShownAsk b P N (Some w) r whole
shown_ask b P N w (Ok (Nothing counts)) before whole e h = tt
shown_ask b P N w (Ok (Something counts None)) before whole e h = tt
shown_ask b P N w (Ok (Something counts (Some n))) before whole e h =
    subst (λ zs. ShowsWorld b.axioms b.roles P N counts n zs) (sym e) (record { some_element = h.some_element; few = h.few; obeys = h.obeys; held = h.held; denied = h.denied })
shown_ask b P N w (Err f) before whole e h = tt
