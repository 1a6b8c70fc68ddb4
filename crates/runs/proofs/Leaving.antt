-- What a run leaves in its tables.
use Rattle.std.proofs.Common.{◌≡◌, ◌+◌, List, [], ◌∷◌, ◌++◌, length, get_or, take, Some, None, sym, refl, ap, ◌∙◌, subst, arith, length-append}
use Rattle.std.proofs.lemmas.List.{get_or-append-add}
use Rattle.terms.specs.declared.axioms.Axiom.{Axiom}
use Rattle.sources.specs.Meanings.{Meaning}
use Rattle.book.specs.Books.{book_meaning}
use Rattle.runs.specs.declared.calls.Call.{Call}
use Rattle.runs.specs.declared.calls.Call.TheVariants as call
use Rattle.runs.specs.declared.calls.Heard.{Heard}
use Rattle.runs.specs.declared.calls.Heard.TheVariants as heard
use Rattle.runs.specs.Calls.{Lent, Run, ShownBy}
use Rattle.runs.specs.Law.{own_after, own_at, LastShown}
use Rattle.runs.specs.declared.run_tables.RunTables.{RunTables}
use Rattle.runs.specs.Tables.{SameTables, Slots, Leaves, Left, as_found, by_one_more}
use Rattle.runs.proofs.Lending.{shown_ask}
use Rattle.runs.proofs.Running.{run_own, own_last}

-- what a call leaves in the model table shows what it has to
pub leaves_shown : (b : Meaning) (c : Call) (h : Heard) (s u : Slots) → Leaves b c h s u → ShownBy b c h u.model
leaves_shown b (call.Ask P N k j None) (heard.Asked r) s u x = tt
leaves_shown b (call.Ask P N k j (Some w)) (heard.Asked r) s u x = shown_ask b P N w r (take w s.model) u.model refl x.model.0
leaves_shown b (call.Ask P N k j words) (heard.Changed r) s u x = tt
leaves_shown b (call.Ask P N k j words) (heard.Audited r) s u x = tt
leaves_shown b (call.Strike i) h s u x = tt
leaves_shown b (call.Add a) h s u x = tt
leaves_shown b (call.Amend i a) h s u x = tt
leaves_shown b (call.AuditModel words roles size) h s u x = tt
leaves_shown b (call.AuditEntries classes links) h s u x = tt

pub still_same : {t u v : RunTables} → SameTables u v → SameTables t u → SameTables t v
still_same a b = record {
  contexts = a.contexts ∙ b.contexts;
  clauses = a.clauses ∙ b.clauses;
  model = a.model ∙ b.model;
  sizes = (a.sizes.0 ∙ b.sizes.0, a.sizes.1 ∙ b.sizes.1, a.sizes.2 ∙ b.sizes.2);
}

module _ (Between : Slots → Slots → Type 0) where
  left_lengths : {m : Meaning} {own : List Axiom} {s u : Slots} {cs : List Call} {hs : List Heard} → Left Between m own s cs hs u → length cs ≡ length hs
  left_lengths as_found = refl
  left_lengths (by_one_more u v w c h cs hs x b y) = length-append cs (c ∷ []) ∙ ap (λ n. n + 1) (left_lengths x) ∙ sym (length-append hs (h ∷ []))

  -- one more call, where n is what the book means then
  pub left_on : {m n : Meaning} {l : Lent} {own later : List Axiom} {s u v w : Slots} (c : Call) (h : Heard) {cs ds : List Call} {hs ks : List Heard} → ds ≡ cs ++ c ∷ [] → ks ≡ hs ++ h ∷ []
      → n ≡ book_meaning m later → Run m l own cs hs later → Left Between m own s cs hs u → Between u v → Leaves n c h v w → Left Between m own s ds ks w
  left_on {m} {n} {l} {own} {later} {s} {u} {v} {w} c h {cs} {ds} {hs} {ks} p q e r x b y =
      subst (λ zs. Left Between m own s zs ks w) (sym p) (subst (λ zs. Left Between m own s (cs ++ c ∷ []) zs w) (sym q)
      (by_one_more u v w c h cs hs x b (subst (λ z. Leaves z c h v w) (e ∙ ap (book_meaning m) (run_own r)) y)))

  -- the last call, if it is an ask with a model table, shows what it has to
  pub left_shown : {m : Meaning} {own : List Axiom} {s u : Slots} {cs : List Call} {hs : List Heard} → Left Between m own s cs hs u → LastShown m own cs hs u.model
  left_shown as_found i c h e a = absurd (omega arith)
  left_shown {m} {own} {s} {u} (by_one_more t v w d k cs hs x b y) i c h e a =
      let same = left_lengths x in
      let n : i ≡ length cs = omega (arith, length-append cs (d ∷ [])) in
      let p = sym (get_or-append-add cs (d ∷ []) 0 d) ∙ ap (λ o. get_or (cs ++ d ∷ []) o d) (omega arith) ∙ a.call d in
      let q = sym (get_or-append-add hs (k ∷ []) 0 k) ∙ ap (λ o. get_or (hs ++ k ∷ []) o k) (omega arith) ∙ a.heard k in
      let o = ap (book_meaning m) (sym (own_last own cs hs d k same) ∙ ap (own_at own (cs ++ d ∷ []) (hs ++ k ∷ [])) (sym n)) in
      subst (λ z. ShownBy z c h u.model) o (subst (λ z. ShownBy (book_meaning m (own_after own cs hs)) c z u.model) q (subst (λ z. ShownBy (book_meaning m (own_after own cs hs)) z k u.model) p (leaves_shown _ d k v u y)))

  -- on a book that is new
  pub left_new : {m n : Meaning} {own : List Axiom} {s u : Slots} {cs ds : List Call} {hs ks : List Heard} → n ≡ m → own ≡ [] → cs ≡ ds → hs ≡ ks → Left Between n own s cs hs u → Left Between m [] s ds ks u
  left_new {m} {n} {own} {s} {u} {cs} {ds} {hs} {ks} p q r o x =
      subst (λ z. Left Between m [] s ds z u) o (subst (λ z. Left Between m [] s z hs u) r (subst (λ z. Left Between m z s cs hs u) q (subst (λ z. Left Between z own s cs hs u) p x)))
