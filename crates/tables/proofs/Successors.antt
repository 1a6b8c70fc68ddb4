-- A clause with a role part, entered after the context that the role part is toward.
use Rattle.std.proofs.Common.{◌≡◌, ℕ, ◌<◌, ◌⊎◌, Some, Result, sym, ap, ◌∙◌, inl, inr, ⊎_elim, arith}
use Rattle.terms.specs.declared.class_set.ClassSet.{ClassSet}
use Rattle.closure.specs.Closures.{toward, clause}
use Rattle.tables.specs.declared.records.ContextRecord.{ContextRecord}
use Rattle.tables.specs.declared.records.ClauseRecord.{ClauseRecord}
use Rattle.tables.specs.declared.entering.Full.{Full}
use Rattle.tables.specs.Entering.{Entered}
use Rattle.tables.specs.declared.members.Counts.{Counts}
use Rattle.tables.specs.Tables.{Tables, Member, a_context, a_clause, blank, context_of, context_in, clause_of, Cites, Good}
use Rattle.tables.specs.Adding.{Adds, Ends, Enters}
use Rattle.tables.proofs.Meanings.{context_in_kept}
use Rattle.tables.proofs.Additions.{ends_then, enters_then}

module _ {s v : Tables} {x : ContextRecord} {slot : ℕ}
    (first : Adds (λ m. m ≡ a_context (context_of x)) s v) (entered : Entered s.contexts s.used.contexts x v.contexts slot v.used.contexts)
    (h : ℕ) (below : h < s.used.contexts) (D : ClassSet) (p : ℕ) where
  abbrev made : ClauseRecord
  made = record { context = h; classes = D; part = Some (record { role = p; context = slot }) }

  made_means : clause_of v.contexts made ≡ clause (context_in s.contexts h) D.bits (toward p (context_of x))
  made_means =
      let a = context_in_kept first.grows.contexts.kept h below in
      let b = ap context_of (entered.there.is blank) in
      λ i. record { of = a i; classes = D.bits; part = toward p (b i) }

  made_cites : Cites v.used.contexts made
  made_cites = (omega (arith, below, first.grows.contexts.more), entered.below)

  -- the two members that are entered, the clause as the context it cites tells it
  abbrev Both : Member → Type 0
  Both m = (m ≡ a_context (context_of x)) ⊎ (m ≡ a_clause (clause (context_in s.contexts h) D.bits (toward p (context_of x))))

  split : (m : Member) → Both m → (m ≡ a_context (context_of x)) ⊎ (m ≡ a_clause (clause_of v.contexts made))
  split m e = ⊎_elim inl (λ q. inr (q ∙ ap a_clause (sym made_means))) e

  second : (m : Member) → m ≡ a_clause (clause_of v.contexts made) → Both m
  second m e = inr (e ∙ ap a_clause made_means)

  pub ends_toward : {X : Type 0} (u : Tables) (r : Result X Full) → Ends (λ m. m ≡ a_clause (clause_of v.contexts made)) v u r → Ends Both s u r
  ends_toward u r enters = ends_then s u r first enters split (λ m e. inl e) second

  pub enters_toward : (u : Counts → Tables) (r : Result Counts Full) → (Good v → Cites v.used.contexts made → Enters (λ m. m ≡ a_clause (clause_of v.contexts made)) v u r) → Enters Both s u r
  enters_toward u r enters = enters_then u r first (enters first.grows.good made_cites) split (λ m e. inl e) second
