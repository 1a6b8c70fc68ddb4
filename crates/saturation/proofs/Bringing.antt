-- A conclusion that is the only one: entering it and its context brings all.
use Rattle.std.proofs.Common.{◌≡◌, ℕ, ◌⊎◌, Result, sym, subst, inr, ⊎_elim}
use Rattle.closure.specs.Closures.{Context, plain, toward, Clause, clause}
use Rattle.tables.specs.Tables.{Tables, Member, a_context, a_clause}
use Rattle.tables.specs.Adding.{Ends}
use Rattle.tables.specs.declared.entering.Full.{Full}
use Rattle.tables.proofs.Additions.{ends_as}
use Rattle.saturation.specs.Conclusions.{Brings, Brought}

module _ {R : Clause → Type 0} (d : Clause) (one : (c : Clause) → R c → c ≡ d) where
  brought_brings : (m : Member) → Brought R m → Brings d m
  brought_brings m b = subst (λ c. Brings c m) (one b.by b.follows) b.brings

  -- a clause with a role part, entered with its context
  pub enters_one : {X : Type 0} (s u : Tables) (r : Result X Full) {H K : Context} {D p : ℕ} → d ≡ clause H D (toward p K) → R d
      → Ends (λ m. (m ≡ a_context K) ⊎ (m ≡ a_clause (clause H D (toward p K)))) s u r → Ends (Brought R) s u r
  enters_one s u r e follows p =
      ends_as s u r p (λ m b. subst (λ c. Brings c m) e (brought_brings m b)) (λ m w. record { by = d; follows = follows; brings = subst (λ c. Brings c m) (sym e) w })

  -- a clause without one
  pub enters_plain : {X : Type 0} (s u : Tables) (r : Result X Full) {H : Context} {D : ℕ} → d ≡ clause H D plain → R d
      → Ends (λ m. m ≡ a_clause (clause H D plain)) s u r → Ends (Brought R) s u r
  enters_plain s u r e follows p =
      ends_as s u r p (λ m b. ⊎_elim absurd (λ q. q) (subst (λ c. Brings c m) e (brought_brings m b))) (λ m w. record { by = d; follows = follows; brings = subst (λ c. Brings c m) (sym e) (inr w) })
