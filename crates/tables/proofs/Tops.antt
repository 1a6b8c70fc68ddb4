-- The head of a record.
use Rattle.std.proofs.Common.{◌≡◌, ℕ, zero, ◌<◌, Some, None, Option, subst, refl, sym, false, MatchOption}
use Rattle.std.specs.Option.{is_some}
use Rattle.std.proofs.lemmas.Bool.{both_ways}
use Rattle.terms.specs.Sets.{Has, Highest}
use Rattle.terms.proofs.Masks.{zero_none}
use Rattle.tables.specs.declared.records.ClauseRecord.{ClauseRecord}
use Rattle.tables.specs.Records.{Tops}

-- without role part, it is the highest class where there is one
pub lone_top : (x : ClauseRecord) (r : Option ℕ) → false ≡ is_some x.part → MatchOption r (x.classes.bits ≡ zero) (λ a. Highest x.classes.bits a × (a < 64))
    → MatchOption r ((a : ℕ) → Tops x a → ⊥) (λ a. Tops x a × (a < 64))
lone_top x None n z = λ a t. zero_none a (subst (λ s. Has s a) z t.highest.0)
lone_top x (Some a) n h = (record { lonely = gone x.part n; highest = h.0 }, h.1)
  where
    gone : {A : Type 0} (o : Option A) → false ≡ is_some o → o ≡ None
    gone None e = refl
    gone (Some a) e = absurd (both_ways _ (sym e) refl)
