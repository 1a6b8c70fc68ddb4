-- Reading a kind of refusal back from its number.
use Rattle.std.specs.Prelude.{◌≡◌, ℕ, Result, MatchResult, ◌≢◌}
use Rattle.terms.specs.declared.refusals.Refusal.{Refusal}
use Rattle.terms.specs.declared.refusals.UnknownNumber.{UnknownNumber}
use Rattle.terms.specs.Refusals.{number}

-- the kind that has the number, or an error with a number that no kind has
abbrev pub Numbered : ℕ → Result Refusal UnknownNumber → Type 0
Numbered n r = MatchResult r (λ kind. number kind ≡ n) (λ e. (e.0 ≡ n) × ((kind : Refusal) → number kind ≢ n))
