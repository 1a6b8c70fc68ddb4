-- What a call told, where its refusal is turned into another by `map_err`.
use Rattle.std.proofs.Common.{◌≡◌, Ok, Err, Result, MatchResult, sym, refl, ◌∙◌, subst}
use Rattle.std.specs.Result.{IsErrAnd}

module _ {T E F : Type 0} (R : E → F → Type 0) where
  -- what is told in the end was told
  pub kept : {r : Result T E} {s : Result T F} → MatchResult r (λ x. s ≡ Ok x) (λ e. IsErrAnd s (R e)) → (x : T) → s ≡ Ok x → r ≡ Ok x
  kept {r} {s} = go r
    where
      go : (r : Result T E) → MatchResult r (λ x. s ≡ Ok x) (λ e. IsErrAnd s (R e)) → (x : T) → s ≡ Ok x → r ≡ Ok x
      go (Ok y) h x e = let same : ◌≡◌ {A = Result T F} (Ok y) (Ok x) = sym h ∙ e in cc
      go (Err y) h x e = absurd (subst (λ t. IsErrAnd t (R y)) e h)

  -- and what is refused in the end was refused
  pub turned : {r : Result T E} {s : Result T F} → MatchResult r (λ x. s ≡ Ok x) (λ e. IsErrAnd s (R e)) → (f : F) → s ≡ Err f → (e : E) × (r ≡ Err e) × R e f
  turned {r} {s} = go r
    where
      go : (r : Result T E) → MatchResult r (λ x. s ≡ Ok x) (λ e. IsErrAnd s (R e)) → (f : F) → s ≡ Err f → (e : E) × (r ≡ Err e) × R e f
      go (Ok y) h f e = let same : ◌≡◌ {A = Result T F} (Ok y) (Err f) = sym h ∙ e in cc
      go (Err y) h f e = (y, refl, subst (λ t. IsErrAnd t (R y)) e h)
