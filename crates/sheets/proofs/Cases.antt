-- A result by its two cases.
use Rattle.std.proofs.Common.{◌≡◌, Result, Ok, Err, refl}
use Rattle.std.specs.Result.{MatchResult}

pub by_result : {T E G : Type 0} {P : T → Type 0} {Q : E → Type 0} (r : Result T E) → ((x : T) → r ≡ Ok x → P x → G) → ((e : E) → r ≡ Err e → Q e → G) → MatchResult r P Q → G
by_result (Ok x) f g m = f x refl m
by_result (Err e) f g m = g e refl m
