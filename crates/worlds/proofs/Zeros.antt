-- A list of one value reads that value everywhere.
use Rattle.std.proofs.Common.{◌≡◌, ℕ, get_or, replicate, inl, inr, arith}
use Rattle.std.proofs.lemmas.List.{length-replicate, get_or-replicate, get_or_past}
use Rattle.std.proofs.lemmas.Bool.{cases_lt}

pub all_alike : {A : Type 0} (n j : ℕ) (a : A) → get_or (replicate n a) j a ≡ a
all_alike n j a = elim (cases_lt j n) [ inl l ↦ get_or-replicate n j a a l | inr h ↦ get_or_past (replicate n a) j a (omega (arith, length-replicate n a)) ]
