use Rattle.std.proofs.Common.{◌≡◌, ℕ, ◌<◌, get_or}
use Rattle.terms.specs.Axioms.{blank}
use Rattle.reasoner.proofs.loading.load.Given as goal

abbrev pub invariant-loop-number : goal.invariant-loop-number
invariant-loop-number g l = (j : ℕ) → j < l.number → get_or l.slot-items j blank ≡ get_or (g.S.Source.meaning l.source).axioms j blank
