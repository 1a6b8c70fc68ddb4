use Rattle.std.proofs.Common.{◌≡◌, ℕ, ◌∙◌, arith, below_more}
use Rattle.tables.proofs.entering.find.Goals as goal

pub loop-i-preserved : goal.loop-i-preserved
loop-i-preserved g c =
    below_more _ _ c.loop-i.invariant (λ h. let e = c.if-same.ensures.1 (c.index-slots-i.is ∙ h.is c.index-slots-i.result) in let z : ◌≡◌ {A = ℕ} 0 1 = cc in omega arith)

pub returns : goal.returns
returns g c = λ a. c.loop-i.invariant a.slot (omega (arith, a.below)) a.holds
