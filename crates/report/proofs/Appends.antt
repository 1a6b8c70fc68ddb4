-- What stands in the sentences after several pieces.
use Rattle.std.proofs.Common.{◌≡◌, ℕ, List, ◌++◌, ap, ◌∙◌, subst, append_assoc}
use Rattle.sheets.specs.Sheets.{Contents}
use Rattle.sheets.specs.Held.{held}
use Rattle.report.specs.Writing.{Adds}
use Rattle.report.specs.declared.sentences.Sentences.{Sentences}

pub adds_same : {u v : Sentences} {a : List ℕ} (b : List ℕ) → a ≡ b → Adds u a v → Adds u b v
adds_same {u} {v} b e p = subst (λ x. Adds u x v) e p

pub and_then : {u v w : Sentences} {a b : List ℕ} → Adds u a v → Adds v b w → Adds u (a ++ b) w
and_then {u} {v} {w} {a} {b} p q = record {
  sheet = q.sheet ∙ p.sheet;
  wrote = record { is = q.wrote.is ∙ ap (λ x. x ++ b) p.wrote.is ∙ append_assoc u.out.items a b };
}

-- the same where the second text speaks of the sheet
pub and_of : {u v w : Sentences} {a : List ℕ} (text : Contents → List ℕ) → Adds u a v → Adds v (text (held v.sheet.now)) w → Adds u (a ++ text (held u.sheet.now)) w
and_of {u} {v} {w} {a} text p q = and_then p (adds_same (text (held u.sheet.now)) (ap (λ s. text (held s)) p.sheet) q)
