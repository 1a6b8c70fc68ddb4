-- One call after another on lent tables.
use Rattle.std.proofs.Common.{◌∙◌, refl}
use Rattle.tables.specs.declared.lent.LentTables.{LentTables}
use Rattle.tables.specs.Lent.{SameLent, ContextsKept}

pub same_refl : {t : LentTables} → SameLent t t
same_refl = record { contexts = refl; clauses = refl }

pub kept_refl : {t : LentTables} → ContextsKept t t
kept_refl = record { contexts = refl; used = refl }

module _ {t u v : LentTables} where
  pub same_then : SameLent t u → SameLent u v → SameLent t v
  same_then p q = record { contexts = q.contexts ∙ p.contexts; clauses = q.clauses ∙ p.clauses }

  pub kept_then : ContextsKept t u → ContextsKept u v → ContextsKept t v
  kept_then p q = record { contexts = q.contexts ∙ p.contexts; used = q.used ∙ p.used }
