-- The lent tables, as what they hold.
use Rattle.std.specs.Prelude.{◌≡◌}
use Rattle.tables.specs.declared.lent.LentTables.{LentTables}
use Rattle.tables.specs.Tables.{Tables, tables}

abbrev pub lent : LentTables → Tables
lent t = tables t.contexts.now t.clauses.now t.counts

-- The three records below tell after from before, which no type of one value can keep.
-- the same two slices are lent
pub record SameLent (before after : LentTables) : Type 0 where
  pub contexts : after.contexts.ghost_name ≡ before.contexts.ghost_name
  pub clauses : after.clauses.ghost_name ≡ before.clauses.ghost_name

-- the contexts, or the clauses, are left alone
pub record ContextsKept (before after : LentTables) : Type 0 where
  pub contexts : after.contexts.now ≡ before.contexts.now
  pub used : after.counts.contexts ≡ before.counts.contexts

pub record ClausesKept (before after : LentTables) : Type 0 where
  pub clauses : after.clauses.now ≡ before.clauses.now
  pub used : after.counts.clauses ≡ before.counts.clauses
