use Rattle.std.proofs.Common.{◌≡◌, take, drop}
use Rattle.book.specs.Owned.{own_of}
use Rattle.runs.specs.Calls.{lent, Run}
use Rattle.runs.specs.Tables.{slots, Rewritten, Left}
use Rattle.runs.proofs.callers.converse.Given as goal

abbrev pub invariant-loop-i : goal.invariant-loop-i
invariant-loop-i g l = record {
  over : l.book.source ≡ l.initial.book.source;
  run : Run (g.S.Source.meaning l.initial.book.source) (lent l.initial.contexts l.initial.clauses l.initial.model) (own_of l.initial.book) (take l.i l.calls) (take l.i l.heard) (own_of l.book);
  sizes : Rewritten (slots l.initial.contexts l.initial.clauses l.initial.model) (slots l.contexts l.clauses l.model);
  tables : Left Rewritten (g.S.Source.meaning l.initial.book.source) (own_of l.initial.book) (slots l.initial.contexts l.initial.clauses l.initial.model) (take l.i l.calls) (take l.i l.heard) (slots l.contexts l.clauses l.model);
  calls : drop l.count l.calls ≡ drop l.count l.initial.calls;
  heard : drop l.count l.heard ≡ drop l.count l.initial.heard;
}
