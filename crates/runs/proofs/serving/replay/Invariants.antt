use Rattle.std.proofs.Common.{◌≡◌, length, take, drop}
use Rattle.book.specs.Owned.{own_of}
use Rattle.runs.specs.Calls.{Run}
use Rattle.runs.specs.Tables.{room_of, slots_of, SameTables, Untouched, Left}
use Rattle.runs.proofs.serving.replay.Given as goal

abbrev pub invariant-loop-i : goal.invariant-loop-i
invariant-loop-i g l = record {
  over : l.book.source ≡ l.initial.book.source;
  run : Run (g.S.Source.meaning l.initial.book.source) (room_of l.initial.tables) (own_of l.initial.book) (take l.i l.calls) (take l.i l.heard) (own_of l.book);
  same : SameTables l.initial.tables l.tables;
  tables : Left Untouched (g.S.Source.meaning l.initial.book.source) (own_of l.initial.book) (slots_of l.initial.tables) (take l.i l.calls) (take l.i l.heard) (slots_of l.tables);
  rest : drop (length l.calls) l.heard ≡ drop (length l.calls) l.initial.heard;
}
