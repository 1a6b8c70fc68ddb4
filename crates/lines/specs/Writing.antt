-- What writing a piece of a line does.
use Rattle.std.specs.Prelude.{◌≡◌, ℕ, ◌+◌, List, length}
use Rattle.lines.specs.Lines.{Wrote}
use Rattle.lines.specs.declared.writer.Writer.{Writer}

-- the text is written behind what old has written, in the same buffer
pub record Writes (old : Writer) (text : List ℕ) (new : Writer) : Type 0 where
  pub same : new.buffer.ghost_name ≡ old.buffer.ghost_name
  pub ends : new.place ≡ old.place + length text
  pub size : length new.buffer.now ≡ length old.buffer.now
  pub wrote : Wrote old.buffer.now old.place text new.buffer.now
