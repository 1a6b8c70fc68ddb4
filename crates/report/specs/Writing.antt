-- What writing adds to the sentences.
use Rattle.std.specs.Prelude.{◌≡◌, ℕ, List}
use Rattle.report.specs.Sentences.{Wrote}
use Rattle.report.specs.declared.sentences.Sentences.{Sentences}

-- new has the text behind what old has, about the same sheet
pub record Adds (old : Sentences) (text : List ℕ) (new : Sentences) : Type 0 where
  pub sheet : new.sheet.now ≡ old.sheet.now
  pub wrote : Wrote old.out.items text new.out.items
