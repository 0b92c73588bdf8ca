-- What the line reader promises. 01, Reader: "The line reader keeps the text and the line reached, and steps line by line."
--
--   ReaderAt     a reader keeps this text, and has reached this line
--   Stepped      a step of a reader: what it finds, and where the reader stands then
-- Assumes nothing.
use Rattle.std.specs.Prelude.{ℕ, ◌+◌, ◌≡◌, List}
use Rattle.std.specs.Borrow.{Bor}
use Rattle.text.specs.Line.{Line, step_at, passed}
use Rattle.text.specs.declared.reader.LineReader.{LineReader}

pub record ReaderAt (r : LineReader) (text : Bor (List ℕ)) (line : ℕ) : Type 0 where
  pub keeps : r.text ≡ text
  pub reached : r.line ≡ line

pub record Stepped (before after : LineReader) (found : Line) : Type 0 where
  pub finds : found ≡ step_at before.text.now before.line
  pub keeps : after.text ≡ before.text
  pub reached : after.line ≡ before.line + passed found
