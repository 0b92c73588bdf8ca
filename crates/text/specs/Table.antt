-- What reading a table's text gives. 01, Reader: "The lowest faulty line refuses, 11: not 18 bytes with its end; 12: a broken field, an
-- all_blank one included; 13: a number above 65,535 (12 before 13). Then 10: fewer places than lines in any column. Unused places keep their
-- contents."
--
--   day_of first_of second_of        the numbers of a row; 0 where there is none
--   days_of firsts_of seconds_of     the columns of a text's rows
--   at_line       a line's fault as the refusal of the text
--   fault_or      a faulty line's refusal, or what the later lines give
--   judged_from   the lowest fault of some lines, or how many there are
--   room_for      10 where the lines are more than the places
--   table_read_of  the reader's answer
--   filled       what a column holds afterwards
--   Columns columns               three columns
--   RowsFit      a text of rows alone, and columns with a place for each row
--   RowsWritten  its rows are written into them
--   TableReads   the reader's answer, and the columns afterwards
--   number place count            01's refusal number, its place, and the rows read, of each answer
-- Assumes nothing.
use Rattle.std.specs.Prelude.{ℕ, ◌+◌, ◌≤◌, min, ◌≡◌, cond, List, [], ◌∷◌, ◌++◌, map, leb, length, drop, Some, None}
use Rattle.std.specs.Prelude.{Result, Ok, Err}
use Rattle.text.specs.Line.{Line, lines_of, row_of, line_number}
use Rattle.text.specs.Print.{put_number}
use Rattle.text.specs.declared.lines.LineError.{LineError}
use Rattle.text.specs.declared.lines.LineError.TheVariants as line
use Rattle.text.specs.declared.table.ReadError.{ReadError}
use Rattle.text.specs.declared.table.ReadError.TheVariants.{BadLine, BadField, BadNumber, NoRoom}

-- "A row is one payment: a day .. and two accounts"
abbrev pub day_of : Line → ℕ
day_of (Ok (Some row)) = row.day
day_of (Ok None) = 0
day_of (Err e) = 0

abbrev pub first_of : Line → ℕ
first_of (Ok (Some row)) = row.first
first_of (Ok None) = 0
first_of (Err e) = 0

abbrev pub second_of : Line → ℕ
second_of (Ok (Some row)) = row.second
second_of (Ok None) = 0
second_of (Err e) = 0

-- "A table is three lent columns of 16-bit numbers"
unfoldable pub days_of : List ℕ → List ℕ
days_of text = map (λ l. day_of (row_of l)) (lines_of text)

unfoldable pub firsts_of : List ℕ → List ℕ
firsts_of text = map (λ l. first_of (row_of l)) (lines_of text)

unfoldable pub seconds_of : List ℕ → List ℕ
seconds_of text = map (λ l. second_of (row_of l)) (lines_of text)

-- "a line counted from 1 for 11, 12, 13"
abbrev pub at_line : ℕ → LineError → ReadError
at_line n line.BadLine = BadLine n
at_line n line.BadField = BadField n
at_line n line.BadNumber = BadNumber n

abbrev pub fault_or : ℕ → Line → Result ℕ ReadError → Result ℕ ReadError
fault_or n (Ok row) later = later
fault_or n (Err e) later = Err (at_line n e)

-- "The lowest faulty line refuses"; n lines stand before these. "Empty text gives 0 rows"
unfoldable pub judged_from : ℕ → List (List ℕ) → Result ℕ ReadError
judged_from n [] = Ok n
judged_from n (l ∷ ls) = fault_or (n + 1) (row_of l) (judged_from (n + 1) ls)

-- "Then 10: fewer places than lines in any column"
abbrev pub room_for : ℕ → Result ℕ ReadError → Result ℕ ReadError
room_for room (Ok n) = cond (leb n room) (Ok n) (Err NoRoom)
room_for room (Err e) = Err e

-- the shortest column decides
unfoldable pub table_read_of : List ℕ → ℕ → ℕ → ℕ → Result ℕ ReadError
table_read_of text days first second = room_for (min days (min first second)) (judged_from 0 (lines_of text))

-- "Unused places keep their contents"; "Every buffer keeps its contents on a refusal"
abbrev pub filled : Result ℕ ReadError → List ℕ → List ℕ → List ℕ
filled (Ok n) values column = values ++ drop n column
filled (Err e) values column = column

-- "three columns"
pub record Columns : Type 0 where
  pub days : List ℕ
  pub first : List ℕ
  pub second : List ℕ

abbrev pub columns : List ℕ → List ℕ → List ℕ → Columns
columns days first second = record { days = days; first = first; second = second }

pub record RowsFit (text : List ℕ) (c : Columns) : Type 0 where
  pub rows : judged_from 0 (lines_of text) ≡ Ok (length (lines_of text))
  pub days_fit : length (lines_of text) ≤ length c.days
  pub first_fit : length (lines_of text) ≤ length c.first
  pub second_fit : length (lines_of text) ≤ length c.second

pub record RowsWritten (text : List ℕ) (old new : Columns) : Type 0 where
  pub days_hold : new.days ≡ days_of text ++ drop (length (lines_of text)) old.days
  pub first_hold : new.first ≡ firsts_of text ++ drop (length (lines_of text)) old.first
  pub second_hold : new.second ≡ seconds_of text ++ drop (length (lines_of text)) old.second

pub record TableReads (text : List ℕ) (old : Columns) (answer : Result ℕ ReadError) (new : Columns) : Type 0 where
  pub answers : answer ≡ table_read_of text (length old.days) (length old.first) (length old.second)
  pub days_hold : new.days ≡ filled answer (days_of text) old.days
  pub first_hold : new.first ≡ filled answer (firsts_of text) old.first
  pub second_hold : new.second ≡ filled answer (seconds_of text) old.second

-- "A refusal is a number and a place"; 0 for none. 11, 12 and 13 are the faulty line's own; 10 is that of every call with too little room
abbrev pub number : Result ℕ ReadError → ℕ
number (Ok n) = 0
number (Err (BadLine n)) = line_number (Err line.BadLine)
number (Err (BadField n)) = line_number (Err line.BadField)
number (Err (BadNumber n)) = line_number (Err line.BadNumber)
number (Err NoRoom) = put_number None

-- "a line counted from 1 for 11, 12, 13; else 0"
abbrev pub place : Result ℕ ReadError → ℕ
place (Ok n) = 0
place (Err (BadLine n)) = n
place (Err (BadField n)) = n
place (Err (BadNumber n)) = n
place (Err NoRoom) = 0

-- the rows read
abbrev pub count : Result ℕ ReadError → ℕ
count (Ok n) = n
count (Err e) = 0
