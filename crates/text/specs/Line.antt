-- Lines of a text, and what a line holds. 01, Reader: "a line ends with byte 10 or with the text. Each must be 18 bytes: day in 5 columns,
-- accounts in 6 and 6, then byte 10".
--
--   prepend      a byte put in front of the first line, or a line of its own where there is none
--   lines_of      the lines of a text, each with its byte 10
--   first_line    the first line of a text; empty where the text is
--   is_whole      a line is so many bytes, the last of them byte 10
--   Line         what stands at a line of a table: a row, or the text's end, or a fault
--   Numbers      what stands at a line of three fields
--   line_number   01's refusal number of what a line holds
--   any_refuses   one of three fields has this refusal number
--   judged       a line's answer from its three fields
--   field_at      what the field from a byte on holds
--   line_as       what a line holds, with three fields as a layout has them
--   step_as       what the first of some lines holds, or that there is none
--   row_from      three numbers as a row
--   row_of        what a line of a table holds
--   step_at       what the line reader finds at a line
--   passed       how many lines a step passes
--   step_from     a step of the line reader: what it finds, and the line reached then
--   line_at       what line n of a text holds, or that there is none
--   Reached      each line of a text before line n is 18 bytes
--   query_from    three numbers as a query; there must be a line
--   query_of      what the query line of a text holds
--   query_number query_place   01's refusal number and place of a query line
-- Assumes nothing.
use Rattle.std.specs.Prelude.{ℕ, ◌+◌, ◌-◌, ◌*◌, ◌<◌, ◌≡◌, Bool, true, cond, ◌&&◌, ◌||◌, List, [], ◌∷◌, eqb, length, get_or, take, drop}
use Rattle.std.specs.Prelude.{Option, Some, None, Result, Ok, Err}
use Rattle.text.specs.Layout.{bytes_of, table_layout, query_layout, line_bytes}
use Rattle.text.specs.Decimal.{Field, field_of, field_number, refuses, field_value}
use Rattle.text.specs.declared.decimal.FieldError.TheVariants.{Broken, Large}
use Rattle.text.specs.declared.layout.Format.{Format}
use Rattle.text.specs.declared.layout.Layout.{Layout}
use Rattle.text.specs.declared.lines.LineError.{LineError}
use Rattle.text.specs.declared.lines.LineError.TheVariants.{BadLine, BadField, BadNumber}
use Rattle.text.specs.declared.lines.Query.{Query}
use Rattle.text.specs.declared.lines.Row.{Row}
use Rattle.text.specs.declared.lines.Step.{Step}

-- a byte that ends no line stands in the line of the bytes behind it
unfoldable pub prepend : ℕ → List (List ℕ) → List (List ℕ)
prepend b [] = (b ∷ []) ∷ []
prepend b (l ∷ ls) = (b ∷ l) ∷ ls

-- "a line ends with byte 10 or with the text": the text is split after each byte 10, and what is left behind the last one is a line too.
-- There is no empty line after a final byte 10, and a lone byte 10 is a line of one byte
unfoldable pub lines_of : List ℕ → List (List ℕ)
lines_of [] = []
lines_of (b ∷ bs) = let rest = lines_of bs in cond (eqb b 10) ((b ∷ []) ∷ rest) (prepend b rest)

-- "It reads the query line first"
unfoldable pub first_line : List ℕ → List ℕ
first_line text = get_or (lines_of text) 0 []

-- "18 bytes with its end"
unfoldable pub is_whole : ℕ → List ℕ → Bool
is_whole size l = eqb (length l) size && eqb (get_or l (size - 1) 0) 10

abbrev pub Line : Type 0
Line = Result (Option Row) LineError

abbrev pub Numbers : Type 0
Numbers = Result (Option (ℕ × ℕ × ℕ)) LineError

-- "11: not 18 bytes with its end; 12: a broken field ..; 13: a number above 65,535"
abbrev pub line_number : Line → ℕ
line_number (Ok found) = 0
line_number (Err BadLine) = 11
line_number (Err BadField) = field_number (Err Broken)
line_number (Err BadNumber) = field_number (Err Large)

abbrev pub any_refuses : ℕ → Field → Field → Field → Bool
any_refuses number x y z = refuses number x || refuses number y || refuses number z

-- "12: a broken field, an all_blank one included; 13: a number above 65,535 (12 before 13)", over the fields of one line
unfoldable pub judged : Field → Field → Field → Numbers
judged x y z =
    cond (any_refuses (line_number (Err BadField)) x y z) (Err BadField)
    (cond (any_refuses (line_number (Err BadNumber)) x y z) (Err BadNumber)
    (Ok (Some (field_value x, field_value y, field_value z))))

unfoldable pub field_at : Format → ℕ → List ℕ → Field
field_at f from l = field_of f.limit (take f.width (drop from l))

-- "11: not 18 bytes with its end" comes first
unfoldable pub line_as : Layout → List ℕ → Numbers
line_as y l =
    let a = y.first.width in
    let b = y.second.width in
    cond (is_whole (bytes_of y) l) (judged (field_at y.first 0 l) (field_at y.second a l) (field_at y.third (a + b) l)) (Err BadLine)

-- what a reader finds where these lines are left; "Empty text gives 0 rows"
unfoldable pub step_as : Layout → List (List ℕ) → Numbers
step_as y [] = Ok None
step_as y (l ∷ ls) = line_as y l

-- "A row is one payment: a day .. and two accounts"
abbrev pub row_from : Numbers → Line
row_from (Ok None) = Ok None
row_from (Ok (Some n)) = Ok (Some (record { day = n.0; first = n.1; second = n.2 }))
row_from (Err e) = Err e

-- "day in 5 columns, accounts in 6 and 6, then byte 10"
unfoldable pub row_of : List ℕ → Line
row_of l = row_from (line_as table_layout l)

-- "The line reader keeps the text and the line reached": where each line before line n, counted from 0, is 18 bytes, line n starts at byte 18 n.
-- 01 leaves free what is found behind a line that is not: here it is what stands from byte 18 n on
unfoldable pub step_at : List ℕ → ℕ → Line
step_at text n = row_from (step_as table_layout (lines_of (drop (line_bytes * n) text)))

-- "steps line by line": a row is passed; at the text's end and at a faulty line a reader stays
abbrev pub passed : Line → ℕ
passed (Ok (Some row)) = 1
passed (Ok None) = 0
passed (Err e) = 0

unfoldable pub step_from : List ℕ → ℕ → Step
step_from text n = record { found = step_at text n; line = n + passed (step_at text n) }

-- a line of the text as it is split, counted from 0. Where line n is reached the line reader finds this (proofs/LineLaws.antt: found_line); line 0 is
-- reached, and from a line that is reached a step goes to one that is (reached_first, reached_next): so a reader finds line after line
unfoldable pub line_at : List ℕ → ℕ → Line
line_at text n = row_from (step_as table_layout (drop n (lines_of text)))

pub record Reached (text : List ℕ) (n : ℕ) : Type 0 where
  pub each : (i : ℕ) → i < n → i < length (lines_of text) → is_whole line_bytes (get_or (lines_of text) i []) ≡ true

-- a query line is judged as a line is; "11 when input is empty"
abbrev pub query_from : Numbers → Result Query LineError
query_from (Ok (Some n)) = Ok (record { k = n.0; from = n.1; to = n.2 })
query_from (Ok None) = Err BadLine
query_from (Err e) = Err e

-- 01, listing program: "a query line of 16 bytes (k, Ts, Te, 5 columns each, byte 10)"
unfoldable pub query_of : List ℕ → Result Query LineError
query_of text = query_from (step_as query_layout (lines_of text))

-- "It reads the query line first (11, 12, 13 at line 1; 11 when input is empty)"
abbrev pub query_number : Result Query LineError → ℕ
query_number (Ok query) = 0
query_number (Err e) = line_number (Err e)

-- "at line 1"
abbrev pub query_place : Result Query LineError → ℕ
query_place (Ok query) = 0
query_place (Err e) = 1
