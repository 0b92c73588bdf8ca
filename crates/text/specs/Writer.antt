-- What writing a table's text gives. 02, S-2: "Write any three columns of equal length in 01's line layout, days up to 65,535 included. ..
-- It refuses 1, then 10, with the output kept. A single byte of text space too few is a 10."
--
--   table_line    a line of a table
--   TableRow     a row of a table
--   table_lines   the lines of some rows
--   table_rows    the rows of three columns
--   table_text    the text of three columns
--   one_length    three columns have one length
--   text_for      10 where the bytes are more than the places
--   table_write_of the writer's answer
--   text_after    what the text space holds afterwards
--   TableWrites  the writer's answer, and the text space afterwards
--   LinesFit     columns of one length, and a place for each byte of their text
--   written_number written_place written_length   01's refusal number, its place, and the bytes written, of each answer
-- Assumes nothing.
use Rattle.std.specs.Prelude.{ℕ, ◌*◌, ◌≤◌, ◌≡◌, Bool, true, cond, ◌&&◌, List, [], ◌∷◌, ◌++◌, eqb, leb, length, drop, None, Result, Ok, Err}
use Rattle.text.specs.Layout.{day_width, account_width, line_bytes}
use Rattle.text.specs.Print.{printed, put_number}
use Rattle.text.specs.Table.{Columns}
use Rattle.text.specs.declared.writer.WriteError.{WriteError}
use Rattle.text.specs.declared.writer.WriteError.TheVariants.{ColumnsDiffer, NoRoom}

-- 01, Reader: "day in 5 columns, accounts in 6 and 6, then byte 10"
unfoldable pub table_line : ℕ → ℕ → ℕ → List ℕ
table_line day first second = printed day_width day ++ printed account_width first ++ printed account_width second ++ 10 ∷ []

-- "A row is one payment: a day .. and two accounts"
pub record TableRow : Type 0 where
  pub day : ℕ
  pub first : ℕ
  pub second : ℕ

-- one line each
unfoldable pub table_lines : List TableRow → List ℕ
table_lines [] = []
table_lines (r ∷ rs) = table_line r.day r.first r.second ++ table_lines rs

-- row by row, as far as all three go; they are written only where they have one length
unfoldable pub table_rows : List ℕ → List ℕ → List ℕ → List TableRow
table_rows [] first second = []
table_rows (d ∷ days) [] second = []
table_rows (d ∷ days) (a ∷ first) [] = []
table_rows (d ∷ days) (a ∷ first) (b ∷ second) = record { day = d; first = a; second = b } ∷ table_rows days first second

-- "three columns .. in 01's line layout"
unfoldable pub table_text : Columns → List ℕ
table_text c = table_lines (table_rows c.days c.first c.second)

-- "columns of equal length"
unfoldable pub one_length : Columns → Bool
one_length c = eqb (length c.days) (length c.first) && eqb (length c.first) (length c.second)

-- "A single byte of text space too few is a 10."
unfoldable pub text_for : List ℕ → ℕ → Result ℕ WriteError
text_for text places = cond (leb (length text) places) (Ok (length text)) (Err NoRoom)

-- "It refuses 1, then 10"; nothing else is a fault: "any three columns of equal length .., days up to 65,535 included"
unfoldable pub table_write_of : Columns → ℕ → Result ℕ WriteError
table_write_of c places = cond (one_length c) (text_for (table_text c) places) (Err ColumnsDiffer)

-- "with the output kept"; "output text past the answer" keeps its contents
abbrev pub text_after : Result ℕ WriteError → List ℕ → List ℕ → List ℕ
text_after (Ok n) text space = text ++ drop n space
text_after (Err e) text space = space

pub record TableWrites (c : Columns) (space : List ℕ) (answer : Result ℕ WriteError) (after : List ℕ) : Type 0 where
  pub answers : answer ≡ table_write_of c (length space)
  pub holds : after ≡ text_after answer (table_text c) space

-- where neither 1 nor 10 stops the writer
pub record LinesFit (c : Columns) (space : List ℕ) : Type 0 where
  pub one : one_length c ≡ true
  pub room : line_bytes * length c.days ≤ length space

-- "It refuses 1, then 10"; 0 for none. 10 is that of every call with too little room
abbrev pub written_number : Result ℕ WriteError → ℕ
written_number (Ok n) = 0
written_number (Err ColumnsDiffer) = 1
written_number (Err NoRoom) = put_number None

-- 01: "a line counted from 1 for 11, 12, 13; else 0"
abbrev pub written_place : Result ℕ WriteError → ℕ
written_place (Ok n) = 0
written_place (Err e) = 0

-- "the text's length (0 on a refusal)"
abbrev pub written_length : Result ℕ WriteError → ℕ
written_length (Ok n) = n
written_length (Err e) = 0
