-- The numbers 1 and 10 to 13 as this crate's calls give them, and texts that are written (02, S-2): a worked row each, under one
-- theorem, proved by computation.
--
--   five six     a number below 10 in a field of 5 columns, of 6 columns
--   row          a line of a table, of numbers below 10
--   short broken large mixed     texts whose line 2 is too short; has a blank field; a large number; a large number, then a broken field
--   season one_row no_rows          columns: those of 01's example; 65,535 in each; empty ones
--   season_text                    the lines of 01's example
--   read_numbers query_numbers put_numbers   an answer in numbers: number, place, rows read; number, place; number, length
--   write_numbers                  the same of the writer: number, place, length
--   written                       what its text space holds afterwards, filled with 9 before
--   TextNumbers  the table: a field for each row
--   text_numbers_hold     the theorem
-- Assumes nothing.
use Rattle.std.specs.Prelude.{ℕ, ◌+◌, ◌≡◌, refl, List, [], ◌∷◌, ◌++◌, replicate, Option, Result}
use Rattle.text.specs.Decimal.{field_of, numeral_of, unblank, is_numeral, leads_well, all_digits, is_digit, value}
use Rattle.text.specs.Line.{lines_of, prepend, is_whole, judged, field_at, line_as, step_as, row_of, query_of, query_number, query_place}
use Rattle.text.specs.Print.{column_of, printed, put_of, header, put_number, put_length}
use Rattle.text.specs.Table.{judged_from, table_read_of, Columns, columns, number, place, count}
use Rattle.text.specs.Writer.{table_line, table_lines, table_rows, table_text, one_length, text_for, table_write_of, text_after}
use Rattle.text.specs.Writer.{written_number, written_place, written_length}
use Rattle.text.specs.declared.lines.LineError.{LineError}
use Rattle.text.specs.declared.lines.Query.{Query}
use Rattle.text.specs.declared.table.ReadError.{ReadError}
use Rattle.text.specs.declared.writer.WriteError.{WriteError}

abbrev pub five : ℕ → List ℕ
five n = 32 ∷ 32 ∷ 32 ∷ 32 ∷ (48 + n) ∷ []

abbrev pub six : ℕ → List ℕ
six n = 32 ∷ five n

abbrev pub row : ℕ → ℕ → ℕ → List ℕ
row d a b = five d ++ six a ++ six b ++ 10 ∷ []

-- 17 bytes with its end; the line behind it has a fault too
abbrev pub short : List ℕ
short = row 1 1 2 ++ five 2 ++ six 1 ++ five 3 ++ 10 ∷ replicate 18 10

-- "a broken field, an all_blank one included"
abbrev pub broken : List ℕ
broken = row 1 1 2 ++ five 2 ++ replicate 6 32 ++ six 3 ++ 10 ∷ []

-- ` 65536`
abbrev pub large : List ℕ
large = row 1 1 2 ++ five 2 ++ six 1 ++ (32 ∷ 54 ∷ 53 ∷ 53 ∷ 51 ∷ 54 ∷ []) ++ 10 ∷ []

-- ` 65536`, then `     x`
abbrev pub mixed : List ℕ
mixed = row 1 1 2 ++ five 2 ++ (32 ∷ 54 ∷ 53 ∷ 53 ∷ 51 ∷ 54 ∷ []) ++ (32 ∷ 32 ∷ 32 ∷ 32 ∷ 32 ∷ 120 ∷ []) ++ 10 ∷ []

abbrev pub season : Columns
season = columns (1 ∷ 2 ∷ 2 ∷ 4 ∷ 5 ∷ 6 ∷ []) (1 ∷ 2 ∷ 1 ∷ 1 ∷ 3 ∷ 2 ∷ []) (2 ∷ 3 ∷ 3 ∷ 2 ∷ 4 ∷ 4 ∷ [])

abbrev pub season_text : List ℕ
season_text = row 1 1 2 ++ row 2 2 3 ++ row 2 1 3 ++ row 4 1 2 ++ row 5 3 4 ++ row 6 2 4

abbrev pub one_row : Columns
one_row = columns (65535 ∷ []) (65535 ∷ []) (65535 ∷ [])

abbrev pub no_rows : Columns
no_rows = columns [] [] []

abbrev pub read_numbers : Result ℕ ReadError → List ℕ
read_numbers a = number a ∷ place a ∷ count a ∷ []

abbrev pub query_numbers : Result Query LineError → List ℕ
query_numbers a = query_number a ∷ query_place a ∷ []

abbrev pub put_numbers : Option ℕ → List ℕ
put_numbers a = put_number a ∷ put_length a ∷ []

abbrev pub write_numbers : Result ℕ WriteError → List ℕ
write_numbers a = written_number a ∷ written_place a ∷ written_length a ∷ []

abbrev pub written : Columns → ℕ → List ℕ
written c places = text_after (table_write_of c places) (table_text c) (replicate places 9)

pub record TextNumbers : Type 0 where
  -- "a line counted from 1 for 11, 12, 13; else 0"
  pub read_0 : read_numbers (table_read_of (row 1 1 2 ++ row 2 2 3) 2 3 4) ≡ 0 ∷ 0 ∷ 2 ∷ []
  pub read_10 : read_numbers (table_read_of (row 1 1 2 ++ row 2 2 3) 2 1 4) ≡ 10 ∷ 0 ∷ 0 ∷ []
  pub read_11 : read_numbers (table_read_of short 9 9 9) ≡ 11 ∷ 2 ∷ 0 ∷ []
  pub read_12 : read_numbers (table_read_of broken 9 9 9) ≡ 12 ∷ 2 ∷ 0 ∷ []
  pub read_13 : read_numbers (table_read_of large 9 9 9) ≡ 13 ∷ 2 ∷ 0 ∷ []
  -- "12 before 13", in one line; both before 10
  pub read_12_first : read_numbers (table_read_of mixed 9 9 9) ≡ 12 ∷ 2 ∷ 0 ∷ []
  pub read_13_first : read_numbers (table_read_of large 0 0 0) ≡ 13 ∷ 2 ∷ 0 ∷ []
  -- "It reads the query line first (11, 12, 13 at line 1; 11 when input is empty)"
  pub query_0 : query_numbers (query_of (five 2 ++ five 1 ++ five 6 ++ 10 ∷ [])) ≡ 0 ∷ 0 ∷ []
  pub query_11 : query_numbers (query_of (five 2 ++ five 1 ++ five 6)) ≡ 11 ∷ 1 ∷ []
  pub query_11_empty : query_numbers (query_of []) ≡ 11 ∷ 1 ∷ []
  pub query_12 : query_numbers (query_of (replicate 5 32 ++ five 1 ++ five 6 ++ 10 ∷ [])) ≡ 12 ∷ 1 ∷ []
  pub query_13 : query_numbers (query_of ((54 ∷ 53 ∷ 53 ∷ 51 ∷ 54 ∷ []) ++ five 1 ++ five 6 ++ 10 ∷ row 0 9 9)) ≡ 13 ∷ 1 ∷ []
  -- "output too short is 10"; "the text's length (0 on a refusal)"
  pub put_0 : put_numbers (put_of (replicate 24 9) 0 header) ≡ 0 ∷ 22 ∷ []
  pub put_10 : put_numbers (put_of (replicate 21 9) 0 header) ≡ 10 ∷ 0 ∷ []
  -- 02, S-2: "Write any three columns of equal length in 01's line layout, days up to 65,535 included."
  pub write_season : table_text season ≡ season_text
  pub write_largest : table_text one_row ≡ (54 ∷ 53 ∷ 53 ∷ 51 ∷ 53 ∷ 32 ∷ 54 ∷ 53 ∷ 53 ∷ 51 ∷ 53 ∷ 32 ∷ 54 ∷ 53 ∷ 53 ∷ 51 ∷ 53 ∷ 10 ∷ [])
  pub write_no_rows : table_text no_rows ≡ []
  pub write_0 : write_numbers (table_write_of season 108) ≡ 0 ∷ 0 ∷ 108 ∷ []
  pub write_0_none : write_numbers (table_write_of no_rows 0) ≡ 0 ∷ 0 ∷ 0 ∷ []
  -- "It refuses 1, then 10"; "A single byte of text space too few is a 10."
  pub write_1 : write_numbers (table_write_of (columns (1 ∷ 2 ∷ []) (3 ∷ 4 ∷ []) (5 ∷ [])) 99) ≡ 1 ∷ 0 ∷ 0 ∷ []
  pub write_1_first : write_numbers (table_write_of (columns (1 ∷ []) (3 ∷ 4 ∷ []) (5 ∷ 6 ∷ [])) 0) ≡ 1 ∷ 0 ∷ 0 ∷ []
  pub write_10 : write_numbers (table_write_of season 107) ≡ 10 ∷ 0 ∷ 0 ∷ []
  -- bytes past the text are kept; "with the output kept"
  pub writes_in_front : written season 110 ≡ season_text ++ 9 ∷ 9 ∷ []
  pub writes_nothing : written season 107 ≡ replicate 107 9
  -- the season's text reads back
  pub season_back : read_numbers (table_read_of season_text 6 6 6) ≡ 0 ∷ 0 ∷ 6 ∷ []

pub text_numbers_hold : TextNumbers
unfolding
    unblank is_digit all_digits leads_well is_numeral value numeral_of field_of
    prepend lines_of is_whole judged field_at line_as step_as row_of query_of judged_from table_read_of put_of
    column_of printed table_line table_lines table_rows table_text one_length text_for table_write_of
text_numbers_hold = record {
  read_0 = refl;
  read_10 = refl;
  read_11 = refl;
  read_12 = refl;
  read_13 = refl;
  read_12_first = refl;
  read_13_first = refl;
  query_0 = refl;
  query_11 = refl;
  query_11_empty = refl;
  query_12 = refl;
  query_13 = refl;
  put_0 = refl;
  put_10 = refl;
  write_season = refl;
  write_largest = refl;
  write_no_rows = refl;
  write_0 = refl;
  write_0_none = refl;
  write_1 = refl;
  write_1_first = refl;
  write_10 = refl;
  writes_in_front = refl;
  writes_nothing = refl;
  season_back = refl;
}
