-- How lines are laid out: 01's widths, limits and sizes, each once. The code has them in src/layout.rt.
--
--   largest        the largest number of a field
--   most_digits     how many digits a number of 16 bits has at most
--   day_width       the columns of a day: in a table, and for start, end and span in a listing
--   account_width   the columns of an account in a table
--   query_width     the columns of a number in the query line
--   rows_width      the columns of a listing's rows
--   number_width    the columns of a refusal's number
--   place_width     the columns of a refusal's line
--   field          a field of a width, whose numbers end at 65,535
--   table_layout    the three fields of a table's line
--   query_layout    the three fields of the query line
--   bytes_of        the bytes of a line of three fields
--   line_bytes      the bytes of a table's line
--   query_bytes     the bytes of the query line
--   entry_bytes     the bytes of a listing's line, the first one too
--   refused_bytes   the bytes of the line of a refusal
--   most_rows       the rows that the program's longest input holds
--   most_input      the bytes of the program's longest input
-- Assumes nothing.
use Rattle.std.specs.Prelude.{ℕ, ◌+◌, ◌*◌}
use Rattle.text.specs.declared.layout.Format.{Format}
use Rattle.text.specs.declared.layout.Layout.{Layout}

-- "13: a number above 65,535"
abbrev pub largest : ℕ
largest = 65535

abbrev pub most_digits : ℕ
most_digits = 5

-- 01, Reader: "day in 5 columns, accounts in 6 and 6, then byte 10"
abbrev pub day_width : ℕ
day_width = 5

abbrev pub account_width : ℕ
account_width = 6

-- 01, listing program: "k, Ts, Te, 5 columns each, byte 10"
abbrev pub query_width : ℕ
query_width = 5

-- "Columns: start 5, end 5, span 5, rows 6."
abbrev pub rows_width : ℕ
rows_width = 6

-- "its number in 5 columns and in 6 the input line"
abbrev pub number_width : ℕ
number_width = 5

abbrev pub place_width : ℕ
place_width = 6

abbrev pub field : ℕ → Format
field width = record { width = width; limit = largest }

abbrev pub table_layout : Layout
table_layout = record { first = field day_width; second = field account_width; third = field account_width }

abbrev pub query_layout : Layout
query_layout = record { first = field query_width; second = field query_width; third = field query_width }

abbrev pub bytes_of : Layout → ℕ
bytes_of y = y.first.width + y.second.width + y.third.width + 1

-- "Each must be 18 bytes"
abbrev pub line_bytes : ℕ
line_bytes = bytes_of table_layout

-- "a query line of 16 bytes"
abbrev pub query_bytes : ℕ
query_bytes = bytes_of query_layout

-- 22, as the first line has: "The first line reads exactly `start  end span  rows`."
abbrev pub entry_bytes : ℕ
entry_bytes = day_width + day_width + day_width + rows_width + 1

-- 19: "A refusal prints only `refused`, its number .. and .. the input line"
abbrev pub refused_bytes : ℕ
refused_bytes = 7 + number_width + place_width + 1

-- "Over 18,448 bytes: refusal 2": a query line and 1,024 rows
abbrev pub most_rows : ℕ
most_rows = 1024

abbrev pub most_input : ℕ
most_input = query_bytes + most_rows * line_bytes
