-- The listing program step by step: what its functions hand to each other.
--     Readable text d f s    a text that is not too long, and columns for its rows
--     asked_for q lo hi n  the listing of a query over n rows
--     unread e, bad_line e    a refusal of the reader, and that of a query line, as the program tells it
--     rows_of a           how many rows an input has
--     asked a d f s      the outcome of what is asked, the rows standing in front of the columns d, f, s
--     Asks o a d f s     an input of the outcome o asks for a
--     TextColumns        the columns of a listing that its text is made of: its starts, its ends, its rows
--     text_columns x y z  these three
--     entry_at, entries_at, entries_of    the entry at a place of these columns, the first n, and all of them
--     ring_lines ls       the lines of a listing, without the header
--     Rising c n         the columns have n entries, and each starts on day 1 or later, by its end
--     Printable c n output    the same, and an output with room for their text
--     Prints o a old now    the answer to an input of the outcome o, and the output, which held old
use Rattle.std.specs.Prelude.{ℕ, ◌+◌, ◌*◌, ◌≤◌, ◌<◌, ◌≡◌, List, map, length, get_or, take, Result, Ok, Err}
use Rattle.text.specs.Layout.{entry_bytes, most_rows, most_input}
use Rattle.text.specs.Print.{entry_lines}
use Rattle.text.specs.Table.{number, place}
use Rattle.text.specs.Line.{query_number, query_place}
use Rattle.text.specs.declared.lines.LineError.{LineError}
use Rattle.text.specs.declared.table.ReadError.{ReadError}
use Rattle.rings.specs.Words.{tabulate}
use Rattle.rings.specs.Table.{table_of}
use Rattle.rings.specs.declared.Query.{Query}
use Rattle.listing.specs.Listing.{ListedRing}
use Rattle.listing.specs.Program.{Outcome, stopped, reader_line, most_listed, listed}
use Rattle.listing.specs.ProgramText.{line_of, refused_as, list_answer, list_output}
use Rattle.listing.specs.declared.Refused.{Refused}
use Rattle.listing.specs.declared.program.Asked.{Asked}

-- the columns of the program hold as many rows as an input can have
pub record Readable (text d f s : List ℕ) : Type 0 where
  pub short : length text ≤ most_input
  pub days : length d ≡ most_rows
  pub first : length f ≡ most_rows
  pub second : length s ≡ most_rows

abbrev pub asked_for : Query → ℕ → ℕ → ℕ → Asked
asked_for q lo hi n = record { query = q; ts = lo; te = hi; count = n }

abbrev pub unread : ReadError → Refused
unread e = refused_as (number (Err e)) (reader_line (place (Err e)))

abbrev pub bad_line : LineError → Refused
bad_line e = refused_as (query_number (Err e)) (query_place (Err e))

unfoldable pub rows_of : Result Asked Refused → ℕ
rows_of (Ok a) = a.count
rows_of (Err r) = 0

unfoldable pub asked : Result Asked Refused → List ℕ → List ℕ → List ℕ → Outcome
asked (Ok a) d f s = listed (table_of (take a.count d) (take a.count f) (take a.count s)) a.query a.ts a.te
asked (Err r) d f s = stopped r.number r.line

pub record Asks (o : Outcome) (a : Result Asked Refused) (d f s : List ℕ) : Type 0 where
  pub most : rows_of a ≤ most_rows
  pub is : o ≡ asked a d f s

pub record TextColumns : Type 0 where
  pub starts : List ℕ
  pub ends : List ℕ
  pub rows : List ℕ

abbrev pub text_columns : List ℕ → List ℕ → List ℕ → TextColumns
text_columns x y z = record { starts = x; ends = y; rows = z }

unfoldable pub entry_at : TextColumns → ℕ → ListedRing
entry_at c i = record { start = get_or c.starts i 0; end = get_or c.ends i 0; rows = get_or c.rows i 0 }

unfoldable pub entries_at : TextColumns → ℕ → List ListedRing
entries_at c n = tabulate (entry_at c) 0 n

abbrev pub entries_of : TextColumns → List ListedRing
entries_of c = entries_at c (length c.starts)

unfoldable pub ring_lines : List ListedRing → List ℕ
ring_lines ls = entry_lines (map line_of ls)

pub record Rising (c : TextColumns) (n : ℕ) : Type 0 where
  pub most : n ≤ most_listed
  pub in_starts : n ≤ length c.starts
  pub in_ends : n ≤ length c.ends
  pub in_rows : n ≤ length c.rows
  pub from : (i : ℕ) → i < n → 1 ≤ get_or c.starts i 0
  pub order : (i : ℕ) → i < n → get_or c.starts i 0 ≤ get_or c.ends i 0

pub record Printable (c : TextColumns) (n : ℕ) (output : List ℕ) : Type 0 where
  pub rising : Rising c n
  pub room : entry_bytes * (n + 1) ≤ length output

pub record Prints (o : Outcome) (a : Result ℕ Refused) (old now : List ℕ) : Type 0 where
  pub answer : a ≡ list_answer o (length old)
  pub output : now ≡ list_output a o old
