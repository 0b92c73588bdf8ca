-- The listing program: what an input text asks for. The C interface's list call is the same. Numbers and places are those of the answers
-- of text and rings, each by the definition that stands with its enum.
--     Outcome            a listing, or a refusal's number and input line
--     row_line j          the input line of row j
--     reader_line n       the input line of the reader's line n
--     place_line p        the input line of a place of rings, or 0
--     input_line r        the input line of a refusal of rings, or 0
--     stopped_by r        the outcome for it
--     table_of rows       the table that the text of the rows holds
--     from_list           the outcome by Listing's answer
--     most_listed         the rings that the program lists
--     program_scratch     the numbers of its scratch
--     listed t q lo hi   the outcome of Listing, for a table that was read
--     from_rows           the outcome by what the reader says of the rows
--     bad_query e         the outcome for a query line that is refused
--     from_query          the outcome by what the query line holds
--     unless_long b o     the outcome o, or 2 where the input is too long
--     outcome input      the outcome of an input
use Rattle.std.specs.Prelude.{ℕ, zero, suc, ◌+◌, ◌*◌, Bool, true, false, List, length, drop, ltb, Option, Some, None, Result, Ok, Err}
use Rattle.text.specs.Layout.{query_bytes, most_rows, most_input}
use Rattle.text.specs.Line.{query_of, query_number, query_place}
use Rattle.text.specs.Table.{days_of, firsts_of, seconds_of, table_read_of, number, place}
use Rattle.text.specs.declared.lines.LineError.{LineError}
use Rattle.text.specs.declared.lines.Query.{Query as QueryLine}
use Rattle.text.specs.declared.table.ReadError.{ReadError}
use Rattle.rings.specs.Table.{Table}
use Rattle.rings.specs.Refusals.{rule_of, number_of}
use Rattle.rings.specs.declared.Query.{Query}
use Rattle.rings.specs.declared.refusal.Refusal.{Refusal}
use Rattle.rings.specs.declared.refusal.Refusal.TheVariants.{TooLarge}
use Rattle.rings.specs.declared.refusal.Place.{Place}
use Rattle.rings.specs.declared.refusal.Place.TheVariants.{Row, Entry}
use Rattle.listing.specs.Listing.{ListedRing, listing}
use Rattle.listing.specs.ListingCall.{each, listing_answer}
use Rattle.listing.specs.declared.Listed.{Listed}

pub data Outcome : Type 0 where
  found : List ListedRing → Outcome
  stopped : ℕ → ℕ → Outcome

-- 01: "the input line (row + 2 for rows, reader's line + 1), or 0". The query line is line 1. Rows count from 0
abbrev pub row_line : ℕ → ℕ
row_line row = row + 2

-- the reader's lines count from 1: its place 0 is no line
unfoldable pub reader_line : ℕ → ℕ
reader_line zero = 0
reader_line (suc n) = suc n + 1

abbrev pub place_line : Option Place → ℕ
place_line None = 0
place_line (Some (Row j)) = row_line j
place_line (Some (Entry i)) = 0

unfoldable pub input_line : Refusal → ℕ
input_line r = place_line (rule_of r).place

unfoldable pub stopped_by : Refusal → Outcome
stopped_by r = stopped (number_of r) (input_line r)

unfoldable pub table_of : List ℕ → Table
table_of rows = record { days = days_of rows; first = firsts_of rows; second = seconds_of rows }

unfoldable pub from_list : Result Listed Refusal → List ListedRing → Outcome
from_list (Ok l) ls = found ls
from_list (Err r) ls = stopped_by r

-- 01: "then lists into columns of 2,048"
abbrev pub most_listed : ℕ
most_listed = 2048

-- what 9 asks for (rings: Checks.scratch_check) with as many rows as an input can have: 12,288
abbrev pub program_scratch : ℕ
program_scratch = 8192 + 4 * most_rows

unfoldable pub listed : Table → Query → ℕ → ℕ → Outcome
listed t q lo hi = from_list (listing_answer t q lo hi (each most_listed) program_scratch) (listing t q lo hi)

unfoldable pub from_rows : Result ℕ ReadError → Table → Query → ℕ → ℕ → Outcome
from_rows (Ok n) t q lo hi = listed t q lo hi
from_rows (Err e) t q lo hi = stopped (number (Err e)) (reader_line (place (Err e)))

unfoldable pub bad_query : LineError → Outcome
bad_query e = stopped (query_number (Err e)) (query_place (Err e))

-- 01: "It reads the query line first (11, 12, 13 at line 1; 11 when input is empty), then the rows". 18,448 bytes hold a query and 1,024 rows:
-- there is room for them
unfoldable pub from_query : Result QueryLine LineError → List ℕ → Outcome
from_query (Ok q) rows = from_rows (table_read_of rows most_rows most_rows most_rows) (table_of rows) (record { k = q.k }) q.from q.to
from_query (Err e) rows = bad_query e

-- 01: "Over 18,448 bytes: refusal 2, place 0, before any line is read"
unfoldable pub unless_long : Bool → Outcome → Outcome
unless_long true o = stopped_by TooLarge
unless_long false o = o

-- 01: "a query line of 16 bytes .., then rows"
unfoldable pub outcome : List ℕ → Outcome
outcome input = unless_long (ltb most_input (length input)) (from_query (query_of input) (drop query_bytes input))
