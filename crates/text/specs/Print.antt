-- What is printed, and where. 01, listing program: "Columns: start 5, end 5, span 5, rows 6. The first line reads exactly `start  end span  rows`."
--
--   column_of     what stands in the column of place k of a printed number
--   printed      a number in a field of a width
--   fits         a number fits a field of a width
--   pasted       a buffer with some bytes written from a position on
--   put_of        the answer of a call that writes these bytes
--   field_put     the answer of a call that writes a number in a field
--   written      what the buffer holds after that answer
--   BlankAt      a blank stands at a position
--   WrittenAt    some bytes are written from a position on
--   Puts         the answer of a call that writes these bytes, and the buffer after it
--   PutsField    the same for a number in a field
--   put_number put_length      01's refusal number of that answer, and the position behind the bytes
--   header       the listing's first line
--   listing_line  a line of the listing
--   Entry        an entry of a listing
--   entry_lines   the lines of some entries
--   listing_text  the text of a listing
--   refused_line  the line of a refusal
-- Assumes nothing.
use Rattle.std.specs.Prelude.{ℕ, zero, suc, ◌+◌, ◌/◌, ◌%◌, ◌^◌, ◌<◌, ◌≡◌, Bool, cond, ◌&&◌, List, [], ◌∷◌, ◌++◌, leb, ltb, length, get_or, take, drop, Option, Some, None}
use Rattle.text.specs.Layout.{day_width, rows_width, number_width, place_width}

-- "a decimal number, right-justified, blanks (byte 32) before it, no needless leading zero": the digit of place k, or a blank where the number
-- has no such digit. The units always stand
unfoldable pub column_of : ℕ → ℕ → ℕ
column_of k n = cond (ltb 0 k && ltb n (10 ^ k)) 32 (48 + n / 10 ^ k % 10)

-- "its number in 5 columns": the columns of places width - 1 down to 0
unfoldable pub printed : ℕ → ℕ → List ℕ
printed zero n = []
printed (suc k) n = column_of k n ∷ printed k n

-- the field has a column, and no digit is lost
unfoldable pub fits : ℕ → ℕ → Bool
fits width n = ltb 0 width && ltb n (10 ^ width)

-- "columns and output text past the answer keep their contents"
unfoldable pub pasted : List ℕ → ℕ → List ℕ → List ℕ
pasted out at bytes = take at out ++ bytes ++ drop (at + length bytes) out

-- all of the bytes, where they fit, or none: the position behind them, or that there is none
unfoldable pub put_of : List ℕ → ℕ → List ℕ → Option ℕ
put_of out at bytes = cond (leb (at + length bytes) (length out)) (Some (at + length bytes)) None

-- the same for a number, which has to fit its field too
unfoldable pub field_put : List ℕ → ℕ → ℕ → ℕ → Option ℕ
field_put out at width n = cond (fits width n) (put_of out at (printed width n)) None

-- "A refusal leaves the output unchanged"
abbrev pub written : Option ℕ → List ℕ → ℕ → List ℕ → List ℕ
written (Some next) out at bytes = pasted out at bytes
written None out at bytes = out

-- a place of the buffer, and a blank (byte 32) there
pub record BlankAt (out : List ℕ) (at : ℕ) : Type 0 where
  pub within : at < length out
  pub blank : get_or out at 0 ≡ 32

-- `size` bytes from `at` on, and `next` is the position behind them
pub record WrittenAt (out : List ℕ) (at size : ℕ) (bytes : List ℕ) (next : ℕ) (now : List ℕ) : Type 0 where
  pub behind : next ≡ at + size
  pub holds : now ≡ pasted out at bytes

pub record Puts (out : List ℕ) (at : ℕ) (bytes : List ℕ) (answer : Option ℕ) (now : List ℕ) : Type 0 where
  pub answers : answer ≡ put_of out at bytes
  pub holds : now ≡ written answer out at bytes

pub record PutsField (out : List ℕ) (at width n : ℕ) (answer : Option ℕ) (now : List ℕ) : Type 0 where
  pub answers : answer ≡ field_put out at width n
  pub holds : now ≡ written answer out at (printed width n)

-- "output too short is 10"
abbrev pub put_number : Option ℕ → ℕ
put_number (Some next) = 0
put_number None = 10

-- "the text's length (0 on a refusal)"
abbrev pub put_length : Option ℕ → ℕ
put_length (Some next) = next
put_length None = 0

-- `start  end span  rows`, and byte 10: "Every printed line ends with byte 10"
abbrev pub header : List ℕ
header =
    115 ∷ 116 ∷ 97 ∷ 114 ∷ 116 ∷ 32 ∷ 32 ∷ 101 ∷ 110 ∷ 100 ∷ 32 ∷ 115 ∷ 112 ∷ 97 ∷ 110 ∷ 32 ∷ 32 ∷ 114 ∷ 111 ∷ 119 ∷ 115 ∷ 10 ∷ []

-- "Columns: start 5, end 5, span 5, rows 6."
unfoldable pub listing_line : ℕ → ℕ → ℕ → ℕ → List ℕ
listing_line start end span rows = printed day_width start ++ printed day_width end ++ printed day_width span ++ printed rows_width rows ++ 10 ∷ []

-- a line's numbers; what the span counts is the caller's
pub record Entry : Type 0 where
  pub start : ℕ
  pub end : ℕ
  pub span : ℕ
  pub rows : ℕ

-- one line each
unfoldable pub entry_lines : List Entry → List ℕ
entry_lines [] = []
entry_lines (e ∷ es) = listing_line e.start e.end e.span e.rows ++ entry_lines es

-- "No rings: that line alone."
unfoldable pub listing_text : List Entry → List ℕ
listing_text es = header ++ entry_lines es

-- "A refusal prints only `refused`, its number in 5 columns and in 6 the input line"
unfoldable pub refused_line : ℕ → ℕ → List ℕ
refused_line number line = 114 ∷ 101 ∷ 102 ∷ 117 ∷ 115 ∷ 101 ∷ 100 ∷ [] ++ printed number_width number ++ printed place_width line ++ 10 ∷ []
