-- What the listing program prints, and what the C interface's list call answers and writes.
--     line_of x           an entry of a listing as a line of the text
--     list_text ls        the text of a listing
--     outcome_text o      the text of an outcome: a listing's, or the refused line
--     most_output         the bytes of the longest listing that the program prints
--     program_text input  what the program prints for an input
--     refused_as n line   the refusal of number n and an input line
--     refused_of r        a refusal of rings
--     fitted b n         the answer for a text of n bytes: 10 where it does not fit
--     list_answer o n     the list call's answer, for an output of n bytes
--     list_output a o x   its output x at exit
--     printed_report a    the answer in numbers: the refusal's number, the input line, the text's length
use Rattle.std.specs.Prelude.{ℕ, ◌+◌, ◌*◌, Bool, true, false, List, map, length, leb, Result, Ok, Err}
use Rattle.text.specs.Layout.{entry_bytes}
use Rattle.text.specs.Print.{Entry, listing_text, refused_line}
use Rattle.rings.specs.Refusals.{number_of, Report, done}
use Rattle.rings.specs.Buffers.{over}
use Rattle.rings.specs.declared.refusal.Refusal.{Refusal}
use Rattle.rings.specs.declared.refusal.Refusal.TheVariants.{NoRoom}
use Rattle.listing.specs.Listing.{ListedRing, span}
use Rattle.listing.specs.Program.{Outcome, found, stopped, input_line, most_listed, outcome}
use Rattle.listing.specs.declared.Refused.{Refused}

-- 01: "Columns: start 5, end 5, span 5, rows 6"
unfoldable pub line_of : ListedRing → Entry
line_of x = record { start = x.start; end = x.end; span = span x; rows = x.rows }

-- 01: "No rings: that line alone"
unfoldable pub list_text : List ListedRing → List ℕ
list_text ls = listing_text (map line_of ls)

-- 01: "A refusal prints only `refused`, its number in 5 columns and in 6 the input line"
unfoldable pub outcome_text : Outcome → List ℕ
outcome_text (found ls) = list_text ls
outcome_text (stopped n line) = refused_line n line

-- the header, and a line for each ring: 45,078
abbrev pub most_output : ℕ
most_output = entry_bytes * (most_listed + 1)

unfoldable pub program_text : List ℕ → List ℕ
program_text input = outcome_text (outcome input)

abbrev pub refused_as : ℕ → ℕ → Refused
refused_as n line = record { number = n; line = line }

unfoldable pub refused_of : Refusal → Refused
refused_of r = refused_as (number_of r) (input_line r)

unfoldable pub fitted : Bool → ℕ → Result ℕ Refused
fitted true n = Ok n
fitted false n = Err (refused_of NoRoom)

-- 01: "output too short is 10"
unfoldable pub list_answer : Outcome → ℕ → Result ℕ Refused
list_answer (found ls) places = fitted (leb (length (list_text ls)) places) (length (list_text ls))
list_answer (stopped n line) places = Err (refused_as n line)

-- 01: "A refusal leaves the output unchanged"; "output text past the answer" keeps its contents
unfoldable pub list_output : Result ℕ Refused → Outcome → List ℕ → List ℕ
list_output (Ok n) o old = over (outcome_text o) old
list_output (Err r) o old = old

-- 01: "It gets the refusal number (0 for none), the input line or 0, and the text's length (0 on a refusal)"
unfoldable pub printed_report : Result ℕ Refused → Report
printed_report (Ok n) = done n
printed_report (Err r) = record { number = r.number; place = r.line; count = 0 }
