-- 01's numbers 1 to 14, a worked row for each: the report of a whole call, with number and place, in one table under one theorem, proved by
-- computation. text and rings pin those of their own calls, and the table holds theirs.
--     program input      what the list call tells of an input, its output having room for every text
--     NumberRows         the table: a field for each row
--     number_rows_hold   the theorem
use Rattle.std.specs.Prelude.{ℕ, ◌≡◌, refl, List, ◌++◌, replicate}
use Rattle.text.specs.TextNumbers.{row, short, broken, large, mixed, TextNumbers, text_numbers_hold}
use Rattle.rings.specs.Refusals.{Report, counted_report}
use Rattle.rings.specs.CheckRows.{says, CallNumbers, call_numbers_hold}
use Rattle.listing.specs.ListingCall.{each, listing_answer, listing_report}
use Rattle.listing.specs.LongestList.{longest, days_of, longest_answer}
use Rattle.listing.specs.Program.{outcome}
use Rattle.listing.specs.ProgramText.{list_answer, printed_report}
use Rattle.listing.specs.ProgramRows.{query, season_text, compute_program}
use Rattle.listing.specs.Examples.{season, two}

abbrev pub program : List ℕ → Report
program input = printed_report (list_answer (outcome input) 45078)

pub record NumberRows : Type 0 where
  -- 1 to 10 and 14, by the calls of rings: "a row for 3, 4, 5; a list entry from 0 for 14; .. else 0"
  pub calls : CallNumbers
  -- 10 to 13, by the calls of text: "a line counted from 1 for 11, 12, 13"
  pub reading : TextNumbers
  -- Listing, "more entries than the columns hold"; Longest list
  pub listing_10 : listing_report (listing_answer season two 1 6 (each 4) 8216) ≡ says 10 0
  pub longest_7 : counted_report (longest_answer 6 1) ≡ says 7 0
  -- the program: "Over 18,448 bytes: refusal 2, place 0, before any line is read"
  pub program_2 : program (replicate 18449 32) ≡ says 2 0
  -- "row + 2 for rows": row 1, row 1, row 2; and the table's faults come before 6
  pub program_3 : program (query 2 1 6 ++ row 1 1 2 ++ row 0 1 2) ≡ says 3 3
  pub program_4 : program (query 0 1 6 ++ row 1 1 2 ++ row 1 2 2) ≡ says 4 3
  pub program_5 : program (query 2 1 6 ++ row 1 1 2 ++ row 3 1 2 ++ row 2 1 2) ≡ says 5 4
  pub program_6 : program (query 0 6 1 ++ row 1 1 2) ≡ says 6 0
  pub program_7 : program (query 2 6 1 ++ row 1 1 2) ≡ says 7 0
  -- "output too short is 10": 01's example is 132 bytes
  pub program_10 : printed_report (list_answer (outcome season_text) 131) ≡ says 10 0
  -- "reader's line + 1": the texts of `reading`, whose line 2 is faulty, behind a query line
  pub program_11 : program (query 2 1 6 ++ short) ≡ says 11 3
  pub program_12 : program (query 2 1 6 ++ broken) ≡ says 12 3
  pub program_13 : program (query 2 1 6 ++ large) ≡ says 13 3
  pub program_12_first : program (query 2 1 6 ++ mixed) ≡ says 12 3

pub number_rows_hold : NumberRows
unfolding compute_program listing_report longest days_of longest_answer
number_rows_hold = record {
  calls = call_numbers_hold;
  reading = text_numbers_hold;
  listing_10 = refl;
  longest_7 = refl;
  program_2 = refl;
  program_3 = refl;
  program_4 = refl;
  program_5 = refl;
  program_6 = refl;
  program_7 = refl;
  program_10 = refl;
  program_11 = refl;
  program_12 = refl;
  program_13 = refl;
  program_12_first = refl;
}
