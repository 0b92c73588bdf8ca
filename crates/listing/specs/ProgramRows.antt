-- The listing program by rows under one theorem, proved by computation: 01's example, the edges of an input, the list call's output. A row
-- for each number of a refusal: NumberRows.antt.
--     query k s e        a query line
--     season_text         01's example
--     line s e span n    a printed line of a listing
--     head_line           the line `start  end span  rows`
--     season_list         what 01's example prints, its spans by 02, S-3: 2, 4, 6, 3, 5
--     one_day_text         a triangle on day 3
--     compute_program    a theorem that says `unfolding compute_program` computes with every definition of the program
--     ProgramRows        the table: a field for each row
--     program_rows_hold  the theorem
use Rattle.std.specs.Prelude.{ℕ, ◌≡◌, refl, List, [], ◌∷◌, ◌++◌, replicate, Ok}
use Rattle.text.specs.Decimal.{unblank, is_digit, all_digits, leads_well, is_numeral, value, numeral_of, field_of}
use Rattle.text.specs.Line.{prepend, lines_of, first_line, is_whole, judged, field_at, line_as, step_as, row_of, step_at, query_of}
use Rattle.text.specs.Table.{days_of, firsts_of, seconds_of, judged_from, table_read_of}
use Rattle.text.specs.Print.{column_of, printed, listing_line, entry_lines, listing_text, refused_line}
use Rattle.text.specs.TextNumbers.{five, six, row}
use Rattle.rings.specs.Compute.{compute}
use Rattle.listing.specs.Tight.{member_days, lowest, first_day, last_day, nonempty, tightest, tight}
use Rattle.listing.specs.Listing.{entry_of, listing, row_sum, span}
use Rattle.listing.specs.ListingCall.{listing_checks, summed, listing_answer}
use Rattle.listing.specs.Program.{found, stopped, reader_line, input_line, stopped_by, table_of, from_list}
use Rattle.listing.specs.Program.{listed as listed_by, from_rows, bad_query, from_query, unless_long, outcome}
use Rattle.listing.specs.ProgramText.{line_of, list_text, outcome_text, program_text, refused_of, fitted, list_answer, list_output, printed_report}
use Rattle.listing.specs.Examples.{listed}

abbrev pub query : ℕ → ℕ → ℕ → List ℕ
query k s e = five k ++ five s ++ five e ++ 10 ∷ []

abbrev pub season_text : List ℕ
season_text = query 2 1 6 ++ row 1 1 2 ++ row 2 2 3 ++ row 2 1 3 ++ row 4 1 2 ++ row 5 3 4 ++ row 6 2 4

abbrev pub one_day_text : List ℕ
one_day_text = query 2 1 6 ++ row 3 1 2 ++ row 3 1 3 ++ row 3 2 3

abbrev pub line : ℕ → ℕ → ℕ → ℕ → List ℕ
line s e span n = five s ++ five e ++ five span ++ six n ++ 10 ∷ []

abbrev pub head_line : List ℕ
head_line = 115 ∷ 116 ∷ 97 ∷ 114 ∷ 116 ∷ 32 ∷ 32 ∷ 101 ∷ 110 ∷ 100 ∷ 32 ∷ 115 ∷ 112 ∷ 97 ∷ 110 ∷ 32 ∷ 32 ∷ 114 ∷ 111 ∷ 119 ∷ 115 ∷ 10 ∷ []

abbrev pub season_list : List ℕ
season_list = head_line ++ line 1 2 2 3 ++ line 1 4 4 4 ++ line 1 6 6 6 ++ line 2 4 3 3 ++ line 2 6 5 5

unfoldable pub compute_program : Unit {0}
unfolding
    compute member_days lowest first_day last_day nonempty tightest tight entry_of listing row_sum listing_checks summed listing_answer
    unblank is_digit all_digits leads_well is_numeral value numeral_of field_of
    prepend lines_of first_line is_whole judged field_at line_as step_as row_of step_at query_of days_of firsts_of seconds_of judged_from table_read_of
    column_of printed listing_line entry_lines listing_text refused_line
    reader_line input_line stopped_by table_of from_list listed_by from_rows bad_query from_query unless_long outcome
    span line_of list_text outcome_text program_text refused_of fitted list_answer list_output printed_report
compute_program = tt

pub record ProgramRows : Type 0 where
  pub season : outcome season_text ≡ found (listed 1 2 3 ∷ listed 1 4 4 ∷ listed 1 6 6 ∷ listed 2 4 3 ∷ listed 2 6 5 ∷ [])
  -- "No rings: that line alone"
  pub no_rows : outcome (query 2 1 6) ≡ found []
  -- "Over 18,448 bytes: refusal 2": not these
  pub just_fits : outcome (replicate 18448 32) ≡ stopped 11 1
  -- "the query line first (11, 12, 13 at line 1; 11 when input is empty)"
  pub empty_input : outcome [] ≡ stopped 11 1
  pub no_line_end : outcome (five 2 ++ five 1 ++ five 6) ≡ stopped 11 1
  pub blank_field : outcome (replicate 5 32 ++ five 1 ++ five 6 ++ 10 ∷ []) ≡ stopped 12 1
  pub large_field : outcome (54 ∷ 53 ∷ 53 ∷ 51 ∷ 54 ∷ five 1 ++ five 6 ++ 10 ∷ row 0 9 9) ≡ stopped 13 1
  -- "reader's line + 1": the second row's line is input line 3, and its fault comes before the first row's day 0
  pub row_line : outcome (query 2 1 6 ++ row 0 1 2 ++ five 1 ++ 10 ∷ []) ≡ stopped 11 3
  -- 01's example as it prints; "No rings: that line alone"; `refused`, the number in 5 columns, the line in 6
  pub season_printed : program_text season_text ≡ season_list
  pub no_rings_printed : program_text (query 2 1 6) ≡ head_line
  -- 02, S-3: "a ring of one day now has a span of 1"
  pub one_day_printed : program_text one_day_text ≡ head_line ++ line 3 3 1 3
  pub refused_printed : program_text [] ≡ 114 ∷ 101 ∷ 102 ∷ 117 ∷ 115 ∷ 101 ∷ 100 ∷ 32 ∷ 32 ∷ 32 ∷ 49 ∷ 49 ∷ six 1 ++ 10 ∷ []
  -- the list call: six lines of 22 bytes; two bytes past them are kept; one byte less leaves all of it
  pub call : list_answer (outcome season_text) 134 ≡ Ok 132
  pub call_output : list_output (list_answer (outcome season_text) 134) (outcome season_text) (replicate 134 9) ≡ season_list ++ 9 ∷ 9 ∷ []
  pub call_just_fits : printed_report (list_answer (outcome season_text) 132) ≡ record { number = 0; place = 0; count = 132 }
  pub call_kept : list_output (list_answer (outcome season_text) 131) (outcome season_text) (replicate 131 9) ≡ replicate 131 9
  pub call_refused : printed_report (list_answer (outcome []) 0) ≡ record { number = 11; place = 1; count = 0 }

pub program_rows_hold : ProgramRows
unfolding compute_program
program_rows_hold = record {
  season = refl;
  no_rows = refl;
  just_fits = refl;
  empty_input = refl;
  no_line_end = refl;
  blank_field = refl;
  large_field = refl;
  row_line = refl;
  season_printed = refl;
  no_rings_printed = refl;
  one_day_printed = refl;
  refused_printed = refl;
  call = refl;
  call_output = refl;
  call_just_fits = refl;
  call_kept = refl;
  call_refused = refl;
}
