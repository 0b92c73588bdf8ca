-- What stops a call, by rows under one theorem, proved by computation: 01's limits, and the order of the checks.
--     row d a b                       a table of one row
--     season                         01's example
--     ask n                           the query k = n
--     entry, two_entries minimal-window lists of one and of two entries, as lent columns
--     CheckRows, check_rows_hold      the table, a field for each row, and the theorem
--     says n p                        the report of a refusal: number n, place p
--     CallNumbers, call_numbers_hold  01's numbers 1 to 10 and 14 as the calls give them, and 02's 15: a table of a row each, and the theorem
use Rattle.std.specs.Prelude.{ℕ, ◌≡◌, refl, true, [], ◌∷◌, length, replicate, ltb, eqb, Ok, Err}
use Rattle.rings.specs.Table.{Table}
use Rattle.rings.specs.CoreTimes.{row_time}
use Rattle.rings.specs.Refusals.{Report, refused, verdict_report, counted_report}
use Rattle.rings.specs.Buffers.{scratch_on, counted_scratch, verdict_scratch}
use Rattle.rings.specs.TableCheck.{table_check}
use Rattle.rings.specs.WindowRingCall.{ring_answer, ring_marks}
use Rattle.rings.specs.CoreTimesCall.{times_answer, row_column}
use Rattle.rings.specs.MinimalWindowsCall.{minimal_answer}
use Rattle.rings.specs.RecallCall.{Columns, recall_answer, recall_marks}
use Rattle.rings.specs.Compute.{compute}
use Rattle.rings.specs.declared.Query.{Query}
use Rattle.rings.specs.declared.refusal.Refusal.TheVariants.{ColumnsDiffer, TooLarge, BadDay, BadAccounts}
use Rattle.rings.specs.declared.refusal.Refusal.TheVariants.{BadK, BadRange, BadLength, Scratch, NoRoom}
use Rattle.rings.specs.declared.refusal.Refusal.TheVariants.{BadEntry, NotInRing}

abbrev row : ℕ → ℕ → ℕ → Table
row d a b = record { days = d ∷ []; first = a ∷ []; second = b ∷ [] }

abbrev season : Table
season = record { days = 1 ∷ 2 ∷ 2 ∷ 4 ∷ 5 ∷ 6 ∷ []; first = 1 ∷ 2 ∷ 1 ∷ 1 ∷ 3 ∷ 2 ∷ []; second = 2 ∷ 3 ∷ 3 ∷ 2 ∷ 4 ∷ 4 ∷ [] }

abbrev ask : ℕ → Query
ask n = record { k = n }

abbrev entry : ℕ → ℕ → ℕ → Columns
entry j s e = record { rows = j ∷ []; starts = s ∷ []; ends = e ∷ [] }

abbrev two_entries : ℕ → ℕ → ℕ → ℕ → ℕ → ℕ → Columns
two_entries j s e j' s' e' = record { rows = j ∷ j' ∷ []; starts = s ∷ s' ∷ []; ends = e ∷ e' ∷ [] }

pub record CheckRows : Type 0 where
  -- "Day 1,024 and account 4,095 pass; day 0, day 1,025 and account 4,096 are refused"
  pub limits : table_check (row 1024 0 4095) ≡ Ok tt
  pub day_0 : table_check (row 0 0 1) ≡ Err (BadDay 0)
  pub day_1025 : table_check (row 1025 0 1) ≡ Err (BadDay 0)
  pub account_4096 : table_check (row 1 0 4096) ≡ Err (BadAccounts 0)
  pub own_account : table_check (row 1 7 7) ≡ Err (BadAccounts 0)
  pub no_rows : table_check (record { days = []; first = []; second = [] }) ≡ Ok tt
  -- equal rows may stand twice
  pub twice : table_check (record { days = 3 ∷ 3 ∷ []; first = 1 ∷ 1 ∷ []; second = 2 ∷ 2 ∷ [] }) ≡ Ok tt
  -- 1, then 2, before a row's fault; the lowest faulty row, by its first fault
  pub too_many_rows : (t : Table)
      → eqb (length t.first) (length t.days) ≡ true
      → eqb (length t.second) (length t.days) ≡ true
      → ltb 16384 (length t.days) ≡ true
      → table_check t ≡ Err TooLarge
  pub lengths_first : table_check (record { days = 0 ∷ []; first = 1 ∷ []; second = [] }) ≡ Err ColumnsDiffer
  pub lowest_row : table_check (record { days = 1 ∷ 2 ∷ 0 ∷ []; first = 1 ∷ 2 ∷ 1 ∷ []; second = 2 ∷ 1 ∷ 2 ∷ [] }) ≡ Err (BadAccounts 1)
  pub day_before_accounts : table_check (record { days = 1 ∷ 0 ∷ []; first = 1 ∷ 2 ∷ []; second = 2 ∷ 2 ∷ [] }) ≡ Err (BadDay 1)
  pub accounts_before_order : table_check (record { days = 2 ∷ 1 ∷ []; first = 1 ∷ 2 ∷ []; second = 2 ∷ 2 ∷ [] }) ≡ Err (BadAccounts 1)
  -- Window ring: 6, 7, 8, 9 one after the other
  pub table_first : ring_answer (row 0 0 1) (ask 0) 2 1 0 0 ≡ Err (BadDay 0)
  pub ring_6 : ring_answer season (ask 4096) 2 1 0 0 ≡ Err BadK
  pub ring_7 : ring_answer season (ask 2) 2 1 0 0 ≡ Err BadRange
  pub ring_7_above : ring_answer season (ask 2) 1 1025 0 0 ≡ Err BadRange
  pub ring_8 : ring_answer season (ask 2) 1 2 5 0 ≡ Err BadLength
  pub ring_9 : ring_answer season (ask 2) 1 2 6 8215 ≡ Err Scratch
  pub ring_done : ring_answer season (ask 2) 1 2 6 8216 ≡ Ok 3
  -- 9 keeps every buffer; success leaves the scratch 0, the whole of a longer one
  pub kept_marks : ring_marks (ring_answer season (ask 2) 1 2 6 8215) season (ask 2) 1 2 (replicate 6 9) ≡ replicate 6 9
  pub kept_scratch : counted_scratch (ring_answer season (ask 2) 1 2 6 3) (replicate 3 9) ≡ replicate 3 9
  pub whole_scratch : counted_scratch (ring_answer season (ask 2) 1 2 6 8300) (replicate 8300 9) ≡ replicate 8300 0
  -- Core times: 7 is about the range and the start; 8 about both columns
  pub times_7_before : times_answer season (ask 2) 2 6 1 4096 6 8216 ≡ Err BadRange
  pub times_7_after : times_answer season (ask 2) 1 5 6 4096 6 8216 ≡ Err BadRange
  pub times_8_accounts : times_answer season (ask 2) 1 6 1 4095 6 8216 ≡ Err BadLength
  pub times_8_rows : times_answer season (ask 2) 1 6 1 4096 7 0 ≡ Err BadLength
  pub times_9 : times_answer season (ask 2) 1 6 1 4096 6 8215 ≡ Err Scratch
  pub times_kept : row_column (Err Scratch) season (ask 2) 6 1 (replicate 6 9) ≡ replicate 6 9
  pub times_scratch : verdict_scratch (times_answer season (ask 2) 1 6 1 4096 6 8215) (replicate 8215 9) ≡ replicate 8215 9
  -- Minimal windows: 8 before 9, 9 before 10
  pub minimal_8 : minimal_answer season (ask 2) 1 6 7 7 8 0 ≡ Err BadLength
  pub minimal_9 : minimal_answer season (ask 2) 1 6 7 7 7 0 ≡ Err Scratch
  -- 10 leaves the scratch 0
  pub minimal_10 : minimal_answer season (ask 2) 1 6 7 7 7 8216 ≡ Err NoRoom
  pub minimal_10_scratch : counted_scratch (minimal_answer season (ask 2) 1 6 7 7 7 8216) (replicate 8216 9) ≡ replicate 8216 0
  -- Recall: 8, then 14 at the first wrong entry, then 7
  pub recall_8 : recall_answer season (entry 6 1 2) 2 1 5 ≡ Err BadLength
  pub recall_14_row : recall_answer season (entry 6 1 2) 2 1 6 ≡ Err (BadEntry 0)
  pub recall_14_start : recall_answer season (entry 0 0 2) 1 6 6 ≡ Err (BadEntry 0)
  pub recall_14_day : recall_answer season (entry 3 1 3) 1 6 6 ≡ Err (BadEntry 0)
  pub recall_14_end : recall_answer season (entry 0 1 1025) 1 6 6 ≡ Err (BadEntry 0)
  pub recall_14_falling : recall_answer season (two_entries 1 1 2 0 1 2) 1 6 6 ≡ Err (BadEntry 1)
  pub recall_14_same_start : recall_answer season (two_entries 1 1 2 1 1 4) 1 6 6 ≡ Err (BadEntry 1)
  pub recall_14_same_end : recall_answer season (two_entries 1 1 4 1 2 4) 1 6 6 ≡ Err (BadEntry 1)
  pub recall_7 : recall_answer season (two_entries 1 1 2 1 2 4) 2 1 6 ≡ Err BadRange
  pub recall_empty_list : recall_marks
      (recall_answer season (record { rows = []; starts = []; ends = [] }) 1 6 6) season
      (record { rows = []; starts = []; ends = [] }) 1 6 (replicate 6 9)
      ≡ replicate 6 0
  -- Mistake: "counting rows as neighbours". Two rows of one pair, k = 2
  pub one_neighbour : ring_answer (record { days = 1 ∷ 2 ∷ []; first = 1 ∷ 1 ∷ []; second = 2 ∷ 2 ∷ [] }) (ask 2) 1 2 2 8200 ≡ Ok 0
  -- Mistake: "a row's time from its accounts alone: row 3 at start 1 would have 2"
  pub own_day : row_time season (ask 2) 6 1 3 ≡ 4

pub check_rows_hold : CheckRows
unfolding compute
check_rows_hold = record {
  limits = refl;
  day_0 = refl;
  day_1025 = refl;
  account_4096 = refl;
  own_account = refl;
  no_rows = refl;
  twice = refl;
  too_many_rows = λ t a b c. simp (a, b, c);
  lengths_first = refl;
  lowest_row = refl;
  day_before_accounts = refl;
  accounts_before_order = refl;
  table_first = refl;
  ring_6 = refl;
  ring_7 = refl;
  ring_7_above = refl;
  ring_8 = refl;
  ring_9 = refl;
  ring_done = refl;
  kept_marks = refl;
  kept_scratch = refl;
  whole_scratch = refl;
  times_7_before = refl;
  times_7_after = refl;
  times_8_accounts = refl;
  times_8_rows = refl;
  times_9 = refl;
  times_kept = refl;
  times_scratch = refl;
  minimal_8 = refl;
  minimal_9 = refl;
  minimal_10 = refl;
  minimal_10_scratch = refl;
  recall_8 = refl;
  recall_14_row = refl;
  recall_14_start = refl;
  recall_14_day = refl;
  recall_14_end = refl;
  recall_14_falling = refl;
  recall_14_same_start = refl;
  recall_14_same_end = refl;
  recall_7 = refl;
  recall_empty_list = refl;
  one_neighbour = refl;
  own_day = refl;
}

abbrev pub says : ℕ → ℕ → Report
says n p = record { number = n; place = p; count = 0 }

-- 01: "A refusal is a number and a place: a row for 3, 4, 5; a list entry from 0 for 14; .. else 0". 0 is none, with the count
pub record CallNumbers : Type 0 where
  pub number_0 : counted_report (ring_answer season (ask 2) 1 2 6 8216) ≡ record { number = 0; place = 0; count = 3 }
  pub number_1 : verdict_report (table_check (record { days = 1 ∷ []; first = 1 ∷ []; second = [] })) ≡ says 1 0
  pub number_2 : verdict_report (table_check (record { days = replicate 16385 1; first = replicate 16385 1; second = replicate 16385 2 })) ≡ says 2 0
  pub number_3 : verdict_report (table_check (record { days = 1 ∷ 1025 ∷ []; first = 1 ∷ 1 ∷ []; second = 2 ∷ 2 ∷ [] })) ≡ says 3 1
  pub number_4 : verdict_report (table_check (record { days = 1 ∷ 1 ∷ 1 ∷ []; first = 1 ∷ 1 ∷ 2 ∷ []; second = 2 ∷ 2 ∷ 2 ∷ [] })) ≡ says 4 2
  pub number_5 : verdict_report (table_check (record { days = 1 ∷ 3 ∷ 2 ∷ []; first = 1 ∷ 1 ∷ 1 ∷ []; second = 2 ∷ 2 ∷ 2 ∷ [] })) ≡ says 5 2
  -- "k = 0 gives 6"
  pub number_6 : counted_report (ring_answer season (ask 0) 1 6 6 8216) ≡ says 6 0
  pub number_7 : verdict_report (times_answer season (ask 2) 2 6 1 4096 6 8216) ≡ says 7 0
  pub number_8 : counted_report (ring_answer season (ask 2) 1 2 5 8216) ≡ says 8 0
  pub number_9 : verdict_report (times_answer season (ask 2) 1 6 1 4096 6 8215) ≡ says 9 0
  pub number_10 : counted_report (minimal_answer season (ask 2) 1 6 0 0 0 8216) ≡ says 10 0
  pub number_14 : verdict_report (recall_answer season (two_entries 1 1 2 0 1 2) 1 6 6) ≡ says 14 1
  -- 02, S-4: 15 has place 0 and stands behind 9. Its call is Mark group, above
  pub number_15 : refused NotInRing ≡ says 15 0
  pub scratch_15 : scratch_on NotInRing (replicate 3 9) ≡ replicate 3 0

pub call_numbers_hold : CallNumbers
unfolding compute
call_numbers_hold = record {
  number_0 = refl;
  number_1 = refl;
  number_2 = refl;
  number_3 = refl;
  number_4 = refl;
  number_5 = refl;
  number_6 = refl;
  number_7 = refl;
  number_8 = refl;
  number_9 = refl;
  number_10 = refl;
  number_14 = refl;
  number_15 = refl;
  scratch_15 = refl;
}
