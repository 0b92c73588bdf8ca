-- The starred rows of document 01, "Rows to check by", and those of 02, S-1, as one table under one theorem, proved by computation.
--     season             01's example, six payments: the table of every row that names no other
--     empty, pair        no rows; rows 1 1 2 and 2 1 2
--     leaving, late      two tables that catch mistakes
--     apart              a triangle on day 1 and again on day 4: days without rows inside a run
--     one, two, three    the queries k = 1, 2, 3
--     entry, listed      an entry of a minimal-window list, an entry of a listing
--     eight_entries       the season's minimal windows for k = 2, as lent columns
--     StarredRows        the table: a field for each row
--     from_start_1, from_start_3, column, accepted    the account columns, 4,096 long
--     starred_rows_hold  the theorem
use Rattle.std.specs.Prelude.{ℕ, suc, ◌+◌, ◌≡◌, refl, true, false, List, [], ◌∷◌, map, length, replicate}
use Rattle.std.proofs.Common.{ap, ◌∙◌, le_refl, arith}
use Rattle.rings.specs.Words.{tabulate}
use Rattle.rings.specs.Table.{Table}
use Rattle.rings.specs.Ring.{degree, ring}
use Rattle.rings.specs.CoreTimes.{never, account_time, row_time}
use Rattle.rings.specs.Windows.{Entry, minimal_windows}
use Rattle.rings.specs.Refusals.{counted_report}
use Rattle.rings.specs.Buffers.{counted_scratch}
use Rattle.rings.specs.WindowRingCall.{ring_answer, ring_marks}
use Rattle.rings.specs.CoreTimesCall.{times_answer, account_column, row_column}
use Rattle.rings.specs.MinimalWindowsCall.{minimal_answer, minimal_rows, minimal_starts, minimal_ends}
use Rattle.rings.specs.RecallCall.{Columns, recall_answer, recall_marks}
use Rattle.rings.specs.Compute.{compute}
use Rattle.rings.specs.declared.Query.{Query}
use Rattle.rings.specs.declared.refusal.Refusal.{Refusal}
use Rattle.rings.specs.Refusals.{Verdict}
use Rattle.rings.proofs.CoreTimeLaws.{times_absent}
use Rattle.listing.specs.Tight.{member_days, lowest, first_day, last_day, nonempty, tightest, tight}
use Rattle.listing.specs.Listing.{ListedRing, entry_of, listing, row_sum}
use Rattle.listing.specs.Distinct.{same_mark, same_rows, distinct, rings_of, distinct_rings}
use Rattle.listing.specs.WindowCounts.{showing, empty_windows, windows_behind, sum}
use Rattle.listing.specs.ListingCall.{columns_of, each, listing_checks, in_all, summed, listing_answer, listing_columns, listing_scratch, listing_report}
use Rattle.listing.specs.ListingCall.{listing_sum, listing_empty}
use Rattle.listing.specs.LongestList.{longest, days_of, longest_answer}
use Rattle.std.specs.Prelude.{Ok, Err}

abbrev pub season : Table
season = record { days = 1 ∷ 2 ∷ 2 ∷ 4 ∷ 5 ∷ 6 ∷ []; first = 1 ∷ 2 ∷ 1 ∷ 1 ∷ 3 ∷ 2 ∷ []; second = 2 ∷ 3 ∷ 3 ∷ 2 ∷ 4 ∷ 4 ∷ [] }

abbrev pub empty : Table
empty = record { days = []; first = []; second = [] }

abbrev pub pair : Table
pair = record { days = 1 ∷ 2 ∷ []; first = 1 ∷ 1 ∷ []; second = 2 ∷ 2 ∷ [] }

-- 1 1 2, then a whole triangle on day 2: 1 2, 2 3, 1 3
abbrev pub leaving : Table
leaving = record { days = 1 ∷ 2 ∷ 2 ∷ 2 ∷ []; first = 1 ∷ 1 ∷ 2 ∷ 1 ∷ []; second = 2 ∷ 2 ∷ 3 ∷ 3 ∷ [] }

-- 1 1 4, of no ring, then the same triangle on day 2
abbrev pub late : Table
late = record { days = 1 ∷ 2 ∷ 2 ∷ 2 ∷ []; first = 1 ∷ 1 ∷ 2 ∷ 1 ∷ []; second = 4 ∷ 2 ∷ 3 ∷ 3 ∷ [] }

-- 1 2, 1 3, 2 3 on day 1 and again on day 4
abbrev pub apart : Table
apart = record { days = 1 ∷ 1 ∷ 1 ∷ 4 ∷ 4 ∷ 4 ∷ []; first = 1 ∷ 1 ∷ 2 ∷ 1 ∷ 1 ∷ 2 ∷ []; second = 2 ∷ 3 ∷ 3 ∷ 2 ∷ 3 ∷ 3 ∷ [] }

abbrev pub one : Query
one = record { k = 1 }

abbrev pub two : Query
two = record { k = 2 }

abbrev pub three : Query
three = record { k = 3 }

abbrev pub entry : ℕ → ℕ → ℕ → Entry
entry j s e = record { row = j; start = s; end = e }

abbrev pub listed : ℕ → ℕ → ℕ → ListedRing
listed s e n = record { start = s; end = e; rows = n }

abbrev pub eight_entries : Columns
eight_entries = record {
  rows = 0 ∷ 1 ∷ 1 ∷ 2 ∷ 2 ∷ 3 ∷ 4 ∷ 5 ∷ [];
  starts = 1 ∷ 1 ∷ 2 ∷ 1 ∷ 2 ∷ 2 ∷ 2 ∷ 2 ∷ [];
  ends = 2 ∷ 2 ∷ 4 ∷ 2 ∷ 4 ∷ 4 ∷ 6 ∷ 6 ∷ [];
}

pub record StarredRows : Type 0 where
  -- "Start 1: accounts 1, 2, 3 have 2, account 4 has 6. Rows 0 to 5: 2, 2, 2, 4, 6, 6": every other account has no row
  pub start_1_accounts : account_column (times_answer season two 1 6 1 4096 6 8216) season two 6 1 (replicate 4096 9)
      ≡ never ∷ 2 ∷ 2 ∷ 2 ∷ 6 ∷ replicate 4091 never
  pub start_1_rows : row_column (times_answer season two 1 6 1 4096 6 8216) season two 6 1 (replicate 6 9) ≡ 2 ∷ 2 ∷ 2 ∷ 4 ∷ 6 ∷ 6 ∷ []
  -- "Start 2: row 0 never; rows 1 to 5: 4, 4, 4, 6, 6"
  pub start_2_rows : row_column (times_answer season two 1 6 2 4096 6 8216) season two 6 2 (replicate 6 9) ≡ never ∷ 4 ∷ 4 ∷ 4 ∷ 6 ∷ 6 ∷ []
  -- "Start 3: never for all"
  pub start_3_accounts : account_column (times_answer season two 1 6 3 4096 6 8216) season two 6 3 (replicate 4096 9) ≡ replicate 4096 never
  pub start_3_rows : row_column (times_answer season two 1 6 3 4096 6 8216) season two 6 3 (replicate 6 9) ≡ replicate 6 never
  -- "Minimal windows: row 0 [1,2]; rows 1 and 2 [1,2], [2,4]; row 3 [2,4]; rows 4 and 5 [2,6]. Eight entries"
  pub minimal : minimal_windows season two 1 6 ≡ entry 0 1 2 ∷ entry 1 1 2 ∷ entry 1 2 4 ∷ entry 2 1 2 ∷ entry 2 2 4
      ∷ entry 3 2 4 ∷ entry 4 2 6 ∷ entry 5 2 6 ∷ []
  pub eight_places : minimal_answer season two 1 6 8 8 8 8216 ≡ Ok 8
  -- ten places: the two past the count keep their contents
  pub row_column_lem : minimal_rows (minimal_answer season two 1 6 10 10 10 8216) season two 1 6 (replicate 10 9) ≡ 0 ∷ 1 ∷ 1 ∷ 2 ∷ 2 ∷ 3 ∷ 4 ∷ 5 ∷ 9 ∷ 9 ∷ []
  pub start_column : minimal_starts (minimal_answer season two 1 6 10 10 10 8216) season two 1 6 (replicate 10 9) ≡ 1 ∷ 1 ∷ 2 ∷ 1 ∷ 2 ∷ 2 ∷ 2 ∷ 2 ∷ 9 ∷ 9 ∷ []
  pub end_column : minimal_ends (minimal_answer season two 1 6 10 10 10 8216) season two 1 6 (replicate 10 9) ≡ 2 ∷ 2 ∷ 4 ∷ 2 ∷ 4 ∷ 4 ∷ 6 ∷ 6 ∷ 9 ∷ 9 ∷ []
  -- "seven places give 10": columns kept, scratch 0
  pub seven_places : minimal_answer season two 1 6 7 7 7 8216 ≡ Err Refusal.NoRoom
  pub seven_report : counted_report (minimal_answer season two 1 6 7 7 7 8216) ≡ record { number = 10; place = 0; count = 0 }
  pub seven_column : minimal_rows (minimal_answer season two 1 6 7 7 7 8216) season two 1 6 (replicate 7 9) ≡ replicate 7 9
  pub seven_scratch : counted_scratch (minimal_answer season two 1 6 7 7 7 8216) (replicate 8216 9) ≡ replicate 8216 0
  -- "The five rings above, sum 21"
  pub five_rings : listing season two 1 6 ≡ listed 1 2 3 ∷ listed 1 4 4 ∷ listed 1 6 6 ∷ listed 2 4 3 ∷ listed 2 6 5 ∷ []
  pub five_answer : listing_answer season two 1 6 (each 2048) 8216 ≡ Ok (in_all 5 21 13)
  pub five_places : listing_answer season two 1 6 (each 5) 8216 ≡ Ok (in_all 5 21 13)
  -- six places: the one past the count keeps its contents
  pub listed_columns : listing_columns (listing_answer season two 1 6 (each 6) 8216) season two 1 6 (each (replicate 6 9))
      ≡ columns_of (1 ∷ 1 ∷ 1 ∷ 2 ∷ 2 ∷ 9 ∷ []) (2 ∷ 4 ∷ 6 ∷ 4 ∷ 6 ∷ 9 ∷ []) (3 ∷ 4 ∷ 6 ∷ 3 ∷ 5 ∷ 9 ∷ []) (2 ∷ 2 ∷ 1 ∷ 2 ∷ 1 ∷ 9 ∷ [])
  -- four places give 10 too: columns kept, scratch 0
  pub four_columns : listing_columns (listing_answer season two 1 6 (each 4) 8216) season two 1 6 (each (replicate 4 9)) ≡ each (replicate 4 9)
  pub four_scratch : listing_scratch (listing_answer season two 1 6 (each 4) 8216) (replicate 8216 9) ≡ replicate 8216 0
  pub four_places : listing_answer season two 1 6 (each 4) 8216 ≡ Err Refusal.NoRoom
  -- 02, S-1: "The new 32-bit column obeys 8 and 10 as the list's columns do": on 10 above; one place less than the others is 8, all kept
  pub column_short : listing_answer season two 1 6 (columns_of 5 5 5 4) 8216 ≡ Err Refusal.BadLength
  pub short_columns : (let old = columns_of {A = List ℕ} (replicate 5 9) (replicate 5 9) (replicate 5 9) (replicate 4 9) in
      listing_columns (listing_answer season two 1 6 (columns_of 5 5 5 4) 8216) season two 1 6 old ≡ old)
  -- "In 01's example they are 2, 2, 1, 2, 1 and 13"
  pub five_numbers : map (windows_behind season two 1 6) (listing season two 1 6) ≡ 2 ∷ 2 ∷ 1 ∷ 2 ∷ 1 ∷ []
  pub thirteen_empty : empty_windows season two 1 6 ≡ 13
  pub empty_told : listing_empty (listing_answer season two 1 6 (each 5) 8216) ≡ 13
  -- "The counts and the empty ones add up to n(n+1)/2"
  pub numbers_add_up : sum (map (windows_behind season two 1 6) (listing season two 1 6)) + empty_windows season two 1 6 ≡ longest (days_of 1 6)
  -- the same five, found without tightest windows
  pub five_distinct : distinct_rings season two 1 6 ≡ map (λ (x : ListedRing). ring season two x.start x.end) (listing season two 1 6)
  -- "k = 3: none": every window is one with no ring
  pub k_3 : listing_answer season three 1 6 (each 2048) 8216 ≡ Ok (in_all 0 0 21)
  pub k_3_empty : empty_windows season three 1 6 ≡ 21
  -- "k = 1: 15 rings": [3,3] alone has none, and [1,2], [2,2], [4,4], [4,5], [4,6] have a second window, with day 3
  pub k_1 : listing_answer season one 1 6 (each 2048) 8216 ≡ Ok (in_all 15 43 1)
  pub k_1_numbers : map (windows_behind season one 1 6) (listing season one 1 6)
      ≡ 1 ∷ 2 ∷ 1 ∷ 1 ∷ 1 ∷ 2 ∷ 1 ∷ 1 ∷ 1 ∷ 2 ∷ 2 ∷ 2 ∷ 1 ∷ 1 ∷ 1 ∷ []
  pub k_1_distinct : length (distinct_rings season one 1 6) ≡ 15
  -- "No rows: no ring"
  pub no_rows : listing_answer empty one 1 6 (each 2048) 8192 ≡ Ok (in_all 0 0 21)
  -- "Rows 1 1 2 and 2 1 2, k = 2: none; k = 1: [1,1], [1,2], [2,2]"
  pub pair_k_2 : listing_answer pair two 1 2 (each 2048) 8200 ≡ Ok (in_all 0 0 3)
  pub pair_k_1_answer : listing_answer pair one 1 2 (each 2048) 8200 ≡ Ok (in_all 3 4 0)
  pub pair_k_1 : listing pair one 1 2 ≡ listed 1 1 1 ∷ listed 1 2 2 ∷ listed 2 2 1 ∷ []
  -- days without rows inside a run: [1,1] to [1,3] show the ring of [1,1], [1,4] to [1,6] that of [1,4], and nine windows with day 4 but not 1 that of [4,4]
  pub apart_rings : listing apart two 1 6 ≡ listed 1 1 3 ∷ listed 1 4 6 ∷ listed 4 4 3 ∷ []
  pub apart_numbers : map (windows_behind apart two 1 6) (listing apart two 1 6) ≡ 3 ∷ 3 ∷ 9 ∷ []
  pub apart_empty : empty_windows apart two 1 6 ≡ 6
  -- Window ring and Recall: the ring of [1, 4], and the same from the eight entries
  pub ring_count : ring_answer season two 1 4 6 8216 ≡ Ok 4
  pub ring_marks_lem : ring_marks (ring_answer season two 1 4 6 8216) season two 1 4 (replicate 6 9) ≡ 1 ∷ 1 ∷ 1 ∷ 1 ∷ 0 ∷ 0 ∷ []
  pub recall : recall_answer season eight_entries 1 4 6 ≡ Ok tt
  pub recall_marks_lem : recall_marks (recall_answer season eight_entries 1 4 6) season eight_entries 1 4 (replicate 6 9) ≡ 1 ∷ 1 ∷ 1 ∷ 1 ∷ 0 ∷ 0 ∷ []
  -- 1 + 2 + .. + 6; and for 1,024 days
  pub longest_6 : longest_answer 1 6 ≡ Ok 21
  pub longest_1024 : longest_answer 1 1024 ≡ Ok 524800
  -- Mistake: "a row's time from its accounts alone". The accounts 1 and 2 of row 3 have 2; the row has 4, its own day
  pub own_day_accounts : tabulate (account_time season two 6 1) 1 2 ≡ 2 ∷ 2 ∷ []
  pub own_day : row_time season two 6 1 3 ≡ 4
  -- Mistake: "counting rows as neighbours". Two rows of one pair give one neighbour; counted as rows, k = 2 would list [1,2] (pair_k_2)
  pub one_neighbour : degree pair (true ∷ true ∷ []) 1 ≡ 1
  pub no_ring : ring pair two 1 2 ≡ false ∷ false ∷ []
  -- Mistake: "recording a minimal window only when an account's core time moves". From start 1 to start 2 no account's time moves, and row 0 leaves: [1,2]
  pub leaving_1 : tabulate (account_time leaving two 2 1) 1 3 ≡ 2 ∷ 2 ∷ 2 ∷ []
  pub leaving_2 : tabulate (account_time leaving two 2 2) 1 3 ≡ 2 ∷ 2 ∷ 2 ∷ []
  pub leaving_windows : minimal_windows leaving two 1 2 ≡ entry 0 1 2 ∷ entry 1 2 2 ∷ entry 2 2 2 ∷ entry 3 2 2 ∷ []
  -- Mistake: "listing every window whose end changes, without a row on its first day". The ring of [1,2] has no row on day 1; nor
  -- has that of [3,4] for k = 1, which would make 18
  pub late_ring : ring late two 1 2 ≡ false ∷ true ∷ true ∷ true ∷ []
  pub late_rings : listing late two 1 2 ≡ listed 2 2 3 ∷ []
  -- and [1,2] counts for the ring of [2,2], which is its own; [1,1] alone has none
  pub late_numbers : map (windows_behind late two 1 2) (listing late two 1 2) ≡ 2 ∷ []
  pub late_empty : empty_windows late two 1 2 ≡ 1
  pub first_day_lem : tight season one 3 4 ≡ false
  -- and none without a row on its last day: [1,3] has the ring of [1,2]
  pub last_day_lem : tight season two 1 3 ≡ false

-- The account column is 4,096 long: accounts 0 to 4 are computed, and the season names no other
from_start_1 : (n : ℕ) → tabulate (account_time season two 6 1) 0 (suc (suc (suc (suc (suc n))))) ≡ never ∷ 2 ∷ 2 ∷ 2 ∷ 6 ∷ replicate n never
unfolding compute
from_start_1 n = ap (λ (l : List ℕ). never ∷ 2 ∷ 2 ∷ 2 ∷ 6 ∷ l) (times_absent season two 6 1 (omega arith) 5 n (le_refl 5))

from_start_3 : (n : ℕ) → tabulate (account_time season two 6 3) 0 (suc (suc (suc (suc (suc n))))) ≡ replicate (suc (suc (suc (suc (suc n))))) never
unfolding compute
from_start_3 n = ap (λ (l : List ℕ). never ∷ never ∷ never ∷ never ∷ never ∷ l) (times_absent season two 6 3 (omega arith) 5 n (le_refl 5))

column : (s : ℕ) (ls : List ℕ) → times_answer season two 1 6 s 4096 6 8216 ≡ Ok tt → tabulate (account_time season two 6 s) 0 4096 ≡ ls
    → account_column (times_answer season two 1 6 s 4096 6 8216) season two 6 s (replicate 4096 9) ≡ ls
unfolding account_column
column s ls a e = ap (λ (v : Verdict). account_column v season two 6 s (replicate 4096 9)) a ∙ e

accepted : (times_answer season two 1 6 1 4096 6 8216 ≡ Ok tt) × (times_answer season two 1 6 3 4096 6 8216 ≡ Ok tt)
unfolding compute
accepted = (refl, refl)

pub starred_rows_hold : StarredRows
unfolding
    compute member_days lowest first_day last_day nonempty tightest tight entry_of listing row_sum same_mark same_rows distinct rings_of distinct_rings
    showing empty_windows windows_behind sum
    listing_checks summed listing_answer listing_columns listing_scratch listing_report listing_sum listing_empty
    longest days_of longest_answer
starred_rows_hold = record {
  start_1_accounts = column 1 _ accepted.0 (from_start_1 4091);
  start_1_rows = refl;
  start_2_rows = refl;
  start_3_accounts = column 3 _ accepted.1 (from_start_3 4091);
  start_3_rows = refl;
  minimal = refl;
  eight_places = refl;
  row_column_lem = refl;
  start_column = refl;
  end_column = refl;
  seven_places = refl;
  seven_report = refl;
  seven_column = refl;
  seven_scratch = refl;
  five_rings = refl;
  five_answer = refl;
  five_places = refl;
  listed_columns = refl;
  four_columns = refl;
  four_scratch = refl;
  four_places = refl;
  column_short = refl;
  short_columns = refl;
  five_numbers = refl;
  thirteen_empty = refl;
  empty_told = refl;
  numbers_add_up = refl;
  five_distinct = refl;
  k_3 = refl;
  k_3_empty = refl;
  k_1 = refl;
  k_1_numbers = refl;
  k_1_distinct = refl;
  no_rows = refl;
  pair_k_2 = refl;
  pair_k_1_answer = refl;
  pair_k_1 = refl;
  apart_rings = refl;
  apart_numbers = refl;
  apart_empty = refl;
  ring_count = refl;
  ring_marks_lem = refl;
  recall = refl;
  recall_marks_lem = refl;
  longest_6 = refl;
  longest_1024 = refl;
  own_day_accounts = refl;
  own_day = refl;
  one_neighbour = refl;
  no_ring = refl;
  leaving_1 = refl;
  leaving_2 = refl;
  leaving_windows = refl;
  late_ring = refl;
  late_rings = refl;
  late_numbers = refl;
  late_empty = refl;
  first_day_lem = refl;
  last_day_lem = refl;
}
