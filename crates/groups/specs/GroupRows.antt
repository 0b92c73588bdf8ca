-- Worked rows of Label groups and Mark group under one theorem, proved by computation.
--     season                   01's example
--     triangles                two triangles, 1 2 3 and 5 6 7, and on day 3 a payment between them
--     ask n                    the query k = n
--     GroupRows, group_rows_hold    the table, a field for each row, and the theorem
use Rattle.std.specs.Prelude.{ℕ, ◌≡◌, refl, [], ◌∷◌, replicate, Ok, Err}
use Rattle.rings.specs.Table.{Table}
use Rattle.rings.specs.Refusals.{counted_report}
use Rattle.rings.specs.Buffers.{counted_scratch}
use Rattle.rings.specs.Compute.{compute}
use Rattle.rings.specs.declared.Query.{Query}
use Rattle.rings.specs.declared.refusal.Refusal.TheVariants.{BadK, BadRange, BadLength, Scratch, NotInRing}
use Rattle.groups.specs.Groups.{choose, joined, leader, labels_of, group}
use Rattle.groups.specs.GroupCalls.{label_answer, label_column, group_checks, group_answer, group_marks}

abbrev season : Table
season = record { days = 1 ∷ 2 ∷ 2 ∷ 4 ∷ 5 ∷ 6 ∷ []; first = 1 ∷ 2 ∷ 1 ∷ 1 ∷ 3 ∷ 2 ∷ []; second = 2 ∷ 3 ∷ 3 ∷ 2 ∷ 4 ∷ 4 ∷ [] }

abbrev triangles : Table
triangles =
    record {
      days = 1 ∷ 1 ∷ 1 ∷ 2 ∷ 2 ∷ 2 ∷ 3 ∷ [];
      first = 1 ∷ 2 ∷ 1 ∷ 6 ∷ 5 ∷ 5 ∷ 3 ∷ [];
      second = 2 ∷ 3 ∷ 3 ∷ 7 ∷ 6 ∷ 7 ∷ 5 ∷ [];
    }

abbrev ask : ℕ → Query
ask n = record { k = n }

pub record GroupRows : Type 0 where
  -- 01's example: the ring of all days is one group, and so is that of days 1 to 2
  pub season_count : label_answer season (ask 2) 1 6 6 8216 ≡ Ok 6
  pub season_labels : label_column (Ok 6) season (ask 2) 1 6 (replicate 6 9) ≡ replicate 6 1
  pub season_outside : label_column (Ok 3) season (ask 2) 1 2 (replicate 6 9) ≡ 1 ∷ 1 ∷ 1 ∷ 65535 ∷ 65535 ∷ 65535 ∷ []
  -- two triangles are two groups while the payment between them lies outside the window, and one group with it
  pub two_labels : label_column (Ok 6) triangles (ask 2) 1 2 (replicate 7 9) ≡ 1 ∷ 1 ∷ 1 ∷ 5 ∷ 5 ∷ 5 ∷ 65535 ∷ []
  pub joined_labels : label_column (Ok 7) triangles (ask 2) 1 3 (replicate 7 9) ≡ replicate 7 1
  -- the group of one account
  pub group_count : group_answer triangles (ask 2) 1 2 6 7 8220 ≡ Ok 3
  pub group_marks_lem : group_marks (Ok 3) triangles (ask 2) 1 2 6 (replicate 7 9) ≡ 0 ∷ 0 ∷ 0 ∷ 1 ∷ 1 ∷ 1 ∷ 0 ∷ []
  -- 15: an account that is in the table and not in the ring, one that is in no row, and one above 4,095
  pub not_in_ring : group_answer season (ask 2) 1 2 4 6 8216 ≡ Err NotInRing
  pub in_no_row : group_answer season (ask 2) 1 6 9 6 8216 ≡ Err NotInRing
  pub account_4096 : group_answer season (ask 2) 1 6 4096 6 8216 ≡ Err NotInRing
  pub no_ring : group_answer season (ask 4) 1 6 1 6 8216 ≡ Err NotInRing
  -- it has number 15 and place 0, keeps the marks and leaves the scratch all 0
  pub number_15 : counted_report (Err NotInRing) ≡ record { number = 15; place = 0; count = 0 }
  pub marks_kept : group_marks (Err NotInRing) season (ask 2) 1 2 4 (replicate 6 9) ≡ replicate 6 9
  pub scratch_cleared : counted_scratch (Err NotInRing) (replicate 8216 9) ≡ replicate 8216 0
  -- behind 9, and 9 behind 8, 7, 6 and the table
  pub nine_first : group_answer season (ask 2) 1 2 4 6 8215 ≡ Err Scratch
  pub eight_first : group_answer season (ask 2) 1 2 4 5 0 ≡ Err BadLength
  pub seven_first : group_answer season (ask 2) 2 1 4 5 0 ≡ Err BadRange
  pub six_first : group_answer season (ask 0) 2 1 4 5 0 ≡ Err BadK
  -- the label column stands for the marks in 8: one too short, one too long, one longer than any table
  pub labels_short : label_answer season (ask 2) 1 6 5 8216 ≡ Err BadLength
  pub labels_long : label_answer season (ask 2) 1 6 7 8216 ≡ Err BadLength
  pub labels_far : label_answer season (ask 2) 1 6 100000 8216 ≡ Err BadLength
  pub labels_nine : label_answer season (ask 2) 1 6 6 8215 ≡ Err Scratch
  pub labels_kept : label_column (Err Scratch) season (ask 2) 1 6 (replicate 6 9) ≡ replicate 6 9

pub group_rows_hold : GroupRows
unfolding compute choose joined leader labels_of group label_answer label_column group_checks group_answer group_marks
group_rows_hold = record {
  season_count = refl;
  season_labels = refl;
  season_outside = refl;
  two_labels = refl;
  joined_labels = refl;
  group_count = refl;
  group_marks_lem = refl;
  not_in_ring = refl;
  in_no_row = refl;
  account_4096 = refl;
  no_ring = refl;
  number_15 = refl;
  marks_kept = refl;
  scratch_cleared = refl;
  nine_first = refl;
  eight_first = refl;
  seven_first = refl;
  six_first = refl;
  labels_short = refl;
  labels_long = refl;
  labels_far = refl;
  labels_nine = refl;
  labels_kept = refl;
}
