-- The definitions computed at 01's own texts and at the edges of its rules. What refuses, with its number and place: specs/TextNumbers.antt.
--
--   zero_field largest_field large_field needless_zero two_zeros all_blank empty_field blank_behind two_numbers million     fields
--   lone_end final_end            lines
--   example example_reads example_days     01's example table
--   example_query                 01's query line
--   example_line example_refused  printed lines: a ring of examples/market.txt, four numbers that differ; 01's refused line
-- Assumes nothing.
use mathlib.Core.Path.{◌≡◌, refl}
use mathlib.Core.List.{List, [], ◌∷◌}
use Prim.Native.Nat.{ℕ}
use Rattle.text.specs.Layout.{largest}
use Rattle.text.specs.Decimal.{field_of, numeral_of, unblank, is_numeral, leads_well, all_digits, is_digit, value}
use Rattle.text.specs.Line.{lines_of, prepend, is_whole, judged, field_at, line_as, step_as, row_of, query_of}
use Rattle.text.specs.Table.{judged_from, table_read_of, days_of}
use Rattle.text.specs.Print.{printed, column_of, listing_line, refused_line}
use Rattle.std.specs.Prelude.{Ok, Err}
use Rattle.text.specs.declared.decimal.FieldError.TheVariants.{Broken, Large}

-- ---- fields

zero_field : field_of largest (32 ∷ 32 ∷ 32 ∷ 32 ∷ 48 ∷ []) ≡ Ok 0
unfolding field_of numeral_of unblank is_numeral leads_well all_digits is_digit value
zero_field = refl

largest_field : field_of largest (32 ∷ 54 ∷ 53 ∷ 53 ∷ 51 ∷ 53 ∷ []) ≡ Ok 65535
unfolding field_of numeral_of unblank is_numeral leads_well all_digits is_digit value
largest_field = refl

large_field : field_of largest (32 ∷ 54 ∷ 53 ∷ 53 ∷ 51 ∷ 54 ∷ []) ≡ Err Large
unfolding field_of numeral_of unblank is_numeral leads_well all_digits is_digit value
large_field = refl

needless_zero : field_of largest (48 ∷ 54 ∷ 53 ∷ 53 ∷ 51 ∷ 54 ∷ []) ≡ Err Broken
unfolding field_of numeral_of unblank is_numeral leads_well all_digits is_digit value
needless_zero = refl

two_zeros : field_of largest (48 ∷ 48 ∷ []) ≡ Err Broken
unfolding field_of numeral_of unblank is_numeral leads_well all_digits is_digit value
two_zeros = refl

all_blank : field_of largest (32 ∷ 32 ∷ 32 ∷ 32 ∷ 32 ∷ []) ≡ Err Broken
unfolding field_of numeral_of unblank is_numeral leads_well all_digits is_digit value
all_blank = refl

empty_field : field_of largest ([]) ≡ Err Broken
unfolding field_of numeral_of unblank is_numeral leads_well all_digits is_digit value
empty_field = refl

blank_behind : field_of largest (49 ∷ 50 ∷ 32 ∷ []) ≡ Err Broken
unfolding field_of numeral_of unblank is_numeral leads_well all_digits is_digit value
blank_behind = refl

two_numbers : field_of largest (49 ∷ 32 ∷ 32 ∷ 50 ∷ []) ≡ Err Broken
unfolding field_of numeral_of unblank is_numeral leads_well all_digits is_digit value
two_numbers = refl

million : field_of largest (49 ∷ 48 ∷ 48 ∷ 48 ∷ 48 ∷ 48 ∷ 48 ∷ []) ≡ Err Large
unfolding field_of numeral_of unblank is_numeral leads_well all_digits is_digit value
million = refl

-- ---- lines

lone_end : lines_of (10 ∷ []) ≡ (10 ∷ []) ∷ []
unfolding lines_of prepend
lone_end = refl

final_end : lines_of (49 ∷ 10 ∷ 10 ∷ 50 ∷ []) ≡ (49 ∷ 10 ∷ []) ∷ (10 ∷ []) ∷ (50 ∷ []) ∷ []
unfolding lines_of prepend
final_end = refl

-- ---- 01's example

-- "    1     1     2" and the five lines behind it
example : List ℕ
example =
    32 ∷ 32 ∷ 32 ∷ 32 ∷ 49 ∷ 32 ∷ 32 ∷ 32 ∷ 32 ∷ 32 ∷ 49 ∷ 32 ∷ 32 ∷ 32 ∷ 32 ∷ 32 ∷ 50 ∷ 10 ∷
    32 ∷ 32 ∷ 32 ∷ 32 ∷ 50 ∷ 32 ∷ 32 ∷ 32 ∷ 32 ∷ 32 ∷ 50 ∷ 32 ∷ 32 ∷ 32 ∷ 32 ∷ 32 ∷ 51 ∷ 10 ∷
    32 ∷ 32 ∷ 32 ∷ 32 ∷ 50 ∷ 32 ∷ 32 ∷ 32 ∷ 32 ∷ 32 ∷ 49 ∷ 32 ∷ 32 ∷ 32 ∷ 32 ∷ 32 ∷ 51 ∷ 10 ∷
    32 ∷ 32 ∷ 32 ∷ 32 ∷ 52 ∷ 32 ∷ 32 ∷ 32 ∷ 32 ∷ 32 ∷ 49 ∷ 32 ∷ 32 ∷ 32 ∷ 32 ∷ 32 ∷ 50 ∷ 10 ∷
    32 ∷ 32 ∷ 32 ∷ 32 ∷ 53 ∷ 32 ∷ 32 ∷ 32 ∷ 32 ∷ 32 ∷ 51 ∷ 32 ∷ 32 ∷ 32 ∷ 32 ∷ 32 ∷ 52 ∷ 10 ∷
    32 ∷ 32 ∷ 32 ∷ 32 ∷ 54 ∷ 32 ∷ 32 ∷ 32 ∷ 32 ∷ 32 ∷ 50 ∷ 32 ∷ 32 ∷ 32 ∷ 32 ∷ 32 ∷ 52 ∷ 10 ∷ []

example_reads : table_read_of example 6 7 6 ≡ Ok 6
unfolding
    example table_read_of judged_from row_of line_as field_at judged is_whole lines_of prepend
    field_of numeral_of unblank is_numeral leads_well all_digits is_digit value
example_reads = refl

example_days : days_of example ≡ 1 ∷ 2 ∷ 2 ∷ 4 ∷ 5 ∷ 6 ∷ []
unfolding
    example days_of row_of line_as field_at judged is_whole lines_of prepend
    field_of numeral_of unblank is_numeral leads_well all_digits is_digit value
example_days = refl

example_query : query_of (32 ∷ 32 ∷ 32 ∷ 32 ∷ 50 ∷ 32 ∷ 32 ∷ 32 ∷ 32 ∷ 49 ∷ 32 ∷ 32 ∷ 32 ∷ 32 ∷ 54 ∷ 10 ∷ []) ≡ Ok (record { k = 2; from = 1; to = 6 })
unfolding query_of step_as line_as field_at judged is_whole lines_of prepend field_of numeral_of unblank is_numeral leads_well all_digits is_digit value
example_query = refl

example_line : listing_line 2 49 48 529 ≡ 32 ∷ 32 ∷ 32 ∷ 32 ∷ 50 ∷ 32 ∷ 32 ∷ 32 ∷ 52 ∷ 57 ∷ 32 ∷ 32 ∷ 32 ∷ 52 ∷ 56 ∷ 32 ∷ 32 ∷ 32 ∷ 53 ∷ 50 ∷ 57 ∷ 10 ∷ []
unfolding listing_line printed column_of
example_line = refl

example_refused : refused_line 2 0 ≡ 114 ∷ 101 ∷ 102 ∷ 117 ∷ 115 ∷ 101 ∷ 100 ∷ 32 ∷ 32 ∷ 32 ∷ 32 ∷ 50 ∷ 32 ∷ 32 ∷ 32 ∷ 32 ∷ 32 ∷ 48 ∷ 10 ∷ []
unfolding refused_line printed column_of
example_refused = refl
