-- Table check: first in each call that takes a table.
--     day_before t j               the day of the row before row j, 0 before row 0
--     row_faults j before day a b  the faults of a row, in their order: 3, 4, 5
--     row_check t j                those of row j of a table
--     table_check t                the answer: 1, 2, then the lowest faulty row
use Rattle.std.specs.Prelude.{ℕ, zero, suc, length, leb, ltb, eqb}
use Rattle.rings.specs.Words.{◌and◌, ◌or◌, no, tabulate}
use Rattle.rings.specs.Table.{Table, size, day_of, first_of, second_of}
use Rattle.rings.specs.Checks.{◌when◌, ◌then◌, in_order}
use Rattle.rings.specs.declared.refusal.Refusal.TheVariants.{ColumnsDiffer, TooLarge, BadDay, BadAccounts, DayFalls}
use Rattle.rings.specs.Refusals.{Verdict}

unfoldable pub day_before : Table → ℕ → ℕ
day_before t zero = 0
day_before t (suc j) = day_of t j

-- the faults of a row by its number, the day before, its day and its accounts
-- 01: "3: day outside 1 to 1,024. 4: second account above 4,095, or first not below second. 5: day below the previous row's"
unfoldable pub row_faults : ℕ → ℕ → ℕ → ℕ → ℕ → Verdict
row_faults j before day a b =
    BadDay j when no (leb 1 day and leb day 1024)
    then BadAccounts j when ltb 4095 b or no (ltb a b)
    then DayFalls j when ltb day before

unfoldable pub row_check : Table → ℕ → Verdict
row_check t j = row_faults j (day_before t j) (day_of t j) (first_of t j) (second_of t j)

-- 01: "1: column lengths differ. 2: over 16,384 rows. Then the lowest faulty row, by its first fault"
unfoldable pub table_check : Table → Verdict
table_check t =
    ColumnsDiffer when no (eqb (length t.first) (size t) and eqb (length t.second) (size t))
    then TooLarge when ltb 16384 (size t)
    then in_order (tabulate (row_check t) 0 (size t))
