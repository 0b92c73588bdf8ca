-- A table of payments, and the rows of a window.
--     Table              three columns: day, first account, second account. Row numbers start at 0
--     table_of d f s      the table of three columns
--     size t             the number of rows
--     day_of t j          the day of row j
--     first_of, second_of  its two accounts
--     in_window s e d     day d lies in the window [s, e]
--     window_rows t s e   the rows that the window [s, e] takes
--     Split d day r      the rows before a day are those below r, where d are the days
use Rattle.std.specs.Prelude.{ℕ, ◌≤◌, ◌<◌, Bool, List, length, get_or, leb}
use Rattle.rings.specs.Words.{◌and◌, at, tabulate}

-- 01: "A row is one payment: a day and two accounts. A table is three lent columns of 16-bit numbers." A temporal
-- graph, a row a temporal edge (001, section II)
pub record Table : Type 0 where
  pub days : List ℕ
  pub first : List ℕ
  pub second : List ℕ

abbrev pub table_of : List ℕ → List ℕ → List ℕ → Table
table_of d f s = record { days = d; first = f; second = s }

abbrev pub size : Table → ℕ
size t = length t.days

unfoldable pub day_of : Table → ℕ → ℕ
day_of t j = at t.days j

unfoldable pub first_of : Table → ℕ → ℕ
first_of t j = at t.first j

unfoldable pub second_of : Table → ℕ → ℕ
second_of t j = at t.second j

unfoldable pub in_window : ℕ → ℕ → ℕ → Bool
in_window s e d = leb s d and leb d e

-- 01: "A window [s, e] takes the rows with s ≤ day ≤ e"
unfoldable pub window_rows : Table → ℕ → ℕ → List Bool
window_rows t s e = tabulate (λ j. in_window s e (day_of t j)) 0 (size t)

-- 01: "Days never fall from row to row": so a day parts the rows in two
pub record Split (d : List ℕ) (day r : ℕ) : Type 0 where
  pub within : r ≤ length d
  pub before : (j : ℕ) → j < r → get_or d j 0 < day
  pub after : (j : ℕ) → r ≤ j → j < length d → day ≤ get_or d j 0
