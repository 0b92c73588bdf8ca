-- Recall (a table, a minimal-window list, s, e): the answer, and the marks at exit. The list is three lent columns.
--     Columns           the list as it is lent: row, start, end
--     columns_of r s e   the list of three columns
--     entry_at c i       entry i of the list
--     comes_after x y    y comes after x
--     in_place c i       entry i comes after the one before
--     fits t x          the row of x is in the table, and its window is right for it
--     entry_check t c i  14 at entry i
--     recall_answer      the answer: what stops the call, in order
--     recall_marks       the marks at exit
use Rattle.std.specs.Prelude.{ℕ, zero, suc, Bool, true, List, length, leb, ltb, eqb, Ok, Err}
use Rattle.rings.specs.Words.{◌and◌, ◌or◌, no, at, tabulate}
use Rattle.rings.specs.Table.{Table, size, day_of}
use Rattle.rings.specs.Windows.{Entry, entries, recalled}
use Rattle.rings.specs.Checks.{◌when◌, ◌then◌, in_order, range_check}
use Rattle.rings.specs.Buffers.{marks}
use Rattle.rings.specs.TableCheck.{table_check}
use Rattle.rings.specs.declared.refusal.Refusal.TheVariants.{BadLength, BadEntry}
use Rattle.rings.specs.Refusals.{Verdict}

pub record Columns : Type 0 where
  pub rows : List ℕ
  pub starts : List ℕ
  pub ends : List ℕ

abbrev pub columns_of : List ℕ → List ℕ → List ℕ → Columns
columns_of r s e = record { rows = r; starts = s; ends = e }

unfoldable pub entry_at : Columns → ℕ → Entry
entry_at c i = record { row = at c.rows i; start = at c.starts i; end = at c.ends i }

-- 01: "row rising, or same row with start and end both rising"
unfoldable pub comes_after : Entry → Entry → Bool
comes_after x y = ltb x.row y.row or (eqb x.row y.row and ltb x.start y.start and ltb x.end y.end)

unfoldable pub in_place : Columns → ℕ → Bool
in_place c zero = true
in_place c (suc i) = comes_after (entry_at c i) (entry_at c (suc i))

-- 01: "whose row isn't in the table, whose window lacks 1 ≤ start ≤ row's day ≤ end ≤ 1,024"
unfoldable pub fits : Table → Entry → Bool
fits t x = ltb x.row (size t) and leb 1 x.start and leb x.start (day_of t x.row) and leb (day_of t x.row) x.end and leb x.end 1024

-- 01: "14: the first entry .. that doesn't come after the one before"
unfoldable pub entry_check : Table → Columns → ℕ → Verdict
entry_check t c i = BadEntry i when no (fits t (entry_at c i) and in_place c i)

-- 01: "8: list columns differ, or marks not as long as the table. 14 .. 7"
unfoldable pub recall_answer : Table → Columns → ℕ → ℕ → ℕ → Verdict
recall_answer t c s e mark_places =
    table_check t
    then BadLength when no (eqb (length c.starts) (length c.rows) and eqb (length c.ends) (length c.rows) and eqb mark_places (size t))
    then in_order (tabulate (entry_check t c) 0 (length c.rows))
    then range_check s e

-- 01: "marks 1 each row with a listed window inside [s, e], 0 every other"
unfoldable pub recall_marks : Verdict → Table → Columns → ℕ → ℕ → List ℕ → List ℕ
recall_marks (Ok _) t c s e old = marks (tabulate (recalled (entries c.rows c.starts c.ends) s e) 0 (size t))
recall_marks (Err r) t c s e old = old
