-- What the functions of src/recalling.rt promise one another.
--     entry_of r s e            an entry by its numbers
--     dated d                  a table as 14 sees it: the days alone
--     entry_as x               an entry as the code has it
--     entry_before c j         the entry before entry j, where there is one
--     follows before x         x stands first, or comes after the entry before
--     judged d j before x      14 by numbers: x is entry j, `before` stands before it, and d are the days of the table
--     hits c s e j i           entry i is of row j, and its window lies inside [s, e]
--     InTable n r              each row number of a list column is below n
--     EqualLists c             the columns of a list are of one length
--     Markable c m             the same, its rows are in a table of as many rows as there are marks, and all marks are 0
--     marks_of c s e n          the marks that recall writes for n rows
use Rattle.std.specs.Prelude.{Option, Some, None, ℕ, zero, suc, ◌<◌, Bool, true, List, [], ◌≡◌, length, get_or, replicate, leb, eqb}
use Rattle.rings.specs.Words.{◌and◌, no, at, tabulate}
use Rattle.rings.specs.Table.{Table, table_of}
use Rattle.rings.specs.Windows.{Entry, entries, recalled}
use Rattle.rings.specs.Checks.{◌when◌}
use Rattle.rings.specs.Buffers.{marks}
use Rattle.rings.specs.RecallCall.{Columns, comes_after, fits}
use Rattle.rings.specs.declared.recalling.Entry as lent
use Rattle.rings.specs.declared.refusal.Refusal.TheVariants.{BadEntry}
use Rattle.rings.specs.Refusals.{Verdict}

abbrev pub entry_of : ℕ → ℕ → ℕ → Entry
entry_of r s e = record { row = r; start = s; end = e }

abbrev pub dated : List ℕ → Table
dated d = table_of d [] []

abbrev pub entry_as : lent.Entry → Entry
entry_as x = entry_of x.row x.start x.end

-- entry 0 has none before it
unfoldable pub entry_before : Columns → ℕ → Option lent.Entry
entry_before c zero = None
entry_before c (suc i) = Some (record { row = at c.rows i; start = at c.starts i; end = at c.ends i })

unfoldable pub follows : Option lent.Entry → Entry → Bool
follows None x = true
follows (Some y) x = comes_after (entry_as y) x

unfoldable pub judged : List ℕ → ℕ → Option lent.Entry → lent.Entry → Verdict
judged d j before x = BadEntry j when no (fits (dated d) (entry_as x) and follows before (entry_as x))

unfoldable pub hits : Columns → ℕ → ℕ → ℕ → ℕ → Bool
hits c s e j i = eqb (at c.rows i) j and leb s (at c.starts i) and leb (at c.ends i) e

pub record InTable (n : ℕ) (r : List ℕ) : Type 0 where
  pub in_table : (i : ℕ) → i < length r → get_or r i 0 < n

pub record EqualLists (c : Columns) : Type 0 where
  pub starts : length c.starts ≡ length c.rows
  pub ends : length c.ends ≡ length c.rows

pub record Markable (c : Columns) (m : List ℕ) : Type 0 where
  pub lists : EqualLists c
  pub rows : InTable (length m) c.rows
  pub clear : m ≡ replicate (length m) 0

abbrev pub marks_of : Columns → ℕ → ℕ → ℕ → List ℕ
marks_of c s e n = marks (tabulate (recalled (entries c.rows c.starts c.ends) s e) 0 n)
