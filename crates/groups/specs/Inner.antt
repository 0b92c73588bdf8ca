-- Behind the calls: a forest of accounts, and what the inner functions are lent.
--     Forest p           p has a parent for each of 4,096 accounts, itself or one below
--     Stands p g         p stands for the leaders g: a parent has its child's leader, and a root is its own
--     Grown p g          a forest that stands for g
--     Found p p' x r     whatever p stands for, p' stands for too, and r is the leader of x
--     Points p p' x r    the same where r is the leader of x
--     Joins p p' a b     p' stands for the leaders of p with those of a and b joined
--     Leaders p g        p holds the leaders g themselves
--     Flattens p p'      p' holds the leaders that p stands for
--     rows_of bytes       the row set of mark bytes: those that are not 0
--     Between d s e r    the rows r are those of the window [s, e]
--     Lent d f g bytes r    a sound table, a mark byte for each row, and none outside the rows r
--     labelled           the labels that are written, by the leaders that are held
--     led                row j is marked, and held under the leader of a
--     LedMarked          those rows as marks, with their number
--     GroupMarked        the group of an account as marks, with its number of rows
--     most_marks, at_most n    one place more than a table has rows; n, or that where it is more
use Rattle.std.specs.Prelude.{ℕ, min, ◌+◌, ◌≤◌, ◌<◌, ◌≡◌, Bool, true, List, map, length, get_or, eqb}
use Rattle.rings.specs.Words.{◌and◌, no, marked, count, tabulate}
use Rattle.rings.specs.Table.{Table, Split}
use Rattle.rings.specs.Ring.{members}
use Rattle.rings.specs.Buffers.{mark, marks}
use Rattle.rings.specs.Sound.{Sound}
use Rattle.groups.specs.Groups.{joined, choose, none, group}
use Rattle.groups.specs.declared.rows.Rows.{Rows}

pub record Forest (p : List ℕ) : Type 0 where
  pub long : length p ≡ 4096
  pub down : (x : ℕ) → x < 4096 → get_or p x 0 ≤ x

pub record Stands (p : List ℕ) (g : ℕ → ℕ) : Type 0 where
  pub same : (x : ℕ) → x < 4096 → g (get_or p x 0) ≡ g x
  pub top : (x : ℕ) → x < 4096 → get_or p x 0 ≡ x → g x ≡ x

pub record Grown (p : List ℕ) (g : ℕ → ℕ) : Type 0 where
  pub forest : Forest p
  pub stands : Stands p g

pub record Found (p p' : List ℕ) (x r : ℕ) : Type 0 where
  pub forest : Forest p'
  pub below : r ≤ x
  pub stands : (g : ℕ → ℕ) → Stands p g → Stands p' g
  pub leads : (g : ℕ → ℕ) → Stands p g → r ≡ g x
  pub own : (g : ℕ → ℕ) → Stands p g → g r ≡ r

pub record Points (p p' : List ℕ) (x r : ℕ) : Type 0 where
  pub forest : Forest p'
  pub stands : (g : ℕ → ℕ) → Stands p g → g r ≡ r → g x ≡ r → Stands p' g

pub record Joins (p p' : List ℕ) (a b : ℕ) : Type 0 where
  pub forest : Forest p'
  pub stands : (g : ℕ → ℕ) → Stands p g → Stands p' (λ u. joined (g a) (g b) (g u))

pub record Leaders (p : List ℕ) (g : ℕ → ℕ) : Type 0 where
  pub long : length p ≡ 4096
  pub each : (x : ℕ) → x < 4096 → get_or p x 0 ≡ g x

pub record Flattens (p p' : List ℕ) : Type 0 where
  pub leaders : (g : ℕ → ℕ) → Stands p g → Leaders p' g

unfoldable pub rows_of : List ℕ → List Bool
rows_of bytes = map (λ b. no (eqb b 0)) bytes

pub record Between (d : List ℕ) (s e : ℕ) (r : Rows) : Type 0 where
  pub from : Split d s r.lo
  pub to : Split d (e + 1) r.end

pub record Lent (d f g bytes : List ℕ) (r : Rows) : Type 0 where
  pub sound : Sound d f g
  pub marks : length bytes ≡ length d
  pub ordered : r.lo ≤ r.end
  pub last : r.end ≤ length d
  pub among : (j : ℕ) → marked (rows_of bytes) j ≡ true → (r.lo ≤ j) × (j < r.end)

abbrev pub labelled : List ℕ → List ℕ → List ℕ → List ℕ
labelled f bytes leaders =
    tabulate (λ j. choose (marked (rows_of bytes) j) (get_or leaders (get_or f j 0) 0) none) 0 (length f)

unfoldable pub led : List ℕ → List ℕ → List ℕ → ℕ → ℕ → Bool
led f bytes leaders a j = marked (rows_of bytes) j and eqb (get_or leaders (get_or f j 0) 0) (get_or leaders a 0)

pub record LedMarked (f bytes leaders : List ℕ) (a n : ℕ) (now : List ℕ) : Type 0 where
  pub number : n ≡ count (led f bytes leaders a) (length f)
  pub marks : now ≡ tabulate (λ j. mark (led f bytes leaders a j)) 0 (length f)

pub record GroupMarked (t : Table) (m : List Bool) (a n : ℕ) (now : List ℕ) : Type 0 where
  pub number : n ≡ members (group t m a)
  pub marks : now ≡ marks (group t m a)

abbrev pub most_marks : ℕ
most_marks = 16385

unfoldable pub at_most : ℕ → ℕ
at_most n = min n most_marks
