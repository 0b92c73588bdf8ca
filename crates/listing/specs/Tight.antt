-- The tightest window of a row set (001, Definition 3: tightest time interval).
--     member_days t m     the days of the rows of m
--     lowest xs          the least number of a list, never for an empty one
--     first_day t m       the first row day of m
--     last_day t m        the last row day of m
--     nonempty m         m has a row
--     tightest t m s e   m is not empty, and [s, e] is its tightest window
--     tight t q s e      [s, e] is the tightest window of its own ring, which is not empty
use Rattle.std.specs.Prelude.{ℕ, min, Bool, List, [], ◌∷◌, map, length, eqb}
use Rattle.rings.specs.Words.{◌and◌, marked, some, tabulate, filter_by}
use Rattle.rings.specs.Table.{Table, size, day_of}
use Rattle.rings.specs.Ring.{greatest, ring}
use Rattle.rings.specs.CoreTimes.{never}
use Rattle.rings.specs.declared.Query.{Query}

unfoldable pub member_days : Table → List Bool → List ℕ
member_days t m = map (day_of t) (filter_by (marked m) (tabulate (λ j. j) 0 (size t)))

unfoldable pub lowest : List ℕ → ℕ
lowest [] = never
lowest (x ∷ xs) = min x (lowest xs)

-- 01: "Tightest window of a nonempty ring: its first and last row day". 001: "the minimal time window containing all edges"
unfoldable pub first_day : Table → List Bool → ℕ
first_day t m = lowest (member_days t m)

unfoldable pub last_day : Table → List Bool → ℕ
last_day t m = greatest (member_days t m)

unfoldable pub nonempty : List Bool → Bool
nonempty m = some (marked m) (length m)

unfoldable pub tightest : Table → List Bool → ℕ → ℕ → Bool
tightest t m s e = nonempty m and eqb (first_day t m) s and eqb (last_day t m) e

unfoldable pub tight : Table → Query → ℕ → ℕ → Bool
tight t q s e = tightest t (ring t q s e) s e
