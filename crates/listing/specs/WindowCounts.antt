-- Windows behind a ring (02, S-1): how many choices of days show it.
--     showing t q lo hi m        the number of windows of the range [lo, hi] whose ring is m
--     empty_windows t q lo hi     the number of windows of the range with no ring
--     windows_behind t q lo hi x  the number of an entry: of the windows whose ring is that of its own window
--     sum ns                     the sum of numbers
use Rattle.std.specs.Prelude.{ℕ, ◌+◌, List, [], ◌∷◌, Bool, length}
use Rattle.rings.specs.Words.{no, filter_by}
use Rattle.rings.specs.Table.{Table}
use Rattle.rings.specs.Ring.{ring}
use Rattle.rings.specs.declared.Query.{Query}
use Rattle.listing.specs.Tight.{nonempty}
use Rattle.listing.specs.Listing.{ListedRing}
use Rattle.listing.specs.Distinct.{same_rows, rings_of}

-- 02: "the number of windows of the range whose ring it is": of all windows, by their row sets
unfoldable pub showing : Table → Query → ℕ → ℕ → List Bool → ℕ
showing t q lo hi m = length (filter_by (same_rows m) (rings_of t q lo hi))

-- 02: "the number of windows with no ring"
unfoldable pub empty_windows : Table → Query → ℕ → ℕ → ℕ
empty_windows t q lo hi = length (filter_by (λ m. no (nonempty m)) (rings_of t q lo hi))

-- 02: "For each listed ring"
unfoldable pub windows_behind : Table → Query → ℕ → ℕ → ListedRing → ℕ
windows_behind t q lo hi x = showing t q lo hi (ring t q x.start x.end)

unfoldable pub sum : List ℕ → ℕ
sum [] = 0
sum (n ∷ ns) = n + sum ns
