-- The distinct rings of a range, said without tightest windows: what a listing is to list.
--     same_mark a b       two marks are equal
--     same_rows m m'      the row sets m and m' are equal
--     distinct ms        each row set of a list once, at its last place
--     rings_of t q lo hi  the rings of all windows of the range [lo, hi], by start, then end
--     distinct_rings t q lo hi    those that are not empty, each once
use Rattle.std.specs.Prelude.{ℕ, Bool, true, false, List, [], ◌∷◌, map}
use Rattle.rings.specs.Words.{◌and◌, no, cons_if, filter_by, any}
use Rattle.rings.specs.Table.{Table}
use Rattle.rings.specs.Ring.{ring}
use Rattle.rings.specs.Windows.{windows}
use Rattle.rings.specs.declared.Query.{Query}
use Rattle.listing.specs.Tight.{nonempty}

unfoldable pub same_mark : Bool → Bool → Bool
same_mark true b = b
same_mark false b = no b

-- 01: "Rings are equal when their row sets are equal"
unfoldable pub same_rows : List Bool → List Bool → Bool
same_rows [] [] = true
same_rows [] (b ∷ m') = false
same_rows (a ∷ m) [] = false
same_rows (a ∷ m) (b ∷ m') = same_mark a b and same_rows m m'

unfoldable pub distinct : List (List Bool) → List (List Bool)
distinct [] = []
distinct (m ∷ ms) = cons_if (no (any (same_rows m) ms)) m (distinct ms)

unfoldable pub rings_of : Table → Query → ℕ → ℕ → List (List Bool)
rings_of t q lo hi = map (λ w. ring t q w.start w.end) (windows lo hi)

unfoldable pub distinct_rings : Table → Query → ℕ → ℕ → List (List Bool)
distinct_rings t q lo hi = distinct (filter_by nonempty (rings_of t q lo hi))
