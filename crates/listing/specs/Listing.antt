-- The listing of a range: every ring once, by its tightest window.
--     ListedRing         an entry: a tightest window and the number of its ring's rows
--     entry_of t q w      the entry of window w
--     listing t q lo hi  all entries of the range [lo, hi], by start, then end
--     row_sum ls          the sum of the rows of a listing
--     span x             the span of an entry: both days count
use Rattle.std.specs.Prelude.{ℕ, ◌+◌, ◌-◌, List, [], ◌∷◌, map}
use Rattle.rings.specs.Words.{filter_by}
use Rattle.rings.specs.Table.{Table}
use Rattle.rings.specs.Ring.{ring, members}
use Rattle.rings.specs.Windows.{Window, windows}
use Rattle.rings.specs.declared.Query.{Query}
use Rattle.listing.specs.Tight.{tight}

pub record ListedRing : Type 0 where
  pub start : ℕ
  pub end : ℕ
  pub rows : ℕ

-- 01: "A payment count is the number of the ring's rows, equal rows counted each"
unfoldable pub entry_of : Table → Query → Window → ListedRing
entry_of t q w = record { start = w.start; end = w.end; rows = members (ring t q w.start w.end) }

-- 01: "columns start, end, rows, ordered by start, then end"
unfoldable pub listing : Table → Query → ℕ → ℕ → List ListedRing
listing t q lo hi = map (entry_of t q) (filter_by (λ w. tight t q w.start w.end) (windows lo hi))

unfoldable pub row_sum : List ListedRing → ℕ
row_sum [] = 0
row_sum (l ∷ ls) = l.rows + row_sum ls

-- 02, S-3: "Span is end minus start plus 1"
unfoldable pub span : ListedRing → ℕ
span x = x.end - x.start + 1
