-- What the steps of Listing ask and promise (src/list.rt).
--   The entries of a range, start by start
--     start_entries t q hi s    the entries that start on s
--     rest_from t q hi s        the entries that start on s or later
--   and as the counts of core times say
--     sum_of xs e m             the sum of xs from e on, m numbers
--     count_entries xs least s e total m    the entries of start s with an end from e on, m days, as the counts xs
--                                          say; total rows have earlier core times
--     Uncounted xs s low       no day from s on is counted in xs before low
--     FirstCounted xs low hi r    r is the first day from low to hi that is counted in xs, hi + 1 if none is
--   The runs of a start
--     Run xs hi e next         the day e is counted in xs, and next is the day counted next, hi + 1 if none is: between them the ring stays
--     Regathered               g' is g with the runs of the ends before e gathered, or taken where the end is listed
--   Columns
--     filled v n m xs          xs with v at m places from n on
--     filled_if b v n m xs      the same where b says so, else xs
--     written_of b ls           the entries ls where b says that they are written, else none
--     Progress f b goal rest   of the entries goal all but rest are counted, summed up and, where b says so, written, f x windows behind x
--   Steps, by what they ask and what they promise
--     day_places, most_rows, most_windows     days go from 0 to 1,024; a ring has at most the rows of a table, and so many windows
--     Places, Entering         `enter`
--     StartPlaces              `fill_starts`
--     Counting                 `first_counted`
--     Numbered, Gathering      the numbers of a start's entries, and what is gathered behind it
--     EndsAhead, EndsListed    `list_ends`
--     InRange q lo hi          a query and a range that are accepted
--     Ready, Passing           `pass` and `has_room`; `pass`
--     RoomFound                `has_room`
--     Checked, Found           `find_rings`
use Rattle.std.specs.Prelude.{ℕ, zero, suc, ◌+◌, ◌-◌, ◌*◌, ◌≤◌, ◌<◌, ◌≡◌, Bool, true, false, length, get_or, set, leb, ltb, Result}
use mathlib.Core.List.{List, [], ◌++◌, map, flatten}
use Rattle.rings.specs.Words.{◌and◌, at, tabulate, cons_if, filter_by}
use Rattle.rings.specs.Table.{Table, size}
use Rattle.rings.specs.Sound.{Sound}
use Rattle.rings.specs.Starts.{Prepared}
use Rattle.rings.specs.Windows.{windows_from}
use Rattle.rings.specs.declared.frame.Frame.{Frame}
use Rattle.rings.specs.Checks.{◌when◌}
use Rattle.rings.specs.Buffers.{cleared}
use Rattle.rings.specs.declared.Query.{Query}
use Rattle.rings.specs.declared.refusal.Refusal.{Refusal}
use Rattle.rings.specs.declared.refusal.Refusal.TheVariants.{NoRoom}
use Rattle.listing.specs.Tight.{tight}
use Rattle.listing.specs.Listing.{ListedRing, entry_of, listing, row_sum}
use Rattle.listing.specs.WindowCounts.{empty_windows, windows_behind}
use Rattle.listing.specs.ListingCall.{Columns, OneLength, with_entries, summed, listing_columns}
use Rattle.listing.specs.declared.Listed.{Listed}
use Rattle.listing.specs.declared.list.Passed.{Passed}

-- ---- the entries of a range

unfoldable pub start_entries : Table → Query → ℕ → ℕ → List ListedRing
start_entries t q hi s = map (entry_of t q) (filter_by (λ w. tight t q w.start w.end) (windows_from hi s))

unfoldable pub rest_from : Table → Query → ℕ → ℕ → List ListedRing
rest_from t q hi s = flatten (tabulate (start_entries t q hi) s (suc hi - s))

-- ---- as the counts of core times say

unfoldable pub sum_of : List ℕ → ℕ → ℕ → ℕ
sum_of xs e zero = 0
sum_of xs e (suc m) = at xs e + sum_of xs (suc e) m

-- [s, e] is listed if a row's core time is e and that of a row dated s is at most e; its ring has the rows with core times of at most e
unfoldable pub count_entries : List ℕ → ℕ → ℕ → ℕ → ℕ → ℕ → List ListedRing
count_entries xs least s e total zero = []
count_entries xs least s e total (suc m) =
    cons_if (ltb 0 (at xs e) and leb least e) (record { start = s; end = e; rows = total + at xs e })
    (count_entries xs least s (suc e) (total + at xs e) m)

pub record Uncounted (xs : List ℕ) (s low : ℕ) : Type 0 where
  pub order : s ≤ low
  pub none : (e : ℕ) → s ≤ e → e < low → get_or xs e 0 ≡ 0

pub record FirstCounted (xs : List ℕ) (low hi r : ℕ) : Type 0 where
  pub before : Uncounted xs low r
  pub to : r ≤ hi + 1
  pub counted : r ≤ hi → get_or xs r 0 ≡ 0 → ⊥

-- ---- the runs of a start

pub record Run (xs : List ℕ) (hi e next : ℕ) : Type 0 where
  pub counted : get_or xs e 0 ≡ 0 → ⊥
  pub ends : FirstCounted xs (e + 1) hi next

-- each run stands for as many starts as are alike
pub record Regathered (xs : List ℕ) (least alike low hi e : ℕ) (g g' : List ℕ) : Type 0 where
  pub kept : (i : ℕ) → get_or xs i 0 ≡ 0 → get_or g' i 0 ≡ get_or g i 0
  pub adds : (i next : ℕ) → low ≤ i → i < e → i < least → Run xs hi i next → get_or g' i 0 ≡ get_or g i 0 + alike * (next - i)
  pub takes : (i next : ℕ) → low ≤ i → i < e → least ≤ i → Run xs hi i next → get_or g' i 0 ≡ 0

-- ---- columns

unfoldable pub filled : ℕ → ℕ → ℕ → List ℕ → List ℕ
filled v n zero xs = xs
filled v n (suc m) xs = set (filled v n m xs) (n + m) v

unfoldable pub filled_if : Bool → ℕ → ℕ → ℕ → List ℕ → List ℕ
filled_if true v n m xs = filled v n m xs
filled_if false v n m xs = xs

unfoldable pub written_of : Bool → List ListedRing → List ListedRing
written_of true ls = ls
written_of false ls = []

-- lent are the columns as they were lent
pub record Progress (f : ListedRing → ℕ) (writes : Bool) (goal rest : List ListedRing) (n sum : ℕ) (lent now : Columns (List ℕ)) : Type 0 where
  pub done : List ListedRing
  pub split : done ++ rest ≡ goal
  pub counted : n ≡ length done
  pub summed_up : sum ≡ row_sum done
  pub columns : now ≡ with_entries f (written_of writes done) lent

-- ---- the steps

abbrev pub day_places : ℕ
day_places = 1025

abbrev pub most_rows : ℕ
most_rows = 16384

abbrev pub most_windows : ℕ
most_windows = 524800

pub record Places (writes : Bool) (n : ℕ) (ends rows windows : List ℕ) : Type 0 where
  pub in_ends : writes ≡ true → n < length ends
  pub in_rows : writes ≡ true → n < length rows
  pub in_windows : writes ≡ true → n < length windows

pub data Entering (writes : Bool) (n e total shown : ℕ) (ends rows windows ends' rows' windows' : List ℕ) : Type 0 where
  pass : writes ≡ false → ends' ≡ ends → rows' ≡ rows → windows' ≡ windows → Entering writes n e total shown ends rows windows ends' rows' windows'
  one : writes ≡ true → ends' ≡ set ends n e → rows' ≡ set rows n total → windows' ≡ set windows n shown
      → Entering writes n e total shown ends rows windows ends' rows' windows'

pub record StartPlaces (writes : Bool) (n m : ℕ) (starts : List ℕ) : Type 0 where
  pub order : n ≤ m
  pub in_starts : writes ≡ true → m ≤ length starts

pub record Counting (xs : List ℕ) (low hi : ℕ) : Type 0 where
  pub long : length xs ≡ day_places
  pub order : low ≤ hi + 1
  pub last : hi ≤ 1024

-- with what 1,024 starts can bring so far, one more start cannot overflow; no ring has more windows than the range
pub record EndsAhead (xs g : List ℕ) (f : Frame) (low least : ℕ) (writes : Bool) (p : Passed) (c : Columns (List ℕ)) : Type 0 where
  pub counts : Counting xs low f.stop
  pub in_table : sum_of xs low (f.stop + 1 - low) ≤ most_rows
  pub uncounted : Uncounted xs f.start low
  pub within : low ≤ f.stop
  pub counted : get_or xs low 0 ≡ 0 → ⊥
  pub long : length g ≡ day_places
  pub since : p.from ≤ f.start
  pub shown : (e next : ℕ) → low ≤ e → e ≤ f.stop → Run xs f.stop e next → get_or g e 0 + (f.start + 1 - p.from) * (next - e) ≤ most_windows
  pub alike : OneLength c
  pub room : writes ≡ true → p.count + length (count_entries xs least f.start f.start 0 (f.stop + 1 - f.start)) ≤ length c.starts
  pub few : p.count ≤ 1024 * day_places
  pub small : p.sum ≤ 1024 * (day_places * most_rows)
  pub few_empty : p.empty ≤ 1024 * day_places

-- the number of each entry of a start is what is gathered at its end, and its run once for each start alike
abbrev pub Numbered : List ℕ → List ℕ → ℕ → ℕ → ℕ → ℕ → ℕ → (ListedRing → ℕ) → Type 0
Numbered xs g least alike s low hi number =
    (e next total : ℕ) → low ≤ e → e ≤ hi → least ≤ e → Run xs hi e next
    → number (record { start = s; end = e; rows = total }) ≡ get_or g e 0 + alike * (next - e)

-- no row of the first day has a core time: nothing is gathered; else the runs of the start and of those alike are
pub data Gathering (xs : List ℕ) (f : Frame) (low least : ℕ) (p r : Passed) (g g' : List ℕ) : Type 0 where
  idle : f.stop < least → r.from ≡ p.from → g' ≡ g → Gathering xs f low least p r g g'
  walked : least ≤ f.stop → r.from ≡ f.start + 1 → Regathered xs least (f.start + 1 - p.from) low f.stop (f.stop + 1) g g'
      → Gathering xs f low least p r g g'

-- a start has at most day_places ends, with at most most_rows rows each
pub record EndsListed (xs : List ℕ) (f : Frame) (low least : ℕ) (writes : Bool) (p r : Passed) (old new : Columns (List ℕ)) (g g' : List ℕ) : Type 0 where
  pub few : r.count ≤ p.count + day_places
  pub small : r.sum ≤ p.sum + day_places * most_rows
  pub empty_so : r.empty ≡ p.empty + (low - f.start)
  pub gathers : Gathering xs f low least p r g g'
  pub moves : (number : ListedRing → ℕ)
      → Numbered xs g least (f.start + 1 - p.from) f.start low f.stop number
      → (goal rest : List ListedRing) (lent : Columns (List ℕ))
      → Progress number writes goal (count_entries xs least f.start f.start 0 (f.stop + 1 - f.start) ++ rest) p.count p.sum lent old
      → Progress number writes goal rest r.count r.sum lent new

pub record InRange (q : Query) (lo hi : ℕ) : Type 0 where
  pub some : 1 ≤ q.k
  pub from : 1 ≤ lo
  pub order : lo ≤ hi
  pub to : hi ≤ 1024

pub record Ready (t : Table) (q : Query) (lo hi : ℕ) (scratch : List ℕ) (writes : Bool) (c : Columns (List ℕ)) : Type 0 where
  pub sound : Sound t.days t.first t.second
  pub prepared : Prepared t scratch
  pub asked : InRange q lo hi
  pub alike : OneLength c
  pub room : writes ≡ true → length (listing t q lo hi) ≤ length c.starts

pub record Passing (t : Table) (q : Query) (lo hi : ℕ) (writes : Bool) (p : Passed) (old new : Columns (List ℕ)) (scratch : List ℕ) : Type 0 where
  pub whole : Progress (windows_behind t q lo hi) writes (listing t q lo hi) [] p.count p.sum old new
  pub empty_so : p.empty ≡ empty_windows t q lo hi
  pub prepared : Prepared t scratch

pub record RoomFound (t : Table) (q : Query) (lo hi : ℕ) (r : Bool) (old new : Columns (List ℕ)) (scratch : List ℕ) : Type 0 where
  pub answer : r ≡ leb (length (listing t q lo hi)) (length old.starts)
  pub unwritten : new ≡ old
  pub prepared : Prepared t scratch

pub record Checked (t : Table) (q : Query) (lo hi : ℕ) (c : Columns (List ℕ)) (scratch : List ℕ) : Type 0 where
  pub sound : Sound t.days t.first t.second
  pub asked : InRange q lo hi
  pub columns : OneLength c
  pub enough : 8192 + 4 * size t ≤ length scratch

pub record Found (t : Table) (q : Query) (lo hi : ℕ) (r : Result Listed Refusal) (old new : Columns (List ℕ)) (before scratch : List ℕ) : Type 0 where
  pub answer : r ≡ summed (NoRoom when ltb (length old.starts) (length (listing t q lo hi))) (listing t q lo hi) (empty_windows t q lo hi)
  pub columns : new ≡ listing_columns r t q lo hi old
  pub clear : scratch ≡ cleared before
