-- Listing (k, Ts, Te): the answer, and each lent buffer at exit. Lent buffers go into the checks by their lengths.
--     Columns A          an A for each column of a listing: its starts, its ends, its rows, its windows
--     columns_of x y z w  these four
--     each x             the same x for each column
--     places_of c         the places of each column
--     with_entries f ls c     the columns c with the entries ls written from place 0 on, f x windows behind the ring of x
--     OneLength c        the columns have as many places each
--     listing_checks      what stops the call, in order
--     in_all n sum empty    n rings in all, the sum of their rows, and so many windows with no ring
--     summed v ls n      the answer for a listing: its count, its sum and n windows with no ring where no check refuses
--     listing_answer      the answer: the count, the sum of rows, and the number of windows with no ring
--     listing_columns     the columns at exit
--     listing_scratch     the scratch at exit
--     listing_report a, listing_sum a, listing_empty a    the answer in numbers
use Rattle.std.specs.Prelude.{ℕ, ◌≡◌, List, map, length, ltb, eqb, Result, Ok, Err}
use Rattle.rings.specs.Words.{◌and◌, no}
use Rattle.rings.specs.Table.{Table, size}
use Rattle.rings.specs.Refusals.{Verdict, Report, done, refused}
use Rattle.rings.specs.Checks.{◌when◌, ◌then◌, query_check, range_check, scratch_check}
use Rattle.rings.specs.Buffers.{over, cleared, scratch_on}
use Rattle.rings.specs.TableCheck.{table_check}
use Rattle.rings.specs.declared.Query.{Query}
use Rattle.rings.specs.declared.refusal.Refusal.{Refusal}
use Rattle.rings.specs.declared.refusal.Refusal.TheVariants.{BadLength, NoRoom}
use Rattle.listing.specs.Listing.{ListedRing, listing, row_sum}
use Rattle.listing.specs.WindowCounts.{empty_windows, windows_behind}
use Rattle.listing.specs.declared.Listed.{Listed}

-- 01: "columns start, end, rows". 02: "The new 32-bit column obeys 8 and 10 as the list's columns do"
pub record Columns (A : Type 0) : Type 0 where
  pub starts : A
  pub ends : A
  pub rows : A
  pub windows : A

abbrev pub columns_of : {A : Type 0} → A → A → A → A → Columns A
columns_of x y z w = record { starts = x; ends = y; rows = z; windows = w }

abbrev pub each : {A : Type 0} → A → Columns A
each x = columns_of x x x x

abbrev pub places_of : Columns (List ℕ) → Columns ℕ
places_of c = columns_of (length c.starts) (length c.ends) (length c.rows) (length c.windows)

abbrev pub with_entries : (ListedRing → ℕ) → List ListedRing → Columns (List ℕ) → Columns (List ℕ)
with_entries f ls c =
    columns_of (over (map (λ x. x.start) ls) c.starts) (over (map (λ x. x.end) ls) c.ends)
    (over (map (λ x. x.rows) ls) c.rows) (over (map f ls) c.windows)

pub record OneLength (c : Columns (List ℕ)) : Type 0 where
  pub ends : length c.ends ≡ length c.starts
  pub rows : length c.rows ≡ length c.starts
  pub windows : length c.windows ≡ length c.starts

-- 01: "6, 7, 8, 9, 10 likewise", that is as in Minimal windows
unfoldable pub listing_checks : Table → Query → ℕ → ℕ → Columns ℕ → ℕ → Verdict
listing_checks t q lo hi places scratch =
    table_check t
    then query_check q
    then range_check lo hi
    then BadLength when no (eqb places.ends places.starts and eqb places.rows places.starts and eqb places.windows places.starts)
    then scratch_check (size t) scratch
    then NoRoom when ltb places.starts (length (listing t q lo hi))

abbrev pub in_all : ℕ → ℕ → ℕ → Listed
in_all n sum empty = record { count = n; sum = sum; empty = empty }

unfoldable pub summed : Verdict → List ListedRing → ℕ → Result Listed Refusal
summed (Ok _) ls n = Ok (in_all (length ls) (row_sum ls) n)
summed (Err r) ls n = Err r

-- 01: "the count, and the sum of rows". 02: "and give the number of windows with no ring"
unfoldable pub listing_answer : Table → Query → ℕ → ℕ → Columns ℕ → ℕ → Result Listed Refusal
listing_answer t q lo hi places scratch = summed (listing_checks t q lo hi places scratch) (listing t q lo hi) (empty_windows t q lo hi)

-- 02: "For each listed ring, in list order, give the number of windows of the range whose ring it is"
unfoldable pub listing_columns : Result Listed Refusal → Table → Query → ℕ → ℕ → Columns (List ℕ) → Columns (List ℕ)
listing_columns (Ok l) t q lo hi old = with_entries (windows_behind t q lo hi) (listing t q lo hi) old
listing_columns (Err r) t q lo hi old = old

unfoldable pub listing_scratch : Result Listed Refusal → List ℕ → List ℕ
listing_scratch (Ok l) scratch = cleared scratch
listing_scratch (Err r) scratch = scratch_on r scratch

unfoldable pub listing_report : Result Listed Refusal → Report
listing_report (Ok l) = done l.count
listing_report (Err r) = refused r

unfoldable pub listing_sum : Result Listed Refusal → ℕ
listing_sum (Ok l) = l.sum
listing_sum (Err r) = 0

unfoldable pub listing_empty : Result Listed Refusal → ℕ
listing_empty (Ok l) = l.empty
listing_empty (Err r) = 0
