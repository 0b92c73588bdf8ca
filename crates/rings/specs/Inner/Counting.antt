-- Day counts: how many rows have each day as their time, kept up as the times of the accounts rise.
--     time_by t x s hi j              the time of row j where x gives those of the accounts: the greatest of both and of
--                                    the day on which it opens; never if it does not open from s to hi
--     IsTime x                       x is a day, or never
--     Histogram g n xs               xs holds, for each day, how many of the first n rows have it by g
--     CountsBy                       that histogram, by the times that the accounts have
--     WhereCounted                   what a walk promises by its `COUNTING`: where days are counted P, where they are not the counts as they were
--     pending_on new m e              m on the day new, else 0
--     PendingHistogram g n new m xs  the same but for m rows that are still to be counted on the day new
--     Adding, Removing               m rows more with a time, and one fewer
--     Taking                         one row fewer, and one more of those that are still to be counted, if a test says so
--     Moving                         m rows go from one time to another at once
--     RoomOn, HasOne                 a day has room for m rows more; it has one
--     AddAsks, RemoveAsks, TakeAsks, MoveAsks  what adding, removing, taking and moving ask
--     CountAsks, DropAsks            what counting the rows of a start asks, and taking off those of its first day
--     CountsBeforeRise               the counts by the times before an account rose
--     Timed t q hi s n xs            the histogram of the core times at s
--     Started                        what a start hands on to the next: the adjacency, the times of the accounts, what they can spare, and the counts
use Rattle.std.specs.Prelude.{ℕ, max, ◌+◌, ◌-◌, ◌≤◌, ◌<◌, ◌≡◌, ◌⊎◌, Bool, true, false, List, length, get_or, set, eqb}
use Rattle.rings.specs.Words.{count}
use Rattle.rings.specs.Table.{Table, table_of, size, first_of, second_of, Split}
use Rattle.rings.specs.CoreTimes.{never, row_time}
use Rattle.rings.specs.Inner.Peeling.{estimate, ReadyPruned, CoreTimesAre, TimesKnown}
use Rattle.rings.specs.declared.frame.Frame.{Frame}
use Rattle.rings.specs.Inner.Adjacency.{open_day, opens_by, Covered}
use Rattle.rings.specs.Inner.Settling.{Slack}
use Rattle.rings.specs.declared.Query.{Query}

unfoldable pub time_by : Table → (ℕ → ℕ) → ℕ → ℕ → ℕ → ℕ
time_by t x s hi j = elim (opens_by t s hi j) [ true ↦ max (max (x (first_of t j)) (x (second_of t j))) (open_day t s j) | false ↦ never ]

abbrev pub IsTime : ℕ → Type 0
IsTime x = (x < 1025) ⊎ (x ≡ never)

pub record Histogram (g : ℕ → ℕ) (n : ℕ) (xs : List ℕ) : Type 0 where
  pub long : length xs ≡ 1025
  pub each : (e : ℕ) → e < 1025 → get_or xs e 0 ≡ count (λ j. eqb (g j) e) n

abbrev pub CountsBy : (t : Table) (s hi : ℕ) (times xs : List ℕ) → Type 0
CountsBy t s hi times xs = Histogram (time_by t (estimate times) s hi) (size t) xs

-- xs the counts before, xs' those after
pub record WhereCounted (counting : Bool) (P : Type 0) (xs xs' : List ℕ) : Type 0 where
  pub counted : counting ≡ true → P
  pub same : counting ≡ false → xs' ≡ xs

unfoldable pub pending_on : ℕ → ℕ → ℕ → ℕ
pending_on new m e = elim (eqb new e) [ true ↦ m | false ↦ 0 ]

pub record PendingHistogram (g : ℕ → ℕ) (n new m : ℕ) (xs : List ℕ) : Type 0 where
  pub long : length xs ≡ 1025
  pub each : (e : ℕ) → e < 1025 → get_or xs e 0 + pending_on new m e ≡ count (λ j. eqb (g j) e) n

pub data Adding (m time : ℕ) (xs xs' : List ℕ) : Type 0 where
  pass : time ≡ never → xs' ≡ xs → Adding m time xs xs'
  some : (time ≡ never → ⊥) → xs' ≡ set xs time (get_or xs time 0 + m) → Adding m time xs xs'

pub data Removing (time : ℕ) (xs xs' : List ℕ) : Type 0 where
  pass : time ≡ never → xs' ≡ xs → Removing time xs xs'
  one : (time ≡ never → ⊥) → xs' ≡ set xs time (get_or xs time 0 - 1) → Removing time xs xs'

pub data Taking (test : Bool) (time m : ℕ) (xs xs' : List ℕ) (m' : ℕ) : Type 0 where
  none : test ≡ false → xs' ≡ xs → m' ≡ m → Taking test time m xs xs' m'
  one : test ≡ true → xs' ≡ set xs time (get_or xs time 0 - 1) → m' ≡ m + 1 → Taking test time m xs xs' m'

pub record Moving (m old new : ℕ) (xs xs' : List ℕ) : Type 0 where
  pub long : length xs' ≡ 1025
  pub each : (e : ℕ) → e < 1025 → get_or xs' e 0 + pending_on old m e ≡ get_or xs e 0 + pending_on new m e

-- ---- what these ask: the counts are by day, and a day that is counted on has its place

-- m rows more on this day
pub record RoomOn (m day : ℕ) (xs : List ℕ) : Type 0 where
  pub in_days : day < 1025
  pub few : get_or xs day 0 + m < 65536

-- a row that is counted on this day
pub record HasOne (day : ℕ) (xs : List ℕ) : Type 0 where
  pub in_days : day < 1025
  pub one : 1 ≤ get_or xs day 0

pub record AddAsks (m time : ℕ) (xs : List ℕ) : Type 0 where
  pub long : length xs ≡ 1025
  pub room : (time ≡ never → ⊥) → RoomOn m time xs

pub record RemoveAsks (time : ℕ) (xs : List ℕ) : Type 0 where
  pub long : length xs ≡ 1025
  pub has : (time ≡ never → ⊥) → HasOne time xs

pub record TakeAsks (test : Bool) (time m : ℕ) (xs : List ℕ) : Type 0 where
  pub long : length xs ≡ 1025
  pub few : m < 16384
  pub has : test ≡ true → HasOne time xs

pub record MoveAsks (m old new : ℕ) (xs : List ℕ) : Type 0 where
  pub long : length xs ≡ 1025
  pub from_day : old < 1025
  pub enough : m ≤ get_or xs old 0
  pub room : (new ≡ never → ⊥) → RoomOn m new xs

-- u rose from old to new; xs are the times after that
pub record CountsBeforeRise (t : Table) (s hi u old new : ℕ) (xs counts : List ℕ) : Type 0 where
  pub was : List ℕ
  pub long : length was ≡ 4096
  pub then : xs ≡ set was u new
  pub from : old ≡ get_or was u 0
  pub up : old < new
  pub day : old ≤ hi
  pub top : hi ≤ 1024
  pub counted : Histogram (time_by t (estimate was) s hi) (size t) counts

abbrev pub Timed : Table → Query → ℕ → ℕ → ℕ → List ℕ → Type 0
Timed t q hi s n xs = Histogram (row_time t q hi s) n xs

-- the times of a start, of which counts are made or taken
pub record CountAsks (t : Table) (p : Frame) (end : ℕ) (times : List ℕ) : Type 0 where
  pub known : TimesKnown t p end times
  pub in_days : p.stop ≤ 1024

-- the rows below next are those dated up to the first day, and are counted still
pub record DropAsks (t : Table) (p : Frame) (next : ℕ) (counts : List ℕ) : Type 0 where
  pub follows : Split t.days (p.start + 1) next
  pub timed : Timed t p.query p.stop p.start (size t) counts

pub record Started (d f g sc : List ℕ) (p : Frame) (times slack counts : List ℕ) : Type 0 where
  pub opened : ReadyPruned (table_of d f g) sc p
  pub covered : Covered (table_of d f g) (estimate times) p.lo sc
  pub times_are : CoreTimesAre (table_of d f g) p times
  pub slacks : Slack (table_of d f g) p.query p.start times slack
  pub timed : Timed (table_of d f g) p.query p.stop p.start (length d) counts
