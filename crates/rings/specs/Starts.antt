-- The starts of a range, one after the other: what a part above this crate is lent to walk them (src/starts.rt).
-- What the buffers hold from one call to the next is a state that stays shut. A part above knows it by its name, by
-- what the calls promise, and by the laws of proofs/StartsLaws.antt; it never opens it.
--     CountsAt t q hi s xs   xs holds, for each day, how many rows have it as their core time at s
--     DatedTime t q hi s r   a row dated s has the core time r at s
--     Earliest t q hi s r    r is the least core time at s of the rows dated s, never if none has one
--     FirstAsks d p end      the frame p is that of a start, whose rows go up to end: what a start from nothing asks
--     StartAsks d p next end   the same for a start of the range, and next is the first row of the start after it
--     ArrayLengths           the lengths of the lent arrays
--     Prepared t sc          the scratch is ready for a start
--     TimesAt t q hi s lo x  x has the core times at s of the accounts; lo is the first row from s on
--     AtStart t q hi s lo sc times slack counts  the scratch and the arrays at start s
use Rattle.std.specs.Prelude.{ℕ, ◌+◌, ◌≤◌, ◌<◌, ◌≡◌, ◌⊎◌, List, length, get_or, eqb}
use Rattle.rings.specs.Words.{count}
use Rattle.rings.specs.Table.{Table, size, day_of, Split}
use Rattle.rings.specs.CoreTimes.{never, row_time}
use Rattle.rings.specs.Inner.Adjacency.{Paired}
use Rattle.rings.specs.Inner.Peeling.{frame_of, Framed, CoreTimesAre}
use Rattle.rings.specs.Inner.Counting.{Started}
use Rattle.rings.specs.declared.Query.{Query}
use Rattle.rings.specs.declared.frame.Frame.{Frame}

-- days go up to 1,024
pub record CountsAt (t : Table) (q : Query) (hi s : ℕ) (xs : List ℕ) : Type 0 where
  pub long : length xs ≡ 1025
  pub each : (e : ℕ) → e < 1025 → get_or xs e 0 ≡ count (λ j. eqb (row_time t q hi s j) e) (size t)

pub record DatedTime (t : Table) (q : Query) (hi s r : ℕ) : Type 0 where
  pub row : ℕ
  pub dated : day_of t row ≡ s
  pub time_is : row_time t q hi s row ≡ r

pub record Earliest (t : Table) (q : Query) (hi s r : ℕ) : Type 0 where
  pub lower : (j : ℕ) → day_of t j ≡ s → r ≤ row_time t q hi s j
  pub reached : (r ≡ never) ⊎ DatedTime t q hi s r

pub record FirstAsks (d : List ℕ) (p : Frame) (end : ℕ) : Type 0 where
  pub some_k : 1 ≤ p.query.k
  pub ordered : p.start ≤ p.stop + 1
  pub in_days : p.stop ≤ 1024
  pub starts : Split d p.start p.lo
  pub ends : Split d (p.stop + 1) end

pub record StartAsks (d : List ℕ) (p : Frame) (next end : ℕ) : Type 0 where
  pub ordered : p.start ≤ p.stop
  pub in_days : p.stop ≤ 1024
  pub starts : Split d p.start p.lo
  pub follows : Split d (p.start + 1) next
  pub ends : Split d (p.stop + 1) end

pub record ArrayLengths (times slack queue counts : List ℕ) : Type 0 where
  pub times_long : length times ≡ 4096
  pub slack_long : length slack ≡ 4096
  pub queue_long : length queue ≡ 4352
  pub counts_long : length counts ≡ 1025

-- ---- shut: what is inside is the matter of this crate's own functions

pub record Prepared (t : Table) (sc : List ℕ) : Type 0 where
  pub inside : Paired t sc

pub record TimesAt (t : Table) (q : Query) (hi s lo : ℕ) (x : List ℕ) : Type 0 where
  pub inside : Framed t (frame_of q s hi lo)
      × CoreTimesAre t (frame_of q s hi lo) x

pub record AtStart (t : Table) (q : Query) (hi s lo : ℕ) (sc times slack counts : List ℕ) : Type 0 where
  pub inside : Started t.days t.first t.second sc (frame_of q s hi lo) times slack counts
