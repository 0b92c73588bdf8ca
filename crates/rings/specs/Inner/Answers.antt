-- Behind Window ring (src/ring.rt) and Core times (src/times.rt): what the checks have shown, and what is answered.
--     Asked                    a query and a window that passed the checks
--     RingBuffers, TimesBuffers the lengths of what the calls are lent
--     WholeWindow              a sound table all of whose rows lie in the window of the frame
--     Remaining                x is 0 exactly for the accounts that are met in the ring of the frame's window
--     RowAccounts, both_remain  the two accounts of row j, and whether x is 0 for both
--     RingMarked, RingFound    a ring as marks, with its number of rows; and the scratch is cleared
--     TimesFound               the core times of accounts and rows; and the scratch is cleared
use Rattle.std.specs.Prelude.{ℕ, ◌+◌, ◌*◌, ◌≤◌, ◌<◌, ◌≡◌, Bool, true, List, length, get_or, replicate, eqb}
use Rattle.rings.specs.Words.{◌and◌, tabulate}
use Rattle.rings.specs.Table.{Table, size, Split}
use Rattle.rings.specs.Ring.{met, ring, members}
use Rattle.rings.specs.CoreTimes.{account_time, row_time}
use Rattle.rings.specs.Buffers.{marks}
use Rattle.rings.specs.Sound.{Sound}
use Rattle.rings.specs.declared.Query.{Query}
use Rattle.rings.specs.declared.frame.Frame.{Frame}

pub record Asked (q : Query) (start stop : ℕ) : Type 0 where
  pub some_k : 1 ≤ q.k
  pub ordered : start ≤ stop
  pub last_day_lem : stop ≤ 1024

pub record RingBuffers (d bytes sc : List ℕ) : Type 0 where
  pub marks : length bytes ≡ length d
  pub scratch : 8192 + 4 * length d ≤ length sc

pub record TimesBuffers (d xs rs sc : List ℕ) : Type 0 where
  pub accounts : length xs ≡ 4096
  pub rows : length rs ≡ length d
  pub scratch : 8192 + 4 * length d ≤ length sc

pub record WholeWindow (t : Table) (p : Frame) : Type 0 where
  pub sound : Sound t.days t.first t.second
  pub asked : Asked p.query p.start p.stop
  pub lo : p.lo ≡ 0
  pub from : Split t.days p.start p.lo
  pub to : Split t.days (p.stop + 1) (size t)

pub record Remaining (t : Table) (p : Frame) (x : List ℕ) : Type 0 where
  pub long : length x ≡ 4096
  pub is_met : (u : ℕ) → u < 4096 → get_or x u 0 ≡ 0 → met t (ring t p.query p.start p.stop) u ≡ true
  pub met_is : (u : ℕ) → u < 4096 → met t (ring t p.query p.start p.stop) u ≡ true → get_or x u 0 ≡ 0

pub record RowAccounts (f s x : List ℕ) (j : ℕ) : Type 0 where
  pub first : j < length f
  pub second : j < length s
  pub first_account : get_or f j 0 < length x
  pub second_account : get_or s j 0 < length x

abbrev pub both_remain : List ℕ → List ℕ → List ℕ → ℕ → Bool
both_remain f s x j = eqb (get_or x (get_or f j 0) 0) 0 and eqb (get_or x (get_or s j 0) 0) 0

pub record RingMarked (t : Table) (q : Query) (start stop n : ℕ) (bytes : List ℕ) : Type 0 where
  pub number : n ≡ members (ring t q start stop)
  pub marks : bytes ≡ marks (ring t q start stop)

pub record RingFound (t : Table) (q : Query) (start stop n : ℕ) (bytes sc₀ sc : List ℕ) : Type 0 where
  pub marked : RingMarked t q start stop n bytes
  pub cleared : sc ≡ replicate (length sc₀) 0

pub record TimesFound (t : Table) (q : Query) (start stop : ℕ) (xs rs sc₀ sc : List ℕ) : Type 0 where
  pub accounts : xs ≡ tabulate (account_time t q stop start) 0 4096
  pub rows : rs ≡ tabulate (row_time t q stop start) 0 (size t)
  pub cleared : sc ≡ replicate (length sc₀) 0
