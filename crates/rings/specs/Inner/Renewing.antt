-- From one start to the next, row by row. Behind the earlier rows the scratch keeps a time for each row, so that a row whose time changes
-- is seen as it changes. p is the frame of the start that closes.
--     time_of t sc j      the time kept for row j
--     time_now, time_next  the time of row j at the start, and at the day after it
--     Kept t p sc        those are the row times at the start, and the heads stand there
--     Renewing t p sc    each is the row's time at the start or at the day after it, where the heads stand
--     Renewed t p sc j   that of row j is its time at the day after the start
--     Reached            it is renewed, or has the time y or a later one already
--     Passed             the rows below m are renewed
--     AccountReached     the rows of u from next to b that open before the time y of u have reached it
--     ListReached        so have all such rows of the first i accounts of a list; xs are the times of the accounts
--     Stays              a row that was renewed is so still, and no kept time falls
--     AccountRenewed     the rows of u have reached its time, and nothing else is lost
use Rattle.std.specs.Prelude.{ℕ, ◌+◌, ◌*◌, ◌≤◌, ◌<◌, ◌≡◌, ◌⊎◌, true, List, get_or}
use Rattle.rings.specs.Table.{Table, size}
use Rattle.rings.specs.Ring.{touches}
use Rattle.rings.specs.CoreTimes.{row_time}
use Rattle.rings.specs.Inner.Adjacency.{open_day, Adjacency}
use Rattle.rings.specs.declared.frame.Frame.{Frame}

unfoldable pub time_of : Table → List ℕ → ℕ → ℕ
time_of t sc j = get_or sc (8192 + 3 * size t + j) 0

abbrev pub time_now : Table → Frame → ℕ → ℕ
time_now t p j = row_time t p.query p.stop p.start j

abbrev pub time_next : Table → Frame → ℕ → ℕ
time_next t p j = row_time t p.query p.stop (p.start + 1) j

pub record Kept (t : Table) (p : Frame) (sc : List ℕ) : Type 0 where
  pub adjacency : Adjacency t p.start sc
  pub times : (j : ℕ) → j < size t → time_of t sc j ≡ time_now t p j

pub record Renewing (t : Table) (p : Frame) (sc : List ℕ) : Type 0 where
  pub adjacency : Adjacency t (p.start + 1) sc
  pub either : (j : ℕ) → j < size t → (time_of t sc j ≡ time_now t p j) ⊎ (time_of t sc j ≡ time_next t p j)

abbrev pub Renewed : Table → Frame → List ℕ → ℕ → Type 0
Renewed t p sc j = time_of t sc j ≡ time_next t p j

abbrev pub Reached : Table → Frame → List ℕ → ℕ → ℕ → Type 0
Reached t p sc y j = Renewed t p sc j ⊎ (y ≤ time_of t sc j)

pub record Passed (t : Table) (p : Frame) (m : ℕ) (sc : List ℕ) : Type 0 where
  pub renewed : (j : ℕ) → j < m → j < size t → Renewed t p sc j

pub record AccountReached (t : Table) (p : Frame) (next u y b : ℕ) (sc : List ℕ) : Type 0 where
  pub reached : (j : ℕ) → next ≤ j → j < b → j < size t → touches t j u ≡ true → open_day t (p.start + 1) j < y → Reached t p sc y j

pub record ListReached (t : Table) (p : Frame) (next : ℕ) (xs list : List ℕ) (i : ℕ) (sc : List ℕ) : Type 0 where
  pub reached : (h j : ℕ) → h < i → next ≤ j → j < size t → touches t j (get_or list h 0) ≡ true
      → open_day t (p.start + 1) j < get_or xs (get_or list h 0) 0 → Reached t p sc (get_or xs (get_or list h 0) 0) j

pub record Stays (t : Table) (p : Frame) (sc₀ sc : List ℕ) : Type 0 where
  pub renewed : (j : ℕ) → j < size t → Renewed t p sc₀ j → Renewed t p sc j
  pub grows : (j : ℕ) → j < size t → time_of t sc₀ j ≤ time_of t sc j

pub record AccountRenewed (t : Table) (p : Frame) (next u y : ℕ) (sc₀ sc : List ℕ) : Type 0 where
  pub renewing : Renewing t p sc
  pub stays : Stays t p sc₀ sc
  pub walked : AccountReached t p next u y (size t) sc
