-- What the functions of src/supporters.rt and src/settle.rt ask and promise: one account after the other is settled, until nobody waits.
--     Arrays, arrays                   the lent arrays: times, supporters to spare, queue, day counts
--     CountedBy                        where days are counted: the range ends on a day that has a count, and the counts are those of the times
--     RiseAsks, RiseTaken, RiseLeft    a rise takes supporters: what it asks, and what it leaves
--     Working                          between two accounts: what is lent and stands, and the worklist
--     AtHead                           the scan is that of the account at the head of the queue
--     NearAsks, NearIs                 the common way: what it asks, and what holds by its answer
--     Moved                            an account is settled
--     Unmoved                          it is not, and nothing has changed but what stands behind the queue
--     CountsStay                       the counts stay where days are not counted
--     FarAsks, AccountAsks, AttemptIs  the long way, and both
--     Waits, AtTimes, SettledIs        a whole start: who waits at first, the times at last, and what holds by its answer
--     EachOne, EachItself, BeginAsks, Begun  a start from nothing
--     LeavingRows, DropLeavingAsks, LeftRow, DroppedLeavingRow, LeftRows, DroppedLeavingRows  the rows of the first day leave
--     StepAsks                         from the rows that leave to the next start's times
--     AdvanceAsks, Advanced            the same with the whole adjacency at hand
use Rattle.std.specs.Prelude.{Option, Some, None, Result, Ok, Err, ℕ, ◌+◌, ◌≤◌, ◌<◌, ◌≡◌, Bool, true, false, List, length, get_or}
use Rattle.rings.specs.Table.{Table, table_of, size, Split}
use Rattle.rings.specs.CoreTimes.{never}
use Rattle.rings.specs.Inner.Adjacency.{Reading, Every, Covered}
use Rattle.rings.specs.Inner.Peeling.{estimate, next_frame, Ready, ReadyPairs, ReadyPruned, Span, CoreTimesAre}
use Rattle.rings.specs.Inner.Settling.{Days, Behind, Short, DroppedSupported, Leaving, Queued, Rising, Slack, Raised}
use Rattle.rings.specs.Inner.Counting.{CountsBy, WhereCounted, CountsBeforeRise, Timed}
use Rattle.rings.specs.declared.frame.Frame.{Frame}
use Rattle.rings.specs.declared.scan.Scan.{Scan}
use Rattle.rings.specs.declared.supporters.Rise.{Rise}
use Rattle.rings.specs.declared.settle.Worklist.{Worklist}
use Rattle.rings.specs.declared.settle.Open.{Open}

pub record Arrays : Type 0 where
  pub times : List ℕ
  pub slack : List ℕ
  pub queue : List ℕ
  pub counts : List ℕ

abbrev pub arrays : List ℕ → List ℕ → List ℕ → List ℕ → Arrays
arrays times slack queue counts = record { times = times; slack = slack; queue = queue; counts = counts }

pub record CountedBy (d f g : List ℕ) (p : Frame) (times counts : List ℕ) : Type 0 where
  pub in_days : p.stop ≤ 1024
  pub counts_are : CountsBy (table_of d f g) p.start p.stop times counts

pub record CountsStay (counting : Bool) (counts counts' : List ℕ) : Type 0 where
  pub same : counting ≡ false → counts' ≡ counts

-- ---- a rise takes supporters

-- the times are those after the rise
pub record RiseAsks (t : Table) (scratch : List ℕ) (p : Frame) (r : Rise) (counting : Bool) (tail : ℕ) (a : Arrays) : Type 0 where
  pub opened : ReadyPruned t scratch p
  pub within : tail ≤ 4352
  pub small : r.account < 4096
  pub times_long : length a.times ≡ 4096
  pub slack_long : length a.slack ≡ 4096
  pub queue_long : length a.queue ≡ 4352
  pub reading : Reading scratch r.account p.lo r.from
  pub every : Every t (estimate a.times) p.lo r.account scratch
  pub days : Days p.stop a.times
  pub now_is : r.new ≡ get_or a.times r.account 0
  pub counted : counting ≡ true → CountsBeforeRise t p.start p.stop r.account r.old r.new a.times a.counts

pub record RiseTaken (t : Table) (p : Frame) (r : Rise) (counting : Bool) (tail : ℕ) (a a' : Arrays) (end : ℕ) : Type 0 where
  pub within : end ≤ 4352
  pub dropped_supported : DroppedSupported t (estimate a.times) p.lo r.account (size t) r.old r.new a.slack a'.slack
  pub queued : Queued tail a.slack a.queue end a'.slack a'.queue
  pub counted : WhereCounted counting
      (CountsBy t p.start p.stop a.times a'.counts) a.counts a'.counts

-- the queue's end, where it has places for all; the counts stand only there
abbrev pub RiseLeft : Table → Frame → Rise → Bool → ℕ → Arrays → Arrays → Option ℕ → Type 0
RiseLeft t p r counting tail a a' (Some end) = RiseTaken t p r counting tail a a' end
RiseLeft t p r counting tail a a' None = CountsStay counting a.counts a'.counts

-- ---- one account

-- `most` bounds the rows that scans have passed
pub record Working (d f g scratch : List ℕ) (p : Frame) (counting : Bool) (list : Worklist) (most : ℕ) (a : Arrays) : Type 0 where
  pub opened : ReadyPruned (table_of d f g) scratch p
  pub covered : Covered (table_of d f g) (estimate a.times) p.lo scratch
  pub waits : list.head < list.tail
  pub within : list.tail ≤ 4352
  pub behind : list.raised ≤ list.head
  pub few : list.walked ≤ most
  pub times_long : length a.times ≡ 4096
  pub slack_long : length a.slack ≡ 4096
  pub queue_long : length a.queue ≡ 4352
  pub days : Days p.stop a.times
  pub counted : counting ≡ true → CountedBy d f g p a.times a.counts

pub record AtHead (scratch : List ℕ) (p : Frame) (list : Worklist) (s : Scan) (queue : List ℕ) : Type 0 where
  pub small : s.account < 4096
  pub is_head : get_or queue list.head 0 ≡ s.account
  pub reading : Reading scratch s.account p.lo s.from

pub record NearAsks (t : Table) (scratch : List ℕ) (p : Frame) (counting : Bool) (list : Worklist) (s : Scan) (a : Arrays) : Type 0 where
  pub working : Working t.days t.first t.second scratch p counting list 65536 a
  pub at_head : AtHead scratch p list s a.queue
  pub its_time : s.day ≡ get_or a.times s.account 0

-- from one worklist to the next: whatever has risen since the times xs, and who waits
pub record Moved (t : Table) (p : Frame) (counting : Bool) (list : Worklist) (most : ℕ) (a a' : Arrays) (list' : Worklist) : Type 0 where
  pub next : list'.head ≡ list.head + 1
  pub within : list'.tail ≤ 4352
  pub walked : list'.walked ≤ list.walked + most
  pub rising : (xs : List ℕ)
      → Rising t p.query p.stop p.start xs a.times a.slack a.queue list.head list.tail list.raised
      → Rising t p.query p.stop p.start xs a'.times a'.slack a'.queue list'.head list'.tail list'.raised
  pub nevers : (v : ℕ) → estimate a.times v ≡ never → estimate a'.times v ≡ never
  pub counted : WhereCounted counting
      (CountsBy t p.start p.stop a'.times a'.counts) a.counts a'.counts

-- no day before `day` has enough supporters
pub record Unmoved (t : Table) (p : Frame) (list : Worklist) (s : Scan) (a a' : Arrays) (walked day : ℕ) : Type 0 where
  pub same_times : a'.times ≡ a.times
  pub same_slack : a'.slack ≡ a.slack
  pub same_counts : a'.counts ≡ a.counts
  pub behind : Behind list.tail a.queue a'.queue
  pub short : Short t (estimate a.times) p.start p.query.k p.stop (get_or a.times s.account 0) s.account day
  pub few : walked ≤ list.walked + 32768

abbrev pub NearIs : Result Worklist Open → Table → Frame → Bool → Worklist → Scan → Arrays → Arrays → Type 0
NearIs (Ok list') t p counting list s a a' = Moved t p counting list 32768 a a' list'
NearIs (Err o) t p counting list s a a' = Unmoved t p list s a a' o.walked o.day

pub record FarAsks (t : Table) (scratch : List ℕ) (p : Frame) (counting : Bool) (list : Worklist) (s : Scan) (a : Arrays) : Type 0 where
  pub working : Working t.days t.first t.second scratch p counting list 98304 a
  pub at_head : AtHead scratch p list s a.queue
  pub bounded : s.budget ≤ 65536
  pub short : Short t (estimate a.times) p.start p.query.k p.stop (get_or a.times s.account 0) s.account s.day

pub record AccountAsks (t : Table) (scratch : List ℕ) (p : Frame) (counting : Bool) (budget : ℕ) (list : Worklist) (a : Arrays) : Type 0 where
  pub working : Working t.days t.first t.second scratch p counting list 65536 a
  pub small : get_or a.queue list.head 0 < 4096
  pub bounded : budget ≤ 65536

-- where the start is given up, the counts stay where days are not counted
abbrev pub AttemptIs : Option Worklist → Table → Frame → Bool → Worklist → ℕ → Arrays → Arrays → Type 0
AttemptIs (Some list') t p counting list most a a' = Moved t p counting list most a a' list'
AttemptIs None t p counting list most a a' = CountsStay counting a.counts a'.counts

-- ---- a start

-- those from place 0 to `waiting` wait, and nobody has risen
pub record Waits (t : Table) (scratch : List ℕ) (p : Frame) (counting : Bool) (budget waiting : ℕ) (a : Arrays) : Type 0 where
  pub opened : ReadyPruned t scratch p
  pub covered : Covered t (estimate a.times) p.lo scratch
  pub bounded : budget ≤ 65536
  pub within : waiting ≤ 4352
  pub rising : Rising t p.query p.stop p.start a.times a.times a.slack a.queue 0 waiting 0
  pub counted : counting ≡ true → CountedBy t.days t.first t.second p a.times a.counts

-- from the times and counts as they were lent to the arrays as they are left
pub record AtTimes (t : Table) (p : Frame) (counting : Bool) (times counts : List ℕ) (a : Arrays) (raised : ℕ) : Type 0 where
  pub times_are : CoreTimesAre t p a.times
  pub slacks : Slack t p.query p.start a.times a.slack
  pub listed : Raised times a.times a.queue raised
  pub counted : WhereCounted counting
      (Timed t p.query p.stop p.start (size t) a.counts) counts a.counts

-- n accounts are listed as raised
abbrev pub SettledIs : Option ℕ → Table → Frame → Bool → List ℕ → List ℕ → Arrays → Type 0
SettledIs (Some n) t p counting times counts a = AtTimes t p counting times counts a n
SettledIs None t p counting times counts a = CountsStay counting counts a.counts

-- ---- a start from nothing

-- nobody is known to have a supporter to spare
pub record EachOne (xs : List ℕ) : Type 0 where
  pub long : length xs ≡ 4096
  pub each : (u : ℕ) → u < 4096 → get_or xs u 0 ≡ 1

-- every account is listed
pub record EachItself (xs : List ℕ) : Type 0 where
  pub long : length xs ≡ 4352
  pub each : (u : ℕ) → u < 4096 → get_or xs u 0 ≡ u

pub record BeginAsks (t : Table) (scratch : List ℕ) (p : Frame) (end : ℕ) (times sp ws : List ℕ) : Type 0 where
  pub ready : Ready t scratch p
  pub span : Span t.days p.stop p.lo end
  pub times_long : length times ≡ 4096
  pub slack_long : length sp ≡ 4096
  pub queue_long : length ws ≡ 4352

pub record Begun (t : Table) (p : Frame) (times sp : List ℕ) : Type 0 where
  pub times_are : CoreTimesAre t p times
  pub slacks : Slack t p.query p.start times sp

-- ---- the rows of the first day leave

pub record DropLeavingAsks (t : Table) (scratch : List ℕ) (p : Frame) (times sp ws : List ℕ) : Type 0 where
  pub placed : ReadyPairs t scratch p
  pub times_long : length times ≡ 4096
  pub days : Days p.stop times
  pub slack_long : length sp ≡ 4096
  pub queue_long : length ws ≡ 4352

-- the rows from the first one to `next` leave, of n
pub record LeavingRows (p : Frame) (next n : ℕ) : Type 0 where
  pub order : p.lo ≤ next
  pub within : next ≤ n

pub record LeftRow (t : Table) (p : Frame) (times : List ℕ) (tail j : ℕ) (sp ws : List ℕ) (r : ℕ) (sp' ws' : List ℕ) : Type 0 where
  pub within : r ≤ 4352
  pub queued : Queued tail sp ws r sp' ws'
  pub leaving : (sp₀ : List ℕ) → Leaving t (estimate times) p.lo j sp₀ sp → Leaving t (estimate times) p.lo (j + 1) sp₀ sp'

-- the queue's end, where it has places for both accounts
abbrev pub DroppedLeavingRow : Table → Frame → List ℕ → ℕ → ℕ → List ℕ → List ℕ → Option ℕ → List ℕ → List ℕ → Type 0
DroppedLeavingRow t p times tail j sp ws (Some r) sp' ws' = LeftRow t p times tail j sp ws r sp' ws'
DroppedLeavingRow t p times tail j sp ws None sp' ws' = Unit {0}

pub record LeftRows (t : Table) (p : Frame) (times : List ℕ) (next : ℕ) (sp ws : List ℕ) (r : ℕ) (sp' ws' : List ℕ) : Type 0 where
  pub within : r ≤ 4352
  pub queued : Queued 0 sp ws r sp' ws'
  pub leaving : Leaving t (estimate times) p.lo next sp sp'

-- the queue's end, where it has places for all
abbrev pub DroppedLeavingRows : Table → Frame → List ℕ → ℕ → List ℕ → List ℕ → Option ℕ → List ℕ → List ℕ → Type 0
DroppedLeavingRows t p times next sp ws (Some r) sp' ws' = LeftRows t p times next sp ws r sp' ws'
DroppedLeavingRows t p times next sp ws None sp' ws' = Unit {0}

-- p is the frame of the start that is left; the heads stand at the next one's first row already
pub record StepAsks (t : Table) (scratch : List ℕ) (p : Frame) (counting : Bool) (next end : ℕ) (a : Arrays) : Type 0 where
  pub opened : ReadyPruned t scratch (next_frame p next)
  pub ordered : p.start ≤ p.stop
  pub in_days : p.stop ≤ 1024
  pub starts : Split t.days p.start p.lo
  pub follows : Split t.days (p.start + 1) next
  pub ends : Split t.days (p.stop + 1) end
  pub times_are : CoreTimesAre t p a.times
  pub slacks : Slack t p.query p.start a.times a.slack
  pub queue_long : length a.queue ≡ 4352
  pub covered : Covered t (estimate a.times) next scratch
  pub counted : counting ≡ true → CountsBy t (p.start + 1) p.stop a.times a.counts

pub record AdvanceAsks (t : Table) (scratch : List ℕ) (p : Frame) (next end : ℕ) (times sp ws : List ℕ) : Type 0 where
  pub ready : Ready t scratch (next_frame p next)
  pub ordered : p.start ≤ p.stop
  pub in_days : p.stop ≤ 1024
  pub starts : Split t.days p.start p.lo
  pub follows : Split t.days (p.start + 1) next
  pub ends : Split t.days (p.stop + 1) end
  pub times_are : CoreTimesAre t p times
  pub slacks : Slack t p.query p.start times sp
  pub queue_long : length ws ≡ 4352

pub record Advanced (t : Table) (p : Frame) (times times' sp' ws' : List ℕ) (raised : ℕ) : Type 0 where
  pub times_are : CoreTimesAre t p times'
  pub slacks : Slack t p.query p.start times' sp'
  pub listed : Raised times times' ws' raised
