-- Settling: from the core times at one start to those at the next. x gives each account a day or never. It never
-- passes the core times, and only accounts that wait may lack supporters.
-- slack holds, for each account, one more than the supporters that it can lose before it lacks one, at least; 0 says
-- that it waits. Counting from below makes every loss a step down, and no gain matters.
--     value t x j u          the first day on which row j supports u, if its pair counts by it: the later of its own
--                            day, on which it opens, and its other account's time
--     backing t x lo c u j   row j is the first of its pair from lo on, has the account u, and supports it at c
--     backers t x lo c u n   how many of the first n rows do
--     Days                   each time is a day of the range or never
--     Settling               x as a list of times, with the spare supporters
--     ScanOver               no later row can change what a walk has found
--     RowsScanned, RowNoted  what a walk over the rows of u has found: how many support it at c, the least day above c
--                            on which one more may, and how many more then; one row more
--     DayScanned             a walk has counted enough, or has seen all rows
--     moving t x lo c u j    row j is one of u's by which its pair counts, and comes in by day c
--     Behind                 a list is written behind a place alone
--     RiseScanned            what a walk has kept besides, for a rise of u from c to the day above: how many rows move with it, and who loses it
--     Short                  u has too few supporters on each day from c on that lies before d
--     SlackAbove             what u has to spare on the day above
--     Least, DayFound        y is the least day from c on with k supporters, or never; what a scan of u answers
--     DroppedSupporter       v loses a supporter, or does not
--     DroppedListed          so does each account of a part of a list
--     DroppedSupported       a rise of u takes a supporter from each that it supported till now
--     Leaving                so does each row that leaves
--     Queued                 who lost the last spare supporter by that waits at the end of the queue, which has 4,352 places
--     Waiting                who waits stands in the queue
--     Raised                 the accounts whose times are others are among the first r of a list
--     Rising                 all of it, between two scans
--     Slack                  what a start hands on with its times
use Rattle.std.specs.Prelude.{Option, Some, None, ℕ, max, ◌+◌, ◌-◌, ◌≤◌, ◌<◌, ◌≡◌, ◌⊎◌, Bool, true, false, List, length, get_or, set, leb}
use Rattle.rings.specs.Words.{◌and◌, suc_if, count}
use Rattle.rings.specs.Table.{Table, table_of, size, day_of}
use Rattle.rings.specs.Ring.{touches, met, ring}
use Rattle.rings.specs.CoreTimes.{never}
use Rattle.rings.specs.Inner.Adjacency.{other_of, pair_counts, leads, Reading, Every}
use Rattle.rings.specs.Inner.Support.{supporters}
use Rattle.rings.specs.Inner.Peeling.{estimate, Place, ReadyPruned}
use Rattle.rings.specs.declared.Query.{Query}
use Rattle.rings.specs.declared.frame.Frame.{Frame}
use Rattle.rings.specs.declared.scan.Scan.{Scan}
use Rattle.rings.specs.declared.scan.RiseScan.{RiseScan}
use Rattle.rings.specs.declared.scan.FoundDay.{FoundDay}

unfoldable pub value : Table → (ℕ → ℕ) → ℕ → ℕ → ℕ
value t x j u = max (x (other_of t j u)) (day_of t j)

unfoldable pub backing : Table → (ℕ → ℕ) → ℕ → ℕ → ℕ → ℕ → Bool
backing t x lo c u j = leads t lo j and touches t j u and leb (value t x j u) c

unfoldable pub backers : Table → (ℕ → ℕ) → ℕ → ℕ → ℕ → ℕ → ℕ
backers t x lo c u n = count (backing t x lo c u) n

-- each time is a day of the range or never
abbrev pub Days : ℕ → List ℕ → Type 0
Days hi xs = (v : ℕ) → v < 4096 → (get_or xs v 0 ≤ hi) ⊎ (get_or xs v 0 ≡ never)

-- no time passes the core time, and an account that does not wait has, at its own, k supporters and those to spare
pub record Settling (t : Table) (q : Query) (hi s : ℕ) (xs slack : List ℕ) : Type 0 where
  pub long : length xs ≡ 4096
  pub long_slack : length slack ≡ 4096
  pub days : Days hi xs
  pub lower : (u c : ℕ) → s ≤ c → c ≤ hi → met t (ring t q s c) u ≡ true → estimate xs u ≤ c
  pub enough : (u : ℕ) → u < 4096 → 1 ≤ get_or slack u 0 → (get_or xs u 0 ≡ never) ⊎ (q.k + get_or slack u 0 ≤ supporters t (estimate xs) s (get_or xs u 0) u + 1)

-- ---- a scan

-- of a row dated on this day, and of all later ones
pub record ScanOver (day c stop above k count : ℕ) (r : Bool) : Type 0 where
  pub yes : r ≡ true → (c < day) × ((k ≤ count) ⊎ ((stop < day) ⊎ (above < day)))
  pub not : r ≡ false → (day ≤ c) ⊎ (day ≤ stop)

-- the rows of u below b, as they stand on day c: n support it, of the others that the range has none comes in before
-- the day above, and on that day, if there is one, at least `more` do
pub record RowsScanned (t : Table) (x : ℕ → ℕ) (lo hi c u b n above more : ℕ) : Type 0 where
  pub counted : n ≡ backers t x lo c u b
  pub rises : c < above
  pub none_between : (j : ℕ) → j < b → leads t lo j ≡ true → touches t j u ≡ true → day_of t j ≤ hi → (value t x j u ≤ c) ⊎ (above ≤ value t x j u)
  pub day : (above ≤ hi) ⊎ (above ≡ never)
  pub few : n + more ≤ b
  pub then : (above ≡ never) ⊎ (n + more ≤ backers t x lo above u b)

-- one row more, of value z, which counts where y says so: where it is the first of its pair. Or else its value is said to be never
pub data RowNoted (y : Bool) (z c n above more n' above' more' : ℕ) : Type 0 where
  back : z ≤ c → n' ≡ suc_if y n → above' ≡ above → more' ≡ more → RowNoted y z c n above more n' above' more'
  nearer : c < z → z < above → n' ≡ n → above' ≡ z → more' ≡ suc_if y 0 → RowNoted y z c n above more n' above' more'
  level : c < z → z ≡ above → n' ≡ n → above' ≡ above → more' ≡ suc_if y more → RowNoted y z c n above more n' above' more'
  farther : c < z → above ≤ z → n' ≡ n → above' ≡ above → more' ≡ more → RowNoted y z c n above more n' above' more'

pub data DayScanned (t : Table) (x : ℕ → ℕ) (lo hi c u m k n above more : ℕ) : Type 0 where
  full : k ≤ n → n ≤ backers t x lo c u m → DayScanned t x lo hi c u m k n above more
  scanned : RowsScanned t x lo hi c u m n above more → DayScanned t x lo hi c u m k n above more

-- ---- a scan that keeps what a rise needs

unfoldable pub moving : Table → (ℕ → ℕ) → ℕ → ℕ → ℕ → ℕ → Bool
moving t x lo c u j = pair_counts t lo j and touches t j u and leb (value t x j u) c

pub record Behind (tail : ℕ) (ws ws' : List ℕ) : Type 0 where
  pub long : length ws' ≡ 4352
  pub front : (i : ℕ) → i < tail → get_or ws' i 0 ≡ get_or ws i 0

-- of the rows of u below b, first of their pairs or not, none comes in between c and the day above; `moved` of them
-- come in by c; and who has the time c and stands in a first row that comes in by it is listed, from place tail to
-- end
pub record RiseScanned (t : Table) (x : ℕ → ℕ) (lo hi c u b above moved tail end : ℕ) (ws : List ℕ) : Type 0 where
  pub apart : (j : ℕ) → pair_counts t lo j ≡ true → j < b → touches t j u ≡ true → day_of t j ≤ hi → (value t x j u ≤ c) ⊎ (above ≤ value t x j u)
  pub moves : moved ≡ count (moving t x lo c u) b
  pub loses : (j : ℕ) → j < b → leads t lo j ≡ true → touches t j u ≡ true → x (other_of t j u) ≡ c → day_of t j ≤ c → Place ws tail end (other_of t j u)
  pub small : (i : ℕ) → tail ≤ i → i < end → get_or ws i 0 < 4096
  pub grows : tail ≤ end

pub record Short (t : Table) (x : ℕ → ℕ) (s k hi c u d : ℕ) : Type 0 where
  pub from : c ≤ d
  pub day : (d ≤ hi) ⊎ (d ≡ never)
  pub fewer : (a : ℕ) → c ≤ a → a < d → a ≤ hi → supporters t x s a u < k

pub data SlackAbove (above both k r : ℕ) : Type 0 where
  none : above ≡ never → r ≡ 1 → SlackAbove above both k r
  some : (above ≡ never → ⊥) → k ≤ both → r ≡ both + 1 - k → SlackAbove above both k r
  few : (above ≡ never → ⊥) → both < k → r ≡ 0 → SlackAbove above both k r

pub record Least (t : Table) (x : ℕ → ℕ) (s k hi c u y : ℕ) : Type 0 where
  pub from : c ≤ y
  pub fewer : (a : ℕ) → c ≤ a → a < y → a ≤ hi → supporters t x s a u < k
  pub enough : (y ≡ never) ⊎ ((y ≤ hi) × (k ≤ supporters t x s y u))

pub record DayFound (t : Table) (x : ℕ → ℕ) (s k hi c u y slack : ℕ) : Type 0 where
  pub least : Least t x s k hi c u y
  pub known : 1 ≤ slack
  pub enough : (y ≡ never) ⊎ (k + slack ≤ supporters t x s y u + 1)

-- ---- what a scan asks and finds

-- the adjacency from the account's place on, and times that are days of the range or never
pub record Scannable (d f g scratch : List ℕ) (p : Frame) (times : List ℕ) (s : Scan) : Type 0 where
  pub opened : ReadyPruned (table_of d f g) scratch p
  pub small : s.account < 4096
  pub long : length times ≡ 4096
  pub days : Days p.stop times
  pub reading : Reading scratch s.account p.lo s.from

-- a scan on one day of the range
pub record ScanOn (t : Table) (scratch : List ℕ) (p : Frame) (times : List ℕ) (s : Scan) : Type 0 where
  pub lent : Scannable t.days t.first t.second scratch p times s
  pub in_range : s.day ≤ p.stop
  pub every : Every t (estimate times) p.lo s.account scratch

-- a scan for the first day with enough supporters: none before the scan's day has them
pub record ScanFrom (t : Table) (scratch : List ℕ) (p : Frame) (times : List ℕ) (s : Scan) : Type 0 where
  pub lent : Scannable t.days t.first t.second scratch p times s
  pub bounded : s.budget ≤ 65536
  pub every : (get_or times s.account 0 ≡ never → ⊥) → Every t (estimate times) p.lo s.account scratch
  pub short : Short t (estimate times) p.start p.query.k p.stop (get_or times s.account 0) s.account s.day

-- behind the queue's end there is room for one entry for each row of the account
pub record RoomBehind (scratch : List ℕ) (s : Scan) (tail : ℕ) (queue : List ℕ) : Type 0 where
  pub long : length queue ≡ 4352
  pub room : tail + get_or scratch s.account 0 ≤ s.from + 4352

pub record Scanned (t : Table) (p : Frame) (times : List ℕ) (s : Scan) (n above more walked : ℕ) : Type 0 where
  pub scanned : DayScanned t (estimate times) p.lo p.stop s.day s.account (size t) p.query.k n above more
  pub short_walk : walked ≤ 32768
  pub few : n + more ≤ 16384

pub record ScannedForRise (t : Table) (p : Frame) (times : List ℕ) (s : Scan) (tail : ℕ) (ws ws' : List ℕ) (r : RiseScan) : Type 0 where
  pub found : Scanned t p times s r.count r.above r.more r.walked
  pub within : r.end ≤ 4352
  pub rise_scanned : r.count < p.query.k
      → RiseScanned t (estimate times) p.lo p.stop s.day s.account (size t) r.above r.moved tail
      r.end ws'
  pub behind : Behind tail ws ws'

pub record DayFoundBy (t : Table) (p : Frame) (times : List ℕ) (s : Scan) (time slack walked : ℕ) : Type 0 where
  pub day_found : DayFound t (estimate times) p.start p.query.k p.stop (get_or times s.account 0) s.account time slack
  pub short_walk : walked ≤ 98304

-- what a scan answers; where it gives up it says nothing
abbrev pub FoundDayIs : Option FoundDay → Table → Frame → List ℕ → Scan → Type 0
FoundDayIs (Some found) t p times s = DayFoundBy t p times s found.time found.left found.walked
FoundDayIs None t p times s = Unit {0}

-- ---- who loses a supporter

-- v loses a supporter if y says so, and has `left` to spare then. It stands at the end of the queue, which moves on where that was the last
pub record DroppedSupporter (y : Bool) (v tail : ℕ) (sp ws sp' ws' : List ℕ) (r : ℕ) : Type 0 where
  pub left : ℕ
  pub stored : sp' ≡ set sp v left
  pub less : left ≤ get_or sp v 0
  pub dropped : y ≡ true → left ≤ get_or sp v 0 - 1
  pub queued : ws' ≡ set ws tail v
  pub ended : ((r ≡ tail) × (left ≡ 0 → get_or sp v 0 ≡ 0)) ⊎ (r ≡ tail + 1)

pub record DropAsks (sp ws : List ℕ) (tail v : ℕ) : Type 0 where
  pub slack_long : length sp ≡ 4096
  pub queue_long : length ws ≡ 4352
  pub small : v < 4096
  pub room : tail < 4352

-- so does each account that a list has from place a to b; nobody has more
pub record DroppedListed (a b : ℕ) (ws sp sp' : List ℕ) : Type 0 where
  pub long : length sp' ≡ 4096
  pub less : (w : ℕ) → get_or sp' w 0 ≤ get_or sp w 0
  pub each : (i : ℕ) → a ≤ i → i < b → get_or sp' (get_or ws i 0) 0 ≤ get_or sp (get_or ws i 0) 0 - 1

pub record ListedAsks (sp ws : List ℕ) (tail upto : ℕ) : Type 0 where
  pub slack_long : length sp ≡ 4096
  pub queue_long : length ws ≡ 4352
  pub order : tail ≤ upto
  pub within : upto ≤ 4352
  pub small : (i : ℕ) → tail ≤ i → i < upto → get_or ws i 0 < 4096

-- u rose from old to new: each other account of a first row of a pair, of those below b, has one to spare less if it lost u by that
pub record DroppedSupported (t : Table) (x : ℕ → ℕ) (lo u b old new : ℕ) (sp₀ sp : List ℕ) : Type 0 where
  pub long : length sp ≡ 4096
  pub less : (w : ℕ) → get_or sp w 0 ≤ get_or sp₀ w 0
  pub dropped : (j : ℕ)
      → j < b
      → leads t lo j ≡ true
      → touches t j u ≡ true
      → old ≤ x (other_of t j u)
      → day_of t j ≤ x (other_of t j u)
      → x (other_of t j u) < new
      → get_or sp (other_of t j u) 0 ≤ get_or sp₀ (other_of t j u) 0 - 1

-- the rows below j leave: each account with a time has as many to spare less as rows of it that backed it
pub record Leaving (t : Table) (x : ℕ → ℕ) (lo j : ℕ) (sp₀ sp : List ℕ) : Type 0 where
  pub long : length sp ≡ 4096
  pub less : (u : ℕ) → u < 4096 → (x u ≡ never) ⊎ (get_or sp u 0 ≤ get_or sp₀ u 0 - backers t x lo (x u) u j)

-- the queue had tail entries, and has r: who waits now did before, or is one of the new ones
pub record Queued (tail : ℕ) (sp ws : List ℕ) (r : ℕ) (sp' ws' : List ℕ) : Type 0 where
  pub long : length ws' ≡ 4352
  pub grows : r ≤ 4352 → tail ≤ r
  pub front : (i : ℕ) → i < tail → i < 4352 → get_or ws' i 0 ≡ get_or ws i 0
  pub waits : r ≤ 4352 → (u : ℕ) → u < 4096 → get_or sp' u 0 ≡ 0 → (get_or sp u 0 ≡ 0) ⊎ Place ws' tail r u
  pub small : (i : ℕ) → tail ≤ i → i < r → i < 4352 → get_or ws' i 0 < 4096

pub record DroppedList (tail upto : ℕ) (sp ws sp' ws' : List ℕ) (r : ℕ) : Type 0 where
  pub within : r ≤ 4352
  pub queued : Queued tail sp ws r sp' ws'
  pub fewer : DroppedListed tail upto ws sp sp'

pub record Waiting (head tail : ℕ) (sp ws : List ℕ) : Type 0 where
  pub long : length ws ≡ 4352
  pub ordered : head ≤ tail
  pub waits : (u : ℕ) → u < 4096 → get_or sp u 0 ≡ 0 → Place ws head tail u
  pub small : (i : ℕ) → head ≤ i → i < tail → get_or ws i 0 < 4096

-- from the times xs to ys: whose time is another is one of the first r of the list
pub record Raised (xs ys ws : List ℕ) (r : ℕ) : Type 0 where
  pub long : length ws ≡ 4352
  pub within : r ≤ 4352
  pub small : (i : ℕ) → i < r → get_or ws i 0 < 4096
  pub listed : (u : ℕ) → u < 4096 → (get_or xs u 0 ≡ get_or ys u 0 → ⊥) → Place ws 0 r u

-- from the times xs₀ on, m accounts have risen, and those from head to tail wait
pub record Rising (t : Table) (q : Query) (hi s : ℕ) (xs₀ xs sp ws : List ℕ) (head tail m : ℕ) : Type 0 where
  pub settling : Settling t q hi s xs sp
  pub waiting : Waiting head tail sp ws
  pub behind : m ≤ head
  pub raised : Raised xs₀ xs ws m

-- an account with a time has k supporters at it, and one fewer than the number that it has here to spare
pub record Slack (t : Table) (q : Query) (s : ℕ) (xs slack : List ℕ) : Type 0 where
  pub long : length slack ≡ 4096
  pub known : (u : ℕ) → u < 4096 → 1 ≤ get_or slack u 0
  pub enough : (u : ℕ) → u < 4096 → (get_or xs u 0 ≡ never) ⊎ (q.k + get_or slack u 0 ≤ supporters t (estimate xs) s (get_or xs u 0) u + 1)
