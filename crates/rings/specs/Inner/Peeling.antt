-- Peeling by counts: accounts are removed where fewer than k neighbours are left, from the last day on. x holds the
-- times of the accounts that were removed (0: not yet), d the numbers of neighbours left, w the queue of the removed
-- accounts whose rows are still to be walked. A row counts for one of its accounts while it leads, has not left (is
-- below r), its other account has not been walked, and the pair of row and account has not been passed.
--     EarlierStands, leads_by       what `leads` asks, and its test on the scratch
--     PeelBuffers                  the lengths of the three lists
--     Droppable, DroppedNeighbour  before and after an account loses one neighbour
--     Setting                      the table, the window and the query
--     Rows                         which rows count for which accounts
--     Queue                        who waits to be walked
--     Degrees                      d counts the rows that count, and no account below b that has not been removed has fewer than k;
--                  who has fallen has fewer, and the rows that count at least
--     Times                        x is a lower bound of the core times, closed at the removed accounts; no core time that is still open passes e
--     PeelState                    all of it: b is the first account that has not been looked at, e the day of the
--                                  fallen, r the end of the rows, head and tail the queue's
--     AccountRemoval               the same while the rows of the account at the head of the queue are walked
--     frame_of, next_frame           the frame of a start by its query and its numbers, and that of the start after it
--     all_rows                      the removal before any row has left
--     PeelStateOf                  Fall with the numbers of a removal, for a table
--     HeadWaits, HeadWalked, Continues, QueueEmpty, RowRemovable  what the functions of src/peel.rt ask and promise beside the buffers
--     Ready                        what peeling works on: an accepted table, its adjacency with the heads at the first day, and the setting
--     Framed                       the same without an adjacency
--     ReadyPairs                   with the earlier rows alone
--     ReadyPruned                  with an adjacency that may lack rows
--     Span                         the rows of a window, as a first row and an end
--     NeighbourCounts              d holds the leading rows of each account below a row
--     RowsRemovedTo                the same by the end of the rows left and the end of the queue
--     RowRemoval                   the rows from the removal's end on have left, and nobody waits
--     CoreTimesAre, TimesKnown     a list holds the core times of the accounts; beside the rows of the window
use Rattle.std.specs.Prelude.{ℕ, ◌+◌, ◌-◌, ◌*◌, ◌≤◌, ◌<◌, ◌≡◌, ◌⊎◌, Bool, true, false, List, length, get_or, set, leb, ltb, eqb}
use Rattle.rings.specs.Words.{◌and◌, no, count}
use Rattle.rings.specs.Table.{Table, size, day_of, first_of, second_of}
use Rattle.rings.specs.Ring.{joins, touches, met, ring}
use Rattle.rings.specs.CoreTimes.{never, account_time}
use Rattle.rings.specs.Sound.{Sound}
use Rattle.rings.specs.Inner.Adjacency.{other_of, leads, Adjacency, Paired, PrunedAdjacency}
use Rattle.rings.specs.Inner.Support.{supporters}
use Rattle.rings.specs.declared.Query.{Query}
use Rattle.rings.specs.declared.frame.Frame.{Frame}
use Rattle.rings.specs.declared.peel.Removal.{Removal}

-- the earlier row of row j stands in the scratch of a table of n rows
pub record EarlierStands (scratch : List ℕ) (n j : ℕ) : Type 0 where
  pub most : n ≤ 16384
  pub row : j < n
  pub place : 8192 + 2 * n + j < length scratch

abbrev pub leads_by : List ℕ → ℕ → ℕ → ℕ → Bool
leads_by scratch n lo j = leb lo j and leb (get_or scratch (8192 + 2 * n + j) 0) lo

pub record PeelBuffers (x d w : List ℕ) : Type 0 where
  pub times : length x ≡ 4096
  pub left : length d ≡ 4096
  pub queue : 4096 ≤ length w

-- account v has a neighbour to lose, and where it is removed with that, there is room in the queue
pub record Droppable (k tail v : ℕ) (x d w : List ℕ) : Type 0 where
  pub buffers : PeelBuffers x d w
  pub small : v < 4096
  pub some : 0 < get_or d v 0
  pub room : get_or d v 0 ≡ k → tail < 4096

-- account v loses a neighbour: x are the times, d the numbers of neighbours left, w the queue up to tail. With the
-- k-th it is removed; who was removed before has fewer
-- than k left
pub data DroppedNeighbour (k e tail v : ℕ) (x d w x' d' w' : List ℕ) (tail' : ℕ) : Type 0 where
  stays : (get_or d v 0 ≡ k → ⊥) → x' ≡ x → d' ≡ set d v (get_or d v 0 - 1) → w' ≡ w → tail' ≡ tail
      → DroppedNeighbour k e tail v x d w x' d' w' tail'
  removes : get_or d v 0 ≡ k → x' ≡ set x v e → d' ≡ set d v (get_or d v 0 - 1) → w' ≡ set w tail v → tail' ≡ tail + 1
      → DroppedNeighbour k e tail v x d w x' d' w' tail'

pub record Setting (t : Table) (q : Query) (s hi lo : ℕ) : Type 0 where
  pub fits : hi < never
  pub some_k : 1 ≤ q.k
  pub from_lo : (j : ℕ) → j < size t → lo ≤ j → s ≤ day_of t j
  pub before_lo : (j : ℕ) → j < lo → day_of t j < s
  pub rising : (i j : ℕ) → i ≤ j → j < size t → day_of t i ≤ day_of t j
  pub accounts : (j : ℕ) → j < size t → first_of t j < second_of t j
  pub small : (j : ℕ) → j < size t → second_of t j < 4096

abbrev pub Removed : List ℕ → ℕ → Type 0
Removed x u = get_or x u 0 ≡ 0 → ⊥

-- row j leads, has not left, and has the account u
pub record Present (t : Table) (lo r j u : ℕ) : Type 0 where
  pub below : j < size t
  pub before : j < r
  pub is_lead : leads t lo j ≡ true
  pub touch : touches t j u ≡ true

pub record Rows (t : Table) (lo r : ℕ) (passed : ℕ → ℕ → Bool) (walked : ℕ → Bool) (live : ℕ → ℕ → Bool) : Type 0 where
  pub live_row : (j u : ℕ) → live j u ≡ true → Present t lo r j u
  pub live_not : (j u : ℕ) → live j u ≡ true → walked (other_of t j u) ≡ false
  pub live_passed : (j u : ℕ) → live j u ≡ true → passed j u ≡ false
  pub live_all : (j u : ℕ) → Present t lo r j u → walked (other_of t j u) ≡ false → passed j u ≡ false → live j u ≡ true

pub record Place (w : List ℕ) (head tail u : ℕ) : Type 0 where
  pub place : ℕ
  pub from : head ≤ place
  pub below : place < tail
  pub is : get_or w place 0 ≡ u

-- how many have been removed
unfoldable pub removed_count : List ℕ → ℕ
removed_count x = count (λ u. no (eqb (get_or x u 0) 0)) 4096

pub record Queue (head tail : ℕ) (walked : ℕ → Bool) (x w : List ℕ) : Type 0 where
  pub walked_removed : (u : ℕ) → walked u ≡ true → (u < 4096) × Removed x u
  pub waits : (u : ℕ) → u < 4096 → Removed x u → walked u ≡ false → Place w head tail u
  pub waiting_small : (i : ℕ) → head ≤ i → i < tail → get_or w i 0 < 4096
  pub waiting_removed : (i : ℕ) → head ≤ i → i < tail → Removed x (get_or w i 0)
  pub waiting_not : (i : ℕ) → head ≤ i → i < tail → walked (get_or w i 0) ≡ false
  pub apart : (i i' : ℕ) → head ≤ i → i < i' → i' < tail → get_or w i 0 ≡ get_or w i' 0 → ⊥
  pub in_order : head ≤ tail
  pub tail_is : tail ≡ removed_count x

pub record Degrees (t : Table) (q : Query) (b : ℕ) (live : ℕ → ℕ → Bool) (x d : List ℕ) : Type 0 where
  pub degrees : (u : ℕ) → u < 4096 → get_or x u 0 ≡ 0 → get_or d u 0 ≡ count (λ j. live j u) (size t)
  pub enough : (u : ℕ) → u < b → u < 4096 → get_or x u 0 ≡ 0 → q.k ≤ get_or d u 0
  pub many : (u : ℕ) → u < 4096 → Removed x u → count (λ j. live j u) (size t) ≤ get_or d u 0
  pub few : (u : ℕ) → u < 4096 → Removed x u → get_or d u 0 < q.k

-- the times as an estimate of the core times: never past the accounts
unfoldable pub estimate : List ℕ → ℕ → ℕ
estimate x u = get_or x u never

pub record Times (t : Table) (q : Query) (s hi e : ℕ) (x : List ℕ) : Type 0 where
  pub e_pos : 1 ≤ e
  pub e_day : (e ≤ hi) ⊎ (e ≡ never)
  pub valued : (u : ℕ) → u < 4096 → Removed x u → (get_or x u 0 ≤ hi) ⊎ (get_or x u 0 ≡ never)
  pub above : (u : ℕ) → u < 4096 → Removed x u → e ≤ get_or x u 0
  pub lower : (u c : ℕ) → u < 4096 → Removed x u → s ≤ c → c ≤ hi → met t (ring t q s c) u ≡ true → get_or x u 0 ≤ c
  pub closed : (u : ℕ) → u < 4096 → Removed x u → (get_or x u 0 ≡ never) ⊎ (q.k ≤ supporters t (estimate x) s (get_or x u 0) u)
  pub backed : (u : ℕ) → u < 4096 → get_or x u 0 ≡ 0 → (e ≡ never) ⊎ (q.k ≤ supporters t (estimate x) s e u)

pub record PeelState (t : Table) (p : Frame) (b e r head tail : ℕ) (passed : ℕ → ℕ → Bool) (x d w : List ℕ) : Type 0 where
  pub buffers : PeelBuffers x d w
  pub walked : ℕ → Bool
  pub live : ℕ → ℕ → Bool
  pub rows : Rows t p.lo r passed walked live
  pub queue : Queue head tail walked x w
  pub counts : Degrees t p.query b live x d
  pub times : Times t p.query p.start p.stop e x
  -- a pair that was passed, and a row that left, matter to no ring before e
  pub passed_why : (j u : ℕ) → j < size t → passed j u ≡ true
      → ((other_of t j u < 4096) × Removed x (other_of t j u)) ⊎ (e ≤ day_of t j)
  pub left_why : (j : ℕ) → r ≤ j → j < size t → (e ≤ day_of t j) ⊎ (p.stop < day_of t j)

-- no pair has been passed
abbrev pub nothing : ℕ → ℕ → Bool
nothing j u = false

-- the rows of u below b have been passed, each for its other account
unfoldable pub passing : Table → ℕ → ℕ → ℕ → ℕ → Bool
passing t u b j v = joins t j u v and ltb j b

-- u stands at the head of the queue; its rows below b have been passed
pub record AccountRemoval (t : Table) (p : Frame) (b e r head tail u : ℕ) (x d w : List ℕ) : Type 0 where
  pub state : PeelState t p 4096 e r head tail (passing t u b) x d w
  pub front : head < tail
  pub at_front : get_or w head 0 ≡ u

-- the frame of a start, by its query and its numbers
abbrev pub frame_of : Query → ℕ → ℕ → ℕ → Frame
frame_of q s e lo = record { query = q; start = s; stop = e; lo = lo }

-- the frame of the start after it, whose first row is lo
abbrev pub next_frame : Frame → ℕ → Frame
next_frame p lo = record { query = p.query; start = p.start + 1; stop = p.stop; lo = lo }

pub record Ready (t : Table) (scratch : List ℕ) (p : Frame) : Type 0 where
  pub sound : Sound t.days t.first t.second
  pub adjacency : Adjacency t p.start scratch
  pub setting : Setting t p.query p.start p.stop p.lo

pub record Framed (t : Table) (p : Frame) : Type 0 where
  pub sound : Sound t.days t.first t.second
  pub setting : Setting t p.query p.start p.stop p.lo

pub record ReadyPairs (t : Table) (scratch : List ℕ) (p : Frame) : Type 0 where
  pub sound : Sound t.days t.first t.second
  pub paired : Paired t scratch
  pub setting : Setting t p.query p.start p.stop p.lo

pub record ReadyPruned (t : Table) (scratch : List ℕ) (p : Frame) : Type 0 where
  pub sound : Sound t.days t.first t.second
  pub pruned : PrunedAdjacency t scratch
  pub within : p.lo ≤ size t
  pub setting : Setting t p.query p.start p.stop p.lo

-- no row has left, nobody waits: who is removed has no core time
abbrev pub all_rows : ℕ → Removal
all_rows end = record { day = never; end = end; head = 0; tail = 0 }

-- the state for the frame p and the removal m, of a table
abbrev pub PeelStateOf : Table → Frame → ℕ → Removal → List ℕ → List ℕ → List ℕ → Type 0
PeelStateOf t p b m x l w = PeelState t p b m.day m.end m.head m.tail nothing x l w

-- r goes on from m: for the same day, with the same rows left
pub record Continues (t : Table) (p : Frame) (m r : Removal) (x l w : List ℕ) : Type 0 where
  pub state : PeelStateOf t p 4096 r x l w
  pub day : r.day ≡ m.day
  pub end : r.end ≡ m.end

-- somebody waits, at the head of the queue
pub record HeadWaits (t : Table) (p : Frame) (m : Removal) (x l w : List ℕ) : Type 0 where
  pub state : PeelStateOf t p 4096 m x l w
  pub some : m.head < m.tail

-- and has been walked
pub record HeadWalked (t : Table) (p : Frame) (m r : Removal) (x l w : List ℕ) : Type 0 where
  pub goes_on : Continues t p m r x l w
  pub head : r.head ≡ m.head + 1

-- nobody waits any more
pub record QueueEmpty (t : Table) (p : Frame) (m r : Removal) (x l w : List ℕ) : Type 0 where
  pub goes_on : Continues t p m r x l w
  pub idle : r.head ≡ r.tail

-- l holds, by account, the leading rows from lo on that are below end
pub record NeighbourCounts (t : Table) (lo end : ℕ) (l : List ℕ) : Type 0 where
  pub long : length l ≡ 4096
  pub rows : (u : ℕ) → u < 4096 → get_or l u 0 ≡ count (λ j. (leads t lo j and ltb j end) and touches t j u) (size t)

-- the rows from the end of m on have left, and nobody waits
pub record RowRemoval (t : Table) (p : Frame) (m : Removal) (x l w : List ℕ) : Type 0 where
  pub state : PeelStateOf t p 4096 m x l w
  pub idle : m.head ≡ m.tail
  pub above : (j : ℕ) → j < m.end → day_of t j ≤ m.day
  pub within : m.end ≤ size t
  pub from : p.lo ≤ m.end
  pub dated : (j : ℕ) → j < m.end → (1 ≤ day_of t j) × (day_of t j ≤ p.stop)

-- the same by the two numbers that go on from row to row: the day is that of the row that left last
pub record RowsRemovedTo (t : Table) (p : Frame) (end tail : ℕ) (x l w : List ℕ) : Type 0 where
  pub day : ℕ
  pub row_removal : RowRemoval t p (record { day = day; end = end; head = tail; tail = tail }) x l w

-- a row is left
pub record RowRemovable (t : Table) (p : Frame) (end tail : ℕ) (x l w : List ℕ) : Type 0 where
  pub rows_removed : RowsRemovedTo t p end tail x l w
  pub some : p.lo < end

-- the rows dated by stop are those below end, and lo is among them or their end
pub record Span (d : List ℕ) (stop lo end : ℕ) : Type 0 where
  pub ordered : lo ≤ end
  pub within : end ≤ length d
  pub inside : (j : ℕ) → j < end → get_or d j 0 ≤ stop
  pub later : (j : ℕ) → end ≤ j → j < length d → stop < get_or d j 0

-- x holds the core times of the accounts
pub record CoreTimesAre (t : Table) (p : Frame) (x : List ℕ) : Type 0 where
  pub long : length x ≡ 4096
  pub times : (u : ℕ) → u < 4096 → get_or x u 0 ≡ account_time t p.query p.stop p.start u

-- the same beside the rows of the window, of a table without links
pub record TimesKnown (t : Table) (p : Frame) (end : ℕ) (x : List ℕ) : Type 0 where
  pub framed : Framed t p
  pub span : Span t.days p.stop p.lo end
  pub times_are : CoreTimesAre t p x
