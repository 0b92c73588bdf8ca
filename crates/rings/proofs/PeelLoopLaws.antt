-- The stages of peeling (src/peel.rt): remove_queued, remove_row, remove_rows_from_the_end, count_neighbours,
-- queue_low_degree.
--     SameLengths, same_start, same_next        the lengths of the three lists, which no step changes
--     RemovingQueued, RemovingRows, Counting, QueueingLowDegree             the invariants of the loops
--     tail_most, remove_queued_start, remove_queued_next, remove_queued_end    the queue
--     remove_row_below, remove_row_place, remove_row_accounts, remove_row_old, remove_row_a_removed,
--     remove_row_b_removed, remove_row_room_a, remove_row_room_b, remove_row_now, remove_row_left    a row leaves
--     removing_rows_start, removing_rows_asks, removing_rows_next, removing_rows_end     the rows leave, from the last
--     on
--     count_end    the neighbours
--     removed_none, none_removed     nobody has been removed exactly where all times are 0
--     rows_removed_of     by the two numbers alone
-- Assumes nothing.
use Prim.Native.Nat.{ℕ, suc, ◌+◌, ◌-◌, ◌≤◌, ◌<◌}
use native.Mathlib.Nat.{le_antisymm}
use native.Mathlib.Omega.{arith}
use mathlib.Core.Path.{◌≡◌, refl, sym, ◌∙◌, ap, subst}
use mathlib.Core.Logic.{⊎_elim}
use mathlib.Core.Bool.{Bool, true, false}
use mathlib.Core.List.{List}
use lib.ListN.{length, get_or}
use lib.Dec.{eqb}
use borrow.Author.Tests.{eq-eqb, ne_eqb}
use Rattle.rings.specs.Words.{no, at, count}
use Rattle.rings.specs.Table.{Table, table_of, day_of, first_of, second_of}
use Rattle.rings.specs.Ring.{touches}
use Rattle.rings.specs.CoreTimes.{never}
use Rattle.rings.specs.Inner.Adjacency.{leads}
use Rattle.rings.specs.Inner.Peeling.{EarlierStands, leads_by, Droppable, DroppedNeighbour, removed_count}
use Rattle.rings.specs.Inner.Peeling.{PeelState, nothing, Ready, NeighbourCounts, CoreTimesAre, PeelStateOf}
use Rattle.rings.specs.Inner.Peeling.{Continues, HeadWalked, QueueEmpty, RowRemoval, RowsRemovedTo}
use Rattle.rings.specs.Inner.Peeling.{RowRemovable}
use Rattle.rings.specs.declared.frame.Frame.{Frame}
use Rattle.rings.specs.declared.peel.Removal.{Removal}
use Rattle.rings.proofs.WordLaws.{true_or_false, clash, no_i, no_e, count_none, count_pos, count_le}
use Rattle.rings.proofs.RingLaws.{touch_first, touch_second}
use Rattle.rings.proofs.RankLaws.{first_small, second_small}
use Rattle.rings.proofs.LeadLaws.{lead_test}
use Rattle.rings.proofs.PeelStateLaws.{removed_or_not}
use Rattle.rings.proofs.PeelRowLaws.{remove_row_not_lead, remove_row_removed, remove_row_first_one}
use Rattle.rings.proofs.PeelRowLaws.{remove_row_second_one, remove_row_both}
use Rattle.rings.proofs.PeelEndLaws.{next_day, peel_times}

-- nobody has been removed exactly where all times are 0
pub removed_none : (x : List ℕ) → ((u : ℕ) → u < 4096 → get_or x u 0 ≡ 0) → removed_count x ≡ 0
unfolding removed_count
removed_none x f =
    count_none (λ u. no (eqb (get_or x u 0) 0)) 4096
    (λ u k. ⊎_elim (λ h. clash (eq-eqb (get_or x u 0) 0 (f u k)) (no_e (eqb (get_or x u 0) 0) h)) (λ h. h)
    (true_or_false (no (eqb (get_or x u 0) 0))))

pub none_removed : (x : List ℕ) → removed_count x ≡ 0 → (u : ℕ) → u < 4096 → get_or x u 0 ≡ 0
unfolding removed_count
none_removed x e u k =
    ⊎_elim (λ z. z)
    (λ f. let p : 0
    < count (λ u. no (eqb (get_or x u 0) 0)) 4096 =
    count_pos (λ u. no (eqb (get_or x u 0) 0)) 4096 u k (no_i (ne_eqb (get_or x u 0) 0 f)) in
    absurd (omega arith)) (removed_or_not x u)

-- ---- the lengths of the three lists, which no step changes

pub record SameLengths (x₀ l₀ w₀ x l w : List ℕ) : Type 0 where
  pub times : length x ≡ length x₀
  pub left : length l ≡ length l₀
  pub queue : length w ≡ length w₀

pub same_start : (x l w : List ℕ) → SameLengths x l w x l w
same_start x l w = record { times = refl; left = refl; queue = refl }

pub same_next : {x₀ l₀ w₀ x l w x' l' w' : List ℕ} → SameLengths x₀ l₀ w₀ x l w → length x' ≡ length x
    → length l' ≡ length l → length w' ≡ length w
    → SameLengths x₀ l₀ w₀ x' l' w'
same_next S ex el ew = record { times = ex ∙ S.times; left = el ∙ S.left; queue = ew ∙ S.queue }

-- ---- the invariants of the loops

-- drain: the removal has gone on from m to state
pub record RemovingQueued (d f s : List ℕ) (q : Frame) (m state : Removal) (x₀ l₀ w₀ x l w : List ℕ) : Type 0 where
  pub lengths : SameLengths x₀ l₀ w₀ x l w
  pub goes_on : Continues (table_of d f s) q m state x l w

-- fade: the rows from the end of state on have left
pub record RemovingRows (d f s : List ℕ) (q : Frame) (end tail : ℕ) (x₀ l₀ w₀ x l w : List ℕ) : Type 0 where
  pub lengths : SameLengths x₀ l₀ w₀ x l w
  pub rows_removed : RowsRemovedTo (table_of d f s) q end tail x l w

-- count_neighbours: the rows below j have been counted
pub record Counting (d f s : List ℕ) (q : Frame) (j end : ℕ) (l₀ l : List ℕ) : Type 0 where
  pub lengths : length l ≡ length l₀
  pub most : j ≤ end
  pub counted : NeighbourCounts (table_of d f s) q.lo j l

-- queue_low_degree: the accounts below u have been tested; none from u on has been removed
pub record QueueingLowDegree (d f s : List ℕ) (q : Frame) (u end tail : ℕ) (x₀ w₀ x l w : List ℕ) : Type 0 where
  pub times_length : length x ≡ length x₀
  pub queue_length : length w ≡ length w₀
  pub most : u ≤ 4096
  pub state : PeelState (table_of d f s) q u never end 0 tail nothing x l w
  pub rest : (v : ℕ) → u ≤ v → v < 4096 → get_or x v 0 ≡ 0

pub count_end : {d f s : List ℕ} {q : Frame} {j end : ℕ} {l₀ l : List ℕ} → Counting d f s q j end l₀ l → end ≤ j
    → NeighbourCounts (table_of d f s) q.lo end l
count_end {d} {f} {s} {q} {l = l} C h =
    subst (λ (c : ℕ). NeighbourCounts (table_of d f s) q.lo c l) (le_antisymm C.most h) C.counted

module _ (d f s scratch : List ℕ) (q : Frame) (R : Ready (table_of d f s) scratch q) where
  abbrev t : Table
  t = table_of d f s

  abbrev State : ℕ → ℕ → ℕ → ℕ → ℕ → List ℕ → List ℕ → List ℕ → Type 0
  State b e r head tail x l w = PeelState t q b e r head tail nothing x l w

  -- ---- remove_queued

  pub tail_most : {b : ℕ} {m : Removal} {x l w : List ℕ} → PeelStateOf (table_of d f s) q b m x l w → m.tail ≤ 4096
  unfolding removed_count
  tail_most {x = x} F =
      subst (λ (c : ℕ). c ≤ 4096) (sym F.queue.tail_is) (count_le (λ u. no (eqb (get_or x u 0) 0)) 4096)

  pub remove_queued_start : {m : Removal} {x l w : List ℕ} → PeelStateOf (table_of d f s) q 4096 m x l w
      → RemovingQueued d f s q m m x l w x l w
  remove_queued_start {m} {x} {l} {w} F =
      record { lengths = same_start x l w; goes_on = record { state = F; day = refl; end = refl } }

  module _ {m state : Removal} {x₀ l₀ w₀ x l w : List ℕ} (D : RemovingQueued d f s q m state x₀ l₀ w₀ x l w) where
    pub remove_queued_next : {r : Removal} {x' l' w' : List ℕ} → length x' ≡ length x → length l' ≡ length l
        → length w' ≡ length w
        → HeadWalked (table_of d f s) q state r x' l' w' → RemovingQueued d f s q m r x₀ l₀ w₀ x' l' w'
    remove_queued_next ex el ew W =
        record {
          lengths = same_next D.lengths ex el ew;
          goes_on =
              record {
                state = W.goes_on.state;
                day = W.goes_on.day ∙ D.goes_on.day;
                end = W.goes_on.end ∙ D.goes_on.end;
              };
        }

    pub remove_queued_end : state.tail ≤ state.head → QueueEmpty (table_of d f s) q m state x l w
    remove_queued_end h = record { goes_on = D.goes_on; idle = le_antisymm D.goes_on.state.queue.in_order h }

  -- ---- remove_row

  pub remove_row_below : {j tail : ℕ} {x l w : List ℕ} → RowRemovable (table_of d f s) q (j + 1) tail x l w → j < length d
  remove_row_below L = let a = L.some in let b = L.rows_removed.row_removal.within in omega arith

  -- by the two numbers alone
  pub rows_removed_of : {m : Removal} {x l w : List ℕ} → RowRemoval (table_of d f s) q m x l w
      → RowsRemovedTo (table_of d f s) q m.end m.tail x l w
  rows_removed_of {m} {x} {l} {w} F =
      record {
        day = m.day;
        row_removal =
            subst
            (λ (c : ℕ). RowRemoval (table_of d f s) q (record { day = m.day; end = m.end; head = c; tail = m.tail }) x l w)
            F.idle F;
      }

  module _ (j : ℕ) {tail : ℕ} {x l w : List ℕ} (L : RowRemovable (table_of d f s) q (j + 1) tail x l w) {e : ℕ}
      (day : e ≡ get_or d j 0) where
    b : j < length d
    b = remove_row_below L

    one_more : j + 1 ≡ suc j
    one_more = omega arith

    -- the state for the day of this row
    G : State 4096 e (suc j) tail tail x l w
    unfolding day_of at
    G =
        let z = L.rows_removed.row_removal.dated j (omega (arith, one_more)) in
        subst (λ (c : ℕ). State 4096 c (suc j) tail tail x l w) (sym day)
        (next_day t q R.setting
        (subst (λ (c : ℕ). State 4096 L.rows_removed.day c tail tail x l w) one_more
        L.rows_removed.row_removal.state)
        b z.0 z.1 (L.rows_removed.row_removal.above j (omega (arith, one_more))))

    e_day : e ≤ day_of t j
    unfolding day_of at
    e_day = omega arith

    -- what `leads` answers
    lead_is : {y : Bool} → y ≡ leads_by scratch (length d) q.lo j → leads t q.lo j ≡ y
    lead_is h = sym (lead_test t q.lo j (R.adjacency.pairs j b) h)

    pub remove_row_place : EarlierStands scratch (length d) j
    remove_row_place = record { most = R.sound.most; row = b; place = let a = R.adjacency.long in omega (arith, b) }

    pub remove_row_accounts : {a c : ℕ} → a ≡ get_or f j 0 → c ≡ get_or s j 0 → (a < length x) × (c < length x)
    remove_row_accounts ea ec =
        let y = first_small R.sound b ea in
        let z = second_small R.sound b ec in
        let n = L.rows_removed.row_removal.state.buffers.times in (omega arith, omega arith)

    -- the row has left: nobody waits after that
    pub remove_row_left : {r n : Removal} {x' l' w' : List ℕ}
        → n.day ≡ e
        → n.end ≡ j
        → QueueEmpty (table_of d f s) q n r x' l' w'
        → RowsRemovedTo (table_of d f s) q j r.tail x' l' w'
    unfolding day_of at
    remove_row_left {r} {n} {x'} {l'} {w'} ed en Q =
        subst (λ (c : ℕ). RowsRemovedTo (table_of d f s) q c r.tail x' l' w') (Q.goes_on.end ∙ en)
        (rows_removed_of (left ed en Q))
      where
        left : n.day ≡ e → n.end ≡ j → QueueEmpty (table_of d f s) q n r x' l' w' → RowRemoval (table_of d f s) q r x' l' w'
        left ed en Q =
            let a = L.rows_removed.row_removal.within in
            let o = L.some in let g : r.end ≡ j = Q.goes_on.end ∙ en in
            record {
              state = Q.goes_on.state;
              idle = Q.idle;
              above = λ i k.
                  subst (λ (c : ℕ). get_or d i 0 ≤ c) (sym (Q.goes_on.day ∙ (ed ∙ day)))
                  (R.setting.rising i j (omega arith) b);
              within = omega arith;
              from = omega arith;
              dated = λ i k. L.rows_removed.row_removal.dated i (omega arith);
            }

    -- it has left, and nobody fell
    gone : State 4096 e j tail tail x l w → RowsRemovedTo (table_of d f s) q j tail x l w
    gone F =
        remove_row_left {r = record { day = e; end = j; head = tail; tail = tail }}
        {n = record { day = e; end = j; head = tail; tail = tail }} refl refl
        (record { goes_on = record { state = F; day = refl; end = refl }; idle = refl })

    pub remove_row_old : {y : Bool} → y ≡ leads_by scratch (length d) q.lo j → y ≡ false
        → RowsRemovedTo (table_of d f s) q j tail x l w
    remove_row_old h g = gone (remove_row_not_lead t q R.setting G e_day (lead_is h ∙ g))

    pub remove_row_a_removed : {a v : ℕ} → a ≡ get_or f j 0 → v ≡ get_or x a 0 → (v ≡ 0 → ⊥)
        → RowsRemovedTo (table_of d f s) q j tail x l w
    unfolding first_of at
    remove_row_a_removed {a} {v} ea ev n =
        gone (remove_row_removed t q R.setting G e_day b a
        (subst (λ (c : ℕ). touches t j c ≡ true) (sym ea) (touch_first t j)) (λ z. n (ev ∙ z)))

    pub remove_row_b_removed : {c v : ℕ} → c ≡ get_or s j 0 → v ≡ get_or x c 0 → (v ≡ 0 → ⊥)
        → RowsRemovedTo (table_of d f s) q j tail x l w
    unfolding second_of at
    remove_row_b_removed {c} {v} ec ev n =
        gone (remove_row_removed t q R.setting G e_day b c
        (subst (λ (g : ℕ). touches t j g ≡ true) (sym ec) (touch_second t j)) (λ z. n (ev ∙ z)))

    module _ {y : Bool} (ey : y ≡ leads_by scratch (length d) q.lo j) (yes : y ≡ true)
        {a c va vc : ℕ} (ea : a ≡ get_or f j 0) (ec : c ≡ get_or s j 0) (va_is : va ≡ get_or x a 0)
        (vc_is : vc ≡ get_or x c 0) (za : va ≡ 0) (zc : vc ≡ 0) where
      f_is : leads t q.lo j ≡ true
      f_is = lead_is ey ∙ yes

      a_is : a ≡ first_of t j
      unfolding first_of at
      a_is = ea

      c_is : c ≡ second_of t j
      unfolding second_of at
      c_is = ec

      zero_a : get_or x (first_of t j) 0 ≡ 0
      zero_a = ap (λ (g : ℕ). get_or x g 0) (sym a_is) ∙ (sym va_is ∙ za)

      zero_c : get_or x (second_of t j) 0 ≡ 0
      zero_c = ap (λ (g : ℕ). get_or x g 0) (sym c_is) ∙ (sym vc_is ∙ zc)

      pub remove_row_room_a : Droppable q.query.k tail a x l w
      remove_row_room_a =
          subst (λ (g : ℕ). Droppable q.query.k tail g x l w) (sym a_is)
          (remove_row_first_one t q R.setting G e_day b f_is zero_a zero_c)

      module _ {x₁ l₁ w₁ : List ℕ} {one : ℕ} (A : DroppedNeighbour q.query.k e tail a x l w x₁ l₁ w₁ one) where
        A' : DroppedNeighbour q.query.k e tail (first_of t j) x l w x₁ l₁ w₁ one
        A' = subst (λ (g : ℕ). DroppedNeighbour q.query.k e tail g x l w x₁ l₁ w₁ one) a_is A

        pub remove_row_room_b : Droppable q.query.k one c x₁ l₁ w₁
        remove_row_room_b =
            subst (λ (g : ℕ). Droppable q.query.k one g x₁ l₁ w₁) (sym c_is)
            (remove_row_second_one t q R.setting G e_day b f_is zero_a zero_c A')

        pub remove_row_now : {x₂ l₂ w₂ : List ℕ} {two : ℕ}
            → DroppedNeighbour q.query.k e one c x₁ l₁ w₁ x₂ l₂ w₂ two → State 4096 e j tail two x₂ l₂ w₂
        remove_row_now {x₂} {l₂} {w₂} {two} M =
            remove_row_both t q R.setting G e_day b f_is zero_a zero_c A'
            (subst (λ (g : ℕ). DroppedNeighbour q.query.k e one g x₁ l₁ w₁ x₂ l₂ w₂ two) c_is M)

  -- ---- remove_rows_from_the_end

  pub removing_rows_start : {m : Removal} {x l w : List ℕ} → RowRemoval (table_of d f s) q m x l w
      → RemovingRows d f s q m.end m.tail x l w x l w
  removing_rows_start {x = x} {l} {w} F = record { lengths = same_start x l w; rows_removed = rows_removed_of F }

  module _ {end tail : ℕ} {x₀ l₀ w₀ x l w : List ℕ} (F : RemovingRows d f s q end tail x₀ l₀ w₀ x l w) where
    pub removing_rows_asks : q.lo < end → RowRemovable (table_of d f s) q (end - 1 + 1) tail x l w
    removing_rows_asks h =
        record {
          rows_removed = subst (λ (c : ℕ). RowsRemovedTo (table_of d f s) q c tail x l w) (omega arith) F.rows_removed;
          some = omega arith;
        }

    pub removing_rows_next : {r : ℕ} {x' l' w' : List ℕ}
        → length x' ≡ length x
        → length l' ≡ length l
        → length w' ≡ length w
        → RowsRemovedTo (table_of d f s) q (end - 1) r x' l' w'
        → RemovingRows d f s q (end - 1) r x₀ l₀ w₀ x' l' w'
    removing_rows_next ex el ew L = record { lengths = same_next F.lengths ex el ew; rows_removed = L }

    pub removing_rows_end : end ≤ q.lo → CoreTimesAre (table_of d f s) q x
    removing_rows_end h =
        let now = F.rows_removed.row_removal in
        let g : end ≡ q.lo = le_antisymm h now.from in
        record {
          long = now.state.buffers.times;
          times = λ u k.
              peel_times t q R.setting
              (subst (λ (c : ℕ). State 4096 F.rows_removed.day c tail tail x l w) g now.state)
              u k;
        }
