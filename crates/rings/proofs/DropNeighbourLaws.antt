-- Laws of peeling: an account loses a neighbour (src/peel.rt, `drop_neighbour`), and the state after it.
--     droppable, dropped_step         an account may lose a neighbour, and loses one
-- Assumes nothing.
use Prim.Native.Nat.{ℕ, suc, ◌+◌, ◌-◌, ◌≤◌, ◌<◌}
use native.Mathlib.Nat.{eq-or-lt_of_le}
use native.Mathlib.Omega.{arith}
use mathlib.Core.Path.{◌≡◌, sym, ◌∙◌, ap, subst}
use mathlib.Core.Logic.{◌⊎◌, ⊎_elim}
use mathlib.Core.Bool.{Bool, true, false}
use mathlib.Core.List.{List}
use lib.ListN.{length, get_or, set, length-set}
use lib.Seq.{get_or-set_same, get_or-set_other}
use Rattle.rings.specs.Words.{count}
use Rattle.rings.specs.Table.{Table, size, day_of}
use Rattle.rings.specs.Inner.Adjacency.{other_of}
use Rattle.rings.specs.Inner.Peeling.{Droppable, DroppedNeighbour, Setting, Removed, Present, Rows, Degrees}
use Rattle.rings.specs.Inner.Peeling.{PeelState}
use Rattle.rings.specs.declared.Query.{Query}
use Rattle.rings.specs.declared.frame.Frame.{Frame}
use Rattle.rings.proofs.WordLaws.{count_same, same_or}
use Rattle.rings.proofs.PairLaws.{count_drop}
use Rattle.rings.proofs.PeelStateLaws.{without, without_this, without_other, removed_or_not, room, rows_pass}
use Rattle.rings.proofs.PeelStateLaws.{removed_other, removal_lower, now_e, still, times_removal}
use Rattle.rings.proofs.PeelStateLaws.{queue_removal, moved, Pass}

module _ (t : Table) (frame : Frame) (S : Setting t frame.query frame.start frame.stop frame.lo) where
  abbrev q : Query
  q = frame.query

  abbrev lo : ℕ
  lo = frame.lo

  -- ---- the loss of one neighbour

  -- v, which has not been removed, loses the row j
  counts_dropped : (live : ℕ → ℕ → Bool) (x d : List ℕ) (j v : ℕ) → j < size t → v < 4096 → length d ≡ 4096
      → live j v ≡ true → get_or x v 0 ≡ 0
      → ((u : ℕ) → u < 4096 → get_or x u 0 ≡ 0 → get_or d u 0 ≡ count (λ i. live i u) (size t)) → (u : ℕ) → u < 4096
      → get_or x u 0 ≡ 0
      → get_or (set d v (get_or d v 0 - 1)) u 0 ≡ count (λ i. without live j v i u) (size t)
  counts_dropped live x d j v b l n h z D u k g =
      ⊎_elim (λ y. ap (λ (c : ℕ). get_or (set d v (get_or d v 0 - 1)) c 0) y
      ∙ (get_or-set_same d v (get_or d v 0 - 1) 0 (omega arith)
      ∙ (one_less ∙ ap (λ (c : ℕ). count (λ i. without live j v i c) (size t)) (sym y))))
      (λ y. get_or-set_other d v u (get_or d v 0 - 1) 0 y
      ∙ (D u k g
      ∙ sym (count_same (λ i. without live j v i u) (λ i. live i u) (size t)
      (λ i o. without_other live j v i u (λ e. y e.1)))))
      (same_or u v)
    where
      one_less : get_or d v 0 - 1 ≡ count (λ i. without live j v i v) (size t)
      one_less =
          let a : get_or d v 0 ≡ count (λ i. live i v) (size t) = D v l z in
          let c : count (λ i. live i v) (size t) ≡ suc (count (λ i. without live j v i v) (size t)) =
          count_drop (λ i. live i v) (λ i. without live j v i v) (size t) j b h (without_this live j v)
          (λ i y. without_other live j v i v (λ e. y e.0))
          in
          omega arith

  -- an account that has been removed counts no more: its rows may be passed freely
  counts_kept : (live : ℕ → ℕ → Bool) (x d : List ℕ) (j v : ℕ) → Removed x v
      → ((u : ℕ) → u < 4096 → get_or x u 0 ≡ 0 → get_or d u 0 ≡ count (λ i. live i u) (size t)) → (u : ℕ) → u < 4096
      → get_or x u 0 ≡ 0
      → get_or d u 0 ≡ count (λ i. without live j v i u) (size t)
  counts_kept live x d j v f D u k g =
      D u k g
      ∙ sym (count_same (λ i. without live j v i u) (λ i. live i u) (size t)
      (λ i o. without_other live j v i u (λ e. f (ap (λ (c : ℕ). get_or x c 0) (sym e.1) ∙ g))))

  module _ {e r head tail : ℕ} {passed passed' : ℕ → ℕ → Bool} {x d w : List ℕ}
      (F : PeelState t frame 4096 e r head tail passed x d w) (j v : ℕ)
      (k : v < 4096) (here : Present t lo r j v) (lead_other : F.walked (other_of t j v) ≡ false)
      (new : passed j v ≡ false) (P : Pass passed passed' j v)
      (why : ((other_of t j v < 4096) × Removed x (other_of t j v)) ⊎ (e ≤ day_of t j)) where
    counted : F.live j v ≡ true
    counted = F.rows.live_all j v here lead_other new

    one_fewer : count (λ i. F.live i v) (size t) ≡ suc (count (λ i. without F.live j v i v) (size t))
    one_fewer =
        count_drop (λ i. F.live i v) (λ i. without F.live j v i v) (size t) j here.below counted
        (without_this F.live j v)
        (λ i y. without_other F.live j v i v (λ e. y e.0))

    most_live : count (λ i. F.live i v) (size t) ≤ get_or d v 0
    most_live =
        ⊎_elim
        (λ z. let a : get_or d v 0 ≡ count (λ i. F.live i v) (size t) = F.counts.degrees v k z in omega arith)
        (λ f. F.counts.many v k f)
        (removed_or_not x v)

    -- v has a neighbour to lose
    drop_neighbour_one : 0 < get_or d v 0
    drop_neighbour_one = let a = most_live in let c = one_fewer in omega arith

    -- with k left it has not been removed
    not_yet : get_or d v 0 ≡ q.k → get_or x v 0 ≡ 0
    not_yet h = ⊎_elim (λ z. z) (λ f. let a = F.counts.few v k f in absurd (omega arith)) (removed_or_not x v)

    drop_neighbour_room : get_or d v 0 ≡ q.k → tail < 4096
    drop_neighbour_room h = subst (λ (a : ℕ). a < 4096) (sym F.queue.tail_is) (room x v k (not_yet h))

    pub droppable : Droppable q.k tail v x d w
    droppable = record { buffers = F.buffers; small = k; some = drop_neighbour_one; room = drop_neighbour_room }

    -- one neighbour fewer for v
    abbrev less : List ℕ
    less = set d v (get_or d v 0 - 1)

    now_less : get_or less v 0 ≡ get_or d v 0 - 1
    now_less = get_or-set_same d v (get_or d v 0 - 1) 0 (let n = F.buffers.left in omega arith)

    -- of v, and of those who have been removed
    many_now : (u : ℕ) → u < 4096 → (u ≡ v) ⊎ Removed x u
        → count (λ i. without F.live j v i u) (size t) ≤ get_or less u 0
    many_now u a o =
        ⊎_elim (λ y. subst (λ (c : ℕ). count (λ i. without F.live j v i c) (size t) ≤ get_or less c 0) (sym y)
        (let m = most_live in let n = one_fewer in let g = now_less in omega arith))
        (λ y. let g : get_or less u 0 ≡ get_or d u 0 = get_or-set_other d v u (get_or d v 0 - 1) 0 y in
        let c : count (λ i. without F.live j v i u) (size t) ≡ count (λ i. F.live i u) (size t) =
        count_same (λ i. without F.live j v i u) (λ i. F.live i u) (size t)
        (λ i b. without_other F.live j v i u (λ e. y e.1)) in
        ⊎_elim (λ e. absurd (y e)) (λ f. let m = F.counts.many u a f in omega arith) o) (same_or u v)

    few_now : (u : ℕ) → u < 4096 → (u ≡ v → get_or d v 0 ≤ q.k) → (u ≡ v) ⊎ Removed x u → get_or less u 0 < q.k
    few_now u a le o =
        ⊎_elim (λ y. subst (λ (c : ℕ). get_or less c 0 < q.k) (sym y)
        (let m = le y in let n = drop_neighbour_one in let g = now_less in omega arith))
        (λ y. let g : get_or less u 0 ≡ get_or d u 0 =
        get_or-set_other d v u (get_or d v 0 - 1) 0 y in
        ⊎_elim (λ e. absurd (y e)) (λ f. let m = F.counts.few u a f in omega arith) o)
        (same_or u v)

    why_all : (i u : ℕ) → i < size t → passed' i u ≡ true
        → ((other_of t i u < 4096) × Removed x (other_of t i u)) ⊎ (e ≤ day_of t i)
    why_all i u l h =
        ⊎_elim (λ a. ⊎_elim
        (λ b. subst (λ (y : ℕ). ((other_of t i y < 4096) × Removed x (other_of t i y)) ⊎ (e ≤ day_of t i)) (sym b)
        (subst (λ (y : ℕ). ((other_of t y v < 4096) × Removed x (other_of t y v)) ⊎ (e ≤ day_of t y)) (sym a) why))
        (λ b. F.passed_why i u l (sym (P.rest i u (λ e. b e.1)) ∙ h)) (same_or u v))
        (λ a. F.passed_why i u l (sym (P.rest i u (λ e. a e.0)) ∙ h)) (same_or i j)

    -- nobody falls: only the counts are others
    dropped_state : Degrees t q 4096 (without F.live j v) x less
        → PeelState t frame 4096 e r head tail passed' x less w
    dropped_state D =
        record {
          buffers =
              record {
                times = F.buffers.times;
                left = length-set d v (get_or d v 0 - 1) ∙ F.buffers.left;
                queue = F.buffers.queue;
              };
          walked = F.walked;
          live = without F.live j v;
          rows = rows_pass j v P F.rows;
          queue = F.queue;
          counts = D;
          times = F.times;
          passed_why = why_all;
          left_why = F.left_why;
        }

    -- the three outcomes of a loss
    kept_state : Removed x v → PeelState t frame 4096 e r head tail passed' x less w
    kept_state f =
        dropped_state (record {
          degrees = λ u a g.
              get_or-set_other d v u (get_or d v 0 - 1) 0 (not_v u g)
              ∙ counts_kept F.live x d j v f F.counts.degrees u a g;
          enough = λ u a b g. rw (get_or-set_other d v u (get_or d v 0 - 1) 0 (not_v u g)) (F.counts.enough u a b g);
          many = λ u a g. many_now u a (◌⊎◌.inr g);
          few = λ u a g. few_now u a (λ y. let m = F.counts.few v k f in omega arith) (◌⊎◌.inr g);
        })
      where
        not_v : (u : ℕ) → get_or x u 0 ≡ 0 → u ≡ v → ⊥
        not_v u g y = f (ap (λ (c : ℕ). get_or x c 0) (sym y) ∙ g)

    lower_state : get_or x v 0 ≡ 0 → q.k < get_or d v 0 → PeelState t frame 4096 e r head tail passed' x less w
    lower_state z h =
        dropped_state (record {
          degrees = counts_dropped F.live x d j v here.below k F.buffers.left counted z F.counts.degrees;
          enough =
              λ u a b g. ⊎_elim
              (λ y. subst (λ (c : ℕ). q.k ≤ get_or less c 0) (sym y)
              (rw (get_or-set_same d v (get_or d v 0 - 1) 0 (let n = F.buffers.left in omega arith)) (omega arith)))
              (λ y. rw (get_or-set_other d v u (get_or d v 0 - 1) 0 y) (F.counts.enough u a b g)) (same_or u v);
          many = λ u a g. many_now u a (◌⊎◌.inr g);
          few = λ u a g. few_now u a (λ y. absurd (g (ap (λ (c : ℕ). get_or x c 0) y ∙ z))) (◌⊎◌.inr g);
        })

    removal_state : get_or x v 0 ≡ 0 → get_or d v 0 ≤ q.k
        → PeelState t frame 4096 e r head (tail + 1) passed' (set x v e) less (set w tail v)
    removal_state z h =
        record {
          buffers =
              record {
                times = length-set x v e ∙ F.buffers.times;
                left = length-set d v (get_or d v 0 - 1) ∙ F.buffers.left;
                queue = let a = length-set w tail v in let b = F.buffers.queue in omega arith;
              };
          walked = F.walked;
          live = without F.live j v;
          rows = R;
          queue = queue_removal t frame S F.buffers.times F.times v k z F.buffers.queue F.queue;
          counts = record {
            degrees = λ u a g.
                ⊎_elim (λ y. absurd (removed_v u y g))
                (λ y. D u a (sym (still t frame S F.buffers.times F.times v k z u y) ∙ g)) (same_or u v);
            enough =
                λ u a b g. ⊎_elim (λ y. absurd (removed_v u y g))
                (λ y. rw (get_or-set_other d v u (get_or d v 0 - 1) 0 y)
                (F.counts.enough u a b (sym (still t frame S F.buffers.times F.times v k z u y) ∙ g)))
                (same_or u v);
            many = λ u a g. many_now u a (removed_now u g);
            few = λ u a g. few_now u a (λ y. h) (removed_now u g);
          };
          times =
              times_removal t frame S F.buffers.times F.times v k z
              (removal_lower t frame S R F.queue.walked_removed F.times why_all F.left_why v few);
          passed_why = λ i u l p.
              ⊎_elim (λ f. ◌⊎◌.inl (f.0, keep_removed (other_of t i u) f.1)) ◌⊎◌.inr (why_all i u l p);
          left_why = F.left_why;
        }
      where
        R : Rows t lo r passed' F.walked (without F.live j v)
        R = rows_pass j v P F.rows

        D : (u : ℕ) → u < 4096 → get_or x u 0 ≡ 0 → get_or less u 0 ≡ count (λ i. without F.live j v i u) (size t)
        D = counts_dropped F.live x d j v here.below k F.buffers.left counted z F.counts.degrees

        removed_now : (u : ℕ) → Removed (set x v e) u → (u ≡ v) ⊎ Removed x u
        removed_now u g = ⊎_elim ◌⊎◌.inl (λ y. ◌⊎◌.inr (removed_other x u v e y g)) (same_or u v)

        few : count (λ i. without F.live j v i v) (size t) < q.k
        few =
            let a : 0 < get_or d v 0 = drop_neighbour_one in
            let c : get_or less v 0 ≡ get_or d v 0 - 1 =
            get_or-set_same d v (get_or d v 0 - 1) 0 (let n = F.buffers.left in omega arith) in
            let g : get_or less v 0 ≡ count (λ i. without F.live j v i v) (size t) = D v k z in omega arith

        removed_v : (u : ℕ) → u ≡ v → get_or (set x v e) u 0 ≡ 0 → ⊥
        removed_v u y g =
            let p = F.times.e_pos in let a : get_or (set x v e) u 0 ≡ e = ap (λ (c : ℕ). get_or (set x v e) c 0) y
            ∙ now_e t frame S F.buffers.times F.times v k z in omega arith

        keep_removed : (u : ℕ) → Removed x u → Removed (set x v e) u
        keep_removed u f =
            ⊎_elim (λ y. removed_v u y)
            (λ y g. f (sym (still t frame S F.buffers.times F.times v k z u y) ∙ g)) (same_or u v)

    -- what `lose` leaves
    pub dropped_step : {x' d' w' : List ℕ} {tail' : ℕ}
        → DroppedNeighbour q.k e tail v x d w x' d' w' tail'
        → PeelState t frame 4096 e r head tail' passed' x' d' w'
    dropped_step (DroppedNeighbour.stays h ex ed ew et) =
        moved ex ed ew et
        (⊎_elim
        (λ z. lower_state z
        (⊎_elim (λ y. absurd (h (sym y))) (λ y. y) (eq-or-lt_of_le (F.counts.enough v k k z))))
        kept_state (removed_or_not x v))
    dropped_step (DroppedNeighbour.removes h ex ed ew et) = moved ex ed ew et (removal_state (not_yet h) (omega arith))
