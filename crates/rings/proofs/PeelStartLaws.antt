-- The first state of a peel, and the loop of `queue_low_degree` (src/peel.rt).
--     peel_state_start, low_degree_start, low_degree_small, low_degree_room, low_degree_left, low_degree_keep,
--     low_degree_removal, low_degree_end    who has fewer than k neighbours
--     core_start, remove_rows_start                    the stages together
-- Assumes nothing.
use Prim.Native.Nat.{ℕ, ◌+◌, ◌≤◌, ◌<◌}
use native.Mathlib.Nat.{le_refl, le_antisymm, eq-or-lt_of_le, not-suc-le-zero}
use native.Mathlib.Omega.{arith}
use mathlib.Core.Path.{◌≡◌, refl, sym, ◌∙◌, ap, subst}
use mathlib.Core.Logic.{◌⊎◌, ⊎_elim}
use mathlib.Core.Bool.{false}
use mathlib.Core.List.{List}
use lib.ListN.{length, get_or, set, replicate, length-set, length-replicate, get_or-replicate}
use lib.Seq.{get_or-set_same, get_or-set_other}
use lib.Dec.{ltb}
use borrow.Author.Tests.{lt-ltb}
use Rattle.rings.specs.Words.{◌and◌, at, count}
use Rattle.rings.specs.Table.{Table, table_of, day_of}
use Rattle.rings.specs.Ring.{touches}
use Rattle.rings.specs.CoreTimes.{never}
use Rattle.rings.specs.Inner.Adjacency.{leads}
use Rattle.rings.specs.Inner.Peeling.{PeelBuffers, removed_count, PeelState, nothing, Ready, NeighbourCounts}
use Rattle.rings.specs.Inner.Peeling.{Span, all_rows, PeelStateOf, Continues, QueueEmpty, RowRemoval}
use Rattle.rings.specs.declared.frame.Frame.{Frame}
use Rattle.rings.specs.declared.peel.Removal.{Removal}
use Rattle.rings.proofs.WordLaws.{clash, and_i, and_l, and_r, same_or}
use Rattle.rings.proofs.PeelStateLaws.{room, times_removal, queue_removal, removal_lower}
use Rattle.rings.proofs.PeelLoopLaws.{removed_none, none_removed, QueueingLowDegree}
use Rattle.rings.proofs.CountNeighbourLaws.{counts_for, counts_below}

module _ (d f s scratch : List ℕ) (q : Frame) (R : Ready (table_of d f s) scratch q) where
  abbrev t : Table
  t = table_of d f s

  abbrev State : ℕ → ℕ → ℕ → ℕ → ℕ → List ℕ → List ℕ → List ℕ → Type 0
  State b e r head tail x l w = PeelState t q b e r head tail nothing x l w

  -- ---- the first state, and queue_low_degree

  pub peel_state_start : (x₀ : List ℕ) {x l w : List ℕ} {end : ℕ}
      → length x₀ ≡ 4096
      → x ≡ replicate (length x₀) 0
      → NeighbourCounts t q.lo end l
      → 4096 ≤ length w
      → end ≤ length d → ((j : ℕ) → end ≤ j → j < length d → q.stop < day_of t j) → State 0 never end 0 0 x l w
  peel_state_start x₀ {x} {l} {w} {end} n ex C m within later =
      record {
        buffers =
            record { times = ap length ex ∙ (length-replicate {A = ℕ} (length x₀) 0 ∙ n); left = C.long; queue = m };
        walked = λ u. false;
        live = λ j u. counts_for d f s scratch q R end u j;
        rows = record {
          live_row = λ j u h.
              let a = and_l (leads t q.lo j and ltb j end) (touches t j u) h in
              let b = counts_below d f s scratch q R end u j h in
              record {
                below = omega arith;
                before = b;
                is_lead = and_l (leads t q.lo j) (ltb j end) a;
                touch = and_r (leads t q.lo j and ltb j end) (touches t j u) h;
              };
          live_not = λ j u h. refl;
          live_passed = λ j u h. refl;
          live_all = λ j u a b c. and_i (and_i a.is_lead (lt-ltb j end a.before)) a.touch;
        };
        queue = record {
          walked_removed = λ u h. clash h refl;
          waits = λ u k h g. absurd (h (zero u k));
          waiting_small = λ i a b. absurd (not-suc-le-zero b);
          waiting_removed = λ i a b. absurd (not-suc-le-zero b);
          waiting_not = λ i a b. absurd (not-suc-le-zero b);
          apart = λ i i' a b c. absurd (not-suc-le-zero c);
          in_order = le_refl 0;
          tail_is = sym nobody;
        };
        counts =
            record {
              degrees = λ u k z. C.rows u k;
              enough = λ u a b z. absurd (not-suc-le-zero a);
              many = λ u k h. absurd (h (zero u k));
              few = λ u k h. absurd (h (zero u k));
            };
        times = record {
          e_pos = omega arith;
          e_day = ◌⊎◌.inr refl;
          valued = λ u k h. absurd (h (zero u k));
          above = λ u k h. absurd (h (zero u k));
          lower = λ u c k h. absurd (h (zero u k));
          closed = λ u k h. absurd (h (zero u k));
          backed = λ u k z. ◌⊎◌.inl refl;
        };
        passed_why = λ j u k h. clash refl (sym h);
        left_why = λ j a b. ◌⊎◌.inr (later j a b);
      }
    where
      zero : (u : ℕ) → u < 4096 → get_or x u 0 ≡ 0
      zero u k = ap (λ (c : List ℕ). get_or c u 0) ex ∙ get_or-replicate (length x₀) u 0 0 (omega arith)

      nobody : removed_count x ≡ 0
      nobody = removed_none x zero

  pub low_degree_start : {end : ℕ} {x l w : List ℕ} → PeelStateOf (table_of d f s) q 0 (all_rows end) x l w
      → QueueingLowDegree d f s q 0 end 0 x w x l w
  low_degree_start {end} {x} F =
      record {
        times_length = refl;
        queue_length = refl;
        most = omega arith;
        state = F;
        rest = λ v a k. none_removed x (sym F.queue.tail_is) v k;
      }

  pub low_degree_end : {u end tail : ℕ} {x₀ w₀ x l w : List ℕ} → QueueingLowDegree d f s q u end tail x₀ w₀ x l w
      → 4096 ≤ u
      → Continues (table_of d f s) q (all_rows end) (record { day = never; end = end; head = 0; tail = tail }) x l w
  low_degree_end {u} {end} {tail} {x = x} {l} {w} W h =
      record {
        state = subst (λ (c : ℕ). State c never end 0 tail x l w) (le_antisymm W.most h) W.state;
        day = refl;
        end = refl;
      }

  module _ {end u tail : ℕ} {x₀ w₀ x l w : List ℕ} (W : QueueingLowDegree d f s q u end tail x₀ w₀ x l w)
      (k : u < 4096) where
    F : State u never end 0 tail x l w
    F = W.state

    zero_u : get_or x u 0 ≡ 0
    zero_u = W.rest u (le_refl u) k

    pub low_degree_small : tail < 4096
    low_degree_small = subst (λ (c : ℕ). c < 4096) (sym F.queue.tail_is) (room x u k zero_u)

    pub low_degree_room : (tail < length w) × (u < length x)
    low_degree_room =
        let a = low_degree_small in
        let b = F.buffers.queue in let c = F.buffers.times in (omega arith, omega arith)

    pub low_degree_left : u < length l
    low_degree_left = let a = F.buffers.left in omega arith

    pub low_degree_keep : q.query.k ≤ get_or l u 0 → QueueingLowDegree d f s q (u + 1) end tail x₀ w₀ x l w
    low_degree_keep h =
        record {
          times_length = W.times_length;
          queue_length = W.queue_length;
          most = omega arith;
          state = record {
            buffers = F.buffers;
            walked = F.walked;
            live = F.live;
            rows = F.rows;
            queue = F.queue;
            times = F.times;
            passed_why = F.passed_why;
            left_why = F.left_why;
            counts =
                record {
                  degrees = F.counts.degrees;
                  many = F.counts.many;
                  few = F.counts.few;
                  enough =
                      λ v a b z.
                      ⊎_elim (λ e. subst (λ (c : ℕ). q.query.k ≤ get_or l c 0) (sym e) h)
                      (λ o. F.counts.enough v o b z)
                      (eq-or-lt_of_le (omega arith));
                };
          };
          rest = λ v a b. W.rest v (omega arith) b;
        }

    pub low_degree_removal : get_or l u 0 < q.query.k
        → {x' w' : List ℕ} → x' ≡ set x u 65535
        → w' ≡ set w tail u
        → QueueingLowDegree d f s q (u + 1) end (tail + 1) x₀ w₀ x' l w'
    low_degree_removal h {x'} {w'} ex ew =
        subst (λ (c : List ℕ). QueueingLowDegree d f s q (u + 1) end (tail + 1) x₀ w₀ c l w') (sym ex)
        (subst
        (λ (c : List ℕ). QueueingLowDegree d f s q (u + 1) end (tail + 1) x₀ w₀ (set x u never) l c)
        (sym ew) removed)
      where
        few : count (λ j. F.live j u) (length d) < q.query.k
        few = let a : get_or l u 0 ≡ count (λ j. F.live j u) (length d) = F.counts.degrees u k zero_u in omega arith

        removed_u : (v : ℕ) → v ≡ u → get_or (set x u never) v 0 ≡ 0 → ⊥
        removed_u v y g = let a : get_or (set x u never) v 0 ≡ never = ap (λ (c : ℕ). get_or (set x u never) c 0) y
            ∙ get_or-set_same x u never 0 (let n = F.buffers.times in omega arith) in omega arith

        same : (v : ℕ) → (v ≡ u → ⊥) → get_or (set x u never) v 0 ≡ get_or x v 0
        same v y = get_or-set_other x u v never 0 y

        removed : QueueingLowDegree d f s q (u + 1) end (tail + 1) x₀ w₀ (set x u never) l (set w tail u)
        removed =
            record {
              times_length = length-set x u never ∙ W.times_length;
              queue_length = length-set w tail u ∙ W.queue_length;
              most = omega arith;
              state = record {
                buffers =
                    record {
                      times = length-set x u never ∙ F.buffers.times;
                      left = F.buffers.left;
                      queue = let a = length-set w tail u in
                          let b = F.buffers.queue in omega arith;
                    };
                walked = F.walked;
                live = F.live;
                rows = F.rows;
                queue =
                    queue_removal t q R.setting F.buffers.times F.times u k zero_u F.buffers.queue
                    F.queue;
                times =
                    times_removal t q R.setting F.buffers.times F.times u k zero_u
                    (removal_lower t q R.setting F.rows F.queue.walked_removed F.times
                    F.passed_why F.left_why u few);
                counts = record {
                  degrees = λ v a z.
                      ⊎_elim (λ y. absurd (removed_u v y z)) (λ y. F.counts.degrees v a (sym (same v y) ∙ z))
                      (same_or v u);
                  enough =
                      λ v a b z. ⊎_elim (λ y. absurd (removed_u v y z))
                      (λ y. F.counts.enough v
                      (⊎_elim (λ e. absurd (y e)) (λ o. o) (eq-or-lt_of_le (omega arith))) b (sym (same v y) ∙ z))
                      (same_or v u);
                  many =
                      λ v a z. ⊎_elim
                      (λ y. subst (λ (c : ℕ). count (λ j. F.live j c) (length d) ≤ get_or l c 0) (sym y)
                      (let m : get_or l u 0 ≡ count (λ j. F.live j u) (length d) = F.counts.degrees u k zero_u in
                      omega arith))
                      (λ y. F.counts.many v a (λ e. z (same v y ∙ e))) (same_or v u);
                  few =
                      λ v a z.
                      ⊎_elim (λ y. subst (λ (c : ℕ). get_or l c 0 < q.query.k) (sym y) h)
                      (λ y. F.counts.few v a (λ e. z (same v y ∙ e)))
                      (same_or v u);
                };
                passed_why = λ j v a p. clash refl (sym p);
                left_why = F.left_why;
              };
              rest = λ v a b. same v (λ e. omega arith) ∙ W.rest v (omega arith) b;
            }

  -- ---- the stages together

  module _ {end : ℕ} (Sp : Span d q.stop q.lo end) where
    later_day : (j : ℕ) → end ≤ j → j < length d → q.stop < day_of t j
    unfolding day_of at
    later_day = Sp.later

    pub core_start : {x₀ l₀ x l w : List ℕ} → PeelBuffers x₀ l₀ w → x ≡ replicate (length x₀) 0
        → NeighbourCounts t q.lo end l
        → PeelStateOf (table_of d f s) q 0 (all_rows end) x l w
    core_start {x₀} B ex C = peel_state_start x₀ B.times ex C B.queue Sp.within later_day

    pub remove_rows_start : {r : Removal} {x l w : List ℕ} → QueueEmpty (table_of d f s) q (all_rows end) r x l w
        → RowRemoval (table_of d f s) q r x l w
    unfolding day_of at
    remove_rows_start {r} Q =
        let g = Q.goes_on.end in let e = Q.goes_on.day in
        record {
          state = Q.goes_on.state;
          idle = Q.idle;
          within = let a = Sp.within in omega arith;
          from = let a = Sp.ordered in omega arith;
          above = λ j k. let a = Sp.inside j (omega arith) in let b = R.setting.fits in omega arith;
          dated = λ j k. ((R.sound.rows j (let a = Sp.within in omega arith)).day_from, Sp.inside j (omega arith));
        }
