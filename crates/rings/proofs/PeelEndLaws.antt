-- Laws of peeling: from one day to the next, and the end: the times are the core times, and who is left is in the ring.
--     stable_supported, next_day       from one day to the next
--     all_removed, peel_times             all rows have left: the times are the core times
--     stays_met, removed_not              none has left: who has not been removed is met in the ring, and nobody else
-- Assumes nothing.
use Prim.Native.Nat.{ℕ, suc, ◌≤◌, ◌<◌}
use native.Mathlib.Nat.{le_refl, le_trans, le_of_suc-le-suc}
use native.Mathlib.Omega.{arith}
use mathlib.Core.Path.{◌≡◌, refl, sym, ◌∙◌, ap, subst}
use mathlib.Core.Logic.{◌⊎◌, ⊎_elim}
use mathlib.Core.Bool.{Bool, true, false}
use mathlib.Core.List.{List}
use lib.ListN.{get_or}
use lib.Dec.{leb, ltb, eqb}
use borrow.Author.Tests.{leb-true, leb-false, ltb-true, lt-ltb, eqb-true, eq-eqb}
use Rattle.rings.specs.Words.{◌and◌, count}
use Rattle.rings.specs.Table.{Table, size, day_of}
use Rattle.rings.specs.Ring.{joins, names, met, ring}
use Rattle.rings.specs.CoreTimes.{never, account_time}
use Rattle.rings.specs.Inner.Adjacency.{other_of}
use Rattle.rings.specs.Inner.Support.{supports, supporters}
use Rattle.rings.specs.Inner.Peeling.{Setting, Removed, estimate, PeelState, nothing}
use Rattle.rings.specs.declared.Query.{Query}
use Rattle.rings.specs.declared.frame.Frame.{Frame}
use Rattle.rings.proofs.WordLaws.{true_or_false, clash, and_i, and_l, and_r, count_none}
use Rattle.rings.proofs.RingLaws.{joins_touch, met_e}
use Rattle.rings.proofs.OthersLaws.{touch_named}
use Rattle.rings.proofs.PairLaws.{Partner, count_inject, joins_other}
use Rattle.rings.proofs.LeadLaws.{lead_from, lead_one, lead_opens}
use Rattle.rings.proofs.FixpointLaws.{supports_i, Lower, Closed, fixpoint, closed_met}
use Rattle.rings.proofs.PeelStateLaws.{estimate_at, other_small, touch_small, estimate_far, removed_or_not}
use Rattle.rings.proofs.PeelStateLaws.{supporters_mono}
use Rattle.rings.proofs.PeelRowLaws.{stable_walked}

module _ (t : Table) (frame : Frame) (S : Setting t frame.query frame.start frame.stop frame.lo) where
  abbrev q : Query
  q = frame.query

  abbrev s : ℕ
  s = frame.start

  abbrev hi : ℕ
  hi = frame.stop

  abbrev lo : ℕ
  lo = frame.lo

  -- ---- from one day to the next, and the end

  -- nobody waits: who has not been removed has at least k supporters at c, if every row that has not left is dated by c
  pub stable_supported : {e r head : ℕ} {x d w : List ℕ} (F : PeelState t frame 4096 e r head head nothing x d w)
      (c : ℕ)
      → ((j : ℕ) → j < r → j < size t → day_of t j ≤ c) → (u : ℕ) → u < 4096 → get_or x u 0 ≡ 0
      → q.k ≤ supporters t (estimate x) s c u
  unfolding supporters
  stable_supported {e} {r} {head} {x} {d} {w} F c days u k z =
      let a : q.k ≤ get_or d u 0 = F.counts.enough u k k z in
      let b : get_or d u 0 ≡ count (λ j. F.live j u) (size t) = F.counts.degrees u k z in
      let n : count (λ j. F.live j u) (size t) ≤ count (supports t (estimate x) s c u) (names t) =
      count_inject (λ j. F.live j u) (size t) (supports t (estimate x) s c u) (names t)
      (λ j v. (F.live j u ≡ true) × (joins t j u v ≡ true)) partner
      (λ i i' v p p'. lead_one t lo i i' u v (F.rows.live_row i u p.0).is_lead
      (F.rows.live_row i' u p'.0).is_lead p.1 p'.1) in
      omega arith
    where
      partner : (j : ℕ) → j < size t → F.live j u ≡ true
          → Partner (supports t (estimate x) s c u) (λ j v. (F.live j u ≡ true) × (joins t j u v ≡ true)) (names t) j
      partner j l h =
          let here = F.rows.live_row j u h in
          let v = other_of t j u in
          let jn = joins_other t j u (S.accounts j l) here.touch in
          let small = other_small t q s hi lo S j u l here.touch in
          let zero_v : get_or x v 0 ≡ 0 = stable_walked t frame S F v small (F.rows.live_not j u h) in
          record {
            it = v;
            below = touch_named t j v (joins_touch t j u v jn).1;
            to = (h, jn);
            has =
                supports_i t (estimate x) s c u v
                (record {
                  row = j;
                  below = l;
                  join = jn;
                  opens = lead_opens t q s hi lo S j c l here.is_lead (days j here.before l);
                  other = let g : estimate x v ≡ get_or x v 0 = estimate_at x v F.buffers.times small in omega arith;
                });
          }

  -- the rows from j on have left; the next is dated e'
  pub next_day : {e j head : ℕ} {x d w : List ℕ} → PeelState t frame 4096 e (suc j) head head nothing x d w
      → j < size t → 1 ≤ day_of t j → day_of t j ≤ hi
      → day_of t j ≤ e → PeelState t frame 4096 (day_of t j) (suc j) head head nothing x d w
  next_day {e} {j} {head} {x} {d} {w} F l one to le =
      record {
        buffers = F.buffers;
        walked = F.walked;
        live = F.live;
        rows = F.rows;
        queue = F.queue;
        counts = F.counts;
        passed_why = λ i v k p. clash refl (sym p);
        left_why = λ i k o. ⊎_elim (λ y. ◌⊎◌.inl (le_trans le y)) ◌⊎◌.inr (F.left_why i k o);
        times = record {
          e_pos = one;
          e_day = ◌⊎◌.inl to;
          valued = F.times.valued;
          above = λ u k f. le_trans le (F.times.above u k f);
          lower = F.times.lower;
          closed = F.times.closed;
          backed = λ u k z.
              ◌⊎◌.inr (stable_supported F (day_of t j) (λ i o p. S.rising i j (le_of_suc-le-suc o) l) u k z);
        };
      }

  met_small : (m : List Bool) (u : ℕ) → met t m u ≡ true → u < 4096
  met_small m u h = let y = met_e t m u h in touch_small t q s hi lo S y.row u y.below y.touch

  -- all rows have left, nobody waits: the times are the core times
  pub all_removed : {e head : ℕ} {x d w : List ℕ} (F : PeelState t frame 4096 e lo head head nothing x d w) (u : ℕ)
      → u < 4096 → Removed x u
  all_removed {e} {head} {x} {d} F u k z =
      let a : q.k ≤ get_or d u 0 = F.counts.enough u k k z in
      let b : get_or d u 0 ≡ count (λ j. F.live j u) (size t) = F.counts.degrees u k z in
      let n : count (λ j. F.live j u) (size t) ≡ 0 =
      count_none (λ j. F.live j u) (size t)
      (λ j l. ⊎_elim
      (λ h. let y = F.rows.live_row j u h in let p = y.before in let g = lead_from t lo j y.is_lead in
      absurd (omega arith))
      (λ h. h)
      (true_or_false (F.live j u))) in
      let o = S.some_k in omega arith

  pub peel_times : {e head : ℕ} {x d w : List ℕ} (F : PeelState t frame 4096 e lo head head nothing x d w) (u : ℕ)
      → u < 4096
      → get_or x u 0 ≡ account_time t q hi s u
  peel_times {e} {head} {x} F u k =
      sym (estimate_at x u F.buffers.times k)
      ∙ fixpoint t q hi s (estimate x) S.fits closed S.some_k days lower u
    where
      far : (v : ℕ) → 4096 ≤ v → estimate x v ≡ never
      far v h = estimate_far x v F.buffers.times h

      split : (v : ℕ) → (v < 4096) ⊎ (4096 ≤ v)
      split v =
          ⊎_elim (λ y. ◌⊎◌.inr (leb-true 4096 v y)) (λ y. ◌⊎◌.inl (leb-false 4096 v y)) (true_or_false (leb 4096 v))

      closed : (v : ℕ) → Closed t q s (estimate x) v
      closed v =
          record {
            enough_or_never = ⊎_elim
                (λ l. subst (λ (c : ℕ). (c ≡ never) ⊎ (q.k ≤ supporters t (estimate x) s c v))
                (sym (estimate_at x v F.buffers.times l))
                (F.times.closed v l (all_removed F v l))) (λ l. ◌⊎◌.inl (far v l)) (split v);
          }

      days : (v : ℕ) → (estimate x v ≤ hi) ⊎ (estimate x v ≡ never)
      days v =
          ⊎_elim (λ l. subst (λ (c : ℕ). (c ≤ hi) ⊎ (c ≡ never)) (sym (estimate_at x v F.buffers.times l))
          (F.times.valued v l (all_removed F v l)))
          (λ l. ◌⊎◌.inr (far v l)) (split v)

      lower : Lower t q hi s (estimate x)
      lower =
          record {
            under = λ v c a b m. let l = met_small (ring t q s c) v m in
                subst (λ (g : ℕ). g ≤ c) (sym (estimate_at x v F.buffers.times l))
                (F.times.lower v c l (all_removed F v l) a b m);
          }

  -- no row has left yet, nobody waits: who has not been removed is met in the ring of [s, hi], and nobody else
  pub stays_met : {r head : ℕ} {x d w : List ℕ} (F : PeelState t frame 4096 never r head head nothing x d w)
      → ((j : ℕ) → j < r → j < size t → day_of t j ≤ hi)
      → (u : ℕ) → u < 4096 → get_or x u 0 ≡ 0 → met t (ring t q s hi) u ≡ true
  stays_met {r} {head} {x} F days u k z =
      subst (λ (c : ℕ). met t (ring t q s c) u ≡ true) (y_stays u k z)
      (closed_met t q hi s y S.fits closed S.some_k u
      (subst (λ (c : ℕ). c ≤ hi) (sym (y_stays u k z)) (le_refl hi)))
    where
      -- the estimate that who has not been removed has hi, and others never
      y : ℕ → ℕ
      y v = elim (ltb v 4096 and eqb (get_or x v 0) 0) [ true ↦ hi | false ↦ never ]

      y_yes : (v : ℕ) → ltb v 4096 and eqb (get_or x v 0) 0 ≡ true → y v ≡ hi
      y_yes v h = ap (λ (b : Bool). elim b as (λ _. ℕ) [ true ↦ hi | false ↦ never ]) h

      y_no : (v : ℕ) → ltb v 4096 and eqb (get_or x v 0) 0 ≡ false → y v ≡ never
      y_no v h = ap (λ (b : Bool). elim b as (λ _. ℕ) [ true ↦ hi | false ↦ never ]) h

      y_stays : (v : ℕ) → v < 4096 → get_or x v 0 ≡ 0 → y v ≡ hi
      y_stays v l g = y_yes v (and_i (lt-ltb v 4096 l) (eq-eqb (get_or x v 0) 0 g))

      -- whose estimate is at most hi has not been removed, nor is it above
      below : (v : ℕ) → estimate x v ≤ hi → y v ≤ hi
      below v h =
          ⊎_elim (λ a. subst (λ (c : ℕ). c ≤ hi) (sym (y_yes v a)) (le_refl hi))
          (λ a. let f = S.fits in absurd (not_far v a h)) (true_or_false (ltb v 4096 and eqb (get_or x v 0) 0))
        where
          not_far : (v : ℕ) → ltb v 4096 and eqb (get_or x v 0) 0 ≡ false → estimate x v ≤ hi → ⊥
          not_far v a h =
              let f = S.fits in
              ⊎_elim (λ l. ⊎_elim (λ g. clash (and_i (lt-ltb v 4096 l) (eq-eqb (get_or x v 0) 0 g)) a)
              (λ g.
              let p = F.times.above v l g in
              let o : estimate x v ≡ get_or x v 0 = estimate_at x v F.buffers.times l in
              omega arith)
              (removed_or_not x v))
              (λ l. let o : estimate x v ≡ never = estimate_far x v F.buffers.times l in omega arith)
              (⊎_elim (λ b. ◌⊎◌.inr (leb-true 4096 v b)) (λ b. ◌⊎◌.inl (leb-false 4096 v b))
              (true_or_false (leb 4096 v)))

      closed : (v : ℕ) → Closed t q s y v
      closed v =
          record {
            enough_or_never =
                ⊎_elim (λ a. ◌⊎◌.inr
                (subst (λ (c : ℕ). q.k ≤ supporters t y s c v) (sym (y_yes v a))
                (le_trans (stable_supported F hi days v (ltb-true v 4096 (and_l (ltb v 4096) (eqb (get_or x v 0) 0) a))
                (eqb-true (get_or x v 0) 0 (and_r (ltb v 4096) (eqb (get_or x v 0) 0) a)))
                (supporters_mono t (estimate x) y s hi v below))))
                (λ a. ◌⊎◌.inl (y_no v a)) (true_or_false (ltb v 4096 and eqb (get_or x v 0) 0));
          }

  pub removed_not : {r head : ℕ} {passed : ℕ → ℕ → Bool} {x d w : List ℕ}
      (F : PeelState t frame 4096 never r head head passed x d w) (u : ℕ)
      → u < 4096
      → Removed x u
      → s ≤ hi → met t (ring t q s hi) u ≡ true → ⊥
  removed_not F u k f o m =
      let a = F.times.lower u hi k f o (le_refl hi) m in
      let b = F.times.above u k f in let c = S.fits in omega arith
