-- Laws of peeling by counts (specs/Inner/Peeling.antt): each step of the code keeps the state, and the end of it is the core times.
--     removed_or_not, room                  an account has been removed or not; while one has not, the queue has room
--     estimate_at, estimate_far              the times as an estimate of the core times
--     Pass         an account may lose a neighbour, and loses one
--     touch_small, other_small         accounts of a row are below 4,096
--     removal_lower                       an account with fewer than k rows that count is met in no ring before the day
--     now_e, still, times_removal, queue_removal     one account is removed
--     removed_other     who has been removed; while somebody has not, the queue has room
--     supporters_mono     supporters under other estimates
--     without, without_this, without_other, rows_pass     of the pairs of row and account one more has been passed
--     moved, renamed, grown, same_front     the same state under other names; the head of the queue stays
--     other_joins     the accounts of a row
-- Assumes nothing.
use Prim.Native.Nat.{ℕ, zero, suc, ◌+◌, ◌≤◌, ◌<◌}
use native.Mathlib.Nat.{le_refl, le_trans, eq-or-lt_of_le, not-suc-le-zero, le_of_suc-le-suc}
use native.Mathlib.Omega.{arith}
use mathlib.Core.Path.{◌≡◌, refl, sym, ◌∙◌, ap, subst}
use mathlib.Core.Logic.{◌⊎◌, ⊎_elim}
use mathlib.Core.Bool.{Bool, true, false}
use mathlib.Core.List.{List, [], ◌∷◌}
use lib.ListN.{length, get_or, set, get_or-eq_default}
use lib.Seq.{get_or-set_same, get_or-set_other}
use lib.Dec.{leb, eqb}
use borrow.Author.Tests.{leb-true, leb-false, eqb-true, eqb-false, eq-eqb, ne_eqb}
use Rattle.rings.specs.Words.{◌and◌, no, count}
use Rattle.rings.specs.Table.{Table, size, day_of}
use Rattle.rings.specs.Ring.{joins, neighbour, names, degree, touches, met, ring}
use Rattle.rings.specs.CoreTimes.{never}
use Rattle.rings.specs.Inner.Adjacency.{other_of}
use Rattle.rings.specs.Inner.Support.{supports, supporters}
use Rattle.rings.specs.Inner.Peeling.{DroppedNeighbour, Setting, Removed, Rows, removed_count, Queue, estimate}
use Rattle.rings.specs.Inner.Peeling.{Times, PeelState, nothing}
use Rattle.rings.specs.declared.Query.{Query}
use Rattle.rings.specs.declared.frame.Frame.{Frame}
use Rattle.rings.proofs.WordLaws.{true_or_false, clash, and_i, and_l, and_r, no_i, no_e, same_truth}
use Rattle.rings.proofs.WordLaws.{count_mono, count_less, count_le, same_or}
use Rattle.rings.proofs.RingLaws.{joins_touch, touch_cases, met_i, neighbour_e, ring_degree, in_marked}
use Rattle.rings.proofs.PairLaws.{Partner, count_inject, count_drop, joins_other, joins_same}
use Rattle.rings.proofs.LeadLaws.{ring_opens, open_lead}
use Rattle.rings.proofs.FixpointLaws.{supports_i, supports_e}

-- ---- one store

pub removed_or_not : (x : List ℕ) (u : ℕ) → (get_or x u 0 ≡ 0) ⊎ Removed x u
removed_or_not x u =
    ⊎_elim (λ h. ◌⊎◌.inl (eqb-true (get_or x u 0) 0 h)) (λ h. ◌⊎◌.inr (eqb-false (get_or x u 0) 0 h))
    (true_or_false (eqb (get_or x u 0) 0))

pub removed_other : (x : List ℕ) (u v e : ℕ) → (u ≡ v → ⊥) → Removed (set x v e) u → Removed x u
removed_other x u v e n f z = f (get_or-set_other x v u e 0 n ∙ z)

-- where one more account is removed
removed_more : (x : List ℕ) (v e : ℕ) → v < 4096 → length x ≡ 4096 → get_or x v 0 ≡ 0 → 1 ≤ e
    → removed_count (set x v e) ≡ suc (removed_count x)
unfolding removed_count
removed_more x v e l n z p =
    count_drop (λ u. no (eqb (get_or (set x v e) u 0) 0)) (λ u. no (eqb (get_or x u 0) 0)) 4096 v l
    (no_i (ne_eqb (get_or (set x v e) v 0) 0 (λ y. let g : get_or (set x v e) v 0 ≡ e = get_or-set_same x v e 0 (omega arith) in omega arith)))
    (off (eq-eqb (get_or x v 0) 0 z)) (λ i h. ap (λ (a : ℕ). no (eqb a 0)) (sym (get_or-set_other x v i e 0 h)))
  where
    off : {b : Bool} → b ≡ true → no b ≡ false
    off {b} h = ⊎_elim (λ y. clash h (no_e b y)) (λ y. y) (true_or_false (no b))

-- an account that has not been removed leaves room in the queue
pub room : (x : List ℕ) (v : ℕ) → v < 4096 → get_or x v 0 ≡ 0 → removed_count x < 4096
unfolding removed_count
room x v l z =
    le_trans (count_less (λ u. no (eqb (get_or x u 0) 0)) (λ u. true) 4096 v (λ i o h. refl) l off refl)
    (count_le (λ u. true) 4096)
  where
    off : no (eqb (get_or x v 0) 0) ≡ false
    off = ⊎_elim (λ y. clash (eq-eqb (get_or x v 0) 0 z) (no_e (eqb (get_or x v 0) 0) y)) (λ y. y) (true_or_false (no (eqb (get_or x v 0) 0)))

get_d_any : (x : List ℕ) (u a b : ℕ) → u < length x → get_or x u a ≡ get_or x u b
get_d_any [] u a b l = absurd (not-suc-le-zero l)
get_d_any (y ∷ x) zero a b l = refl
get_d_any (y ∷ x) (suc u) a b l = get_d_any x u a b (le_of_suc-le-suc l)

pub estimate_at : (x : List ℕ) (u : ℕ) → length x ≡ 4096 → u < 4096 → estimate x u ≡ get_or x u 0
unfolding estimate
estimate_at x u n l = get_d_any x u never 0 (omega arith)

pub estimate_far : (x : List ℕ) (u : ℕ) → length x ≡ 4096 → 4096 ≤ u → estimate x u ≡ never
unfolding estimate
estimate_far x u n l = get_or-eq_default x never (omega arith)

-- ---- the other account of a row

pub supporters_mono : (t : Table) (x x' : ℕ → ℕ) (s c u : ℕ) → ((w : ℕ) → x w ≤ c → x' w ≤ c) → supporters t x s c u ≤ supporters t x' s c u
unfolding supporters
supporters_mono t x x' s c u f =
    count_mono (supports t x s c u) (supports t x' s c u) (names t)
    (λ v l h. let b = supports_e t x s c u v h in
    supports_i t x' s c u v (record { row = b.row; below = b.below; join = b.join; opens = b.opens; other = f v b.other }))

-- of the pairs of row and account one more has been passed
pub record Pass (passed passed' : ℕ → ℕ → Bool) (j v : ℕ) : Type 0 where
  pub this : passed' j v ≡ true
  pub rest : (i u : ℕ) → ((i ≡ j) × (u ≡ v) → ⊥) → passed' i u ≡ passed i u

pub without : (ℕ → ℕ → Bool) → ℕ → ℕ → ℕ → ℕ → Bool
without live j v i u = live i u and no (eqb i j and eqb u v)

without_e : (live : ℕ → ℕ → Bool) (j v i u : ℕ) → without live j v i u ≡ true → (live i u ≡ true) × ((i ≡ j) × (u ≡ v) → ⊥)
unfolding without
without_e live j v i u h = (
  and_l (live i u) (no (eqb i j and eqb u v)) h,
  λ e. clash (and_i (eq-eqb i j e.0) (eq-eqb u v e.1)) (no_e (eqb i j and eqb u v) (and_r (live i u) (no (eqb i j and eqb u v)) h)),
)

without_i : (live : ℕ → ℕ → Bool) (j v i u : ℕ) → live i u ≡ true → ((i ≡ j) × (u ≡ v) → ⊥) → without live j v i u ≡ true
unfolding without
without_i live j v i u h n =
    and_i h (no_i
    (⊎_elim (λ y. absurd (n (eqb-true i j (and_l (eqb i j) (eqb u v) y), eqb-true u v (and_r (eqb i j) (eqb u v) y)))) (λ y. y)
    (true_or_false (eqb i j and eqb u v))))

pub without_this : (live : ℕ → ℕ → Bool) (j v : ℕ) → without live j v j v ≡ false
without_this live j v = ⊎_elim (λ y. absurd ((without_e live j v j v y).1 (refl, refl))) (λ y. y) (true_or_false (without live j v j v))

pub without_other : (live : ℕ → ℕ → Bool) (j v i u : ℕ) → ((i ≡ j) × (u ≡ v) → ⊥) → without live j v i u ≡ live i u
without_other live j v i u n =
    same_truth (without live j v i u) (live i u) (λ h. (without_e live j v i u h).0) (λ h. without_i live j v i u h n)

pub rows_pass : {t : Table} {lo r : ℕ} {passed passed' : ℕ → ℕ → Bool} {walked : ℕ → Bool} {live : ℕ → ℕ → Bool}
    (j v : ℕ)
    → Pass passed passed' j v
    → Rows t lo r passed walked live → Rows t lo r passed' walked (without live j v)
rows_pass {t} {lo} {r} {passed} {passed'} {walked} {live} j v p R =
    record {
      live_row = λ i u h. R.live_row i u (without_e live j v i u h).0;
      live_not = λ i u h. R.live_not i u (without_e live j v i u h).0;
      live_passed = λ i u h. let e = without_e live j v i u h in p.rest i u e.1 ∙ R.live_passed i u e.0;
      live_all = λ i u a b c. let n : (i ≡ j) × (u ≡ v)
          → ⊥ = λ e.
          clash
          (subst (λ (y : ℕ). passed' i y ≡ true) (sym e.1)
          (subst (λ (y : ℕ). passed' y v ≡ true) (sym e.0) p.this))
          c in
          without_i live j v i u (R.live_all i u a b (sym (p.rest i u n) ∙ c)) n;
    }

-- the same state under other names
pub moved : {t : Table} {frame : Frame} {b e r head tail tail' : ℕ} {passed : ℕ → ℕ → Bool} {x d w x' d' w' : List ℕ}
    → x' ≡ x → d' ≡ d → w' ≡ w → tail' ≡ tail
    → PeelState t frame b e r head tail passed x d w → PeelState t frame b e r head tail' passed x' d' w'
moved ex ed ew et F = rw (ex, ed, ew, et) F

-- the same pairs, passed under another name
pub renamed : {t : Table} {frame : Frame} {b e r head tail : ℕ} {passed : ℕ → ℕ → Bool} {x d w : List ℕ}
    → PeelState t frame b e r head tail nothing x d w
    → ((j v : ℕ) → passed j v ≡ false) → PeelState t frame b e r head tail passed x d w
renamed F none =
    record {
      buffers = F.buffers;
      walked = F.walked;
      live = F.live;
      queue = F.queue;
      counts = F.counts;
      times = F.times;
      left_why = F.left_why;
      rows =
          record {
            live_row = F.rows.live_row;
            live_not = F.rows.live_not;
            live_passed = λ j v h. none j v;
            live_all = λ j v a c p. F.rows.live_all j v a c refl;
          };
      passed_why = λ j v l p. clash p (none j v);
    }

-- a loss leaves the head of the queue where it is
pub grown : {k e head tail v tail' : ℕ} {x d w x' d' w' : List ℕ}
    → DroppedNeighbour k e tail v x d w x' d' w' tail' → head < tail → head < tail'
grown (DroppedNeighbour.stays h ex ed ew et) l = omega arith
grown (DroppedNeighbour.removes h ex ed ew et) l = omega arith

pub same_front : {k e head tail v tail' : ℕ} {x d w x' d' w' : List ℕ}
    → DroppedNeighbour k e tail v x d w x' d' w' tail'
    → head < tail
    → get_or w' head 0 ≡ get_or w head 0
same_front {head = head} (DroppedNeighbour.stays h ex ed ew et) l = ap (λ (y : List ℕ). get_or y head 0) ew
same_front {head = head} {tail = tail} {v = v} {w = w} (DroppedNeighbour.removes h ex ed ew et) l = ap (λ (y : List ℕ). get_or y head 0) ew
    ∙ get_or-set_other w tail head v 0 (λ y. omega arith)

module _ (t : Table) (q : Query) (s hi lo : ℕ) (S : Setting t q s hi lo) where
  pub other_joins : (j u v : ℕ) → j < size t → joins t j u v ≡ true → other_of t j u ≡ v
  other_joins j u v l h = joins_same t j u (other_of t j u) v (joins_other t j u (S.accounts j l) (joins_touch t j u v h).0) h

  pub touch_small : (j u : ℕ) → j < size t → touches t j u ≡ true → u < 4096
  touch_small j u l h =
      let a = S.accounts j l in let b = S.small j l in
      ⊎_elim (λ e. subst (λ (y : ℕ). y < 4096) e (omega arith)) (λ e. subst (λ (y : ℕ). y < 4096) e b) (touch_cases t j u h)

  pub other_small : (j u : ℕ) → j < size t → touches t j u ≡ true → other_of t j u < 4096
  other_small j u l h = touch_small j (other_of t j u) l (joins_touch t j u (other_of t j u) (joins_other t j u (S.accounts j l) h)).1

module _ (t : Table) (frame : Frame) (S : Setting t frame.query frame.start frame.stop frame.lo) where
  abbrev q : Query
  q = frame.query

  abbrev s : ℕ
  s = frame.start

  abbrev hi : ℕ
  hi = frame.stop

  abbrev lo : ℕ
  lo = frame.lo

  -- ---- an account with fewer than k rows that count is met in no ring before e
  module _ {e r : ℕ} {passed : ℕ → ℕ → Bool} {walked : ℕ → Bool} {live : ℕ → ℕ → Bool} {x : List ℕ}
      (R : Rows t lo r passed walked live) (removed : (u : ℕ) → walked u ≡ true → (u < 4096) × Removed x u) (T : Times t q s hi e x)
      (pw : (j u : ℕ) → j < size t → passed j u ≡ true → ((other_of t j u < 4096) × Removed x (other_of t j u)) ⊎ (e ≤ day_of t j))
      (lw : (j : ℕ) → r ≤ j → j < size t → (e ≤ day_of t j) ⊎ (hi < day_of t j)) where
    -- no account of a ring before e has been removed
    not_removed : (c u : ℕ) → c < e → s ≤ c → c ≤ hi → met t (ring t q s c) u ≡ true → u < 4096 → Removed x u → ⊥
    not_removed c u l a b m k f = let y = T.lower u c k f a b m in let z = T.above u k f in omega arith

    ring_live : (v c : ℕ) → c < e → s ≤ c → c ≤ hi → met t (ring t q s c) v ≡ true → (w : ℕ) → neighbour t (ring t q s c) v w ≡ true
        → Partner (λ j. live j v) (λ w j. joins t j v w ≡ true) (size t) w
    ring_live v c l a b m w n =
        let y = neighbour_e t (ring t q s c) v w n in
        let i = y.row in
        let w_met = met_i t (ring t q s c) i w y.below y.has (joins_touch t i v w y.join).1 in
        let w_small = touch_small t q s hi lo S i w y.below (joins_touch t i v w y.join).1 in
        let f = open_lead t q s hi lo S i v w c y.below y.join (ring_opens t q s c i (in_marked t q s c i y.has)) in
        let j = f.row in
        let below = f.below in
        let day = f.by in
        let other : other_of t j v ≡ w = other_joins t q s hi lo S j v w below f.join in
        record {
          it = j;
          below = below;
          to = f.join;
          has =
              R.live_all j v
              (record {
                below = below;
                before = not_left j below day;
                is_lead = f.is_lead;
                touch = (joins_touch t j v w f.join).0;
              })
              (subst (λ (z : ℕ). walked z ≡ false) (sym other) (not_walked w w_met))
              (not_passed j v w below day other w_met w_small);
        }
      where
        not_left : (j : ℕ) → j < size t → day_of t j ≤ c → j < r
        not_left j k d =
            ⊎_elim
            (λ y. ⊎_elim (λ z. absurd (omega arith)) (λ z. absurd (omega arith)) (lw j (leb-true r j y) k))
            (λ y. leb-false r j y)
            (true_or_false (leb r j))

        not_walked : (w : ℕ) → met t (ring t q s c) w ≡ true → walked w ≡ false
        not_walked w k =
            ⊎_elim (λ y. let f = removed w y in absurd (not_removed c w l a b k f.0 f.1)) (λ y. y)
            (true_or_false (walked w))

        not_passed : (j v w : ℕ) → j < size t → day_of t j ≤ c → other_of t j v ≡ w → met t (ring t q s c) w ≡ true
            → w < 4096 → passed j v ≡ false
        not_passed j v w k d o k' small =
            ⊎_elim
            (λ y. ⊎_elim (λ z. absurd (not_removed c w l a b k' small (subst (Removed x) o z.1)))
            (λ z. absurd (omega arith)) (pw j v k y))
            (λ y. y)
            (true_or_false (passed j v))

    pub removal_lower : (v : ℕ) → count (λ j. live j v) (size t) < q.k → (c : ℕ) → s ≤ c → c ≤ hi → met t (ring t q s c) v ≡ true → e ≤ c
    unfolding degree
    removal_lower v few c a b m =
        ⊎_elim (λ y. leb-true e c y)
        (λ y.
        let l = leb-false e c y in
        let k : q.k ≤ count (neighbour t (ring t q s c) v) (names t) = ring_degree t q s c v m in
        let n : count (neighbour t (ring t q s c) v) (names t) ≤ count (λ j. live j v) (size t) =
        count_inject (neighbour t (ring t q s c) v) (names t) (λ j. live j v) (size t)
        (λ w j. joins t j v w ≡ true) (λ w o h. ring_live v c l a b m w h)
        (λ w w' j h h'. joins_same t j v w w' h h') in
        absurd (omega arith)) (true_or_false (leb e c))

  -- ---- one account is removed

  module _ {e : ℕ} {x : List ℕ} (n : length x ≡ 4096) (T : Times t q s hi e x) (v : ℕ) (l : v < 4096) (z : get_or x v 0 ≡ 0) where
    pub now_e : get_or (set x v e) v 0 ≡ e
    now_e = get_or-set_same x v e 0 (omega arith)

    -- what is at most c stays so, where e is
    estimate_keeps : (c : ℕ) → e ≤ c → (w : ℕ) → estimate x w ≤ c → estimate (set x v e) w ≤ c
    unfolding estimate
    estimate_keeps c h w k =
        ⊎_elim (λ y. subst (λ (a : ℕ). get_or (set x v e) a never ≤ c) (sym y) (rw (get_or-set_same x v e never (omega arith)) h))
        (λ y. rw (get_or-set_other x v w e never y) k) (same_or w v)

    pub still : (u : ℕ) → (u ≡ v → ⊥) → get_or (set x v e) u 0 ≡ get_or x u 0
    still u y = get_or-set_other x v u e 0 y

    pub times_removal : ((c : ℕ) → s ≤ c → c ≤ hi → met t (ring t q s c) v ≡ true → e ≤ c) → Times t q s hi e (set x v e)
    times_removal low =
        record {
          e_pos = T.e_pos;
          e_day = T.e_day;
          valued =
              λ u k f. ⊎_elim (λ y. subst (λ (a : ℕ). (a ≤ hi) ⊎ (a ≡ never)) (sym (at_v u y)) T.e_day)
              (λ y. subst (λ (a : ℕ). (a ≤ hi) ⊎ (a ≡ never)) (sym (still u y)) (T.valued u k (removed_other x u v e y f))) (same_or u v);
          above =
              λ u k f. ⊎_elim (λ y. subst (λ (a : ℕ). e ≤ a) (sym (at_v u y)) (le_refl e))
              (λ y. subst (λ (a : ℕ). e ≤ a) (sym (still u y)) (T.above u k (removed_other x u v e y f))) (same_or u v);
          lower =
              λ u c k f a b m.
              ⊎_elim (λ y. subst (λ (g : ℕ). g ≤ c) (sym (at_v u y))
              (low c a b (subst (λ (g : ℕ). met t (ring t q s c) g ≡ true) y m)))
              (λ y. subst (λ (g : ℕ). g ≤ c) (sym (still u y)) (T.lower u c k (removed_other x u v e y f) a b m)) (same_or u v);
          closed =
              λ u k f. ⊎_elim
              (λ y. subst (λ (a : ℕ). (a ≡ never) ⊎ (q.k ≤ supporters t (estimate (set x v e)) s a u)) (sym (at_v u y))
              (raised e (le_refl e) u
              (subst (λ (g : ℕ). (e ≡ never) ⊎ (q.k ≤ supporters t (estimate x) s e g)) (sym y)
              (T.backed v l z))))
              (λ y. subst (λ (a : ℕ). (a ≡ never) ⊎ (q.k ≤ supporters t (estimate (set x v e)) s a u)) (sym (still u y))
              (raised (get_or x u 0) (T.above u k (removed_other x u v e y f)) u (T.closed u k (removed_other x u v e y f)))) (same_or u v);
          backed = λ u k g.
              ⊎_elim (λ y. absurd (pos (sym (at_v u y) ∙ g)))
              (λ y. raised e (le_refl e) u (T.backed u k (sym (still u y) ∙ g))) (same_or u v);
        }
      where
        at_v : (u : ℕ) → u ≡ v → get_or (set x v e) u 0 ≡ e
        at_v u y = ap (λ (a : ℕ). get_or (set x v e) a 0) y ∙ now_e

        pos : e ≡ 0 → ⊥
        pos y = let p = T.e_pos in omega arith

        raised : (c : ℕ)
            → e ≤ c
            → (u : ℕ) → (c ≡ never) ⊎ (q.k ≤ supporters t (estimate x) s c u)
            → (c ≡ never) ⊎ (q.k ≤ supporters t (estimate (set x v e)) s c u)
        raised c h u =
            ⊎_elim ◌⊎◌.inl
            (λ k. ◌⊎◌.inr
            (le_trans k (supporters_mono t (estimate x) (estimate (set x v e)) s c u (estimate_keeps c h))))

    pub queue_removal : {head tail : ℕ} {walked : ℕ → Bool} {w : List ℕ} → 4096 ≤ length w → Queue head tail walked x w
        → Queue head (tail + 1) walked (set x v e) (set w tail v)
    queue_removal {head} {tail} {walked} {w} m Q =
        record {
          walked_removed = λ u h. let f = Q.walked_removed u h in (f.0, keep_removed u f.1);
          waits =
              λ u k f h. ⊎_elim (λ y. record { place = tail; from = Q.in_order; below = omega arith; is = here ∙ sym y })
              (λ y. let p = Q.waits u k (removed_other x u v e y f) h in let o = p.below in
              record { place = p.place; from = p.from; below = omega arith; is = old p.place o ∙ p.is }) (same_or u v);
          waiting_small = λ i a b. split i b (λ c. c < 4096) l (λ o. Q.waiting_small i a o);
          waiting_removed = λ i a b. split i b (Removed (set x v e)) removed_v (λ o. keep_removed (get_or w i 0) (Q.waiting_removed i a o));
          waiting_not = λ i a b. split i b (λ c. walked c ≡ false) not_v (λ o. Q.waiting_not i a o);
          apart =
              λ i i' a o b g. ⊎_elim
              (λ y. Q.waiting_removed i a (omega arith)
              (ap (λ (c : ℕ). get_or x c 0) (sym (old i (omega arith)) ∙ (g ∙ (ap (λ (c : ℕ). get_or (set w tail v) c 0) y ∙ here))) ∙ z))
              (λ y. Q.apart i i' a o y (sym (old i (omega arith)) ∙ (g ∙ old i' y))) (last i' b);
          in_order = let o = Q.in_order in omega arith;
          tail_is =
              let p = Q.tail_is in
              let c : removed_count (set x v e) ≡ suc (removed_count x) = removed_more x v e l n z T.e_pos in
              omega arith;
        }
      where
        space : tail < 4096
        space = subst (λ (a : ℕ). a < 4096) (sym Q.tail_is) (room x v l z)

        here : get_or (set w tail v) tail 0 ≡ v
        here = get_or-set_same w tail v 0 (let a = space in omega arith)

        old : (i : ℕ) → i < tail → get_or (set w tail v) i 0 ≡ get_or w i 0
        old i o = get_or-set_other w tail i v 0 (λ y. omega arith)

        last : (i : ℕ) → i < tail + 1 → (i ≡ tail) ⊎ (i < tail)
        last i b = eq-or-lt_of_le (omega arith)

        split : (i : ℕ) → i < tail + 1 → (P : ℕ → Type 0) → P v → (i < tail → P (get_or w i 0)) → P (get_or (set w tail v) i 0)
        split i b P p f =
            ⊎_elim (λ y. subst P (sym (ap (λ (c : ℕ). get_or (set w tail v) c 0) y ∙ here)) p)
            (λ y. subst P (sym (old i y)) (f y)) (last i b)

        removed_v : Removed (set x v e) v
        removed_v g = let p = T.e_pos in let y = now_e in omega arith

        not_v : walked v ≡ false
        not_v = ⊎_elim (λ y. absurd ((Q.walked_removed v y).1 z)) (λ y. y) (true_or_false (walked v))

        keep_removed : (u : ℕ) → Removed x u → Removed (set x v e) u
        keep_removed u f = ⊎_elim (λ y. absurd (f (ap (λ (c : ℕ). get_or x c 0) y ∙ z))) (λ y g. f (sym (still u y) ∙ g)) (same_or u v)
