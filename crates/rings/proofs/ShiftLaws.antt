-- The day counts while an account rises (src/supporters.rt, drop_supported): each of its rows whose time moves is
-- taken off its day, and counted on the new one at last.
--     mixed, mixed_below, mixed_from
--                              the times of the rows below b after the rise, of the others before it
--     shift_start, shift_asks, shift_row, shift_all             the rows of u, one after the other: each keeps its
--     time or moves to the new one
--     Shift, rise_start, rise_asks, rise_row, rise_all          the same in the state of the loop
--     shift_moves, rise_moves                                   all of them at once, where none comes in between
-- Assumes nothing.
use Prim.Native.Nat.{ℕ, max, ◌+◌, ◌≤◌, ◌<◌}
use native.Mathlib.Nat.{eq-or-lt_of_le}
use native.Mathlib.Omega.{arith}
use mathlib.Core.Path.{◌≡◌, sym, ◌∙◌, ap, subst}
use mathlib.Core.Logic.{◌⊎◌, ⊎_elim}
use mathlib.Core.Bool.{Bool, true, false}
use mathlib.Core.List.{List}
use lib.ListN.{length, get_or, set, length-set}
use lib.Seq.{get_or-set_same, get_or-set_other}
use lib.Dec.{ltb}
use borrow.Author.Tests.{ltb-true, ltb-false, lt-ltb, le-ltb}
use Rattle.rings.specs.Table.{Table, size, day_of, first_of, second_of}
use Rattle.rings.specs.Ring.{touches}
use Rattle.rings.specs.CoreTimes.{never}
use Rattle.rings.specs.Inner.Adjacency.{other_of, pair_counts, open_day, opens_by}
use Rattle.rings.specs.Inner.Peeling.{Setting, estimate}
use Rattle.rings.specs.Inner.Settling.{value, moving, RiseScanned}
use Rattle.rings.specs.Inner.Counting.{time_by, Histogram, PendingHistogram, Taking, CountsBeforeRise, TakeAsks}
use Rattle.rings.specs.declared.Query.{Query}
use Rattle.rings.proofs.WordLaws.{true_or_false, clash, same_or}
use Rattle.rings.proofs.RingLaws.{touch_cases, touch_first, touch_second}
use Rattle.rings.proofs.PairLaws.{other_first, other_second}
use Rattle.rings.proofs.LeadLaws.{Opens, counts_from, counts_here, open_is}
use Rattle.rings.proofs.PeelStateLaws.{estimate_at}
use Rattle.rings.proofs.RiseScanLaws.{moving_e, moving_i}
use Rattle.rings.proofs.CountingLaws.{by_in, by_out, pending_start, pending_same, pending_has, pending_move}
use Rattle.rings.proofs.MovingLaws.{Moves}

unfoldable pub mixed : (ℕ → ℕ) → (ℕ → ℕ) → ℕ → ℕ → ℕ
mixed g g' b j = elim (ltb j b) [ true ↦ g' j | false ↦ g j ]

module _ (g g' : ℕ → ℕ) where
  pub mixed_below : (b j : ℕ) → j < b → mixed g g' b j ≡ g' j
  unfolding mixed
  mixed_below b j h = ap (λ (c : Bool). elim c [ true ↦ g' j | false ↦ g j ]) (lt-ltb j b h)

  pub mixed_from : (b j : ℕ) → b ≤ j → mixed g g' b j ≡ g j
  unfolding mixed
  mixed_from b j h = ap (λ (c : Bool). elim c [ true ↦ g' j | false ↦ g j ]) (le-ltb j b h)

  -- where both times are one, it does not matter which is taken
  mixed_either : (b j : ℕ) → g j ≡ g' j → mixed g g' b j ≡ g j
  mixed_either b j e =
      ⊎_elim (λ y. mixed_below b j (ltb-true j b y) ∙ sym e) (λ y. mixed_from b j (ltb-false j b y))
      (true_or_false (ltb j b))

-- u rises from old to new, and no other account does
module _ (t : Table) (q : Query) (s hi lo : ℕ) (S : Setting t q s hi lo) (x x' : ℕ → ℕ) (u old new : ℕ)
    (was : x u ≡ old) (now : x' u ≡ new) (else : (v : ℕ) → (v ≡ u → ⊥) → x' v ≡ x v) (up : old < new) where
  abbrev before : ℕ → ℕ
  before = time_by t x s hi

  abbrev after : ℕ → ℕ
  after = time_by t x' s hi

  -- a row of other accounts
  not_mine : (j : ℕ) → touches t j u ≡ false → before j ≡ after j
  unfolding time_by
  not_mine j h =
      let a : x (first_of t j) ≡ x' (first_of t j) =
      sym (else (first_of t j) (λ e. clash (subst (λ (c : ℕ). touches t j c ≡ true) e (touch_first t j)) h)) in
      let b : x (second_of t j) ≡ x' (second_of t j) =
      sym (else (second_of t j) (λ e. clash (subst (λ (c : ℕ). touches t j c ≡ true) e (touch_second t j)) h)) in
      ap (λ (c : ℕ). elim (opens_by t s hi j) [ true ↦ max (max c (x (second_of t j))) (open_day t s j) | false ↦ never ]) a
      ∙ ap (λ (c : ℕ). elim (opens_by t s hi j) [ true ↦ max (max (x' (first_of t j)) c) (open_day t s j) | false ↦ never ]) b

  record Mine (j : ℕ) : Type 0 where
    other : x' (other_of t j u) ≡ x (other_of t j u)
    first : before j ≡ max (max old (x' (other_of t j u))) (day_of t j)
    then : after j ≡ max (max new (x' (other_of t j u))) (day_of t j)

  -- a row of u in the range, by which its pair counts
  mine : (j : ℕ) → j < size t → touches t j u ≡ true → pair_counts t lo j ≡ true → day_of t j ≤ hi → Mine j
  mine j l k h o = ⊎_elim (λ e. one e) (λ e. two e) (touch_cases t j u k)
    where
      own : open_day t s j ≡ day_of t j
      own = open_is t q s hi lo S j l h

      opens : Opens t s hi j
      opens = let e = own in record { from = S.from_lo j l (counts_from t lo j h); to = omega arith }

      apart : first_of t j < second_of t j
      apart = S.accounts j l

      one : first_of t j ≡ u → Mine j
      one e =
          let v : other_of t j u ≡ second_of t j = subst (λ (c : ℕ). other_of t j c ≡ second_of t j) e (other_first t j) in
          let z : x' (other_of t j u) ≡ x (second_of t j) =
          ap x' v ∙ else (second_of t j) (λ y. let p = apart in omega arith) in
          let a : x (first_of t j) ≡ old = ap x e ∙ was in
          let b : x' (first_of t j) ≡ new = ap x' e ∙ now in
          let c : x' (other_of t j u) ≡ x' (second_of t j) = ap x' v in
          let m = by_in t x s hi j opens in let n = by_in t x' s hi j opens in let g = own in
          record {
            other = ap x' v ∙ (else (second_of t j) (λ y. let p = apart in omega arith) ∙ ap x (sym v));
            first = m ∙ omega arith;
            then = n ∙ omega arith;
          }

      two : second_of t j ≡ u → Mine j
      two e =
          let v : other_of t j u ≡ first_of t j = subst (λ (c : ℕ). other_of t j c ≡ first_of t j) e (other_second t j apart) in
          let z : x' (other_of t j u) ≡ x (first_of t j) = ap x' v ∙ else (first_of t j) (λ y. let p = apart in omega arith) in
          let a : x (second_of t j) ≡ old = ap x e ∙ was in
          let b : x' (second_of t j) ≡ new = ap x' e ∙ now in
          let c : x' (other_of t j u) ≡ x' (first_of t j) = ap x' v in
          let m = by_in t x s hi j opens in let n = by_in t x' s hi j opens in let g = own in
          record {
            other = ap x' v ∙ (else (first_of t j) (λ y. let p = apart in omega arith) ∙ ap x (sym v));
            first = m ∙ omega arith;
            then = n ∙ omega arith;
          }

  -- a row that has left
  left : {j : ℕ} → j < lo → before j ≡ after j
  left {j} h = let a = S.before_lo j h in by_out t x s hi j (◌⊎◌.inl a) ∙ sym (by_out t x' s hi j (◌⊎◌.inl a))

  -- a row of u that keeps its time: it has left, or lies behind the range, or has the new time or a later one already
  keeps : (j : ℕ) → j < size t → touches t j u ≡ true
      → (j < lo) ⊎ ((new ≤ x' (other_of t j u)) ⊎ ((new ≤ day_of t j) ⊎ (hi < day_of t j))) → before j ≡ after j
  keeps j l k o =
      ⊎_elim left
      (λ y. ⊎_elim (λ h. behind (ltb-true hi (day_of t j) h))
      (λ h. ⊎_elim (λ m. left (ltb-true j lo m)) (λ m. inside (ltb-false j lo m) (ltb-false hi (day_of t j) h) y)
      (true_or_false (ltb j lo)))
      (true_or_false (ltb hi (day_of t j))))
      o
    where
      behind : hi < day_of t j → before j ≡ after j
      behind h = by_out t x s hi j (◌⊎◌.inr h) ∙ sym (by_out t x' s hi j (◌⊎◌.inr h))

      inside : lo ≤ j → day_of t j ≤ hi → (new ≤ x' (other_of t j u)) ⊎ ((new ≤ day_of t j) ⊎ (hi < day_of t j))
          → before j ≡ after j
      inside m h y =
          let M = mine j l k (counts_here t lo j m) h in
          let a = M.first in
          let b = M.then in
          ⊎_elim (λ c. omega arith) (λ c. ⊎_elim (λ d. omega arith) (λ d. absurd (omega arith)) c) y

  -- where no row of u comes in between the old time and the new one: those that come in by the old one go from it to
  -- the new one, and the others keep their times
  pub shift_moves : old ≤ hi
      → ((j : ℕ) → pair_counts t lo j ≡ true → j < size t → touches t j u ≡ true → day_of t j ≤ hi
      → (value t x j u ≤ old) ⊎ (new ≤ value t x j u))
      → Moves before after (moving t x lo old u) old new (size t)
  unfolding value
  shift_moves top between j l = (
    λ h.
        let B = moving_e t x lo hi old u j h in
        let b = B.by in
        let M = mine j l B.touch B.counts (omega arith) in
        let o = M.other in
        let m = M.first in
        let n = M.then in
        (omega arith, omega arith),
    λ h.
        sym (⊎_elim
        (λ k. ⊎_elim (λ y. left (ltb-true j lo y))
        (λ y. ⊎_elim (λ z. behind (ltb-true hi (day_of t j) z))
        (λ z. inside k (ltb-false j lo y) (ltb-false hi (day_of t j) z) h) (true_or_false (ltb hi (day_of t j))))
        (true_or_false (ltb j lo)))
        (λ k. not_mine j k) (true_or_false (touches t j u))),
  )
    where
      behind : hi < day_of t j → before j ≡ after j
      behind h = by_out t x s hi j (◌⊎◌.inr h) ∙ sym (by_out t x' s hi j (◌⊎◌.inr h))

      inside : touches t j u ≡ true → lo ≤ j → day_of t j ≤ hi → moving t x lo old u j ≡ false → before j ≡ after j
      inside k y z h =
          ⊎_elim (λ w. clash (moving_i t x lo hi old u j (record { counts = counts_here t lo j y; touch = k; by = w })) h)
          (λ w.
          let M = mine j l k (counts_here t lo j y) z in
          let o = M.other in
          let m = M.first in
          let n = M.then in
          omega arith)
          (between j (counts_here t lo j y) l k z)

  -- the rows of u below b have been passed, and m of them moved
  abbrev Shifting : ℕ → ℕ → List ℕ → Type 0
  Shifting b m xs = (m ≤ b) × PendingHistogram (mixed before after b) (size t) new m xs

  pub shift_start : {xs : List ℕ} → Histogram before (size t) xs → Shifting lo 0 xs
  shift_start T = (
    let z : 0 ≤ lo = omega arith in z,
    pending_same (pending_start T)
        (λ j l. ⊎_elim (λ y. mixed_either before after lo j (left (ltb-true j lo y)))
        (λ y. mixed_from before after lo j (ltb-false j lo y)) (true_or_false (ltb j lo))),
  )

  module _ {b m : ℕ} {xs : List ℕ} (O : Shifting b m xs) where
    -- the rows from b on keep their times
    pub shift_all :
        ((i : ℕ) → b ≤ i → i < size t → touches t i u ≡ true
        → (i < lo) ⊎ ((new ≤ x' (other_of t i u)) ⊎ ((new ≤ day_of t i) ⊎ (hi < day_of t i))))
        → PendingHistogram after (size t) new m xs
    shift_all late =
        pending_same O.1
        (λ j l. ⊎_elim (λ y. sym (mixed_below before after b j (ltb-true j b y)))
        (λ y. sym
        (⊎_elim (λ k. keeps j l k (late j (ltb-false j b y) l k)) (λ k. not_mine j k)
        (true_or_false (touches t j u)))
        ∙ sym (mixed_from before after b j (ltb-false j b y)))
        (true_or_false (ltb j b)))

    module _ {j : ℕ} (from : b ≤ j) (l : j < size t) (k : touches t j u ≡ true)
        (gap : (i : ℕ) → b ≤ i → i < j → touches t i u ≡ true → (i < lo) ⊎ (new ≤ x' (other_of t i u))) where
      -- a row that is passed over keeps its time
      over : (i : ℕ) → b ≤ i → i < j → before i ≡ after i
      over i a h =
          ⊎_elim
          (λ y. keeps i (omega arith) y (⊎_elim ◌⊎◌.inl (λ z. ◌⊎◌.inr (◌⊎◌.inl z)) (gap i a h y)))
          (λ y. not_mine i y) (true_or_false (touches t i u))

      -- but for row j nothing is another by one step
      step_else : (i : ℕ) → (i ≡ j → ⊥) → mixed before after (j + 1) i ≡ mixed before after b i
      step_else i n =
          ⊎_elim (λ y. mixed_below before after (j + 1) i (let a = ltb-true i b y in omega arith)
          ∙ sym (mixed_below before after b i (ltb-true i b y)))
          (λ y. let a = ltb-false i b y in
          ⊎_elim (λ z. let e = over i a (ltb-true i j z) in
          mixed_either before after (j + 1) i e ∙ sym (mixed_either before after b i e))
          (λ z. let c = ltb-false i j z in
          mixed_from before after (j + 1) i
          (⊎_elim (λ o. absurd (n (sym o))) (λ o. omega arith) (eq-or-lt_of_le c))
          ∙ sym (mixed_from before after b i a))
          (true_or_false (ltb i j)))
          (true_or_false (ltb i b))

      -- the row keeps its time
      shift_stay : before j ≡ after j → Shifting (j + 1) m xs
      shift_stay e = (
        let a = O.0 in omega arith,
        pending_same O.1
            (λ i o. ⊎_elim
            (λ y. subst (λ (c : ℕ). mixed before after (j + 1) c ≡ mixed before after b c) (sym y)
            (mixed_either before after (j + 1) j e ∙ sym (mixed_either before after b j e)))
            (λ n. step_else i n) (same_or i j)),
      )

      module _ (day : day_of t j ≤ hi) (soon : day_of t j < new) (top : hi ≤ 1024) {test : Bool} {z time : ℕ}
          (ez : z ≡ x' (other_of t j u)) (et : time ≡ max (max old z) (day_of t j))
          (yes : test ≡ true → (lo ≤ j) × (z < new)) (not : test ≡ false → (j < lo) ⊎ (new ≤ z)) where
        was_time : test ≡ true → mixed before after b j ≡ time
        was_time y =
            let h = yes y in
            mixed_from before after b j from
            ∙ ((mine j l k (counts_here t lo j h.0) day).first ∙ (let e = ez in let f = et in omega arith))

        moves_to : test ≡ true → mixed before after (j + 1) j ≡ new
        moves_to y =
            let h = yes y in
            let a = h.1 in
            mixed_below before after (j + 1) j (omega arith)
            ∙ ((mine j l k (counts_here t lo j h.0) day).then ∙ (let e = ez in omega arith))

        -- old, z and the day are days before the new time, and not never
        small : (old ≤ hi) → test ≡ true → (z ≤ hi) ⊎ (z ≡ never) → new ≤ never → time < 1025
        small o y d n = let h = (yes y).1 in let e = et in ⊎_elim (λ c. omega arith) (λ c. absurd (omega arith)) d

        pub shift_asks : old ≤ hi → (z ≤ hi) ⊎ (z ≡ never) → new ≤ never → size t ≤ 16384 → TakeAsks test time m xs
        shift_asks o d n most =
            record {
              long = O.1.long;
              few = let a = O.0 in omega arith;
              has = λ y. let h = (yes y).1 in let w = small o y d n in
                  record { in_days = w; one = pending_has O.1 l (was_time y) w (λ e. let f = et in omega arith) };
            }

        pub shift_row : old ≤ hi → (z ≤ hi) ⊎ (z ≡ never) → new ≤ never → {m' : ℕ} {xs' : List ℕ}
            → Taking test time m xs xs' m' → Shifting (j + 1) m' xs'
        shift_row o d n {m'} {xs'} (Taking.none y e f) =
            subst (λ (c : ℕ). Shifting (j + 1) c xs') (sym f)
            (subst (Shifting (j + 1) m) (sym e)
            (shift_stay (keeps j l k (⊎_elim ◌⊎◌.inl (λ h. ◌⊎◌.inr (◌⊎◌.inl (let a = ez in omega arith))) (not y)))))
        shift_row o d n {m'} {xs'} (Taking.one y e f) =
            let h = (yes y).1 in (
              let a = O.0 in omega arith,
              subst (λ (c : ℕ). PendingHistogram (mixed before after (j + 1)) (size t) new c xs') (sym f)
                  (pending_move O.1 l (was_time y) (moves_to y) (small o y d n)
                  (λ a. let b = et in omega arith) step_else e),
            )

-- ---- the same in the state of the loop

-- xs are the times after the rise; the rows of u below b have been passed, and m of them moved
pub record Shift (t : Table) (s hi u old new : ℕ) (xs : List ℕ) (b m : ℕ) (counts : List ℕ) : Type 0 where
  pub was : List ℕ
  pub long : length was ≡ 4096
  pub then : xs ≡ set was u new
  pub from : old ≡ get_or was u 0
  pub up : old < new
  pub day : old ≤ hi
  pub top : hi ≤ 1024
  pub few : m ≤ b
  pub pending : PendingHistogram (mixed (time_by t (estimate was) s hi) (time_by t (estimate xs) s hi) b) (size t) new m counts

module _ (t : Table) (q : Query) (s hi lo : ℕ) (S : Setting t q s hi lo) (u old new : ℕ) (xs : List ℕ)
    (small : u < 4096) where
  module _ (was : List ℕ) (l : length was ≡ 4096) (e : xs ≡ set was u new) (o : old ≡ get_or was u 0) where
    was_is : estimate was u ≡ old
    was_is = estimate_at was u l small ∙ sym o

    now_is : estimate xs u ≡ new
    now_is =
        estimate_at xs u (ap length e ∙ (length-set was u new ∙ l)) small
        ∙ (ap (λ (ys : List ℕ). get_or ys u 0) e ∙ get_or-set_same was u new 0 (omega arith))

    else_is : (v : ℕ) → (v ≡ u → ⊥) → estimate xs v ≡ estimate was v
    unfolding estimate
    else_is v n = ap (λ (ys : List ℕ). get_or ys v never) e ∙ get_or-set_other was u v new never n

  pub rise_moves : (was : List ℕ) {moved tail end : ℕ} {ws : List ℕ}
      → length was ≡ 4096
      → xs ≡ set was u new
      → old ≡ get_or was u 0
      → old < new
      → old ≤ hi
      → RiseScanned t (estimate was) lo hi old u (size t) new moved tail end ws
      → Moves (time_by t (estimate was) s hi) (time_by t (estimate xs) s hi) (moving t (estimate was) lo old u) old new
      (size t)
  rise_moves was l e o up top G =
      shift_moves t q s hi lo S (estimate was) (estimate xs) u old new (was_is was l e o) (now_is was l e o)
      (else_is was l e o) up top G.apart

  pub rise_start : {counts : List ℕ} → CountsBeforeRise t s hi u old new xs counts → Shift t s hi u old new xs lo 0 counts
  rise_start R =
      let Z = shift_start t q s hi lo S (estimate R.was) (estimate xs) u old new
      (was_is R.was R.long R.then R.from) (now_is R.was R.long R.then R.from)
      (else_is R.was R.long R.then R.from) R.up R.counted in
      record {
        was = R.was;
        long = R.long;
        then = R.then;
        from = R.from;
        up = R.up;
        day = R.day;
        top = R.top;
        few = Z.0;
        pending = Z.1;
      }

  module _ {b m : ℕ} {counts : List ℕ} (Z : Shift t s hi u old new xs b m counts) where
    a : estimate Z.was u ≡ old
    a = was_is Z.was Z.long Z.then Z.from

    c : estimate xs u ≡ new
    c = now_is Z.was Z.long Z.then Z.from

    n : (v : ℕ) → (v ≡ u → ⊥) → estimate xs v ≡ estimate Z.was v
    n = else_is Z.was Z.long Z.then Z.from

    -- the rows from b on keep their times
    pub rise_all :
        ((i : ℕ) → b ≤ i → i < size t → touches t i u ≡ true
        → (i < lo) ⊎ ((new ≤ estimate xs (other_of t i u)) ⊎ ((new ≤ day_of t i) ⊎ (hi < day_of t i))))
        → PendingHistogram (time_by t (estimate xs) s hi) (size t) new m counts
    rise_all = shift_all t q s hi lo S (estimate Z.was) (estimate xs) u old new a c n Z.up (Z.few, Z.pending)

    module _ {j : ℕ} (from : b ≤ j) (l : j < size t) (k : touches t j u ≡ true)
        (gap : (i : ℕ) → b ≤ i → i < j → touches t i u ≡ true → (i < lo) ⊎ (new ≤ estimate xs (other_of t i u)))
        (day : day_of t j ≤ hi) (soon : day_of t j < new) {test : Bool} {z time : ℕ}
        (ez : z ≡ estimate xs (other_of t j u)) (et : time ≡ max (max old z) (day_of t j))
        (yes : test ≡ true → (lo ≤ j) × (z < new)) (not : test ≡ false → (j < lo) ⊎ (new ≤ z))
        (dz : (z ≤ hi) ⊎ (z ≡ never)) (dn : new ≤ never) where
      pub rise_asks : size t ≤ 16384 → TakeAsks test time m counts
      rise_asks =
          shift_asks t q s hi lo S (estimate Z.was) (estimate xs) u old new a c n Z.up
          (Z.few, Z.pending) from l k gap day soon Z.top ez et yes not Z.day dz dn

      pub rise_row : {m' : ℕ} {counts' : List ℕ} → Taking test time m counts counts' m'
          → Shift t s hi u old new xs (j + 1) m' counts'
      rise_row T =
          let Y = shift_row t q s hi lo S (estimate Z.was) (estimate xs) u old new a c n Z.up
          (Z.few, Z.pending) from l k gap day soon Z.top ez et yes not Z.day dz dn T in
          record {
            was = Z.was;
            long = Z.long;
            then = Z.then;
            from = Z.from;
            up = Z.up;
            day = Z.day;
            top = Z.top;
            few = Y.0;
            pending = Y.1;
          }
