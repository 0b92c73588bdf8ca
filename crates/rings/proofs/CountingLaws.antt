-- Day counts (src/histogram.rt): how many rows have each day as their time.
--     by_in, by_out, by_core, by_later, is_time   the time of a row by those of its accounts
--     count_past              rows that do not count
--     hist_start, hist_few, hist_next, hist_past, hist_same      the rows are counted one after the other
--     hist_has, hist_drop     one row fewer: it has no time any more
--     take_place, take_less, take_few, take_end    what `take_from_histogram` does
--     pending_start, pending_same, pending_has, pending_room, pending_move, pending_end    rows that move to one day
--         are taken off theirs first, and counted there at last
--     count_yes, count_no, pending_on_here, pending_on_else, pending_on_none     one row more; what is pending on a day
--     counted_so, counted_then, counted_added      walks that may count, one after the other
-- Assumes nothing.
use Prim.Native.Nat.{ℕ, zero, suc, max, ◌+◌, ◌-◌, ◌≤◌, ◌<◌}
use native.Mathlib.Nat.{le_refl, eq-or-lt_of_le}
use native.Mathlib.Numerals.{add-one}
use native.Mathlib.Omega.{arith}
use mathlib.Core.Path.{◌≡◌, refl, sym, ◌∙◌, ap, subst}
use mathlib.Core.Logic.{◌⊎◌, ⊎_elim}
use mathlib.Core.Bool.{Bool, true, false}
use mathlib.Core.List.{List}
use lib.ListN.{length, get_or, set, replicate, length-set, length-replicate, get_or-replicate}
use lib.Seq.{get_or-set_same, get_or-set_other, set-get_or}
use lib.Dec.{leb, eqb}
use borrow.Author.Tests.{eq-eqb, ne_eqb, leb-true, leb-false}
use Rattle.rings.specs.Words.{count}
use Rattle.rings.specs.Table.{Table, table_of, day_of, first_of, second_of}
use Rattle.rings.specs.CoreTimes.{never, account_time, row_time}
use Rattle.rings.specs.Inner.Adjacency.{open_day, opens_by}
use Rattle.rings.specs.Inner.Peeling.{Setting, frame_of, estimate, CoreTimesAre}
use Rattle.rings.specs.Inner.Counting.{time_by, IsTime, Histogram, WhereCounted, pending_on, PendingHistogram}
use Rattle.rings.specs.Inner.Counting.{Adding, Removing, Taking, HasOne, AddAsks, RemoveAsks}
use Rattle.rings.specs.Choice.{Picked}
use Rattle.rings.proofs.WordLaws.{true_or_false, suc_if_yes, suc_if_no, count_le, count_same, count_none}
use Rattle.rings.proofs.WordLaws.{count_pos, same_or}
use Rattle.rings.proofs.ChoiceLaws.{picked_most}
use Rattle.rings.specs.declared.Query.{Query}
use Rattle.rings.proofs.PairLaws.{count_drop}
use Rattle.rings.proofs.LeadLaws.{Opens, open_own, open_day_lem, day_opens, opens_e, opens_i, opens_not, row_opens}
use Rattle.rings.proofs.LeadLaws.{row_shut}
use Rattle.rings.proofs.CoreTimeLaws.{row_time_lem}
use Rattle.rings.proofs.PeelStateLaws.{estimate_at}

-- ---- the time of a row by those of its accounts

module _ (t : Table) (x : ℕ → ℕ) (s hi j : ℕ) where
  pub by_in : Opens t s hi j → time_by t x s hi j ≡ max (max (x (first_of t j)) (x (second_of t j))) (open_day t s j)
  unfolding time_by
  by_in o =
      ap
      (λ (c : Bool). elim c [ true ↦ max (max (x (first_of t j)) (x (second_of t j))) (open_day t s j) | false ↦ never ])
      (opens_i t s hi j o)

  by_shut : opens_by t s hi j ≡ false → time_by t x s hi j ≡ never
  unfolding time_by
  by_shut h = ap (λ (c : Bool). elim c [ true ↦ max (max (x (first_of t j)) (x (second_of t j))) (open_day t s j) | false ↦ never ]) h

  pub by_out : (day_of t j < s) ⊎ (hi < day_of t j) → time_by t x s hi j ≡ never
  by_out o =
      ⊎_elim
      (λ y.
      let w = opens_e t s hi j y in
      let a = w.from in
      let b = w.to in
      let c = open_own t s j in
      ⊎_elim (λ h. absurd (omega arith)) (λ h. absurd (omega arith)) o)
      by_shut (true_or_false (opens_by t s hi j))

-- where the times of the accounts are core times, so are those of the rows
pub by_core : (d f g : List ℕ) (q : Query) (s te lo : ℕ)
    → Setting (table_of d f g) q s te lo
    → {xs : List ℕ} → CoreTimesAre (table_of d f g) (frame_of q s te lo) xs
    → (j : ℕ) → j < length d
    → time_by (table_of d f g) (estimate xs) s te j ≡ row_time (table_of d f g) q te s j
by_core d f g q s te lo S {xs} C j l =
    ⊎_elim (λ y. inside (opens_e t s te j y))
    (λ y. by_shut t (estimate xs) s te j y ∙ sym (row_shut t q te s j (opens_not t s te j y)))
    (true_or_false (opens_by t s te j))
  where
    t : Table
    t = table_of d f g

    at : (u : ℕ) → u < 4096 → estimate xs u ≡ account_time t q te s u
    at u h = estimate_at xs u C.long h ∙ C.times u h

    inside : Opens t s te j → time_by t (estimate xs) s te j ≡ row_time t q te s j
    inside o =
        let x = S.accounts j l in let y = S.small j l in
        let m = at (first_of t j) (omega arith) in let n = at (second_of t j) y in
        by_in t (estimate xs) s te j o
        ∙ ((let e : max (max (estimate xs (first_of t j)) (estimate xs (second_of t j))) (open_day t s j)
        ≡ max (max (account_time t q te s (first_of t j)) (account_time t q te s (second_of t j))) (open_day t s j) =
        omega arith in
        e)
        ∙ sym (row_opens t q te s S.fits j l o))

-- the day on which the window begins matters only to rows before it
pub by_later : (t : Table) (x : ℕ → ℕ) (s hi j : ℕ) → s + 1 ≤ day_of t j → time_by t x (s + 1) hi j ≡ time_by t x s hi j
by_later t x s hi j h =
    ⊎_elim (λ y.
    let a = leb-true (day_of t j) hi y in
    let m = by_in t x (s + 1) hi j (day_opens t (s + 1) hi j h a) in
    let n = by_in t x s hi j (day_opens t s hi j (omega arith) a) in
    let b = open_day_lem t (s + 1) j in let c = open_day_lem t s j in omega arith)
    (λ y. let a = leb-false (day_of t j) hi y in
    by_out t x (s + 1) hi j (◌⊎◌.inr a) ∙ sym (by_out t x s hi j (◌⊎◌.inr a)))
    (true_or_false (leb (day_of t j) hi))

pub is_time : (t : Table) (q : Query) (hi s j : ℕ) → hi ≤ 1024 → {x : ℕ} → x ≡ row_time t q hi s j → IsTime x
is_time t q hi s j top {x} e = ⊎_elim (λ y. ◌⊎◌.inr (e ∙ y)) (λ y. let h = y.1 in ◌⊎◌.inl (omega arith)) (row_time_lem t q hi s j)

-- ---- rows counted one after the other

pub count_past : (p : ℕ → Bool) (m n : ℕ) → m ≤ n → ((i : ℕ) → m ≤ i → i < n → p i ≡ false) → count p n ≡ count p m
unfolding count
count_past p m zero l h = ap (count p) (let e : 0 ≡ m = omega arith in e)
count_past p m (suc n) l h =
    ⊎_elim (λ e. ap (count p) (sym e))
    (λ k. suc_if_no (count p n) (h n (omega arith) (le_refl (suc n)))
    ∙ count_past p m n (omega arith) (λ i a b. h i a (omega arith)))
    (eq-or-lt_of_le l)

module _ (g : ℕ → ℕ) where
  abbrev has : ℕ → ℕ → Bool
  has e j = eqb (g j) e

  never_not : (e j : ℕ) → e < 1025 → g j ≡ never → has e j ≡ false
  never_not e j l h = ne_eqb (g j) e (λ y. omega arith)

  pub count_yes : (e n : ℕ) → has e n ≡ true → count (has e) (suc n) ≡ suc (count (has e) n)
  unfolding count
  count_yes e n h = suc_if_yes (count (has e) n) h

  pub count_no : (e n : ℕ) → has e n ≡ false → count (has e) (suc n) ≡ count (has e) n
  unfolding count
  count_no e n h = suc_if_no (count (has e) n) h

  pub hist_start : (n m : ℕ) {xs : List ℕ} → m ≡ 1025 → xs ≡ replicate m 0 → ((j : ℕ) → j < n → g j ≡ never) → Histogram g n xs
  hist_start n m {xs} l e none =
      record {
        long = ap length e ∙ (length-replicate {A = ℕ} m 0 ∙ l);
        each = λ a h.
            ap (λ (ys : List ℕ). get_or ys a 0) e
            ∙ (get_or-replicate m a 0 0 (omega arith) ∙ sym (count_none (has a) n (λ i k. never_not a i h (none i k))));
      }

  module _ {n : ℕ} {xs : List ℕ} (T : Histogram g n xs) where
    pub hist_few : {v : ℕ} → n < 16384 → IsTime v → AddAsks 1 v xs
    hist_few {v} l i =
        record {
          long = T.long;
          room = λ h.
              let k : v < 1025 = ⊎_elim (λ y. y) (λ y. absurd (h y)) i in
              record { in_days = k; few = let a = T.each v k in let b = count_le (has v) n in omega arith };
        }

    pub hist_next : {v : ℕ} {xs' : List ℕ} → v ≡ g n → Adding 1 v xs xs' → Histogram g (n + 1) xs'
    hist_next {v} {xs'} e A =
        record {
          long = added_long A ∙ T.long;
          each = λ a h.
              subst (λ (i : ℕ). get_or xs' a 0 ≡ count (has a) i) (sym (add-one n))
              (⊎_elim (λ y. here a h y) (λ y. else a h y) (same_or a v));
        }
      where
        added_long : {m v : ℕ} {xs xs' : List ℕ} → Adding m v xs xs' → length xs' ≡ length xs
        added_long (Adding.pass h e) = ap length e
        added_long {m} {v} {xs} (Adding.some h e) = ap length e ∙ length-set xs v (get_or xs v 0 + m)

        put_here : Adding 1 v xs xs' → v < 1025 → get_or xs' v 0 ≡ get_or xs v 0 + 1
        put_here (Adding.pass h e) l = absurd (omega arith)
        put_here (Adding.some h e) l =
            ap (λ (ys : List ℕ). get_or ys v 0) e
            ∙ get_or-set_same xs v (get_or xs v 0 + 1) 0 (let o = T.long in omega arith)

        put_else : Adding 1 v xs xs' → (e : ℕ) → (e ≡ v → ⊥) → get_or xs' e 0 ≡ get_or xs e 0
        put_else (Adding.pass h i) e o = ap (λ (ys : List ℕ). get_or ys e 0) i
        put_else (Adding.some h i) e o = ap (λ (ys : List ℕ). get_or ys e 0) i ∙ get_or-set_other xs v e (get_or xs v 0 + 1) 0 o

        here : (a : ℕ) → a < 1025 → a ≡ v → get_or xs' a 0 ≡ count (has a) (suc n)
        here a h y =
            let x : get_or xs' a 0 ≡ get_or xs a 0 + 1 = subst (λ (i : ℕ). get_or xs' i 0 ≡ get_or xs i 0 + 1) (sym y) (put_here A (omega arith)) in
            let w = T.each a h in
            let z : count (has a) (suc n) ≡ suc (count (has a) n) = count_yes a n (eq-eqb (g n) a (sym (y ∙ e))) in omega arith

        else : (a : ℕ) → a < 1025 → (a ≡ v → ⊥) → get_or xs' a 0 ≡ count (has a) (suc n)
        else a h y = put_else A a y ∙ (T.each a h ∙ sym (count_no a n (ne_eqb (g n) a (λ z. y (sym z ∙ sym e)))))

    -- the rows from n on have no time
    pub hist_past : {m : ℕ} → n ≤ m → ((j : ℕ) → n ≤ j → j < m → g j ≡ never) → Histogram g m xs
    hist_past {m} l none =
        record {
          long = T.long;
          each = λ e h. T.each e h ∙ sym (count_past (has e) n m l (λ i a b. never_not e i h (none i a b)));
        }

pub hist_same : {g g' : ℕ → ℕ} {n : ℕ} {xs : List ℕ} → ((j : ℕ) → j < n → g' j ≡ g j) → Histogram g n xs → Histogram g' n xs
hist_same {g} {g'} {n} same T =
    record {
      long = T.long;
      each = λ e h. T.each e h
          ∙ sym (count_same (λ j. eqb (g' j) e) (λ j. eqb (g j) e) n (λ j l. ap (λ (a : ℕ). eqb a e) (same j l)));
    }

-- ---- rows that move to one day

pub pending_on_here : (new m e : ℕ) → new ≡ e → pending_on new m e ≡ m
unfolding pending_on
pending_on_here new m e h = ap (λ (c : Bool). elim c [ true ↦ m | false ↦ 0 ]) (eq-eqb new e h)

pub pending_on_else : (new m e : ℕ) → (new ≡ e → ⊥) → pending_on new m e ≡ 0
unfolding pending_on
pending_on_else new m e h = ap (λ (c : Bool). elim c [ true ↦ m | false ↦ 0 ]) (ne_eqb new e h)

pub pending_on_none : (new e : ℕ) → pending_on new 0 e ≡ 0
pending_on_none new e = ⊎_elim (λ y. pending_on_here new 0 e y) (λ y. pending_on_else new 0 e y) (same_or new e)

pub pending_start : {g : ℕ → ℕ} {n new : ℕ} {xs : List ℕ} → Histogram g n xs → PendingHistogram g n new 0 xs
pending_start {new = new} T = record { long = T.long; each = λ e h. let a = T.each e h in let b = pending_on_none new e in omega arith }

module _ {g : ℕ → ℕ} {n new m : ℕ} {xs : List ℕ} (O : PendingHistogram g n new m xs) where
  pub pending_same : {g' : ℕ → ℕ} → ((j : ℕ) → j < n → g' j ≡ g j) → PendingHistogram g' n new m xs
  pending_same {g'} same =
      record {
        long = O.long;
        each = λ e h. O.each e h
            ∙ sym (count_same (λ j. eqb (g' j) e) (λ j. eqb (g j) e) n (λ j l. ap (λ (a : ℕ). eqb a e) (same j l)));
      }

  -- a row that has another time than the new one is counted there
  pub pending_has : {j time : ℕ} → j < n → g j ≡ time → time < 1025 → (new ≡ time → ⊥) → 1 ≤ get_or xs time 0
  pending_has {j} {time} l e h o =
      let a = O.each time h in
      let b = pending_on_else new m time o in
      let c : 0 < count (λ i. eqb (g i) time) n = count_pos (λ i. eqb (g i) time) n j l (eq-eqb (g j) time e) in
      omega arith

  pub pending_room : n ≤ 16384 → (new < 1025) ⊎ (new ≡ never) → AddAsks m new xs
  pending_room most i =
      record {
        long = O.long;
        room = λ h. let k : new < 1025 = ⊎_elim (λ y. y) (λ y. absurd (h y)) i in
            record {
              in_days = k;
              few = let a = O.each new k in
                  let b = pending_on_here new m new refl in
                  let c = count_le (λ j. eqb (g j) new) n in
                  omega arith;
            };
      }

  pub pending_end : {xs' : List ℕ} → Adding m new xs xs' → Histogram g n xs'
  pending_end {xs'} (Adding.pass h e) =
      record {
        long = ap length e ∙ O.long;
        each = λ a l.
            let x = O.each a l in
            let y = pending_on_else new m a (λ z. omega arith) in
            ap (λ (ys : List ℕ). get_or ys a 0) e ∙ omega arith;
      }
  pending_end {xs'} (Adding.some h e) =
      record {
        long = ap length e ∙ (length-set xs new (get_or xs new 0 + m) ∙ O.long);
        each = λ a l. ap (λ (ys : List ℕ). get_or ys a 0) e
            ∙ ⊎_elim (λ y.
            let x = O.each a l in
            let z = pending_on_here new m a y in
            let w : get_or (set xs new (get_or xs new 0 + m)) a 0 ≡ get_or xs new 0 + m =
            subst (λ (c : ℕ). get_or (set xs new (get_or xs new 0 + m)) c 0 ≡ get_or xs new 0 + m) y
            (get_or-set_same xs new (get_or xs new 0 + m) 0 (let o = O.long in omega arith)) in
            let v : get_or xs new 0 ≡ get_or xs a 0 = ap (λ (c : ℕ). get_or xs c 0) y in
            omega arith)
            (λ y. get_or-set_other xs new a (get_or xs new 0 + m) 0 (λ z. y (sym z))
            ∙ (let x = O.each a l in let z = pending_on_else new m a y in omega arith))
            (same_or new a);
      }

  -- row j goes from its time to the new one
  pub pending_move : {g' : ℕ → ℕ} {j time : ℕ}
      → j < n
      → g j ≡ time
      → g' j ≡ new
      → time < 1025
      → (new ≡ time → ⊥)
      → ((i : ℕ) → (i ≡ j → ⊥) → g' i ≡ g i)
      → {xs' : List ℕ} → xs' ≡ set xs time (get_or xs time 0 - 1)
      → PendingHistogram g' n new (m + 1) xs'
  pending_move {g'} {j} {time} l e e' small ne same {xs'} w =
      record {
        long = ap length w ∙ (length-set xs time (get_or xs time 0 - 1) ∙ O.long);
        each = λ a h. ⊎_elim (λ y. from a h y) (λ y. ⊎_elim (λ z. to a h z y) (λ z. else a h y z) (same_or new a)) (same_or a time);
      }
    where
      others : (a i : ℕ) → (i ≡ j → ⊥) → eqb (g' i) a ≡ eqb (g i) a
      others a i o = ap (λ (c : ℕ). eqb c a) (same i o)

      from : (a : ℕ) → a < 1025 → a ≡ time → get_or xs' a 0 + pending_on new (m + 1) a ≡ count (λ i. eqb (g' i) a) n
      from a h y =
          let c : count (λ i. eqb (g i) a) n ≡ suc (count (λ i. eqb (g' i) a) n) =
          count_drop (λ i. eqb (g i) a) (λ i. eqb (g' i) a) n j l (eq-eqb (g j) a (e ∙ sym y))
          (ne_eqb (g' j) a (λ z. ne (sym e' ∙ (z ∙ y)))) (others a) in
          let x : get_or xs' a 0 ≡ get_or xs a 0 - 1 = subst
          (λ (i : ℕ). get_or xs' i 0 ≡ get_or xs i 0 - 1)
          (sym y)
          (ap (λ (ys : List ℕ). get_or ys time 0) w
          ∙ get_or-set_same xs time (get_or xs time 0 - 1) 0 (let o = O.long in omega arith)) in
          let z : new ≡ a → ⊥ = λ z. ne (z ∙ y) in
          let p = pending_on_else new m a z in let q = pending_on_else new (m + 1) a z in let r = O.each a h in omega arith

      to : (a : ℕ) → a < 1025 → new ≡ a → (a ≡ time → ⊥) → get_or xs' a 0 + pending_on new (m + 1) a ≡ count (λ i. eqb (g' i) a) n
      to a h y z =
          let c : count (λ i. eqb (g' i) a) n ≡ suc (count (λ i. eqb (g i) a) n) =
          count_drop (λ i. eqb (g' i) a) (λ i. eqb (g i) a) n j l (eq-eqb (g' j) a (e' ∙ y))
          (ne_eqb (g j) a (λ o. z (sym o ∙ e))) (λ i o. sym (others a i o)) in
          let x : get_or xs' a 0 ≡ get_or xs a 0 = ap (λ (ys : List ℕ). get_or ys a 0) w ∙ get_or-set_other xs time a (get_or xs time 0 - 1) 0 z in
          let p = pending_on_here new m a y in let q = pending_on_here new (m + 1) a y in let r = O.each a h in omega arith

      else : (a : ℕ) → a < 1025 → (a ≡ time → ⊥) → (new ≡ a → ⊥) → get_or xs' a 0 + pending_on new (m + 1) a ≡ count (λ i. eqb (g' i) a) n
      else a h y z =
          let c : count (λ i. eqb (g' i) a) n ≡ count (λ i. eqb (g i) a) n =
          count_same (λ i. eqb (g' i) a) (λ i. eqb (g i) a) n
          (λ i k. ⊎_elim
          (λ o. subst (λ (b : ℕ). eqb (g' b) a ≡ eqb (g b) a) (sym o)
          (ne_eqb (g' j) a (λ v. z (sym e' ∙ v)) ∙ sym (ne_eqb (g j) a (λ v. y (sym v ∙ e)))))
          (λ o. others a i o) (same_or i j)) in
          let x : get_or xs' a 0 ≡ get_or xs a 0 = ap (λ (ys : List ℕ). get_or ys a 0) w ∙ get_or-set_other xs time a (get_or xs time 0 - 1) 0 y in
          let p = pending_on_else new m a z in let q = pending_on_else new (m + 1) a z in let r = O.each a h in omega arith

-- ---- one row fewer

module _ {g : ℕ → ℕ} {n : ℕ} {xs : List ℕ} (T : Histogram g n xs) {j v : ℕ} (l : j < n) (e : v ≡ g j) (i : IsTime v) where
  day : (v ≡ never → ⊥) → v < 1025
  day h = ⊎_elim (λ y. y) (λ y. absurd (h y)) i

  pub hist_has : RemoveAsks v xs
  hist_has =
      record {
        long = T.long;
        has = λ h. record { in_days = day h; one = pending_has (pending_start {new = never} T) l (sym e) (day h) (λ y. h (sym y)) };
      }

  -- the row has no time any more
  pub hist_drop : {g' : ℕ → ℕ} → g' j ≡ never → ((a : ℕ) → (a ≡ j → ⊥) → g' a ≡ g a) → {xs' : List ℕ} → Removing v xs xs' → Histogram g' n xs'
  hist_drop {g'} none same (Removing.pass h w) =
      hist_same
      (λ a k. ⊎_elim (λ o. subst (λ (c : ℕ). g' c ≡ g c) (sym o) (none ∙ (sym h ∙ e))) (λ o. same a o) (same_or a j))
      (subst (Histogram g n) (sym w) T)
  hist_drop {g'} none same (Removing.one h w) =
      pending_end
      (pending_move (pending_start {new = never} T) l (sym e) none (day h) (λ y. h (sym y)) same w)
      (Adding.pass refl refl)

-- ---- what `take_from_histogram` does

module _ (xs : List ℕ) {test : Bool} {time e more : ℕ} (w : Picked test time 0 e) (o : Picked test 1 0 more)
    (ask : test ≡ true → HasOne time xs) where
  pub take_place : length xs ≡ 1025 → e < length xs
  take_place l =
      ⊎_elim (λ y. let a = w.yes y in let b = (ask y).in_days in omega arith) (λ y. let a = w.no y in omega arith)
      (true_or_false test)

  pub take_less : more ≤ get_or xs e 0
  take_less =
      ⊎_elim
      (λ y.
      let a : get_or xs e 0 ≡ get_or xs time 0 = ap (λ (c : ℕ). get_or xs c 0) (w.yes y) in
      let b = (ask y).one in
      let c = o.yes y in
      omega arith)
      (λ y. let c = o.no y in omega arith) (true_or_false test)

  pub take_few : more ≤ 1
  take_few = picked_most o

  pub take_end : {m : ℕ} → Taking test time m xs (set xs e (get_or xs e 0 - more)) (m + more)
  take_end {m} =
      ⊎_elim (λ y. Taking.one y
      (ap (λ (c : ℕ). set xs c (get_or xs c 0 - more)) (w.yes y)
      ∙ ap (λ (c : ℕ). set xs time (get_or xs time 0 - c)) (o.yes y))
      (ap (λ (c : ℕ). m + c) (o.yes y)))
      (λ y. Taking.none y
      (ap (λ (c : ℕ). set xs e (get_or xs e 0 - c)) (o.no y)
      ∙ (ap (set xs e) (let z : get_or xs e 0 - 0 ≡ get_or xs e 0 = omega arith in z) ∙ set-get_or xs e 0))
      (let z = o.no y in omega arith))
      (true_or_false test)

-- ---- walks that may count

module _ {counting : Bool} {P Q : Type 0} where
  pub counted_so : {xs xs' : List ℕ} → (P → Q) → WhereCounted counting P xs xs' → WhereCounted counting Q xs xs'
  counted_so f W = record { counted = λ y. f (W.counted y); same = W.same }

  -- what the second promises, from the counts before the first
  pub counted_then : {xs xs' xs'' : List ℕ} → WhereCounted counting P xs xs' → WhereCounted counting Q xs' xs'' → WhereCounted counting Q xs xs''
  counted_then W X = record { counted = X.counted; same = λ y. X.same y ∙ W.same y }

-- the rows that moved are counted at last
pub counted_added : {counting : Bool} {g : ℕ → ℕ} {n new m : ℕ} {xs xs' xs'' : List ℕ} →
    WhereCounted counting (PendingHistogram g n new m xs') xs xs' → WhereCounted counting (Adding m new xs' xs'') xs' xs'' →
    WhereCounted counting (Histogram g n xs'') xs xs''
counted_added W X = record { counted = λ y. pending_end (W.counted y) (X.counted y); same = λ y. X.same y ∙ W.same y }
