-- The longest list is reached, so n(n+1)/2 is the most rings there can be, and no smaller number.
--     daily lo hi        the table with one payment between 0 and 1 on each day of the range
--     ring_all           for k of at most 1 the ring of a window has all its rows
--     daily_accepted     the table is accepted
--     longest_reached    for k = 1 its listing has n(n+1)/2 entries
-- Assumes nothing.
use Prim.Native.Nat.{ℕ, zero, suc, ◌+◌, ◌-◌, ◌≤◌, ◌<◌, zero-le}
use native.Mathlib.Nat.{le_refl, le_trans}
use native.Mathlib.Omega.{arith}
use mathlib.Core.Path.{◌≡◌, refl, sym, ◌∙◌, ap}
use mathlib.Core.Logic.{⊎_elim}
use mathlib.Core.Bool.{Bool, true}
use mathlib.Core.List.Memᴰ.{head as here}
use mathlib.Core.List.Memᴰ.{tail as there}
use mathlib.Core.List.{List, [], ◌∷◌, Memᴰ as Mem}
use lib.ListN.{length, get_or, length-map}
use lib.Dec.{eqb}
use borrow.Author.Tests.{le-leb, le-ltb, eq-eqb}
use Rattle.rings.specs.Words.{◌and◌, ◌or◌, no, at, marked, tabulate, filter_by}
use Rattle.rings.specs.Table.{Table, table_of, size, day_of, first_of, second_of, window_rows}
use Rattle.rings.specs.Ring.{joins, greatest, names, neighbour, degree, Good, in_ring}
use Rattle.rings.specs.CoreTimes.{never}
use Rattle.rings.specs.Windows.{Window, windows}
use Rattle.rings.specs.Checks.{◌when◌, ◌then◌}
use Rattle.rings.specs.TableCheck.{day_before, row_faults, row_check, table_check}
use Rattle.rings.specs.declared.Query.{Query}
use Rattle.std.specs.Prelude.{Ok}
use Rattle.rings.proofs.WordLaws.{and_i, or_l, or_r, count_pos, length_tabulate, get_d_tabulate}
use Rattle.rings.proofs.ListLaws.{filter_by_yes}
use Rattle.rings.proofs.PeelLaws.{within_refl}
use Rattle.rings.proofs.RingLaws.{Inside, window_i, touch_cases, met_e, neighbour_i, ring_holds, in_marked}
use Rattle.rings.proofs.RangeLaws.{OfRange, windows_e}
use Rattle.rings.proofs.CheckLaws.{order_accepted}
use Rattle.listing.specs.Tight.{tight}
use Rattle.listing.specs.Listing.{entry_of, listing}
use Rattle.listing.specs.LongestList.{longest, days_of}
use Rattle.listing.proofs.TightLaws.{DatedRow, tight_i}
use Rattle.listing.proofs.CountLaws.{windows_length}

-- ---- one neighbour is enough for k = 1

at_greatest : (xs : List ℕ) (i : ℕ) → at xs i ≤ greatest xs
unfolding at greatest
at_greatest [] i = zero-le
at_greatest (x ∷ xs) zero = omega arith
at_greatest (x ∷ xs) (suc i) = let h : get_or xs i 0 ≤ greatest xs = at_greatest xs i in omega arith

module _ (t : Table) (q : Query) (low : q.k ≤ 1) where
  all_good : (m : List Bool) → Good t q m
  unfolding degree joins first_of second_of names
  all_good m =
      record {
        neighbours =
            λ u h. let w = met_e t m u h in
            ⊎_elim (first u w.row w.below w.has) (second u w.row w.below w.has) (touch_cases t w.row u w.touch);
      }
    where
      more : (u v j : ℕ) → v < names t → neighbour t m u v ≡ true → q.k ≤ degree t m u
      more u v j l h = le_trans low (count_pos (neighbour t m u) (names t) v l h)

      -- a row's first account has its second as a neighbour, and the other way round
      first : (u j : ℕ) → j < size t → marked m j ≡ true → first_of t j ≡ u → q.k ≤ degree t m u
      first u j b h e =
          more u (second_of t j) j (let g = at_greatest t.second j in omega arith)
          (neighbour_i t m j u (second_of t j) b h
          (or_l (eqb (first_of t j) u and eqb (second_of t j) (second_of t j))
          (eqb (first_of t j) (second_of t j) and eqb (second_of t j) u)
          (and_i (eq-eqb (first_of t j) u e) (eq-eqb (second_of t j) (second_of t j) refl))))

      second : (u j : ℕ) → j < size t → marked m j ≡ true → second_of t j ≡ u → q.k ≤ degree t m u
      second u j b h e =
          more u (first_of t j) j (let g = at_greatest t.first j in omega arith)
          (neighbour_i t m j u (first_of t j) b h
          (or_r (eqb (first_of t j) u and eqb (second_of t j) (first_of t j))
          (eqb (first_of t j) (first_of t j) and eqb (second_of t j) u)
          (and_i (eq-eqb (first_of t j) (first_of t j) refl) (eq-eqb (second_of t j) u e))))

  ring_all : (s e j : ℕ) → Inside t s e j → in_ring t q s e j ≡ true
  ring_all s e j w =
      in_marked t q s e j
      ((ring_holds t q s e (window_rows t s e) (within_refl (window_rows t s e)) (all_good (window_rows t s e))).all j (window_i t s e j w))

-- ---- a payment on each day

unfoldable pub daily : ℕ → ℕ → Table
daily lo hi = table_of (tabulate (λ d. d) lo (suc hi - lo)) (tabulate (λ d. 0) lo (suc hi - lo)) (tabulate (λ d. 1) lo (suc hi - lo))

module _ (lo hi : ℕ) where
  daily_size : size (daily lo hi) ≡ suc hi - lo
  unfolding daily
  daily_size = length_tabulate (λ d. d) lo (suc hi - lo)

  daily_day : (j : ℕ) → j < suc hi - lo → day_of (daily lo hi) j ≡ lo + j
  unfolding daily day_of at
  daily_day j l = get_d_tabulate (λ d. d) lo (suc hi - lo) j 0 l

  daily_first : (j : ℕ) → j < suc hi - lo → first_of (daily lo hi) j ≡ 0
  unfolding daily first_of at
  daily_first j l = get_d_tabulate (λ d. 0) lo (suc hi - lo) j 0 l

  daily_second : (j : ℕ) → j < suc hi - lo → second_of (daily lo hi) j ≡ 1
  unfolding daily second_of at
  daily_second j l = get_d_tabulate (λ d. 1) lo (suc hi - lo) j 0 l

  row_sound : (j before day : ℕ) → before ≤ day → 1 ≤ day → day ≤ 1024 → row_faults j before day 0 1 ≡ Ok tt
  unfolding row_faults ◌when◌ ◌then◌ ◌and◌ ◌or◌ no
  row_sound j before day a b c = simp (le-leb 1 day b, le-leb day 1024 c, le-ltb day before a)

  days_rise : (j : ℕ) → j < suc hi - lo → day_before (daily lo hi) j ≤ day_of (daily lo hi) j
  unfolding day_before
  days_rise zero l = zero-le
  days_rise (suc j) l =
      let a : day_of (daily lo hi) j ≡ lo + j = daily_day j (omega arith) in
      let b : day_of (daily lo hi) (suc j) ≡ lo + suc j = daily_day (suc j) l in omega arith

  rows_sound : 1 ≤ lo → hi ≤ 1024 → (j : ℕ) → j < suc hi - lo → row_check (daily lo hi) j ≡ Ok tt
  unfolding row_check
  rows_sound a b j l =
      let d : day_of (daily lo hi) j ≡ lo + j = daily_day j l in
      rw (daily_first j l, daily_second j l) (row_sound j (day_before (daily lo hi) j) (day_of (daily lo hi) j) (days_rise j l) (omega arith) (omega arith))

  pub daily_accepted : 1 ≤ lo → hi ≤ 1024 → table_check (daily lo hi) ≡ Ok tt
  unfolding table_check daily ◌when◌ ◌then◌ ◌and◌ no
  daily_accepted a b =
      let n : size (daily lo hi) ≡ suc hi - lo = daily_size in
      let f : length (tabulate {A = ℕ} (λ d. 0) lo (suc hi - lo)) ≡ size (daily lo hi) = length_tabulate {A = ℕ} (λ d. 0) lo (suc hi - lo) ∙ sym n in
      let g : length (tabulate {A = ℕ} (λ d. 1) lo (suc hi - lo)) ≡ size (daily lo hi) = length_tabulate {A = ℕ} (λ d. 1) lo (suc hi - lo) ∙ sym n in
      simp (eq-eqb _ _ f, eq-eqb _ _ g, le-ltb 16384 (size (daily lo hi)) (omega arith))
      (order_accepted (row_check (daily lo hi)) 0 (size (daily lo hi)) (λ j l k. rows_sound a b j (omega arith)))

  -- every window of the range is tight
  all_tight : hi < never → (w : Window) → OfRange lo hi w → tight (daily lo hi) (record { k = 1 }) w.start w.end ≡ true
  all_tight fits w o =
      let f = o.from in let c = o.order in let l = o.to in
      tight_i (daily lo hi) (record { k = 1 }) w.start w.end (omega arith)
      (record { first = on w.start f (le_refl w.start) c; last = on w.end (le_trans f c) c (le_refl w.end) })
    where
      on : (d : ℕ) → lo ≤ d → w.start ≤ d → d ≤ w.end → DatedRow (daily lo hi) (record { k = 1 }) w.start w.end d
      on d a b c =
          let l = o.to in
          let n = daily_size in
          let e : day_of (daily lo hi) (d - lo) ≡ d = daily_day (d - lo) (omega arith) ∙ omega arith in
          record {
            row = d - lo;
            is_in_ring =
                ring_all (daily lo hi) (record { k = 1 }) (le_refl 1) w.start w.end (d - lo)
                (record { row = omega arith; from = omega arith; to = omega arith });
            dated = e;
          }

filter_by_all : {A : Type 0} (p : A → Bool) (xs : List A) → ((x : A) → Mem x xs → p x ≡ true) → length (filter_by p xs) ≡ length xs
unfolding filter_by
filter_by_all p [] h = refl
filter_by_all p (x ∷ xs) h = ap length (filter_by_yes p x xs (h x (here refl))) ∙ ap suc (filter_by_all p xs (λ y m. h y (there m)))

pub longest_reached : (lo hi : ℕ) → hi < never → length (listing (daily lo hi) (record { k = 1 }) lo hi) ≡ longest (days_of lo hi)
unfolding listing
longest_reached lo hi fits =
    let test : Window → Bool = λ w. tight (daily lo hi) (record { k = 1 }) w.start w.end in
    length-map (filter_by test (windows lo hi)) (entry_of (daily lo hi) (record { k = 1 }))
    ∙ (filter_by_all test (windows lo hi) (λ w m. all_tight lo hi fits w (windows_e lo hi w m)) ∙ windows_length lo hi)
