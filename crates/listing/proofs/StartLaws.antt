-- The entries of one start, from its core times (src/list.rt).
--     listed_no, listed_by     the two tests of an end, as the code makes them
--     one_more, no_more        one number more in a count
--     entries_are, sum_small   the counts give the entries of the start; they sum up to no more than the rows
-- Assumes nothing.
use Prim.Native.Nat.{ℕ, zero, suc, ◌+◌, ◌-◌, ◌≤◌, ◌<◌, zero-le}
use native.Mathlib.Nat.{le_refl, eq-or-lt_of_le}
use native.Mathlib.Omega.{arith}
use mathlib.Core.Path.{◌≡◌, refl, sym, ◌∙◌, ap}
use mathlib.Core.Logic.{⊎_elim}
use mathlib.Core.Bool.{Bool, true, false}
use mathlib.Core.List.{List, map}
use lib.ListN.{get_or}
use lib.Dec.{leb, ltb, eqb}
use borrow.Author.Tests.{ltb-true, ltb-false, leb-true, leb-false, eqb-true, lt-ltb, le-ltb, le-leb, lt-leb, eq-eqb, ne_eqb}
use Rattle.rings.specs.Words.{◌and◌, at, count, tabulate, cons_if, filter_by}
use Rattle.rings.specs.Table.{Table, size}
use Rattle.rings.specs.Ring.{ring, members}
use Rattle.rings.specs.CoreTimes.{row_time}
use Rattle.rings.specs.Windows.{Window, windows_from}
use Rattle.rings.specs.Starts.{Earliest, CountsAt}
use Rattle.rings.specs.declared.Query.{Query}
use Rattle.rings.proofs.WordLaws.{true_or_false, and_i, and_l, and_r, same_truth, suc_if_yes, suc_if_no, count_le, count_same, count_none, count_pos, count_some}
use Rattle.rings.proofs.CoreTimeLaws.{row_time_lem, row_past, ring_size}
use Rattle.listing.specs.Tight.{tight}
use Rattle.listing.specs.Listing.{ListedRing, entry_of}
use Rattle.listing.specs.Inner.{start_entries, sum_of, count_entries}
use Rattle.listing.proofs.TightLaws.{tight_times, times_tight}

pub one_more : (p : ℕ → Bool) (n : ℕ) → p n ≡ true → count p (suc n) ≡ suc (count p n)
unfolding count
one_more p n h = suc_if_yes (count p n) h

pub no_more : (p : ℕ → Bool) (n : ℕ) → p n ≡ false → count p (suc n) ≡ count p n
unfolding count
no_more p n h = suc_if_no (count p n) h

-- ---- the ends of a start

pub listed_no : (least e : ℕ) {added : ℕ} → added ≡ 0 → false ≡ (ltb 0 added and leb least e)
unfolding ◌and◌
listed_no least e {added} h = sym (ap (λ (b : Bool). b and leb least e) (le-ltb 0 added (omega arith)))

pub listed_by : (least e : ℕ) {added : ℕ} → (added ≡ 0 → ⊥) → leb least e ≡ (ltb 0 added and leb least e)
unfolding ◌and◌
listed_by least e {added} h = sym (ap (λ (b : Bool). b and leb least e) (lt-ltb 0 added (⊎_elim (λ y. absurd (h (sym y))) (λ y. y) (eq-or-lt_of_le zero-le))))

module _ (f : ℕ → ℕ) where
  -- rows by a day, rows before it and rows on it
  by_next : (e n : ℕ) → count (λ j. leb (f j) e) n ≡ count (λ j. ltb (f j) e) n + count (λ j. eqb (f j) e) n
  unfolding count
  by_next e zero = refl
  by_next e (suc n) =
      let h = by_next e n in
      ⊎_elim
      (λ a. let l = ltb-true (f n) e a in
      let x = one_more (λ j. leb (f j) e) n (le-leb (f n) e (omega arith)) in
      let y = one_more (λ j. ltb (f j) e) n a in
      let z = no_more (λ j. eqb (f j) e) n (ne_eqb (f n) e (λ i. omega arith)) in
      omega arith)
      (λ a.
      let l = ltb-false (f n) e a in
      let y = no_more (λ j. ltb (f j) e) n a in
      ⊎_elim (λ i. let x = one_more (λ j. leb (f j) e) n (le-leb (f n) e (omega arith)) in
      let z = one_more (λ j. eqb (f j) e) n (eq-eqb (f n) e (sym i)) in
      omega arith)
      (λ i. let x = no_more (λ j. leb (f j) e) n (lt-leb (f n) e i) in
      let z = no_more (λ j. eqb (f j) e) n (ne_eqb (f n) e (λ k. omega arith)) in
      omega arith)
      (eq-or-lt_of_le l))
      (true_or_false (ltb (f n) e))

  by_suc : (e n : ℕ) → count (λ j. ltb (f j) (suc e)) n ≡ count (λ j. leb (f j) e) n
  by_suc e n =
      count_same (λ j. ltb (f j) (suc e)) (λ j. leb (f j) e) n
      (λ j l. same_truth (ltb (f j) (suc e)) (leb (f j) e)
      (λ y. let k = ltb-true (f j) (suc e) y in le-leb (f j) e (omega arith))
      (λ y. let k = leb-true (f j) e y in lt-ltb (f j) (suc e) (omega arith)))

module _ (t : Table) (q : Query) (hi s : ℕ) (top : hi ≤ 1024) {xs : List ℕ} (T : CountsAt t q hi s xs) where
  abbrev time : ℕ → ℕ
  time j = row_time t q hi s j

  -- the rows with earlier times and those of the day are those by the day
  step : (e total : ℕ) → e ≤ hi → total ≡ count (λ j. ltb (time j) e) (size t) → total + at xs e ≡ count (λ j. ltb (time j) (suc e)) (size t)
  unfolding at
  step e total h et = let a = T.each e (omega arith) in let b = by_next time e (size t) in let c = by_suc time e (size t) in omega arith

  -- no row has a time before the start
  none_before : s ≤ hi → 0 ≡ count (λ j. ltb (time j) s) (size t)
  none_before o =
      sym (count_none (λ j. ltb (time j) s) (size t)
      (λ j l. ⊎_elim (λ n. le-ltb (time j) s (omega arith)) (λ d. le-ltb (time j) s d.0) (row_time_lem t q hi s j)))

  pub sum_small : size t ≤ 16384 → (e : ℕ) → e ≤ hi → sum_of xs e (hi + 1 - e) ≤ 16384
  unfolding sum_of
  sum_small most e o = let r = from (hi + 1 - e) e (count (λ j. ltb (time j) e) (size t)) (omega arith) refl in omega arith
    where
      from : (m e total : ℕ) → e + m ≡ suc hi → total ≡ count (λ j. ltb (time j) e) (size t) → total + sum_of xs e m ≤ size t
      from zero e total h et = let a = count_le (λ j. ltb (time j) e) (size t) in omega arith
      from (suc m) e total h et = let r = from m (suc e) (total + at xs e) (omega arith) (step e total (omega arith) et) in omega arith

  module _ {least : ℕ} (E : Earliest t q hi s least) where
    -- they say that [s, e] is tight
    listed_is : (e : ℕ) → s ≤ e → e ≤ hi → (ltb 0 (at xs e) and leb least e) ≡ tight t q s e
    unfolding at
    listed_is e o h = same_truth (ltb 0 (get_or xs e 0) and leb least e) (tight t q s e) to back
      where
        at_e : get_or xs e 0 ≡ count (λ j. eqb (time j) e) (size t)
        at_e = T.each e (omega arith)

        to : (ltb 0 (get_or xs e 0) and leb least e) ≡ true → tight t q s e ≡ true
        to y =
            let a = ltb-true 0 (get_or xs e 0) (and_l (ltb 0 (get_or xs e 0)) (leb least e) y) in
            let b = leb-true least e (and_r (ltb 0 (get_or xs e 0)) (leb least e) y) in
            let w = count_some (λ j. eqb (time j) e) (size t) (let g = at_e in omega arith) in
            ⊎_elim (λ n. absurd (omega arith))
            (λ r. times_tight t q hi (omega arith) s e o h
            (record {
              first = r.row;
              first_day_is = r.dated;
              first_time = let g = r.time_is in omega arith;
              last = w.it;
              last_time = eqb-true (time w.it) e w.has;
            }))
            E.reached

        back : tight t q s e ≡ true → (ltb 0 (get_or xs e 0) and leb least e) ≡ true
        back y =
            let w = tight_times t q hi (omega arith) s e o h y in
            let g = at_e in
            let l = E.lower w.first w.first_day_is in
            let k = w.first_time in
            let z = count_pos (λ j. eqb (time j) e) (size t) w.last (inside w.last w.last_time) (eq-eqb (time w.last) e w.last_time) in
            and_i (lt-ltb 0 (get_or xs e 0) (omega arith)) (le-leb least e (omega arith))
          where
            inside : (j : ℕ) → time j ≡ e → j < size t
            inside j i =
                ⊎_elim (λ y. let k = row_past t q hi s j (leb-true (size t) j y) in absurd (omega arith)) (λ y. leb-false (size t) j y)
                (true_or_false (leb (size t) j))

    abbrev test : Window → Bool
    test w = tight t q w.start w.end

    abbrev window : ℕ → Window
    window e = record { start = s; end = e }

    map_kept : (b : Bool) (w : Window) (ws : List Window) → map (entry_of t q) (cons_if b w ws) ≡ cons_if b (entry_of t q w) (map (entry_of t q) ws)
    unfolding cons_if
    map_kept true w ws = refl
    map_kept false w ws = refl

    entry_is : (e total : ℕ)
        → s ≤ e
        → e ≤ hi
        → total ≡ count (λ j. ltb (time j) e) (size t)
        → record { start = s; end = e; rows = total + at xs e } ≡ entry_of t q (window e)
    unfolding entry_of
    entry_is e total o h et =
        let r : total + at xs e ≡ members (ring t q s e) =
        step e total h et ∙ (by_suc time e (size t) ∙ sym (ring_size t q hi s (omega arith) e o h)) in
        λ i. record { start = s; end = e; rows = r i }

    entries_from : (m e total : ℕ)
        → e + m ≡ suc hi
        → s ≤ e
        → total ≡ count (λ j. ltb (time j) e) (size t)
        → count_entries xs least s e total m ≡ map (entry_of t q) (filter_by test (tabulate window e m))
    unfolding count_entries filter_by tabulate
    entries_from zero e total h o et = refl
    entries_from (suc m) e total h o et =
        ap (λ (b : Bool). cons_if b (record { start = s; end = e; rows = total + at xs e }) (count_entries xs least s (suc e) (total + at xs e) m))
        (listed_is e o (omega arith))
        ∙ (ap (λ (x : ListedRing). cons_if (tight t q s e) x (count_entries xs least s (suc e) (total + at xs e) m)) (entry_is e total o (omega arith) et)
        ∙ (ap (cons_if (tight t q s e) (entry_of t q (window e)))
        (entries_from m (suc e) (total + at xs e) (omega arith) (omega arith) (step e total (omega arith) et))
        ∙ sym (map_kept (tight t q s e) (window e) (filter_by test (tabulate window (suc e) m)))))

    pub entries_are : s ≤ hi → count_entries xs least s s 0 (hi + 1 - s) ≡ start_entries t q hi s
    unfolding start_entries windows_from
    entries_are o =
        let m_is : hi + 1 - s ≡ suc hi - s = omega arith in
        ap (count_entries xs least s s 0) m_is ∙ entries_from (suc hi - s) s 0 (omega arith) (le_refl s) (none_before o)
