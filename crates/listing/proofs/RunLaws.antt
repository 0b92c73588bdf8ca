-- The windows behind a ring, start by start. For one start the ends fall into runs with one ring each: from one core
-- time of a row to the next.
--     showing_at t q hi s m     of the windows that start on s, the number of those whose ring is m
--     filter_by_none            a list of which nothing passes, filtered
--     starts_next, passing_next     what is listed start by start: the first start, then the later ones
--     showing_next             the windows that show a row set are those of the first start and those of the later starts
--     counted_time, time_counted    a day is counted if and only if it is the core time of a row
--     run_length, run_ring     as many ends show the ring of a run as the run is long; it is not empty
--     same_ring, same_counts, same_showing     before the least core time of the rows dated s, the start s + 1 has the
--                              rings and the counts of s; so it has as many windows of a ring where that time is past hi
--     fresh                    from that time on, no start up to s shows the ring of a run of s + 1
--     last_start               and no start after s shows a ring of s
--     showing_most, longest_small     no row set is shown by more windows than there are: 524,800 at most
-- Assumes nothing.
use Prim.Native.Nat.{ℕ, zero, suc, ◌+◌, ◌-◌, min, ◌≤◌, ◌<◌, zero-le}
use native.Mathlib.Nat.{le_refl, le_trans, eq-or-lt_of_le, mul-le-mul, div-le_of_le-mul}
use native.Mathlib.Numerals.{add-one}
use native.Mathlib.Omega.{arith}
use mathlib.Core.Path.{◌≡◌, refl, sym, ◌∙◌, ap, subst}
use mathlib.Core.Logic.{⊎_elim}
use mathlib.Core.Bool.{Bool, true, false}
use mathlib.Core.List.Memᴰ.{head as here}
use mathlib.Core.List.Memᴰ.{tail as there}
use mathlib.Core.List.{List, [], ◌∷◌, ◌++◌, map, Memᴰ as Mem, flatten}
use lib.ListN.{length, get_or}
use lib.Dec.{leb, ltb, eqb}
use borrow.Author.Tests.{ltb-true, ltb-false, leb-true, leb-false, eqb-true, eq-eqb}
use Rattle.rings.specs.Words.{marked, count, tabulate, filter_by}
use Rattle.rings.specs.Table.{Table, size, day_of, window_rows}
use Rattle.rings.specs.Ring.{Within, ring, in_ring}
use Rattle.rings.specs.CoreTimes.{never, row_time}
use Rattle.rings.specs.Windows.{Window, windows_from, windows}
use Rattle.rings.specs.Starts.{CountsAt, Earliest}
use Rattle.rings.specs.declared.Query.{Query}
use Rattle.rings.proofs.WordLaws.{true_or_false, clash, same_truth, count_same, count_none, count_pos, count_some, same_marks}
use Rattle.rings.proofs.ListLaws.{filter_by_yes, filter_by_no, map_mem}
use Rattle.rings.proofs.RingLaws.{window_i, ring_sized, ring_good, ring_holds, in_marked, marked_in, in_window_lem, in_grows}
use Rattle.rings.proofs.CoreTimeLaws.{row_reach_i, row_reach_e, row_past, row_later}
use Rattle.rings.proofs.RangeLaws.{windows_e}
use Rattle.listing.specs.Tight.{nonempty}
use Rattle.listing.specs.Distinct.{same_rows, rings_of}
use Rattle.listing.specs.LongestList.{longest, days_of}
use Rattle.listing.specs.WindowCounts.{showing}
use Rattle.listing.specs.Inner.{FirstCounted}
use Rattle.listing.proofs.TightLaws.{nonempty_e, nonempty_i}
use Rattle.listing.proofs.DistinctLaws.{same_rows_e, same_rows_i}
use Rattle.listing.proofs.CountLaws.{passing_most}
use Rattle.listing.proofs.StartLaws.{one_more, no_more}

-- before s no window ends: its ring has no row
unfoldable pub showing_at : Table → Query → ℕ → ℕ → List Bool → ℕ
showing_at t q hi s m = count (λ e. same_rows m (ring t q s e)) (suc hi)

-- ---- counts

-- of the numbers below n exactly those from a on below b pass
count_between : (p : ℕ → Bool) (a b n : ℕ)
    → ((i : ℕ) → i < n → p i ≡ true → (a ≤ i) × (i < b))
    → ((i : ℕ) → i < n → a ≤ i → i < b → p i ≡ true)
    → count p n ≡ min b n - a
count_between p a b zero to back = count_none p 0 (λ i l. absurd (omega arith)) ∙ omega arith
count_between p a b (suc n) to back =
    let h : count p n ≡ min b n - a = count_between p a b n (λ i l. to i (omega arith)) (λ i l. back i (omega arith)) in
    ⊎_elim (λ y. let x = to n (omega arith) y in let u = x.0 in let v = x.1 in let z = one_more p n y in omega arith)
    (λ y. let z = no_more p n y in
    ⊎_elim (λ u. ⊎_elim (λ v. clash (back n (omega arith) (leb-true a n u) (ltb-true n b v)) y) (λ v. let w = ltb-false n b v in omega arith)
    (true_or_false (ltb n b)))
    (λ u. let w = leb-false a n u in omega arith) (true_or_false (leb a n)))
    (true_or_false (p n))

pub filter_by_none : {A : Type 0} (p : A → Bool) (xs : List A) → ((x : A) → Mem x xs → p x ≡ false) → length (filter_by p xs) ≡ 0
unfolding filter_by
filter_by_none p [] h = refl
filter_by_none p (x ∷ xs) h = ap length (filter_by_no p x xs (h x (here refl))) ∙ filter_by_none p xs (λ y m. h y (there m))

-- a list in two parts, tested part by part
passing_append : {A B : Type 0} (p : B → Bool) (f : A → B) (xs ys : List A)
    → length (filter_by p (map f (xs ++ ys))) ≡ length (filter_by p (map f xs)) + length (filter_by p (map f ys))
unfolding filter_by
passing_append p f [] ys = omega arith
passing_append p f (x ∷ xs) ys =
    let h : length (filter_by p (map f (xs ++ ys))) ≡ length (filter_by p (map f xs)) + length (filter_by p (map f ys)) = passing_append p f xs ys in
    ⊎_elim
    (λ y. ap length (filter_by_yes p (f x) (map f (xs ++ ys)) y)
    ∙ (let a : length (filter_by p (map f (x ∷ xs))) ≡ suc (length (filter_by p (map f xs))) = ap length (filter_by_yes p (f x) (map f xs) y) in omega arith))
    (λ y. ap length (filter_by_no p (f x) (map f (xs ++ ys)) y)
    ∙ (let a : length (filter_by p (map f (x ∷ xs))) ≡ length (filter_by p (map f xs)) = ap length (filter_by_no p (f x) (map f xs) y) in omega arith))
    (true_or_false (p (f x)))

-- ---- the windows of a range

pub starts_next : {A : Type 0} (f : ℕ → List A) (hi s : ℕ) → s ≤ hi
    → flatten (tabulate f s (suc hi - s)) ≡ f s ++ flatten (tabulate f (s + 1) (suc hi - (s + 1)))
unfolding flatten tabulate
starts_next f hi s h =
    let m : suc hi - s ≡ suc (suc hi - (s + 1)) = omega arith in
    ap (λ (n : ℕ). flatten (tabulate f s n)) m ∙ ap (λ (i : ℕ). f s ++ flatten (tabulate f i (suc hi - (s + 1)))) (sym (add-one s))

windows_next : (hi s : ℕ) → s ≤ hi → windows s hi ≡ windows_from hi s ++ windows (s + 1) hi
unfolding windows
windows_next hi s h = starts_next (windows_from hi) hi s h

-- with days from 1 to 1,024
pub longest_small : (lo hi : ℕ) → 1 ≤ lo → hi ≤ 1024 → longest (days_of lo hi) ≤ 524800
unfolding longest days_of
longest_small lo hi l h = div-le_of_le-mul 2 (mul-le-mul {n₂ = 1024} {m₂ = 1025} (omega arith) (omega arith))

module _ (t : Table) (q : Query) where
  abbrev ring_of : Window → List Bool
  ring_of w = ring t q w.start w.end

  -- the windows whose rings pass a test
  pub passing_next : (p : List Bool → Bool) (hi s : ℕ) → s ≤ hi
      → length (filter_by p (rings_of t q s hi)) ≡ length (filter_by p (map ring_of (windows_from hi s))) + length (filter_by p (rings_of t q (s + 1) hi))
  unfolding rings_of
  passing_next p hi s h =
      ap (λ (ws : List Window). length (filter_by p (map ring_of ws))) (windows_next hi s h)
      ∙ passing_append p ring_of (windows_from hi s) (windows (s + 1) hi)

  module _ (s : ℕ) (m : List Bool) where
    abbrev shows : ℕ → Bool
    shows e = same_rows m (ring t q s e)

    abbrev window : ℕ → Window
    window e = record { start = s; end = e }

    abbrev among : List Window → ℕ
    among ws = length (filter_by (same_rows m) (map ring_of ws))

    -- the windows of the start s with n ends from i on
    ends_counted : (n i : ℕ) → among (tabulate window i n) + count shows i ≡ count shows (i + n)
    unfolding tabulate filter_by
    ends_counted zero i = let a : count shows (i + 0) ≡ count shows i = ap (count shows) (omega arith) in omega arith
    ends_counted (suc n) i =
        let h : among (tabulate window (suc i) n) + count shows (suc i) ≡ count shows (suc i + n) = ends_counted n (suc i) in
        let z : count shows (i + suc n) ≡ count shows (suc i + n) = ap (count shows) (omega arith) in
        ⊎_elim
        (λ y. let a : among (tabulate window i (suc n)) ≡ suc (among (tabulate window (suc i) n)) =
        ap length (filter_by_yes (same_rows m) (ring t q s i) (map ring_of (tabulate window (suc i) n)) y) in
        let b = one_more shows i y in omega arith)
        (λ y. let a : among (tabulate window i (suc n)) ≡ among (tabulate window (suc i) n) =
        ap length (filter_by_no (same_rows m) (ring t q s i) (map ring_of (tabulate window (suc i) n)) y) in
        let b = no_more shows i y in omega arith)
        (true_or_false (shows i))

    -- before s no window ends
    none_sooner : nonempty m ≡ true → count shows s ≡ 0
    none_sooner k =
        count_none shows s
        (λ e l. ⊎_elim (λ y. let w = nonempty_e t q s e (subst (λ (x : List Bool). nonempty x ≡ true) (same_rows_e m (ring t q s e) y) k) in
        let i = in_window_lem t q s e w.0 w.1 in
        let f = i.from in let g = i.to in absurd (omega arith))
        (λ y. y) (true_or_false (shows e)))

  pub showing_next : (hi s : ℕ) (m : List Bool) → s ≤ hi → nonempty m ≡ true
      → showing t q s hi m ≡ showing_at t q hi s m + showing t q (s + 1) hi m
  unfolding showing showing_at windows_from
  showing_next hi s m o k =
      let a : among s m (windows_from hi s) + count (shows s m) s ≡ count (shows s m) (s + (suc hi - s)) = ends_counted s m (suc hi - s) s in
      let b : count (shows s m) s ≡ 0 = none_sooner s m k in
      let c : count (shows s m) (s + (suc hi - s)) ≡ count (shows s m) (suc hi) = ap (count (shows s m)) (omega arith) in
      let d : showing t q s hi m ≡ among s m (windows_from hi s) + showing t q (s + 1) hi m = passing_next (same_rows m) hi s o in
      omega arith

  pub showing_most : (lo hi : ℕ) (m : List Bool) → showing t q lo hi m ≤ longest (days_of lo hi)
  unfolding showing
  showing_most lo hi m = passing_most t q lo hi (same_rows m)

-- ---- the runs of a start

module _ (t : Table) (q : Query) (hi : ℕ) (top : hi ≤ 1024) where
  fits : hi < never
  fits = omega arith

  -- windows whose rings have the same rows have one ring
  one_ring : (s e s' e' : ℕ)
      → ((j : ℕ) → in_ring t q s e j ≡ true → in_ring t q s' e' j ≡ true)
      → ((j : ℕ) → in_ring t q s' e' j ≡ true → in_ring t q s e j ≡ true)
      → ring t q s e ≡ ring t q s' e'
  one_ring s e s' e' f g =
      same_marks (ring t q s e) (ring t q s' e') (ring_sized t q s e ∙ sym (ring_sized t q s' e'))
      (λ j h. marked_in t q s' e' j (f j (in_marked t q s e j h))) (λ j h. marked_in t q s e j (g j (in_marked t q s' e' j h)))

  in_same : (s e s' e' : ℕ) → ring t q s e ≡ ring t q s' e' → (j : ℕ) → in_ring t q s e j ≡ true → in_ring t q s' e' j ≡ true
  in_same s e s' e' r j h = in_marked t q s' e' j (subst (λ (m : List Bool). marked m j ≡ true) r (marked_in t q s e j h))

  -- the core time of a row of a ring
  in_time : (s e j : ℕ) → e ≤ hi → in_ring t q s e j ≡ true → row_time t q hi s j ≤ e
  in_time s e j h y = row_reach_i t q hi s j e (let i = in_window_lem t q s e j y in le_trans i.from i.to) h y

  time_in : (s e j : ℕ) → e ≤ hi → row_time t q hi s j ≤ e → in_ring t q s e j ≡ true
  time_in s e j h y = row_reach_e t q hi s fits j e h y

  module _ {s : ℕ} {xs : List ℕ} (T : CountsAt t q hi s xs) where
    -- a day is counted if and only if it is the core time of a row
    pub counted_time : {e : ℕ} → e ≤ hi → (get_or xs e 0 ≡ 0 → ⊥) → (j : ℕ) × (row_time t q hi s j ≡ e)
    counted_time {e} h c =
        let a = T.each e (omega arith) in
        let w = count_some (λ j. eqb (row_time t q hi s j) e) (size t) (⊎_elim (λ y. absurd (c (a ∙ sym y))) (λ y. y) (eq-or-lt_of_le zero-le)) in
        (w.it, eqb-true (row_time t q hi s w.it) e w.has)

    pub time_counted : (j : ℕ) → row_time t q hi s j < 1025 → get_or xs (row_time t q hi s j) 0 ≡ 0 → ⊥
    time_counted j l z =
        ⊎_elim (λ y. let n = row_past t q hi s j (leb-true (size t) j y) in omega arith)
        (λ y. let a = T.each (row_time t q hi s j) l in
        let c =
        count_pos (λ i. eqb (row_time t q hi s i) (row_time t q hi s j)) (size t) j (leb-false (size t) j y)
        (eq-eqb (row_time t q hi s j) (row_time t q hi s j) refl) in
        omega arith)
        (true_or_false (leb (size t) j))

    module _ {e : ℕ} (h : e ≤ hi) (c : get_or xs e 0 ≡ 0 → ⊥) where
      -- the row whose core time begins the run
      opener : ℕ
      opener = (counted_time h c).0

      opener_time : row_time t q hi s opener ≡ e
      unfolding opener
      opener_time = (counted_time h c).1

      opener_in : in_ring t q s e opener ≡ true
      opener_in = time_in s e opener h (let a = opener_time in omega arith)

      pub not_before : s ≤ e
      not_before = let i = in_window_lem t q s e opener opener_in in le_trans i.from i.to

      pub run_ring : nonempty (ring t q s e) ≡ true
      run_ring = nonempty_i t q s e opener opener_in

      pub run_length : {next : ℕ} → FirstCounted xs (e + 1) hi next → showing_at t q hi s (ring t q s e) ≡ next - e
      unfolding showing_at
      run_length {next} F =
          count_between (λ e'. same_rows (ring t q s e) (ring t q s e')) e next (suc hi) to back ∙ (let a = F.to in omega arith)
        where
          to : (e' : ℕ) → e' < suc hi → same_rows (ring t q s e) (ring t q s e') ≡ true → (e ≤ e') × (e' < next)
          to e' l y =
              let r = same_rows_e (ring t q s e) (ring t q s e') y in
              let a : row_time t q hi s opener ≤ e' = in_time s e' opener (omega arith) (in_same s e s e' r opener opener_in) in
              let b = opener_time in (
                omega arith,
                ⊎_elim (λ v. ltb-true e' next v)
                    (λ v.
                    let g = ltb-false e' next v in
                    let o = F.before.order in
                    let w = counted_time (omega arith) (F.counted (omega arith)) in
                    let x = w.1 in
                    let z = in_time s e w.0 h (in_same s e' s e (sym r) w.0 (time_in s e' w.0 (omega arith) (omega arith))) in
                    absurd (omega arith))
                    (true_or_false (ltb e' next)),
              )

          back : (e' : ℕ) → e' < suc hi → e ≤ e' → e' < next → same_rows (ring t q s e) (ring t q s e') ≡ true
          back e' l a b =
              subst (λ (m : List Bool). same_rows (ring t q s e) m ≡ true)
              (one_ring s e s e' (λ j y. in_grows t q j (le_refl s) a y)
              (λ j y.
              let x : row_time t q hi s j ≤ e' = in_time s e' j (omega arith) y in
              ⊎_elim (λ v. time_in s e j h (leb-true (row_time t q hi s j) e v))
              (λ v. let g = leb-false (row_time t q hi s j) e v in
              absurd (time_counted j (omega arith) (F.before.none (row_time t q hi s j) (omega arith) (omega arith))))
              (true_or_false (leb (row_time t q hi s j) e))))
              (same_rows_i (ring t q s e))

  -- ---- from a start to the next

  module _ {s least : ℕ} (E : Earliest t q hi s least) where
    -- the ring of [s, e] has no row dated s
    pub same_ring : {e : ℕ} → e ≤ hi → e < least → ring t q s e ≡ ring t q (s + 1) e
    same_ring {e} h l =
        one_ring s e (s + 1) e
        (λ j y. in_marked t q (s + 1) e j
        ((ring_holds t q (s + 1) e (ring t q s e) (record { all = λ i m. later i (in_marked t q s e i m) }) (ring_good t q s e)).all j (marked_in t q s e j y)))
        (λ j y. in_grows t q j (omega arith) (le_refl e) y)
      where
        later : (j : ℕ) → in_ring t q s e j ≡ true → marked (window_rows t (s + 1) e) j ≡ true
        later j y =
            let i = in_window_lem t q s e j y in
            let a : row_time t q hi s j ≤ e = in_time s e j h y in
            window_i t (s + 1) e j
            (record {
              row = i.row;
              from = ⊎_elim (λ d. let b = E.lower j (sym d) in absurd (omega arith)) (λ d. omega arith) (eq-or-lt_of_le i.from);
              to = i.to;
            })

    -- so a core time before least is the next start's too
    time_kept : (j : ℕ) → row_time t q hi s j ≤ hi → row_time t q hi s j < least → row_time t q hi (s + 1) j ≡ row_time t q hi s j
    time_kept j h l =
        let x = row_time t q hi s j in
        let a = row_later t q hi fits {s = s} {s' = s + 1} (omega arith) j in
        let b : row_time t q hi (s + 1) j ≤ row_time t q hi s j =
        in_time (s + 1) x j h (in_same s x (s + 1) x (same_ring h l) j (time_in s x j h (le_refl (row_time t q hi s j)))) in
        omega arith

    pub same_counts : {xs xs' : List ℕ} → CountsAt t q hi s xs → CountsAt t q hi (s + 1) xs' → {e : ℕ} → e ≤ hi → e < least
        → get_or xs e 0 ≡ get_or xs' e 0
    same_counts T T' {e} h l =
        T.each e (omega arith)
        ∙ (count_same (λ j. eqb (row_time t q hi s j) e) (λ j. eqb (row_time t q hi (s + 1) j) e) (size t)
        (λ j o. same_truth (eqb (row_time t q hi s j) e) (eqb (row_time t q hi (s + 1) j) e)
        (λ y. let a = eqb-true (row_time t q hi s j) e y in
        let b = time_kept j (omega arith) (omega arith) in
        eq-eqb (row_time t q hi (s + 1) j) e (omega arith))
        (λ y. let a = eqb-true (row_time t q hi (s + 1) j) e y in
        let c = row_later t q hi fits {s = s} {s' = s + 1} (omega arith) j in
        let b = time_kept j (omega arith) (omega arith) in
        eq-eqb (row_time t q hi s j) e (omega arith)))
        ∙ sym (T'.each e (omega arith)))

    -- no row dated s has a core time
    pub same_showing : hi < least → (m : List Bool) → showing_at t q hi s m ≡ showing_at t q hi (s + 1) m
    unfolding showing_at
    same_showing l m =
        count_same (λ e. same_rows m (ring t q s e)) (λ e. same_rows m (ring t q (s + 1) e)) (suc hi)
        (λ e o. ap (same_rows m) (same_ring (omega arith) (omega arith)))

    -- a row dated s that is in the ring of [s, e]
    dated_row : {e : ℕ} → e ≤ hi → least ≤ e → (j : ℕ) × (day_of t j ≡ s) × (in_ring t q s e j ≡ true)
    dated_row {e} h l =
        ⊎_elim (λ n. absurd (omega arith)) (λ r. (r.row, r.dated, time_in s e r.row h (let a = r.time_is in omega arith))) E.reached

    -- no later start has that row
    pub last_start : {e : ℕ} → e ≤ hi → least ≤ e → showing t q (s + 1) hi (ring t q s e) ≡ 0
    unfolding showing rings_of
    last_start {e} h l =
        filter_by_none (same_rows (ring t q s e)) (map (ring_of t q) (windows (s + 1) hi))
        (λ m k.
        let w = map_mem (ring_of t q) (windows (s + 1) hi) k in
        let o = (windows_e (s + 1) hi w.it w.member).from in
        let d = dated_row h l in
        let f = d.1 in
        let s' = w.it.start in
        let e' = w.it.end in
        ⊎_elim (λ y. let i = (in_window_lem t q s' e' d.0 (in_same s e s' e' (same_rows_e (ring t q s e) m y ∙ w.is) d.0 d.2)).from in
        absurd (omega arith))
        (λ y. y) (true_or_false (same_rows (ring t q s e) m)))

    module _ {xs : List ℕ} (T : CountsAt t q hi (s + 1) xs) {e : ℕ} (h : e ≤ hi) (l : least ≤ e) (c : get_or xs e 0 ≡ 0 → ⊥) where
      -- no window [s', e'] from a start up to s has the ring of [s + 1, e]: it has a row dated s, or none dated e
      none_other : (s' e' : ℕ) → s' ≤ s → e' ≤ hi → ring t q (s + 1) e ≡ ring t q s' e' → ⊥
      none_other s' e' f g r =
          ⊎_elim (λ y.
          let d = dated_row h l in
          let b = d.1 in
          let i = (in_window_lem t q (s + 1) e d.0 (in_same s' e' (s + 1) e (sym r) d.0 (in_grows t q d.0 f (leb-true e e' y) d.2))).from in
          omega arith)
          (λ y.
          let k = leb-false e e' y in
          let within : Within (ring t q (s + 1) e) (window_rows t (s + 1) e') =
          record {
            all =
                λ j m. let v = in_marked t q (s + 1) e j m in
                let i = in_window_lem t q (s + 1) e j v in
                window_i t (s + 1) e' j (record { row = i.row; from = i.from; to = (in_window_lem t q s' e' j (in_same (s + 1) e s' e' r j v)).to });
          } in
          let j = opener T h c in
          let a : row_time t q hi (s + 1) j ≤ e' =
          in_time (s + 1) e' j g
          (in_marked t q (s + 1) e' j
          ((ring_holds t q (s + 1) e' (ring t q (s + 1) e) within (ring_good t q (s + 1) e)).all j (marked_in t q (s + 1) e j (opener_in T h c)))) in
          let b = opener_time T h c in
          omega arith)
          (true_or_false (leb e e'))

      none_at : (s' : ℕ) → s' ≤ s → showing_at t q hi s' (ring t q (s + 1) e) ≡ 0
      unfolding showing_at
      none_at s' f =
          count_none (λ e'. same_rows (ring t q (s + 1) e) (ring t q s' e')) (suc hi)
          (λ e' g. ⊎_elim (λ y. absurd (none_other s' e' f (omega arith) (same_rows_e (ring t q (s + 1) e) (ring t q s' e') y)))
          (λ y. y) (true_or_false (same_rows (ring t q (s + 1) e) (ring t q s' e'))))

      pub fresh : (lo : ℕ) → lo ≤ s → showing t q lo hi (ring t q (s + 1) e) ≡ showing t q (s + 1) hi (ring t q (s + 1) e)
      fresh lo f = from (s + 1 - lo) lo (omega arith)
        where
          from : (n i : ℕ) → i + n ≡ s + 1 → showing t q i hi (ring t q (s + 1) e) ≡ showing t q (s + 1) hi (ring t q (s + 1) e)
          from zero i p = ap (λ (a : ℕ). showing t q a hi (ring t q (s + 1) e)) (omega arith)
          from (suc n) i p =
              let o = not_before T h c in
              let a = showing_next t q hi i (ring t q (s + 1) e) (omega arith) (run_ring T h c) in
              let b = none_at i (omega arith) in
              let d : showing t q (i + 1) hi (ring t q (s + 1) e) ≡ showing t q (s + 1) hi (ring t q (s + 1) e) = from n (i + 1) (omega arith) in
              omega arith
