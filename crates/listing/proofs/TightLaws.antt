-- Tightest windows.
--     tight_e, tight_i         [s, e] is tight exactly if its ring has a row dated s and a row dated e
--     tight_times, times_tight [s, e] is tight exactly if some row dated s has a core time of at most e and some row has the core time e
--     tightest_ring            the tightest window of a ring lies inside the window, is tight, and has that ring
--     nonempty_e, nonempty_i   a ring is not empty exactly if it has a row
--     tight_one                two tight windows with one ring are one
-- Assumes nothing.
use Prim.Native.Nat.{ℕ, pred, min, max, ◌≤◌, ◌<◌}
use native.Mathlib.Nat.{le_trans, le_antisymm, eq-or-lt_of_le}
use native.Mathlib.Omega.{arith}
use mathlib.Core.Path.{◌≡◌, refl, sym, ◌∙◌, ap, subst}
use mathlib.Core.Logic.{◌⊎◌, ⊎_elim}
use mathlib.Core.Bool.{Bool, true, false}
use mathlib.Core.List.Memᴰ.{head as here}
use mathlib.Core.List.Memᴰ.{tail as there}
use mathlib.Core.List.{List, [], ◌∷◌, Memᴰ as Mem}
use mathlib.Core.List.Memᴰ.{cases_cons}
use mathlib.Core.List.Memᴰ.{cast as mem-cast}
use mathlib.Core.List.Memᴰ.{not-nil}
use lib.ListN.{length}
use lib.Dec.{leb, eqb}
use borrow.Author.Tests.{leb-true, leb-false, eqb-true, eq-eqb}
use Rattle.rings.specs.Words.{◌and◌, marked, some, tabulate, filter_by}
use Rattle.rings.specs.Table.{Table, size, day_of, window_rows}
use Rattle.rings.specs.Ring.{Within, greatest, ring, in_ring}
use Rattle.rings.specs.CoreTimes.{never, row_time}
use Rattle.rings.specs.declared.Query.{Query}
use Rattle.rings.proofs.WordLaws.{true_or_false, clash, and_i, and_l, and_r, some_i, some_e, some_none, marked_below, same_marks}
use Rattle.rings.proofs.ListLaws.{mem_tabulate, tabulate_mem, mem_filter_by, filter_by_mem, mem_map, map_mem}
use Rattle.rings.proofs.RingLaws.{Inside, window_i, ring_sized, ring_good, ring_holds, in_marked, marked_in, in_window_lem, ring_grows}
use Rattle.rings.proofs.CoreTimeLaws.{row_reach_i, row_reach_e, row_day}
use Rattle.listing.specs.Tight.{member_days, lowest, first_day, last_day, nonempty, tightest, tight}

-- ---- the least and the greatest of a list

lowest_le : (xs : List ℕ) {d : ℕ} → Mem d xs → lowest xs ≤ d
unfolding lowest
lowest_le [] m = absurd (not-nil m)
lowest_le (x ∷ xs) m = ⊎_elim (λ e. omega arith) (λ r. let l = lowest_le xs r in omega arith) (cases_cons m)

le_lowest : (xs : List ℕ) (s : ℕ) → s ≤ never → ((d : ℕ) → Mem d xs → s ≤ d) → s ≤ lowest xs
unfolding lowest
le_lowest [] s h f = h
le_lowest (x ∷ xs) s h f = let a : s ≤ x = f x (here refl) in let b : s ≤ lowest xs = le_lowest xs s h (λ d m. f d (there m)) in omega arith

lowest_mem : (xs : List ℕ) → lowest xs < never → Mem (lowest xs) xs
unfolding lowest
lowest_mem [] h = absurd (omega arith)
lowest_mem (x ∷ xs) h = ⊎_elim (λ e. here e) (λ e. there (mem-cast e (lowest_mem xs (omega arith)))) which
  where
    which : (min x (lowest xs) ≡ x) ⊎ (min x (lowest xs) ≡ lowest xs)
    which =
        ⊎_elim (λ l. ◌⊎◌.inl (let l' = leb-true x (lowest xs) l in omega arith))
        (λ l. ◌⊎◌.inr (let l' = leb-false x (lowest xs) l in omega arith)) (true_or_false (leb x (lowest xs)))

le_greatest : (xs : List ℕ) {d : ℕ} → Mem d xs → d ≤ greatest xs
unfolding greatest
le_greatest [] m = absurd (not-nil m)
le_greatest (x ∷ xs) m = ⊎_elim (λ e. omega arith) (λ r. let l = le_greatest xs r in omega arith) (cases_cons m)

greatest_le : (xs : List ℕ) (e : ℕ) → ((d : ℕ) → Mem d xs → d ≤ e) → greatest xs ≤ e
unfolding greatest
greatest_le [] e f = omega arith
greatest_le (x ∷ xs) e f = let a : x ≤ e = f x (here refl) in let b : greatest xs ≤ e = greatest_le xs e (λ d m. f d (there m)) in omega arith

greatest_mem : (x : ℕ) (xs : List ℕ) → Mem (greatest (x ∷ xs)) (x ∷ xs)
unfolding greatest
greatest_mem x [] = let e : max x 0 ≡ x = omega arith in here e
greatest_mem x (y ∷ ys) = ⊎_elim (λ e. here e) (λ e. there (mem-cast e (greatest_mem y ys))) which
  where
    which : (max x (greatest (y ∷ ys)) ≡ x) ⊎ (max x (greatest (y ∷ ys)) ≡ greatest (y ∷ ys))
    which =
        ⊎_elim (λ l. ◌⊎◌.inr (let l' = leb-true x (greatest (y ∷ ys)) l in omega arith))
        (λ l. ◌⊎◌.inl (let l' = leb-false x (greatest (y ∷ ys)) l in omega arith)) (true_or_false (leb x (greatest (y ∷ ys))))

-- ---- the days of a row set

pub record DayRow (t : Table) (m : List Bool) (d : ℕ) : Type 0 where
  pub row : ℕ
  pub below : row < size t
  pub has : marked m row ≡ true
  pub is : d ≡ day_of t row

days_e : (t : Table) (m : List Bool) {d : ℕ} → Mem d (member_days t m) → DayRow t m d
unfolding member_days
days_e t m h =
    let a = map_mem (day_of t) (filter_by (marked m) (tabulate (λ j. j) 0 (size t))) h in
    let b = filter_by_mem (marked m) (tabulate (λ j. j) 0 (size t)) a.member in
    let c = tabulate_mem (λ j. j) 0 (size t) b.0 in
    let l = c.below in let e = c.is in
    record { row = a.it; below = omega arith; has = b.1; is = a.is }

days_i : (t : Table) (m : List Bool) (j : ℕ) → j < size t → marked m j ≡ true → Mem (day_of t j) (member_days t m)
unfolding member_days
days_i t m j l h =
    mem_map (day_of t) (filter_by (marked m) (tabulate (λ j. j) 0 (size t)))
    (mem_filter_by (marked m) (tabulate (λ j. j) 0 (size t)) (mem_tabulate (λ j. j) 0 (size t) j (omega arith) (omega arith)) h)

-- a set with a row has a first and a last day
first_day_lem : (t : Table) (m : List Bool) → first_day t m < never → DayRow t m (first_day t m)
unfolding first_day
first_day_lem t m h = days_e t m (lowest_mem (member_days t m) h)

last_day_lem : (t : Table) (m : List Bool) (j : ℕ) → j < size t → marked m j ≡ true → DayRow t m (last_day t m)
unfolding last_day
last_day_lem t m j l h = go (member_days t m) (days_i t m j l h) (λ d n. days_e t m n)
  where
    go : (xs : List ℕ) → Mem (day_of t j) xs → ((d : ℕ) → Mem d xs → DayRow t m d) → DayRow t m (greatest xs)
    go [] n f = absurd (not-nil n)
    go (x ∷ xs) n f = f (greatest (x ∷ xs)) (greatest_mem x xs)

first_le : (t : Table) (m : List Bool) (j : ℕ) → j < size t → marked m j ≡ true → first_day t m ≤ day_of t j
unfolding first_day
first_le t m j l h = lowest_le (member_days t m) (days_i t m j l h)

le_last : (t : Table) (m : List Bool) (j : ℕ) → j < size t → marked m j ≡ true → day_of t j ≤ last_day t m
unfolding last_day
le_last t m j l h = le_greatest (member_days t m) (days_i t m j l h)

module _ (t : Table) (q : Query) where
  -- ---- a tight window by its rows

  pub record DatedRow (s e d : ℕ) : Type 0 where
    pub row : ℕ
    pub is_in_ring : in_ring t q s e row ≡ true
    pub dated : day_of t row ≡ d

  dated : (s e d : ℕ) → DayRow t (ring t q s e) d → DatedRow s e d
  dated s e d w = record { row = w.row; is_in_ring = in_marked t q s e w.row w.has; dated = sym w.is }

  first_is : (s e d : ℕ) → s ≤ never → ((j : ℕ) → in_ring t q s e j ≡ true → d ≤ day_of t j) → d ≤ never → DatedRow s e d → first_day t (ring t q s e) ≡ d
  unfolding first_day
  first_is s e d h f g w =
      le_antisymm
      (subst (λ (x : ℕ). first_day t (ring t q s e) ≤ x) w.dated
      (first_le t (ring t q s e) w.row (in_window_lem t q s e w.row w.is_in_ring).row (marked_in t q s e w.row w.is_in_ring)))
      (le_lowest (member_days t (ring t q s e)) d g
      (λ x m. let y = days_e t (ring t q s e) m in subst (λ (z : ℕ). d ≤ z) (sym y.is) (f y.row (in_marked t q s e y.row y.has))))

  last_is : (s e d : ℕ) → ((j : ℕ) → in_ring t q s e j ≡ true → day_of t j ≤ d) → DatedRow s e d → last_day t (ring t q s e) ≡ d
  unfolding last_day
  last_is s e d f w =
      le_antisymm
      (greatest_le (member_days t (ring t q s e)) d
      (λ x m. let y = days_e t (ring t q s e) m in subst (λ (z : ℕ). z ≤ d) (sym y.is) (f y.row (in_marked t q s e y.row y.has))))
      (subst (λ (x : ℕ). x ≤ last_day t (ring t q s e)) w.dated
      (le_last t (ring t q s e) w.row (in_window_lem t q s e w.row w.is_in_ring).row (marked_in t q s e w.row w.is_in_ring)))

  pub nonempty_e : (s e : ℕ) → nonempty (ring t q s e) ≡ true → (j : ℕ) × (in_ring t q s e j ≡ true)
  unfolding nonempty
  nonempty_e s e h = let w = some_e (marked (ring t q s e)) (length (ring t q s e)) h in (w.it, in_marked t q s e w.it w.has)

  pub nonempty_i : (s e j : ℕ) → in_ring t q s e j ≡ true → nonempty (ring t q s e) ≡ true
  unfolding nonempty
  nonempty_i s e j h = let k = marked_in t q s e j h in some_i (marked (ring t q s e)) (length (ring t q s e)) j (marked_below (ring t q s e) j k) k

  tight_parts : (s e : ℕ) → tight t q s e ≡ true → (nonempty (ring t q s e) ≡ true) × (first_day t (ring t q s e) ≡ s) × (last_day t (ring t q s e) ≡ e)
  unfolding tight tightest
  tight_parts s e h =
      let a = nonempty (ring t q s e) in
      let b = eqb (first_day t (ring t q s e)) s in
      let c = eqb (last_day t (ring t q s e)) e in
      let r = and_r a (b and c) h in
      (and_l a (b and c) h, eqb-true (first_day t (ring t q s e)) s (and_l b c r), eqb-true (last_day t (ring t q s e)) e (and_r b c r))

  pub record Tight (s e : ℕ) : Type 0 where
    pub first : DatedRow s e s
    pub last : DatedRow s e e

  pub tight_e : (s e : ℕ) → s < never → tight t q s e ≡ true → Tight s e
  tight_e s e fits h =
      let p = tight_parts s e h in
      let j = nonempty_e s e p.0 in
      let a = p.1 in
      record {
        first = dated s e s (subst (DayRow t (ring t q s e)) p.1 (first_day_lem t (ring t q s e) (omega arith)));
        last =
            dated s e e
            (subst (DayRow t (ring t q s e)) p.2
            (last_day_lem t (ring t q s e) j.0 (in_window_lem t q s e j.0 j.1).row (marked_in t q s e j.0 j.1)));
      }

  pub tight_i : (s e : ℕ) → s ≤ never → Tight s e → tight t q s e ≡ true
  unfolding tight tightest
  tight_i s e fits w =
      and_i (nonempty_i s e w.first.row w.first.is_in_ring)
      (and_i (eq-eqb (first_day t (ring t q s e)) s (first_is s e s fits (λ j h. (in_window_lem t q s e j h).from) fits w.first))
      (eq-eqb (last_day t (ring t q s e)) e (last_is s e e (λ j h. (in_window_lem t q s e j h).to) w.last)))

  -- ---- the tightest window of a ring

  module _ (s e : ℕ) (fits : e < never) (j : ℕ) (here_row : in_ring t q s e j ≡ true) where
    a : ℕ
    a = first_day t (ring t q s e)

    b : ℕ
    b = last_day t (ring t q s e)

    inside : Inside t s e j
    inside = in_window_lem t q s e j here_row

    a_le : (i : ℕ) → in_ring t q s e i ≡ true → a ≤ day_of t i
    unfolding a
    a_le i h = first_le t (ring t q s e) i (in_window_lem t q s e i h).row (marked_in t q s e i h)

    le_b : (i : ℕ) → in_ring t q s e i ≡ true → day_of t i ≤ b
    unfolding b
    le_b i h = le_last t (ring t q s e) i (in_window_lem t q s e i h).row (marked_in t q s e i h)

    first_row : DatedRow s e a
    unfolding a
    first_row = let l : a ≤ day_of t j = a_le j here_row in let k = inside.to in dated s e a (first_day_lem t (ring t q s e) (omega arith))

    last_row : DatedRow s e b
    unfolding b
    last_row = dated s e b (last_day_lem t (ring t q s e) j inside.row (marked_in t q s e j here_row))

    s_le_a : s ≤ a
    s_le_a = subst (λ (x : ℕ). s ≤ x) first_row.dated (in_window_lem t q s e first_row.row first_row.is_in_ring).from

    b_le_e : b ≤ e
    b_le_e = subst (λ (x : ℕ). x ≤ e) last_row.dated (in_window_lem t q s e last_row.row last_row.is_in_ring).to

    shrunk : Within (ring t q s e) (ring t q a b)
    shrunk =
        ring_holds t q a b (ring t q s e)
        (record {
          all =
              λ i h. let k = in_marked t q s e i h in window_i t a b i (record { row = (in_window_lem t q s e i k).row; from = a_le i k; to = le_b i k });
        })
        (ring_good t q s e)

    same_ring : ring t q a b ≡ ring t q s e
    same_ring = same_marks (ring t q a b) (ring t q s e) (ring_sized t q a b ∙ sym (ring_sized t q s e)) (ring_grows t q s_le_a b_le_e).all shrunk.all

    moved : {d : ℕ} → DatedRow s e d → DatedRow a b d
    moved w = record { row = w.row; is_in_ring = in_marked t q a b w.row (shrunk.all w.row (marked_in t q s e w.row w.is_in_ring)); dated = w.dated }

  pub record Tightest (s e : ℕ) : Type 0 where
    pub start : ℕ
    pub end : ℕ
    pub from : s ≤ start
    pub order : start ≤ end
    pub to : end ≤ e
    pub is_tight : tight t q start end ≡ true
    pub same : ring t q start end ≡ ring t q s e

  -- the tightest window of a ring that has a row
  pub tightest_ring : (s e : ℕ) → e < never → (j : ℕ) → in_ring t q s e j ≡ true → Tightest s e
  tightest_ring s e fits j h =
      let f = a_le s e fits j h j h in
      let l = le_b s e fits j h j h in
      let k = b_le_e s e fits j h in
      record {
        start = a s e fits j h;
        end = b s e fits j h;
        from = s_le_a s e fits j h;
        order = le_trans f l;
        to = k;
        is_tight =
            tight_i (a s e fits j h) (b s e fits j h) (omega arith)
            (record { first = moved s e fits j h (first_row s e fits j h); last = moved s e fits j h (last_row s e fits j h) });
        same = same_ring s e fits j h;
      }

  -- two tight windows with one ring are one
  pub tight_one : (s e s' e' : ℕ) → tight t q s e ≡ true → tight t q s' e' ≡ true → ring t q s e ≡ ring t q s' e' → (s ≡ s') × (e ≡ e')
  tight_one s e s' e' h k r =
      let p = tight_parts s e h in
      let p' = tight_parts s' e' k in
      (sym p.1 ∙ (ap (first_day t) r ∙ p'.1), sym p.2 ∙ (ap (last_day t) r ∙ p'.2))

  -- ---- by core times

  pub record ByTimes (hi s e : ℕ) : Type 0 where
    pub first : ℕ
    pub first_day_is : day_of t first ≡ s
    pub first_time : row_time t q hi s first ≤ e
    pub last : ℕ
    pub last_time : row_time t q hi s last ≡ e

  module _ (hi : ℕ) (fits : hi < never) (s e : ℕ) (o : s ≤ e) (h : e ≤ hi) where
    pub tight_times : tight t q s e ≡ true → ByTimes hi s e
    tight_times k =
        let w = tight_e s e (omega arith) k in
        let j = w.last.row in
        let r : row_time t q hi s j ≤ e = row_reach_i t q hi s j e o h w.last.is_in_ring in
        let d : day_of t j ≤ row_time t q hi s j = row_day t q hi s fits j (le_trans r h) in
        let g = w.last.dated in
        record {
          first = w.first.row;
          first_day_is = w.first.dated;
          first_time = row_reach_i t q hi s w.first.row e o h w.first.is_in_ring;
          last = j;
          last_time = omega arith;
        }

    pub times_tight : ByTimes hi s e → tight t q s e ≡ true
    times_tight w =
        tight_i s e (omega arith)
        (record {
          first = record { row = w.first; is_in_ring = row_reach_e t q hi s fits w.first e h w.first_time; dated = w.first_day_is };
          last = ended;
        })
      where
        -- a row whose core time is e and no ring row dated e: the ring would be that of [s, e - 1]
        on : ℕ → Bool
        on j = in_ring t q s e j and eqb (day_of t j) e

        last_in : in_ring t q s e w.last ≡ true
        last_in = row_reach_e t q hi s fits w.last e h (let x = w.last_time in omega arith)

        found : some on (size t) ≡ true → DatedRow s e e
        found y =
            let z = some_e on (size t) y in
            record {
              row = z.it;
              is_in_ring = and_l (in_ring t q s e z.it) (eqb (day_of t z.it) e) z.has;
              dated = eqb-true (day_of t z.it) e (and_r (in_ring t q s e z.it) (eqb (day_of t z.it) e) z.has);
            }

        sooner : some on (size t) ≡ false → (j : ℕ) → in_ring t q s e j ≡ true → day_of t j < e
        sooner n j y =
            ⊎_elim (λ p. clash (and_i y (eq-eqb (day_of t j) e p)) (some_none on (size t) n j (in_window_lem t q s e j y).row))
            (λ l. l) (eq-or-lt_of_le (in_window_lem t q s e j y).to)

        ended : DatedRow s e e
        ended =
            ⊎_elim found
            (λ n.
            let l : day_of t w.last < e = sooner n w.last last_in in
            let f = (in_window_lem t q s e w.last last_in).from in
            let x = w.last_time in
            let within : Within (ring t q s e) (window_rows t s (pred e)) =
            record {
              all =
                  λ i m. let k = in_marked t q s e i m in
                  let z = in_window_lem t q s e i k in
                  let y : day_of t i < e = sooner n i k in
                  window_i t s (pred e) i (record { row = z.row; from = z.from; to = omega arith });
            } in
            let r : row_time t q hi s w.last ≤ pred e =
            row_reach_i t q hi s w.last (pred e) (omega arith) (omega arith)
            (in_marked t q s (pred e) w.last
            ((ring_holds t q s (pred e) (ring t q s e) within (ring_good t q s e)).all w.last (marked_in t q s e w.last last_in))) in
            absurd (omega arith)) (true_or_false (some on (size t)))
