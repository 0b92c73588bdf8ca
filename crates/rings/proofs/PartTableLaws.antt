-- The rows of a window as a table of their own (src/ring.rt).
--     part                     the entries lo to end of a list
--     part_long, part_at       its length, and its entries
--     part_sound               the part of a sound table is sound
--     part_same, room_long, part_room     cleared marks, and scratch enough for the part
--     part_from, part_to       all rows of the part lie in the window
--     widened, narrowed        a row is in the ring exactly if its like is in the part's ring, and no row outside the
--                              part is
--     part_members             so the two rings have as many rows
--     part_marks               and the marks are those of the part's ring, among 0s
-- Assumes nothing.
use Prim.Native.Nat.{ℕ, suc, ◌+◌, ◌-◌, ◌*◌, ◌≤◌, ◌<◌, zero-le}
use native.Mathlib.Nat.{le_refl, le_antisymm, not-suc-le-zero}
use native.Mathlib.Omega.{arith}
use mathlib.Core.Path.{◌≡◌, refl, sym, ◌∙◌, ap, subst}
use mathlib.Core.Logic.{⊎_elim}
use mathlib.Core.Bool.{Bool, true, false}
use mathlib.Core.List.{List}
use lib.ListN.{length, get_or, take, drop, replicate, length-drop, length-map, length-replicate, get_or-map}
use lib.Seq.{length-take-le, get_or-take, get_or-drop, ext_get_or}
use lib.Dec.{leb, ltb}
use borrow.Author.Tests.{leb-true, leb-false, le-leb, ltb-true, ltb-false}
use borrow.Rule.Slice.PartMut.{put_mid, same_len_mid}
use Rattle.rings.specs.Words.{◌and◌, at, marked, tabulate}
use Rattle.rings.specs.Table.{Table, table_of, day_of, first_of, second_of, window_rows, Split}
use Rattle.rings.specs.Ring.{Good, Within, ring, members}
use Rattle.rings.specs.Buffers.{mark, marks}
use Rattle.rings.specs.Sound.{RowSound, Sound}
use Rattle.rings.specs.declared.Query.{Query}
use Rattle.rings.proofs.WordLaws.{true_or_false, and_i, and_l, and_r, same_truth, marked_below}
use Rattle.rings.proofs.WordLaws.{marked_tabulate_e, marked_tabulate_i}
use Rattle.rings.proofs.RingLaws.{Inside, window_e, window_i, ring_sized, ring_within, ring_good, ring_holds}
use Rattle.rings.proofs.PairLaws.{count_inject}
use Rattle.rings.proofs.PartLaws.{Copies, copy_good, zeros_at, put_before, put_inside, put_after}

-- ---- the part of a table

abbrev pub part : ℕ → ℕ → List ℕ → List ℕ
part lo end xs = take (end - lo) (drop lo xs)

module _ (d f g : List ℕ) (lo end : ℕ) (order : lo ≤ end) (inside : end ≤ length d) where
  pub part_long : (xs : List ℕ) → length xs ≡ length d → length (part lo end xs) ≡ end - lo
  part_long xs e =
      length-take-le (end - lo) (drop lo xs) (subst (λ (n : ℕ). end - lo ≤ n) (sym (length-drop lo xs)) (omega arith))

  pub part_at : (xs : List ℕ) (j : ℕ) → j < end - lo → get_or (part lo end xs) j 0 ≡ get_or xs (lo + j) 0
  part_at xs j h = get_or-take (end - lo) (drop lo xs) j 0 h ∙ get_or-drop lo xs j 0

  long : length (part lo end d) ≡ end - lo
  long = part_long d refl

  pub part_sound : Sound d f g → Sound (part lo end d) (part lo end f) (part lo end g)
  part_sound S =
      record {
        firsts = part_long f S.firsts ∙ sym long;
        seconds = part_long g S.seconds ∙ sym long;
        most = let n = long in let m = S.most in omega arith;
        rows = row;
        rising = record { next = rises };
      }
    where
      rises : (j : ℕ) → suc j < length (part lo end d) → get_or (part lo end d) j 0 ≤ get_or (part lo end d) (suc j) 0
      rises j l =
          let n = long in
          let a : get_or (part lo end d) j 0 ≡ get_or d (lo + j) 0 = part_at d j (omega arith) in
          let b : get_or (part lo end d) (suc j) 0 ≡ get_or d (suc (lo + j)) 0 =
          part_at d (suc j) (omega arith) ∙ ap (λ (i : ℕ). get_or d i 0) (omega arith) in
          let c : get_or d (lo + j) 0 ≤ get_or d (suc (lo + j)) 0 = S.rising.next (lo + j) (omega arith) in
          omega arith

      row : (j : ℕ) → j < length (part lo end d) → RowSound (part lo end d) (part lo end f) (part lo end g) j
      row j l =
          let n = long in
          let h : j < end - lo = omega arith in
          let a = part_at d j h in
          let b = part_at f j h in
          let c = part_at g j h in
          let r = S.rows (lo + j) (omega arith) in
          let r₁ = r.day_from in
          let r₂ = r.day_to in
          let r₃ = r.accounts in
          let r₄ = r.account_to in
          record { day_from = omega arith; day_to = omega arith; accounts = omega arith; account_to = omega arith }

  -- marks that were cleared, and scratch enough for the part
  cleared : {xs : List ℕ} {n : ℕ} → xs ≡ replicate n 0 → n ≡ length d → xs ≡ replicate (length d) 0
  cleared e h = e ∙ ap (λ (n : ℕ). replicate {A = ℕ} n 0) h

  cleared_long : {xs : List ℕ} → xs ≡ replicate (length d) 0 → length xs ≡ length d
  cleared_long e = ap length e ∙ length-replicate {A = ℕ} (length d) 0

  pub part_same : {xs : List ℕ} {n : ℕ} → xs ≡ replicate n 0 → n ≡ length d
      → length (part lo end xs) ≡ length (part lo end d)
  part_same {xs} e h = part_long xs (cleared_long (cleared e h)) ∙ sym long

  pub room_long : (sc : List ℕ) → 8192 + 4 * length d ≤ length sc
      → 8192 + 4 * (end - lo) ≡ length (take (8192 + 4 * (end - lo)) sc)
  room_long sc h = sym (length-take-le (8192 + 4 * (end - lo)) sc (omega arith))

  pub part_room : (sc : List ℕ) → 8192 + 4 * length d ≤ length sc
      → 8192 + 4 * length (part lo end d) ≤ length (take (8192 + 4 * (end - lo)) sc)
  part_room sc h = let n = long in let m = room_long sc h in omega arith

  pub part_from : {s : ℕ} → Split d s lo → Split (part lo end d) s 0
  part_from A =
      record {
        within = zero-le;
        before = λ j h. absurd (not-suc-le-zero h);
        after = λ j a b.
            let n = long in
            let h : j < end - lo = omega arith in
            let e = part_at d j h in let x = A.after (lo + j) (omega arith) (omega arith) in
            omega arith;
      }

  pub part_to : {day : ℕ} → Split d day end → Split (part lo end d) day (length (part lo end d))
  part_to B =
      record {
        within = le_refl (length (part lo end d));
        before = λ j b.
            let n = long in
            let h : j < end - lo = omega arith in
            let e = part_at d j h in let x = B.before (lo + j) (omega arith) in omega arith;
        after = λ j a b. absurd (omega arith);
      }

  -- ---- the ring of the part

  -- the table and its part
  abbrev t : Table
  t = table_of d f g

  abbrev p : Table
  p = table_of (part lo end d) (part lo end f) (part lo end g)

  first_at : (j : ℕ) → j < end - lo → first_of p j ≡ first_of t (lo + j)
  unfolding first_of at
  first_at j h = part_at f j h

  second_at : (j : ℕ) → j < end - lo → second_of p j ≡ second_of t (lo + j)
  unfolding second_of at
  second_at j h = part_at g j h

  module _ (q : Query) (s e : ℕ) (A : Split d s lo) (B : Split d (e + 1) end) where
    -- the rows from lo to end are those of the window
    in_part : (i : ℕ) → Inside t s e i → (lo ≤ i) × (i < end)
    unfolding day_of at
    in_part i w = (
      ⊎_elim (λ y. leb-true lo i y)
          (λ y. let x = A.before i (leb-false lo i y) in let k = w.from in absurd (omega arith))
          (true_or_false (leb lo i)),
      ⊎_elim (λ y. ltb-true i end y)
          (λ y. let x = B.after i (ltb-false i end y) w.row in let k = w.to in absurd (omega arith))
          (true_or_false (ltb i end)),
    )

    of_part : (i : ℕ) → lo ≤ i → i < end → Inside t s e i
    unfolding day_of at
    of_part i a b =
        let l : i < length d = omega arith in
        record { row = l; from = A.after i a l; to = let x = B.before i b in omega arith }

    of_whole : (j : ℕ) → j < end - lo → Inside t s e (lo + j) → Inside p s e j
    unfolding day_of at
    of_whole j h w =
        let x = part_at d j h in
        let n = long in
        let a = w.from in
        let b = w.to in
        record { row = omega arith; from = omega arith; to = omega arith }

    in_window_rows : (i : ℕ) → marked (ring t q s e) i ≡ true → Inside t s e i
    in_window_rows i h = window_e t s e i ((ring_within t q s e).all i h)

    below_part : (j : ℕ) → marked (ring p q s e) j ≡ true → j < end - lo
    below_part j h =
        let x = marked_below (ring p q s e) j h in let n = ring_sized p q s e in let k = long in omega arith

    -- the part's ring, as rows of the whole table
    wide : List Bool
    wide = tabulate (λ i. leb lo i and marked (ring p q s e) (i - lo)) 0 (length d)

    wide_i : (j : ℕ) → marked (ring p q s e) j ≡ true → marked wide (lo + j) ≡ true
    unfolding wide
    wide_i j h =
        let b = below_part j h in
        let y : j ≡ (lo + j) - lo = omega arith in
        marked_tabulate_i (λ i. leb lo i and marked (ring p q s e) (i - lo)) (length d) (lo + j) (omega arith)
        (and_i (le-leb lo (lo + j) (omega arith)) (subst (λ (k : ℕ). marked (ring p q s e) k ≡ true) y h))

    wide_e : (i : ℕ) → marked wide i ≡ true → (lo ≤ i) × (marked (ring p q s e) (i - lo) ≡ true)
    unfolding wide
    wide_e i h =
        let x = (marked_tabulate_e (λ i. leb lo i and marked (ring p q s e) (i - lo)) (length d) i h).1 in (
          leb-true lo i (and_l (leb lo i) (marked (ring p q s e) (i - lo)) x),
          and_r (leb lo i) (marked (ring p q s e) (i - lo)) x,
        )

    -- the rows of the whole ring, as rows of the part
    narrow : List Bool
    narrow = tabulate (λ j. marked (ring t q s e) (lo + j)) 0 (end - lo)

    narrow_i : (j : ℕ) → j < end - lo → marked (ring t q s e) (lo + j) ≡ true → marked narrow j ≡ true
    unfolding narrow
    narrow_i j l h = marked_tabulate_i (λ j. marked (ring t q s e) (lo + j)) (end - lo) j l h

    narrow_e : (j : ℕ) → marked narrow j ≡ true → (j < end - lo) × (marked (ring t q s e) (lo + j) ≡ true)
    unfolding narrow
    narrow_e j h = marked_tabulate_e (λ j. marked (ring t q s e) (lo + j)) (end - lo) j h

    -- a row of the part has its like in the whole table, and the other way round
    up : {m m' : List Bool} → ((j : ℕ) → marked m j ≡ true → (j < end - lo) × (marked m' (lo + j) ≡ true))
        → Copies p m t m'
    up k =
        record {
          each = λ j l h. let x = k j h in
              record {
                it = lo + j;
                below = let n = x.0 in omega arith;
                has = x.1;
                same_first = sym (first_at j x.0);
                same_second = sym (second_at j x.0);
              };
        }

    down : {m m' : List Bool} → ((i : ℕ) → marked m i ≡ true → (lo ≤ i) × (i < end) × (marked m' (i - lo) ≡ true))
        → Copies t m p m'
    down k =
        record {
          each = λ i l h.
              let x = k i h in
              let a = x.0 in
              let b = x.1 in
              let y : lo + (i - lo) ≡ i = omega arith in
              let z : i - lo < end - lo = omega arith in
              record {
                it = i - lo;
                below = let n = long in omega arith;
                has = x.2;
                same_first = first_at (i - lo) z ∙ ap (first_of t) y;
                same_second = second_at (i - lo) z ∙ ap (second_of t) y;
              };
        }

    wide_row : (i : ℕ) → marked wide i ≡ true → (lo ≤ i) × (i < end) × (marked (ring p q s e) (i - lo) ≡ true)
    wide_row i h = let x = wide_e i h in let a = x.0 in let b = below_part (i - lo) x.1 in (a, omega arith, x.1)

    wide_good : Good t q wide
    wide_good = copy_good q (up (λ j h. (below_part j h, wide_i j h))) (down wide_row) (ring_good p q s e)

    wide_within : Within wide (window_rows t s e)
    wide_within = record { all = λ i h. let x = wide_row i h in window_i t s e i (of_part i x.0 x.1) }

    narrow_row : (i : ℕ) → marked (ring t q s e) i ≡ true → (lo ≤ i) × (i < end) × (marked narrow (i - lo) ≡ true)
    narrow_row i h =
        let x = in_part i (in_window_rows i h) in
        let a = x.0 in
        let b = x.1 in
        let y : i ≡ lo + (i - lo) = omega arith in
        (a, b, narrow_i (i - lo) (omega arith) (subst (λ (k : ℕ). marked (ring t q s e) k ≡ true) y h))

    narrow_good : Good p q narrow
    narrow_good = copy_good q (down narrow_row) (up narrow_e) (ring_good t q s e)

    narrow_within : Within narrow (window_rows p s e)
    narrow_within =
        record {
          all = λ j h. let x = narrow_e j h in window_i p s e j (of_whole j x.0 (in_window_rows (lo + j) x.1));
        }

    pub widened : (j : ℕ) → marked (ring p q s e) j ≡ true → marked (ring t q s e) (lo + j) ≡ true
    widened j h = (ring_holds t q s e wide wide_within wide_good).all (lo + j) (wide_i j h)

    pub narrowed : (i : ℕ) → marked (ring t q s e) i ≡ true
        → (lo ≤ i) × (i < end) × (marked (ring p q s e) (i - lo) ≡ true)
    narrowed i h =
        let x = narrow_row i h in
        (x.0, x.1, (ring_holds p q s e narrow narrow_within narrow_good).all (i - lo) x.2)

    pub part_members : {n : ℕ} → n ≡ members (ring p q s e) → n ≡ members (ring t q s e)
    unfolding members
    part_members y = y ∙ le_antisymm
        (count_inject (marked (ring p q s e)) (length (ring p q s e)) (marked (ring t q s e))
        (length (ring t q s e)) (λ j i. i ≡ lo + j)
        (λ j l h. let x = widened j h in
        record { it = lo + j; below = marked_below (ring t q s e) (lo + j) x; has = x; to = refl })
        (λ j j' i a b. omega arith))
        (count_inject (marked (ring t q s e)) (length (ring t q s e)) (marked (ring p q s e))
        (length (ring p q s e)) (λ i j. i ≡ lo + j)
        (λ i l h. let x = narrowed i h in let a = x.0 in
        record { it = i - lo; below = marked_below (ring p q s e) (i - lo) x.2; has = x.2; to = omega arith })
        (λ i i' j a b. a ∙ sym b))

    outside : (i : ℕ) → ((lo ≤ i) × (i < end) → ⊥) → 0 ≡ mark (marked (ring t q s e) i)
    unfolding mark
    outside i n =
        ⊎_elim (λ y. let x = narrowed i y in absurd (n (x.0, x.1))) (λ y. sym (ap mark y))
        (true_or_false (marked (ring t q s e) i))

    alike : (j : ℕ) → j < end - lo → marked (ring p q s e) j ≡ marked (ring t q s e) (lo + j)
    alike j l =
        same_truth (marked (ring p q s e) j) (marked (ring t q s e) (lo + j)) (widened j)
        (λ h. let y : (lo + j) - lo ≡ j = omega arith in
        subst (λ (k : ℕ). marked (ring p q s e) k ≡ true) y (narrowed (lo + j) h).2)

    marks_at : (r : List Bool) (i : ℕ) → get_or (marks r) i 0 ≡ mark (marked r i)
    unfolding marks marked mark
    marks_at r i = get_or-map mark r i false

    marks_long : (r : List Bool) → length (marks r) ≡ length r
    unfolding marks
    marks_long r = length-map r mark

    pub part_marks : {xs ys : List ℕ} {n : ℕ} → xs ≡ replicate n 0 → n ≡ length d → ys ≡ marks (ring p q s e)
        → put_mid lo (end - lo) xs ys ≡ marks (ring t q s e)
    part_marks {xs} {ys} e₀ h₀ ey =
        ext_get_or 0 (put_mid lo (end - lo) xs ys) (marks (ring t q s e))
        (same_len_mid lo (end - lo) xs ys (long_ys ∙ sym (part_long xs long_xs))
        ∙ (long_xs ∙ sym (marks_long (ring t q s e) ∙ ring_sized t q s e)))
        (λ i l. entry_is i ∙ sym (marks_at (ring t q s e) i))
      where
        ex : xs ≡ replicate (length d) 0
        ex = cleared e₀ h₀

        long_xs : length xs ≡ length d
        long_xs = cleared_long ex

        long_ys : length ys ≡ end - lo
        long_ys = ap length ey ∙ (marks_long (ring p q s e) ∙ (ring_sized p q s e ∙ long))

        room : lo ≤ length xs
        room = let n = long_xs in omega arith

        zero_at : (i : ℕ) → get_or xs i 0 ≡ 0
        zero_at i = ap (λ (l : List ℕ). get_or l i 0) ex ∙ zeros_at (length d) i

        in_it : (j : ℕ) → j < end - lo
            → get_or (put_mid lo (end - lo) xs ys) (lo + j) 0 ≡ mark (marked (ring t q s e) (lo + j))
        in_it j l =
            put_inside lo (end - lo) xs ys room j (let n = long_ys in omega arith)
            ∙ (ap (λ (l : List ℕ). get_or l j 0) ey ∙ (marks_at (ring p q s e) j ∙ ap mark (alike j l)))

        past_it : (j : ℕ)
            → get_or (put_mid lo (end - lo) xs ys) (lo + (length ys + j)) 0
            ≡ mark (marked (ring t q s e) (lo + (length ys + j)))
        past_it j = put_after lo (end - lo) xs ys room j
            ∙ (zero_at (lo + ((end - lo) + j))
            ∙ outside (lo + (length ys + j)) (λ x. let b = x.1 in let n = long_ys in omega arith))

        entry_is : (i : ℕ) → get_or (put_mid lo (end - lo) xs ys) i 0 ≡ mark (marked (ring t q s e) i)
        entry_is i =
            ⊎_elim (λ y. let l = ltb-true i lo y in
            put_before lo (end - lo) xs ys room i l ∙ (zero_at i ∙ outside i (λ x. let a = x.0 in omega arith)))
            (λ y.
            let a = ltb-false i lo y in
            ⊎_elim (λ z.
            let b = ltb-true i end z in
            let w : lo + (i - lo) ≡ i = omega arith in
            subst
            (λ (k : ℕ). get_or (put_mid lo (end - lo) xs ys) k 0 ≡ mark (marked (ring t q s e) k))
            w (in_it (i - lo) (omega arith)))
            (λ z.
            let b = ltb-false i end z in
            let n = long_ys in
            let w : lo + (length ys + (i - end)) ≡ i = omega arith in
            subst
            (λ (k : ℕ). get_or (put_mid lo (end - lo) xs ys) k 0 ≡ mark (marked (ring t q s e) k))
            w (past_it (i - end)))
            (true_or_false (ltb i end)))
            (true_or_false (ltb i lo))
