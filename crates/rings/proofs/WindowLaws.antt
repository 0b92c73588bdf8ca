-- Minimal windows by core times, 001's Lemma 3, the list, and recall.
--     minimal_e, minimal_i          the test `minimal` says what `IsMinimal` says
--     times_of_minimal, minimal_of_times    [s, e] is a minimal window of a row exactly if e is the row's time at s
--                                           and not its time at s + 1 (001, Lemma 2)
--     inner_minimal, minimal_inner          a row is in the ring of [s, e] exactly if a minimal window of it lies inside (001, Lemma 3)
--     before_strict, of_row_e, of_row_i, row_order    the minimal windows of one row, and their order
--     ends_rise                     of two entries of one row the later start has the later end: what 14 asks beyond the order
--     list_is, list_only            `minimal_windows` holds exactly the minimal windows of the range, in order, and is the only such list
--     recalled_e, recalled_i        the test `recalled` says what `ListedInside` says
--     inside_ring, ring_inside      a row is in the ring of a window of the range exactly if an entry of such a list lies inside
--     recall_ring                   so recall from such a list marks the ring of every window inside the range
--     Smaller, Inner     a smaller window; a minimal one inside
-- Assumes nothing.
use Prim.Native.Nat.{ℕ, zero, suc, ◌-◌, ◌≤◌, ◌<◌}
use native.Mathlib.Nat.{le_refl, le_trans, eq-or-lt_of_le}
use native.Mathlib.Omega.{arith}
use mathlib.Core.Path.{◌≡◌, refl, sym, ap, subst}
use mathlib.Core.Logic.{◌⊎◌, ⊎_elim}
use mathlib.Core.Bool.{Bool, true, false}
use mathlib.Core.List.{List, Memᴰ as Mem, flatten}
use lib.Dec.{leb, eqb}
use borrow.Author.Tests.{leb-true, leb-false, le-leb, eqb-true, eq-eqb}
use Rattle.rings.specs.Words.{◌and◌, no, every, tabulate, filter_by, Pairwise}
use Rattle.rings.specs.Table.{Table, size}
use Rattle.rings.specs.Ring.{in_ring}
use Rattle.rings.specs.CoreTimes.{never, row_time}
use Rattle.rings.specs.Windows.{Window, windows, Entry, smaller, minimal, IsMinimal, minimal_of, minimal_windows}
use Rattle.rings.specs.Windows.{Listed, Before, IsMinimalList, recalled, ListedInside}
use Rattle.rings.specs.declared.Query.{Query}
use Rattle.rings.proofs.WordLaws.{true_or_false, clash, and_i, and_l, and_r, no_i, no_e, every_i, every_e}
use Rattle.rings.proofs.WordLaws.{same_truth}
use Rattle.rings.proofs.ListLaws.{mem_tabulate, tabulate_mem, mem_flatten, flatten_mem, mem_filter_by}
use Rattle.rings.proofs.ListLaws.{filter_by_mem, mem_map, map_mem, any_i, any_e, pair_tabulate, pair_flatten}
use Rattle.rings.proofs.ListLaws.{pair_filter_by, pair_map, pair_weaken, pair_unique}
use Rattle.rings.proofs.RingLaws.{in_window_lem, in_grows}
use Rattle.rings.proofs.CoreTimeLaws.{time_day, row_time_lem, row_reach_i, row_reach_e, row_later}
use Rattle.rings.proofs.RangeLaws.{OfRange, windows_e, windows_i, Earlier, windows_order}

-- ---- smaller windows

pub record Smaller (s e s' e' : ℕ) : Type 0 where
  pub from : s ≤ s'
  pub order : s' ≤ e'
  pub to : e' ≤ e
  pub other : (s ≡ s') × (e ≡ e') → ⊥

smaller_i : (s e s' e' : ℕ) → Smaller s e s' e' → smaller s e s' e' ≡ true
unfolding smaller
smaller_i s e s' e' w =
    and_i (le-leb s s' w.from) (and_i (le-leb s' e' w.order) (and_i (le-leb e' e w.to) (no_i differ)))
  where
    differ : eqb s s' and eqb e e' ≡ false
    differ =
        ⊎_elim
        (λ h. absurd
        (w.other (eqb-true s s' (and_l (eqb s s') (eqb e e') h), eqb-true e e' (and_r (eqb s s') (eqb e e') h))))
        (λ h. h) (true_or_false (eqb s s' and eqb e e'))

smaller_e : (s e s' e' : ℕ) → smaller s e s' e' ≡ true → Smaller s e s' e'
unfolding smaller
smaller_e s e s' e' h =
    let b = leb s' e' in
    let c = leb e' e in
    let d = no (eqb s s' and eqb e e') in
    let r = and_r (leb s s') (b and c and d) h in
    let r' = and_r b (c and d) r in
    record {
      from = leb-true s s' (and_l (leb s s') (b and c and d) h);
      order = leb-true s' e' (and_l b (c and d) r);
      to = leb-true e' e (and_l c d r');
      other = λ w. clash (and_i (eq-eqb s s' w.0) (eq-eqb e e' w.1)) (no_e (eqb s s' and eqb e e') (and_r c d r'));
    }

module _ (t : Table) (q : Query) where
  in_order : (s e j : ℕ) → in_ring t q s e j ≡ true → s ≤ e
  in_order s e j h = let w = in_window_lem t q s e j h in le_trans w.from w.to

  -- ---- the test says what the words say

  none_inside : ℕ → ℕ → ℕ → ℕ → ℕ → Bool
  none_inside j s e s' e' = no (smaller s e s' e' and in_ring t q s' e' j)

  pub minimal_e : (j s e : ℕ) → minimal t q j s e ≡ true → IsMinimal t q j s e
  unfolding minimal none_inside
  minimal_e j s e h =
      let all = every (λ s'. every (none_inside j s e s') (suc e)) (suc e) in
      record {
        has = and_l (in_ring t q s e j) all h;
        none_smaller = λ s' e' a b c d.
            let k = every_e (none_inside j s e s') (suc e)
            (every_e (λ s''. every (none_inside j s e s'') (suc e)) (suc e) (and_r (in_ring t q s e j) all h) s'
            (omega arith))
            e' (omega arith) in
            ⊎_elim
            (λ y. clash
            (and_i (smaller_i s e s' e' (record { from = a; order = b; to = c; other = d })) y)
            (no_e (smaller s e s' e' and in_ring t q s' e' j) k))
            (λ y. y) (true_or_false (in_ring t q s' e' j));
      }

  pub minimal_i : (j s e : ℕ) → IsMinimal t q j s e → minimal t q j s e ≡ true
  unfolding minimal none_inside
  minimal_i j s e m =
      and_i m.has
      (every_i (λ s'. every (none_inside j s e s') (suc e)) (suc e)
      (λ s' l. every_i (none_inside j s e s') (suc e)
      (λ e' k. no_i
      (⊎_elim
      (λ y. let w = smaller_e s e s' e' (and_l (smaller s e s' e') (in_ring t q s' e' j) y) in
      clash (and_r (smaller s e s' e') (in_ring t q s' e' j) y)
      (m.none_smaller s' e' w.from w.order w.to w.other))
      (λ y. y) (true_or_false (smaller s e s' e' and in_ring t q s' e' j))))))

  -- ---- by core times

  module _ (hi : ℕ) (fits : hi < never) where
    pub times_of_minimal : (j s e : ℕ) → e ≤ hi → IsMinimal t q j s e → (row_time t q hi s j ≡ e) × (row_time t q hi (suc s) j ≡ e → ⊥)
    times_of_minimal j s e h m = (now, later)
      where
        o : s ≤ e
        o = in_order s e j m.has

        reached : row_time t q hi s j ≤ e
        reached = row_reach_i t q hi s j e o h m.has

        day : (s ≤ row_time t q hi s j) × (row_time t q hi s j ≤ hi)
        day = time_day {s = s} {hi = hi} fits (row_time_lem t q hi s j) (omega (arith, reached))

        now : row_time t q hi s j ≡ e
        now =
            ⊎_elim (λ a. a)
            (λ l. clash
            (row_reach_e t q hi s fits j (row_time t q hi s j) day.1 (le_refl (row_time t q hi s j)))
            (m.none_smaller s (row_time t q hi s j) (le_refl s) day.0 reached
            (λ w. let x = w.1 in omega (arith, l))))
            (eq-or-lt_of_le reached)

        later : row_time t q hi (suc s) j ≡ e → ⊥
        later a =
            let k = row_reach_e t q hi (suc s) fits j e h (omega arith) in
            clash k (m.none_smaller (suc s) e (omega arith) (in_order (suc s) e j k) (le_refl e) (λ w. let x = w.0 in omega arith))

    pub minimal_of_times : (j s e : ℕ) → e ≤ hi → row_time t q hi s j ≡ e → (row_time t q hi (suc s) j ≡ e → ⊥) → IsMinimal t q j s e
    minimal_of_times j s e h now later =
        record {
          has = row_reach_e t q hi s fits j e h (omega arith);
          none_smaller = λ s' e' a b c d. ⊎_elim (λ y. absurd (inside s' e' a b c d y)) (λ y. y)
              (true_or_false (in_ring t q s' e' j));
        }
      where
        inside : (s' e' : ℕ) → s ≤ s' → s' ≤ e' → e' ≤ e → ((s ≡ s') × (e ≡ e') → ⊥) → in_ring t q s' e' j ≡ true → ⊥
        inside s' e' a b c d y =
            ⊎_elim (λ x.
            let r : row_time t q hi s j ≤ e' =
            row_reach_i t q hi s j e' (omega arith) (omega arith) (in_grows t q j a (le_refl e') y) in
            d (x, omega arith))
            (λ x.
            let r : row_time t q hi (suc s) j ≤ e' =
            row_reach_i t q hi (suc s) j e' (le_trans x b) (omega arith) (in_grows t q j x (le_refl e') y) in
            let g : row_time t q hi s j ≤ row_time t q hi (suc s) j = row_later t q hi fits (omega arith) j in
            later (omega arith))
            (eq-or-lt_of_le a)

  -- ---- 001, Lemma 3

  pub record Inner (j s e : ℕ) : Type 0 where
    pub start : ℕ
    pub end : ℕ
    pub from : s ≤ start
    pub order : start ≤ end
    pub to : end ≤ e
    pub is_minimal : IsMinimal t q j start end

  pub inner_minimal : (j s e : ℕ) → e < never → in_ring t q s e j ≡ true → Inner j s e
  inner_minimal j s e fits h = go (e - s) s (omega arith) h
    where
      -- the last start from which the row is still in the ring that ends on e
      last : (a : ℕ) → in_ring t q a e j ≡ true → in_ring t q (suc a) e j ≡ false → Inner j a e
      last a y n =
          let o : a ≤ e = in_order a e j y in
          let r : row_time t q e a j ≤ e = row_reach_i t q e a j e o (le_refl e) y in
          let d = time_day {s = a} {hi = e} fits (row_time_lem t q e a j) (omega arith) in
          record {
            start = a;
            end = row_time t q e a j;
            from = le_refl a;
            order = d.0;
            to = r;
            is_minimal =
                minimal_of_times e fits j a (row_time t q e a j) r refl
                (λ x. clash (row_reach_e t q e (suc a) fits j e (le_refl e) (omega arith)) n);
          }

      wider : (a : ℕ) → Inner j (suc a) e → Inner j a e
      wider a w =
          let f = w.from in
          record {
            start = w.start;
            end = w.end;
            from = omega arith;
            order = w.order;
            to = w.to;
            is_minimal = w.is_minimal;
          }

      go : (n a : ℕ) → e - a ≤ n → in_ring t q a e j ≡ true → Inner j a e
      go zero a l y =
          last a y
          (⊎_elim (λ z. let o : suc a ≤ e = in_order (suc a) e j z in absurd (omega arith)) (λ z. z)
          (true_or_false (in_ring t q (suc a) e j)))
      go (suc n) a l y = ⊎_elim (λ z. wider a (go n (suc a) (omega arith) z)) (λ z. last a y z) (true_or_false (in_ring t q (suc a) e j))

  pub minimal_inner : (j s e : ℕ) → Inner j s e → in_ring t q s e j ≡ true
  minimal_inner j s e w = in_grows t q j w.from w.to w.is_minimal.has

-- ---- the list

-- the order is strict
pub before_strict : (x y : Entry) → Before x y → Before y x → ⊥
before_strict x y (◌⊎◌.inl a) (◌⊎◌.inl b) = omega arith
before_strict x y (◌⊎◌.inl a) (◌⊎◌.inr b) = let c = b.0 in omega arith
before_strict x y (◌⊎◌.inr a) (◌⊎◌.inl b) = let c = a.0 in omega arith
before_strict x y (◌⊎◌.inr a) (◌⊎◌.inr b) = let c = a.1 in let d = b.1 in omega arith

-- ---- recall: the test says what the words say

abbrev inside : ℕ → ℕ → ℕ → Entry → Bool
inside s e j x = eqb x.row j and leb s x.start and leb x.end e

pub recalled_e : (es : List Entry) (s e j : ℕ) → recalled es s e j ≡ true → ListedInside es s e j
unfolding recalled
recalled_e es s e j h =
    let w = any_e (inside s e j) es h in
    let x = w.it in
    let a = eqb x.row j in
    let b = leb s x.start in
    let c = leb x.end e in
    let r = and_r a (b and c) w.has in
    record {
      it = x;
      member = w.member;
      of_row = eqb-true x.row j (and_l a (b and c) w.has);
      from = leb-true s x.start (and_l b c r);
      to = leb-true x.end e (and_r b c r);
    }

pub recalled_i : (es : List Entry) (s e j : ℕ) → ListedInside es s e j → recalled es s e j ≡ true
unfolding recalled
recalled_i es s e j w =
    let x = w.it in
    any_i (inside s e j) es x w.member
    (and_i (eq-eqb x.row j w.of_row) (and_i (le-leb s x.start w.from) (le-leb x.end e w.to)))

-- ---- the list of a range

module _ (t : Table) (q : Query) (lo hi : ℕ) where
  abbrev entry : ℕ → Window → Entry
  entry j w = record { row = j; start = w.start; end = w.end }

  abbrev test : ℕ → Window → Bool
  test j w = minimal t q j w.start w.end

  pub of_row_e : (j : ℕ) (x : Entry)
      → Mem x (minimal_of t q lo hi j)
      → (x.row ≡ j) × OfRange lo hi (record { start = x.start; end = x.end }) × IsMinimal t q j x.start x.end
  unfolding minimal_of
  of_row_e j x m =
      let a = map_mem (entry j) (filter_by (test j) (windows lo hi)) m in
      let b = filter_by_mem (test j) (windows lo hi) a.member in
      let w = a.it in
      let ps : w.start ≡ x.start = ap (λ (z : Entry). z.start) (sym a.is) in
      let pe : w.end ≡ x.end = ap (λ (z : Entry). z.end) (sym a.is) in (
        ap (λ (z : Entry). z.row) a.is,
        subst (OfRange lo hi) (λ i. record { start = ps i; end = pe i }) (windows_e lo hi w b.0),
        subst (λ (v : Window). IsMinimal t q j v.start v.end) (λ i. record { start = ps i; end = pe i })
            (minimal_e t q j w.start w.end b.1),
      )

  pub of_row_i : (x : Entry)
      → OfRange lo hi (record { start = x.start; end = x.end })
      → IsMinimal t q x.row x.start x.end
      → Mem x (minimal_of t q lo hi x.row)
  unfolding minimal_of
  of_row_i x o m =
      mem_map (entry x.row) (filter_by (test x.row) (windows lo hi))
      (mem_filter_by (test x.row) (windows lo hi)
      (windows_i lo hi (record { start = x.start; end = x.end }) o)
      (minimal_i t q x.row x.start x.end m))

  -- two minimal windows of one row do not begin on one day: the shorter lies inside the longer
  starts_rise : (j : ℕ) (v w : Window) → test j v ≡ true → test j w ≡ true → Earlier v w → v.start < w.start
  starts_rise j v w a b (◌⊎◌.inl l) = l
  starts_rise j v w a b (◌⊎◌.inr r) =
      let has = (minimal_e t q j v.start v.end a).has in
      let longer = minimal_e t q j w.start w.end b in
      let x = r.0 in let y = r.1 in
      clash has
      (longer.none_smaller v.start v.end (omega arith) (in_order t q v.start v.end j has)
      (omega arith) (λ z. let u = z.1 in omega arith))

  -- nor does the earlier one end with the later one or behind it: it would have that one inside. So ends rise with starts
  pub ends_rise : (x y : Entry) → Listed t q lo hi x → Listed t q lo hi y → x.row ≡ y.row → x.start < y.start → x.end < y.end
  ends_rise x y a b e l =
      ⊎_elim (λ h. clash (subst (λ (j : ℕ). in_ring t q y.start y.end j ≡ true) (sym e) b.is_minimal.has)
      (a.is_minimal.none_smaller y.start y.end (omega arith) b.order (leb-true y.end x.end h)
      (λ z. let u = z.0 in omega arith)))
      (λ h. leb-false y.end x.end h) (true_or_false (leb y.end x.end))

  pub row_order : (j : ℕ) → Pairwise Before (minimal_of t q lo hi j)
  unfolding minimal_of
  row_order j =
      pair_map (entry j) Before (filter_by (test j) (windows lo hi))
      (pair_weaken Earlier (λ v w. Before (entry j v) (entry j w)) (filter_by (test j) (windows lo hi))
      (pair_filter_by Earlier (test j) (windows lo hi) (windows_order lo hi))
      (λ v w m n e.
      let a = filter_by_mem (test j) (windows lo hi) m in
      let b = filter_by_mem (test j) (windows lo hi) n in
      ◌⊎◌.inr (refl, starts_rise j v w a.1 b.1 e)))

  -- the computed list holds exactly the minimal windows of the range, in order
  pub list_is : IsMinimalList t q lo hi (minimal_windows t q lo hi)
  unfolding minimal_windows
  list_is = record { each = each_one; whole = whole_list; in_order = ordered }
    where
      rows : List (List Entry)
      rows = tabulate (minimal_of t q lo hi) 0 (size t)

      each_one : (x : Entry) → Mem x (flatten rows) → Listed t q lo hi x
      each_one x m =
          let a = flatten_mem rows m in
          let b = tabulate_mem (minimal_of t q lo hi) 0 (size t) a.is_part in
          let c = of_row_e b.it x (subst (Mem x) b.is a.has) in
          let l = b.below in
          let e = c.0 in
          let o = c.1 in
          record {
            in_table = omega arith;
            from = o.from;
            order = o.order;
            to = o.to;
            is_minimal = subst (λ (j : ℕ). IsMinimal t q j x.start x.end) (sym e) c.2;
          }

      whole_list : (x : Entry) → Listed t q lo hi x → Mem x (flatten rows)
      whole_list x l =
          let h = l.in_table in
          mem_flatten
          (mem_tabulate (minimal_of t q lo hi) 0 (size t) x.row (omega arith) (omega arith))
          (of_row_i x (record { from = l.from; order = l.order; to = l.to }) l.is_minimal)

      ordered : Pairwise Before (flatten rows)
      ordered =
          pair_flatten Before rows
          (λ xs m. let b = tabulate_mem (minimal_of t q lo hi) 0 (size t) m in
          subst (Pairwise Before) (sym b.is) (row_order b.it))
          (pair_tabulate (λ xs ys. (x y : Entry) → Mem x xs → Mem y ys → Before x y) (minimal_of t q lo hi) 0 (size t)
          (λ a b l k o x y m n. let u = (of_row_e a x m).0 in let v = (of_row_e b y n).0 in ◌⊎◌.inl (omega arith)))

  -- and is the only such list
  pub list_only : (es : List Entry) → IsMinimalList t q lo hi es → es ≡ minimal_windows t q lo hi
  list_only es l =
      pair_unique Before before_strict es (minimal_windows t q lo hi) l.in_order list_is.in_order
      (λ x m. list_is.whole x (l.each x m)) (λ x m. l.whole x (list_is.each x m))

  -- 001, Lemma 3 by such a list: a row is in the ring of a window of the range exactly if an entry of it lies inside
  module _ (es : List Entry) (L : IsMinimalList t q lo hi es) (s e j : ℕ) where
    pub inside_ring : ListedInside es s e j → in_ring t q s e j ≡ true
    inside_ring w =
        in_grows t q j w.from w.to
        (subst (λ (i : ℕ). in_ring t q w.it.start w.it.end i ≡ true) w.of_row (L.each w.it w.member).is_minimal.has)

    pub ring_inside : e < never → lo ≤ s → e ≤ hi → in_ring t q s e j ≡ true → ListedInside es s e j
    ring_inside fits h k y =
        let w = inner_minimal t q j s e fits y in
        let a = w.from in let b = w.to in
        let x : Entry = record { row = j; start = w.start; end = w.end } in
        let row = (in_window_lem t q s e j y).row in
        record {
          it = x;
          member =
              L.whole x
              (record {
                in_table = row;
                from = omega arith;
                order = w.order;
                to = omega arith;
                is_minimal = w.is_minimal;
              });
          of_row = refl;
          from = a;
          to = b;
        }

    -- so recall from such a list marks the ring of every window inside the range
    pub recall_ring : e < never → lo ≤ s → e ≤ hi → recalled es s e j ≡ in_ring t q s e j
    recall_ring fits h k =
        same_truth (recalled es s e j) (in_ring t q s e j) (λ y. inside_ring (recalled_e es s e j y))
        (λ y. recalled_i es s e j (ring_inside fits h k y))
