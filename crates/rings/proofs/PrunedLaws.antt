-- A walk over an adjacency that may lack rows (specs/Inner/Adjacency.antt, PrunedAdjacency, Reading).
--     Seeking                        where the rows from lo on begin
--     reading_start                  a walk begins at the head
--     reading_few                a place before the end lies in the adjacency
--     reading_row, reading_from    the row there is one of the table's, from b on
--     reading_gap, reading_out   a row of u that is passed over is below lo, or its other account has no time
--     reading_next               and the walk goes on behind it
--     reading_behind             it does so where the scratch changes behind the adjacency
--     pruned_list_stands, reading_stands    what `row_at` asks of a place
--     every_rise, covered_rise   times only rise, and rows only leave
--     adjacency_pruned, adjacency_covered, adjacency_every, none_missing     the whole adjacency is such an
--         adjacency, and lacks nothing
-- Assumes nothing.
use Prim.Native.Nat.{ℕ, suc, ◌+◌, ◌-◌, ◌*◌, ◌≤◌, ◌<◌}
use native.Mathlib.Nat.{eq-or-lt_of_le}
use native.Mathlib.Omega.{arith}
use mathlib.Core.Path.{◌≡◌, sym, ◌∙◌, ap, subst}
use mathlib.Core.Logic.{◌⊎◌, ⊎_elim}
use mathlib.Core.Bool.{true}
use mathlib.Core.List.{List}
use lib.ListN.{length, get_or, set}
use lib.Seq.{get_or-set_other}
use lib.Dec.{leb}
use borrow.Author.Tests.{leb-true, leb-false}
use Rattle.rings.specs.Table.{Table, table_of, size, day_of}
use Rattle.rings.specs.Ring.{touches}
use Rattle.rings.specs.CoreTimes.{never}
use Rattle.rings.specs.Sound.{Sound}
use Rattle.rings.specs.Inner.Adjacency.{other_of, rank, offset_of, Adjacency, PrunedList, PrunedAdjacency, Stands}
use Rattle.rings.specs.Inner.Adjacency.{Reading, Every, Covered}
use Rattle.rings.specs.Inner.Incident.{RowStands}
use Rattle.rings.proofs.WordLaws.{true_or_false}
use Rattle.rings.proofs.RankLaws.{rank_less, nth_row, places_most, place_step, entry_below}

-- ---- to lo

pub record Seeking (sc : List ℕ) (u lo p : ℕ) : Type 0 where
  pub from : get_or sc (4096 + u) 0 ≤ p
  pub to : p ≤ get_or sc u 0
  pub before : (r : ℕ) → get_or sc (4096 + u) 0 ≤ r → r < p → get_or sc (8192 + r) 0 < lo

-- ---- from there on

-- a walk may begin at the head, with every row before it
pub reading_start : {t : Table} {sc : List ℕ} {u p : ℕ} → PrunedList t u sc → p ≡ get_or sc (4096 + u) 0
    → Reading sc u 0 p
reading_start K e =
    record {
      from = omega arith;
      to = let a = K.from in omega arith;
      before = λ r h k. absurd (omega arith);
      after = λ r h k. omega arith;
    }

module _ (d f s scratch : List ℕ) (S : Sound d f s) (L : PrunedAdjacency (table_of d f s) scratch) {u : ℕ}
    (small : u < 4096) where
  abbrev t : Table
  t = table_of d f s

  -- what `row_at` asks of a place from the head of u on
  pub pruned_list_stands : {p : ℕ} → get_or scratch (4096 + u) 0 ≤ p → p < get_or scratch u 0 → RowStands (table_of d f s) scratch u p
  pruned_list_stands {p} h k =
      let K = L.pruned_list u small in
      record {
        sound = S;
        long = L.long;
        pairs = L.pairs;
        place = let a = K.to in omega arith;
        row = K.row p h k;
        touch = K.touch p h k;
      }

  module _ {b p end : ℕ} (A : Reading scratch u b p) (ee : end ≡ get_or scratch u 0) where
    pub reading_stands : p < end → RowStands (table_of d f s) scratch u p
    reading_stands more = pruned_list_stands A.from (omega arith)

    -- an entry of u from b on does not stand before p
    stands_after : {i : ℕ} → b ≤ i → (P : Stands scratch u i) → p ≤ P.place
    stands_after h P =
        ⊎_elim (λ y. leb-true p P.place y)
        (λ y. let a = A.before P.place P.from (leb-false p P.place y) in let e = P.is in
        absurd (omega arith))
        (true_or_false (leb p P.place))

    pub reading_out : {x : ℕ → ℕ} {lo : ℕ} → Every t x lo u scratch → end ≤ p → (i : ℕ) → b ≤ i → i < length d
        → touches t i u ≡ true
        → (i < lo) ⊎ (x (other_of t i u) ≡ never)
    reading_out {lo = lo} E h i a k y =
        ⊎_elim
        (λ z. ⊎_elim ◌⊎◌.inr (λ P. let o = stands_after a P in let g = P.below in absurd (omega arith))
        (E.row i (leb-true lo i z) k y))
        (λ z. ◌⊎◌.inl (leb-false lo i z)) (true_or_false (leb lo i))

    module _ (more : p < end) where
      pub reading_few : p < 32768
      reading_few = let a = (L.pruned_list u small).to in let c = S.most in omega arith

      module _ {j : ℕ} (ej : j ≡ get_or scratch (8192 + p) 0) where
        pub reading_row : j < length d
        reading_row = let a = (L.pruned_list u small).row p A.from (omega arith) in omega arith

        pub reading_from : b ≤ j
        reading_from = let a = A.after p (omega arith) (omega arith) in omega arith

        pub reading_gap : {x : ℕ → ℕ} {lo : ℕ}
            → Every t x lo u scratch
            → (i : ℕ) → b ≤ i
            → i < j
            → touches t i u ≡ true
            → (i < lo) ⊎ (x (other_of t i u) ≡ never)
        reading_gap {lo = lo} E i a k y =
            ⊎_elim (λ z. ⊎_elim ◌⊎◌.inr
            (λ P. let e = P.is in let g = P.below in
            ⊎_elim (λ o. let m = ap (λ (c : ℕ). get_or scratch (8192 + c) 0) o in absurd (omega arith))
            (λ o. let m = (L.pruned_list u small).rising p P.place A.from o (omega arith) in absurd (omega arith))
            (eq-or-lt_of_le (stands_after a P)))
            (E.row i (leb-true lo i z) (let o = reading_row in omega arith) y)) (λ z. ◌⊎◌.inl (leb-false lo i z))
            (true_or_false (leb lo i))

        pub reading_next : Reading scratch u (j + 1) (p + 1)
        reading_next =
            record {
              from = let a = A.from in omega arith;
              to = omega arith;
              before = λ r h k.
                  ⊎_elim (λ o. let m = ap (λ (c : ℕ). get_or scratch (8192 + c) 0) o in omega arith)
                  (λ o. let m = A.before r h o in let n = reading_from in omega arith)
                  (eq-or-lt_of_le (let z : r ≤ p = omega arith in z));
              after = λ r h k. let m = (L.pruned_list u small).rising p r A.from (omega arith) k in omega arith;
            }

-- the scratch changes at a place behind the adjacency
pub reading_behind : {t : Table} {sc sc' : List ℕ} {u b p : ℕ} (q x : ℕ) → u < 4096 → PrunedList t u sc
    → 8192 + 2 * size t ≤ q → sc' ≡ set sc q x
    → Reading sc u b p → Reading sc' u b p
reading_behind {sc = sc} {sc'} {u} q x small K far e A =
    record {
      from = let h = same (4096 + u) (omega arith) in let a = A.from in omega arith;
      to = let l = same u (omega arith) in let a = A.to in omega arith;
      before = λ r h k.
          let i = same (4096 + u) (omega arith) in
          let c = A.to in
          let m = K.to in
          let g = same (8192 + r) (omega arith) in
          let a = A.before r (omega arith) k in omega arith;
      after = λ r h k.
          let l = same u (omega arith) in
          let m = K.to in
          let g = same (8192 + r) (omega arith) in
          let a = A.after r h (omega arith) in omega arith;
    }
  where
    same : (r : ℕ) → r < q → get_or sc' r 0 ≡ get_or sc r 0
    same r h = ap (λ (ys : List ℕ). get_or ys r 0) e ∙ get_or-set_other sc q r x 0 (λ z. omega arith)

-- ---- times only rise, and rows only leave

pub every_rise : {t : Table} {x x' : ℕ → ℕ} {lo lo' u : ℕ} {sc : List ℕ} → ((v : ℕ) → x v ≡ never → x' v ≡ never)
    → lo ≤ lo'
    → Every t x lo u sc → Every t x' lo' u sc
every_rise {t} {u = u} up h E =
    record { row = λ i a l y. ⊎_elim (λ e. ◌⊎◌.inl (up (other_of t i u) e)) ◌⊎◌.inr (E.row i (omega arith) l y) }

pub covered_rise : {t : Table} {x x' : ℕ → ℕ} {lo lo' : ℕ} {sc : List ℕ} → ((v : ℕ) → x v ≡ never → x' v ≡ never)
    → lo ≤ lo'
    → Covered t x lo sc → Covered t x' lo' sc
covered_rise up h C = record { rows = λ u l n. every_rise up h (C.rows u l (λ e. n (up u e))) }

-- ---- the whole adjacency

module _ {t : Table} {day : ℕ} {sc : List ℕ} (L : Adjacency t day sc) where
  -- the entry at a place of u
  record Entry (u p : ℕ) : Type 0 where
    row : ℕ
    below : row < size t
    touch : touches t row u ≡ true
    ranked : offset_of t u + rank t u row ≡ p
    is : get_or sc (8192 + p) 0 ≡ row

  last_is : (u : ℕ) → u < 4096 → get_or sc u 0 ≡ offset_of t (suc u)
  last_is u l = L.cursors u l ∙ sym (place_step t u)

  entry : (u p : ℕ) → u < 4096 → get_or sc (4096 + u) 0 ≤ p → p < get_or sc u 0 → Entry u p
  entry u p l h k =
      let a = (L.heads u l).from in
      let c = L.cursors u l in
      let N = nth_row t u (size t) (p - offset_of t u) (omega arith) in
      let e : offset_of t u + rank t u N.row ≡ p = let g = N.ranked in omega arith in
      record {
        row = N.row;
        below = N.below;
        touch = N.touch;
        ranked = e;
        is = ap (λ (c : ℕ). get_or sc (8192 + c) 0) (sym e) ∙ L.entries u N.row l N.below N.touch;
      }

  pub adjacency_pruned : PrunedAdjacency t sc
  adjacency_pruned =
      record {
        long = L.long;
        pairs = L.pairs;
        pruned_list = λ u l.
            record {
              from = let a = last_is u l in let b = (L.heads u l).to in omega arith;
              to = let a = last_is u l in let b = places_most t (suc u) in omega arith;
              row = λ p h k. let E = entry u p l h k in let a = E.is in let b = E.below in omega arith;
              touch = λ p h k.
                  let E = entry u p l h k in subst (λ (c : ℕ). touches t c u ≡ true) (sym E.is) E.touch;
              rising = λ p r h o k.
                  let E = entry u p l h (omega arith) in
                  let G = entry u r l (omega arith) k in
                  let a = E.is in let b = G.is in let c = E.ranked in let e = G.ranked in
                  ⊎_elim
                  (λ y.
                  ⊎_elim (λ z. let m = ap (rank t u) z in absurd (omega arith))
                  (λ z. let m = rank_less t u G.row E.row G.touch z in absurd (omega arith))
                  (eq-or-lt_of_le (leb-true G.row E.row y)))
                  (λ y. let m = leb-false G.row E.row y in omega arith) (true_or_false (leb G.row E.row));
            };
      }

  -- lo and the rows after it are not dated before the day of the heads
  pub adjacency_covered : (x : ℕ → ℕ) {lo : ℕ} → ((j : ℕ) → j < size t → lo ≤ j → day ≤ day_of t j) → Covered t x lo sc
  adjacency_covered x {lo} late =
      record {
        rows = λ u l n.
            record {
              row = λ i a k y.
                  let H = L.heads u l in
                  ◌⊎◌.inr
                  (record {
                    place = offset_of t u + rank t u i;
                    from =
                        ⊎_elim (λ z. leb-true (get_or sc (4096 + u) 0) (offset_of t u + rank t u i) z)
                        (λ z.
                        let b = H.before i k y (leb-false (get_or sc (4096 + u) 0) (offset_of t u + rank t u i) z) in
                        let c = late i k a in absurd (omega arith))
                        (true_or_false (leb (get_or sc (4096 + u) 0) (offset_of t u + rank t u i)));
                    below = let b = entry_below t u i y k in let c = last_is u l in omega arith;
                    is = L.entries u i l k y;
                  });
            };
      }

  -- it lacks no row of u from lo on, whatever the times of the other accounts
  pub adjacency_every : {lo u : ℕ} → ((j : ℕ) → j < size t → lo ≤ j → day ≤ day_of t j) → u < 4096
      → Every t (λ v. 0) lo u sc
  adjacency_every {u = u} late l = (adjacency_covered (λ v. 0) late).rows u l (λ e. omega arith)

-- so a row of u that a walk passes over there is below lo
pub none_missing : {i lo : ℕ} → (i < lo) ⊎ (0 ≡ never) → i < lo
none_missing (◌⊎◌.inl h) = h
none_missing (◌⊎◌.inr e) = absurd (omega arith)
