-- A scan of an account (src/scan.rt): why the day that it finds is the least with k supporters.
--     scanned_start, scanned_not_lead, scanned_idle, scanned_note, scanned_count, scanned_stop, scanned_out     the
--         rows of u as they stand on a day
--     backers_yes, backers_no     one row more, and how many back u
-- Assumes nothing.
use Prim.Native.Nat.{ℕ, zero, suc, ◌+◌, ◌≤◌, ◌<◌}
use native.Mathlib.Nat.{le_refl, le_trans, eq-or-lt_of_le}
use native.Mathlib.Numerals.{add-one}
use native.Mathlib.Omega.{arith}
use mathlib.Core.Path.{◌≡◌, refl, sym, ◌∙◌, ap, subst}
use mathlib.Core.Logic.{◌⊎◌, ⊎_elim}
use mathlib.Core.Bool.{true, false}
use lib.Dec.{leb}
use borrow.Author.Tests.{leb-true, leb-false}
use Rattle.rings.specs.Words.{suc_if, count}
use Rattle.rings.specs.Table.{Table, size, day_of}
use Rattle.rings.specs.Ring.{touches}
use Rattle.rings.specs.CoreTimes.{never}
use Rattle.rings.specs.Inner.Adjacency.{other_of, leads}
use Rattle.rings.specs.Inner.Peeling.{Setting}
use Rattle.rings.specs.Inner.Settling.{value, backing, backers, RowsScanned, RowNoted}
use Rattle.rings.specs.declared.Query.{Query}
use Rattle.rings.proofs.WordLaws.{true_or_false, clash, count_mono, count_none, suc_if_yes, suc_if_no}
use Rattle.rings.proofs.LeadLaws.{lead_from}
use Rattle.rings.proofs.BackerLaws.{backing_e, backing_i}

module _ (t : Table) (q : Query) (s hi lo : ℕ) (S : Setting t q s hi lo) (x : ℕ → ℕ) where
  pub backers_yes : (c u b : ℕ) → backing t x lo c u b ≡ true → backers t x lo c u (suc b) ≡ suc (backers t x lo c u b)
  unfolding backers count
  backers_yes c u b h = suc_if_yes (count (backing t x lo c u) b) h

  pub backers_no : (c u b : ℕ) → backing t x lo c u b ≡ false → backers t x lo c u (suc b) ≡ backers t x lo c u b
  unfolding backers count
  backers_no c u b h = suc_if_no (count (backing t x lo c u) b) h

  backers_grow : (c u j : ℕ) → backers t x lo c u j ≤ backers t x lo c u (j + 1)
  backers_grow c u j =
      let e = ap (backers t x lo c u) (add-one j) in
      ⊎_elim (λ y. let m = backers_yes c u j y in omega arith) (λ y. let m = backers_no c u j y in omega arith)
      (true_or_false (backing t x lo c u j))

  backers_mono : (c u i j : ℕ) → i ≤ j → backers t x lo c u i ≤ backers t x lo c u j
  backers_mono c u i zero h =
      let e : i ≡ 0 = omega arith in
      subst (λ (a : ℕ). backers t x lo c u a ≤ backers t x lo c u 0) (sym e) (le_refl (backers t x lo c u 0))
  backers_mono c u i (suc j) h =
      ⊎_elim (λ e. subst (λ (a : ℕ). backers t x lo c u a ≤ backers t x lo c u (suc j)) (sym e)
      (le_refl (backers t x lo c u (suc j))))
      (λ l. le_trans (backers_mono c u i j (omega arith))
      (subst (λ (a : ℕ). backers t x lo c u j ≤ backers t x lo c u a) (add-one j) (backers_grow c u j)))
      (eq-or-lt_of_le h)

  -- a row of u that is below lo, or whose other account has no time, backs it on no day
  gap_not : (c u j : ℕ) → c < never → (touches t j u ≡ true → (j < lo) ⊎ (x (other_of t j u) ≡ never))
      → backing t x lo c u j ≡ false
  unfolding value
  gap_not c u j h gap =
      ⊎_elim
      (λ y.
      let w = backing_e t q s hi lo S x c u j y in
      let b = w.by in
      let a = lead_from t lo j w.is_lead in
      ⊎_elim (λ z. absurd (omega arith)) (λ z. absurd (omega arith)) (gap w.touch))
      (λ y. y) (true_or_false (backing t x lo c u j))

  -- so such rows change nothing
  backers_flat : (c u b j : ℕ)
      → c < never
      → b ≤ j
      → ((i : ℕ) → b ≤ i → i < j → touches t i u ≡ true → (i < lo) ⊎ (x (other_of t i u) ≡ never))
      → backers t x lo c u j ≡ backers t x lo c u b
  backers_flat c u b zero o h gap = let e : b ≡ 0 = omega arith in ap (backers t x lo c u) (sym e)
  backers_flat c u b (suc j) o h gap =
      ⊎_elim (λ e. ap (backers t x lo c u) (sym e))
      (λ k. backers_no c u j (gap_not c u j o (gap j (omega arith) (omega arith)))
      ∙ backers_flat c u b j o (omega arith) (λ i a l. gap i a (omega arith)))
      (eq-or-lt_of_le h)

  not_backing : (c u j : ℕ) {z : ℕ} → c < z → z ≡ value t x j u → backing t x lo c u j ≡ false
  not_backing c u j h e =
      ⊎_elim (λ y. let v = (backing_e t q s hi lo S x c u j y).by in absurd (omega arith)) (λ y. y)
      (true_or_false (backing t x lo c u j))

  module _ {c u b n above more : ℕ} (W : RowsScanned t x lo hi c u b n above more) where
    above_most : above ≤ never
    above_most = let h = S.fits in ⊎_elim (λ y. omega arith) (λ y. omega arith) W.day

    soon : c < never
    soon = let a = above_most in let b = W.rises in omega arith

    -- a first row of u that the walk passed over comes in after the day above
    gap_late : {i above' : ℕ} → above' ≤ above → leads t lo i ≡ true → (i < lo) ⊎ (x (other_of t i u) ≡ never)
        → (value t x i u ≤ c) ⊎ (above' ≤ value t x i u)
    unfolding value
    gap_late {i} le f o =
        let a = lead_from t lo i f in
        let m = above_most in ⊎_elim (λ z. absurd (omega arith)) (λ z. ◌⊎◌.inr (omega arith)) o

    -- the next row of u in the adjacency is j
    module _ (j : ℕ) (from : b ≤ j)
        (gap : (i : ℕ) → b ≤ i → i < j → touches t i u ≡ true → (i < lo) ⊎ (x (other_of t i u) ≡ never)) where
      flat : n ≡ backers t x lo c u j
      flat = W.counted ∙ sym (backers_flat c u b j soon from gap)

      earlier_rows : {above' : ℕ}
          → above' ≤ above
          → (i : ℕ) → i < j
          → leads t lo i ≡ true
          → touches t i u ≡ true
          → day_of t i ≤ hi
          → (value t x i u ≤ c) ⊎ (above' ≤ value t x i u)
      earlier_rows {above'} le i l f h o =
          ⊎_elim (λ y. gap_late le f (gap i (leb-true b i y) l h))
          (λ y. ⊎_elim ◌⊎◌.inl (λ z. ◌⊎◌.inr (le_trans le z)) (W.none_between i (leb-false b i y) f h o))
          (true_or_false (leb b i))

      -- of those that come in by the day above too
      then_flat : (above ≡ never) ⊎ (n + more ≤ backers t x lo above u j)
      then_flat = ⊎_elim ◌⊎◌.inl (λ y. ◌⊎◌.inr (le_trans y (backers_mono above u b j from))) W.then

      few_flat : n + more ≤ j
      few_flat = let a = W.few in omega arith

      passes : leads t lo j ≡ false → RowsScanned t x lo hi c u (j + 1) n above more
      passes f =
          record {
            counted = flat ∙ (sym (backers_no c u j (not_lead c)) ∙ ap (backers t x lo c u) (sym (add-one j)));
            rises = W.rises;
            none_between = λ i l g h o.
                ⊎_elim (λ e. clash (subst (λ (a : ℕ). leads t lo a ≡ true) e g) f)
                (λ k. earlier_rows (le_refl above) i k g h o) (eq-or-lt_of_le (omega arith));
            day = W.day;
            few = let a = few_flat in omega arith;
            then =
                ⊎_elim ◌⊎◌.inl
                (λ m.
                let e = backers_no above u j (not_lead above) in
                let y = ap (backers t x lo above u) (add-one j) in
                ◌⊎◌.inr (omega arith))
                then_flat;
          }
        where
          not_lead : (a : ℕ) → backing t x lo a u j ≡ false
          not_lead a =
              ⊎_elim (λ y. clash (backing_e t q s hi lo S x a u j y).is_lead f) (λ y. y)
              (true_or_false (backing t x lo a u j))

      passes_as : {n' above' more' : ℕ} → leads t lo j ≡ false → n' ≡ n → above' ≡ above → more' ≡ more
          → RowsScanned t x lo hi c u (j + 1) n' above' more'
      passes_as {n'} {above'} {more'} f en ea em =
          subst (λ (i : ℕ). RowsScanned t x lo hi c u (j + 1) i above' more') (sym en)
          (subst (λ (i : ℕ). RowsScanned t x lo hi c u (j + 1) n i more') (sym ea)
          (subst (λ (i : ℕ). RowsScanned t x lo hi c u (j + 1) n above i) (sym em) (passes f)))

      -- a row that is not the first of its pair: never stands for its value
      pub scanned_not_lead : {n' above' more' : ℕ}
          → leads t lo j ≡ false
          → RowNoted true never c n above more n' above' more'
          → RowsScanned t x lo hi c u (j + 1) n' above' more'
      scanned_not_lead f (RowNoted.back h en ea em) = let a = soon in absurd (omega arith)
      scanned_not_lead f (RowNoted.nearer h k en ea em) = let a = above_most in absurd (omega arith)
      scanned_not_lead {n'} {above'} {more'} f (RowNoted.level h k en ea em) =
          record {
            counted = en ∙ (passes f).counted;
            rises = let a = W.rises in omega arith;
            none_between = λ i l g y o.
                subst (λ (a : ℕ). (value t x i u ≤ c) ⊎ (a ≤ value t x i u)) (sym ea)
                ((passes f).none_between i l g y o);
            day = ◌⊎◌.inr (ea ∙ sym k);
            few = let a = few_flat in let m = suc_if_yes more (let z : true ≡ true = refl in z) in omega arith;
            then = ◌⊎◌.inl (ea ∙ sym k);
          }
      scanned_not_lead f (RowNoted.farther h k en ea em) = passes_as f en ea em

      -- who supports on day c does so on every later one
      backs_on : (a : ℕ) → c ≤ a → n ≤ backers t x lo a u j
      unfolding backers
      backs_on a h =
          let e = flat in
          let m = count_mono (backing t x lo c u) (backing t x lo a u) j
          (λ i l y. let b = backing_e t q s hi lo S x c u i y in
          backing_i t q s hi lo S x a u i
          (record { is_lead = b.is_lead; touch = b.touch; by = le_trans b.by h })) in
          omega arith

      -- or its own value does, and the row does not count
      pub scanned_idle : {z n' above' more' : ℕ}
          → leads t lo j ≡ false
          → (z ≤ hi) ⊎ (z ≡ never)
          → RowNoted false z c n above more n' above' more'
          → RowsScanned t x lo hi c u (j + 1) n' above' more'
      scanned_idle f days (RowNoted.back h en ea em) = passes_as f (en ∙ suc_if_no n refl) ea em
      scanned_idle {z} {n'} {above'} {more'} f days (RowNoted.nearer h k en ea em) =
          record {
            counted = en ∙ (passes f).counted;
            rises = omega arith;
            none_between = λ i l g y o.
                ⊎_elim (λ e. clash (subst (λ (a : ℕ). leads t lo a ≡ true) e g) f)
                (λ b. earlier_rows (omega arith) i b g y o) (eq-or-lt_of_le (omega arith));
            day = subst (λ (a : ℕ). (a ≤ hi) ⊎ (a ≡ never)) (sym ea) days;
            few = let a = few_flat in let m = suc_if_no 0 (let w : false ≡ false = refl in w) in omega arith;
            then =
                ◌⊎◌.inr (subst (λ (a : ℕ). n' + more' ≤ backers t x lo a u (j + 1)) (sym ea)
                (let m = suc_if_no 0 (let w : false ≡ false = refl in w) in
                let o = backs_on z (omega arith) in
                let b = backers_grow z u j in
                omega arith));
          }
      scanned_idle f days (RowNoted.level h k en ea em) = passes_as f en ea (em ∙ suc_if_no more refl)
      scanned_idle f days (RowNoted.farther h k en ea em) = passes_as f en ea em

      module _ {z : ℕ} (f : leads t lo j ≡ true) (g : touches t j u ≡ true) (ez : z ≡ value t x j u) where
        -- from z on the row backs u
        backs_from : (a : ℕ) → z ≤ a → backers t x lo a u (j + 1) ≡ suc (backers t x lo a u j)
        backs_from a h =
            ap (backers t x lo a u) (add-one j)
            ∙ backers_yes a u j
            (backing_i t q s hi lo S x a u j (record { is_lead = f; touch = g; by = subst (λ (w : ℕ). w ≤ a) ez h }))

        backs_not : (a : ℕ) → a < z → backers t x lo a u (j + 1) ≡ backers t x lo a u j
        backs_not a h = ap (backers t x lo a u) (add-one j) ∙ backers_no a u j (not_backing a u j h ez)

        passed : {above' : ℕ}
            → above' ≤ above
            → above' ≤ z
            → (i : ℕ) → i < j + 1
            → leads t lo i ≡ true
            → touches t i u ≡ true
            → day_of t i ≤ hi
            → (value t x i u ≤ c) ⊎ (above' ≤ value t x i u)
        passed {above'} le zl i l r y o =
            ⊎_elim
            (λ e. ◌⊎◌.inr (subst (λ (a : ℕ). above' ≤ value t x a u) (sym e) (let w = ez in omega arith)))
            (λ k. earlier_rows le i k r y o) (eq-or-lt_of_le (omega arith))

        one_more : (m : ℕ) → suc_if true m ≡ suc m
        one_more m = suc_if_yes m refl

        pub scanned_note : {n' above' more' : ℕ}
            → (z ≤ hi) ⊎ (z ≡ never)
            → RowNoted true z c n above more n' above' more'
            → RowsScanned t x lo hi c u (j + 1) n' above' more'
        scanned_note {n'} {above'} {more'} days (RowNoted.back h en ea em) =
            record {
              counted = let e = flat in let k = backs_from c h in let v = one_more n in omega arith;
              rises = let r = W.rises in omega arith;
              none_between = λ i l k y o.
                  ⊎_elim
                  (λ e. ◌⊎◌.inl (subst (λ (a : ℕ). value t x a u ≤ c) (sym e) (subst (λ (a : ℕ). a ≤ c) ez h)))
                  (λ o'. earlier_rows (omega arith) i o' k y o) (eq-or-lt_of_le (omega arith));
              day = subst (λ (a : ℕ). (a ≤ hi) ⊎ (a ≡ never)) (sym ea) W.day;
              few = let a = few_flat in let v = one_more n in omega arith;
              then =
                  ⊎_elim (λ y. ◌⊎◌.inl (ea ∙ y))
                  (λ m. ◌⊎◌.inr
                  (subst (λ (a : ℕ). n' + more' ≤ backers t x lo a u (j + 1)) (sym ea)
                  (let r = W.rises in let k = backs_from above (omega arith) in let v = one_more n in omega arith)))
                  then_flat;
            }
        scanned_note {n'} {above'} {more'} days (RowNoted.nearer h k en ea em) =
            record {
              counted = let e = flat in let m = backs_not c h in omega arith;
              rises = omega arith;
              none_between = passed (omega arith) (omega arith);
              day = subst (λ (a : ℕ). (a ≤ hi) ⊎ (a ≡ never)) (sym ea) days;
              few = let a = few_flat in let v = one_more 0 in omega arith;
              then =
                  ◌⊎◌.inr (subst (λ (a : ℕ). n' + more' ≤ backers t x lo a u (j + 1)) (sym ea)
                  (let m = backs_from z (le_refl z) in
                  let o = backs_on z (omega arith) in
                  let v = one_more 0 in
                  omega arith));
            }
        scanned_note {n'} {above'} {more'} days (RowNoted.level h k en ea em) =
            record {
              counted = let e = flat in let m = backs_not c h in omega arith;
              rises = omega arith;
              none_between = passed (omega arith) (omega arith);
              day = subst (λ (a : ℕ). (a ≤ hi) ⊎ (a ≡ never)) (sym ea) W.day;
              few = let a = few_flat in let v = one_more more in omega arith;
              then =
                  ⊎_elim (λ y. ◌⊎◌.inl (ea ∙ y))
                  (λ o. ◌⊎◌.inr
                  (subst (λ (a : ℕ). n' + more' ≤ backers t x lo a u (j + 1)) (sym ea)
                  (let m = backs_from above (omega arith) in let v = one_more more in omega arith)))
                  then_flat;
            }
        scanned_note {n'} {above'} {more'} days (RowNoted.farther h k en ea em) =
            record {
              counted = let e = flat in let m = backs_not c h in omega arith;
              rises = let r = W.rises in omega arith;
              none_between = passed (omega arith) (omega arith);
              day = subst (λ (a : ℕ). (a ≤ hi) ⊎ (a ≡ never)) (sym ea) W.day;
              few = let a = few_flat in omega arith;
              then =
                  ⊎_elim (λ y. ◌⊎◌.inl (ea ∙ y))
                  (λ o. ◌⊎◌.inr
                  (subst (λ (a : ℕ). n' + more' ≤ backers t x lo a u (j + 1)) (sym ea)
                  (let m = backers_grow above u j in omega arith)))
                  then_flat;
            }

      -- from j on every row is dated after c
      pub scanned_count : ((i : ℕ) → j ≤ i → i < size t → c < day_of t i) → j ≤ size t → n ≡ backers t x lo c u (size t)
      unfolding value
      scanned_count late l = flat ∙ sym (rest (size t) l (le_refl (size t)))
        where
          rest : (m : ℕ) → j ≤ m → m ≤ size t → backers t x lo c u m ≡ backers t x lo c u j
          rest zero h k = let e : j ≡ 0 = omega arith in ap (backers t x lo c u) (sym e)
          rest (suc m) h k =
              ⊎_elim (λ e. ap (backers t x lo c u) (sym e))
              (λ o. backers_no c u m
              (⊎_elim
              (λ y.
              let v = (backing_e t q s hi lo S x c u m y).by in
              let z = late m (omega arith) (omega arith) in
              absurd (omega arith))
              (λ y. y) (true_or_false (backing t x lo c u m)))
              ∙ rest m (omega arith) (omega arith))
              (eq-or-lt_of_le h)

      -- and after the range, or not before the day above
      pub scanned_stop : c ≤ hi
          → ((i : ℕ) → j ≤ i → i < size t → (hi < day_of t i) ⊎ (above ≤ day_of t i))
          → j ≤ size t
          → RowsScanned t x lo hi c u (size t) n above more
      unfolding value
      scanned_stop top late l =
          record {
            counted =
                scanned_count
                (λ i a k. let r = W.rises in ⊎_elim (λ z. omega arith) (λ z. omega arith) (late i a k))
                l;
            rises = W.rises;
            none_between = λ i k f h o.
                ⊎_elim
                (λ y. ⊎_elim (λ z. absurd (omega arith)) (λ z. ◌⊎◌.inr (omega arith)) (late i (leb-true j i y) k))
                (λ y. earlier_rows (le_refl above) i (leb-false j i y) f h o) (true_or_false (leb j i));
            day = W.day;
            few = let a = few_flat in omega arith;
            then = ⊎_elim ◌⊎◌.inl (λ m. ◌⊎◌.inr (le_trans m (backers_mono above u j (size t) l))) then_flat;
          }

    pub scanned_out : b ≤ size t
        → ((i : ℕ) → b ≤ i → i < size t → touches t i u ≡ true → (i < lo) ⊎ (x (other_of t i u) ≡ never))
        → RowsScanned t x lo hi c u (size t) n above more
    scanned_out l gap =
        record {
          counted = W.counted ∙ sym (backers_flat c u b (size t) soon l gap);
          rises = W.rises;
          none_between = λ i k f h o.
              ⊎_elim (λ y. gap_late (le_refl above) f (gap i (leb-true b i y) k h))
              (λ y. W.none_between i (leb-false b i y) f h o) (true_or_false (leb b i));
          day = W.day;
          few = let a = W.few in omega arith;
          then = ⊎_elim ◌⊎◌.inl (λ m. ◌⊎◌.inr (le_trans m (backers_mono above u b (size t) l))) W.then;
        }

  -- no row below lo supports u
  pub scanned_start : (c u : ℕ) → c < never → RowsScanned t x lo hi c u lo 0 never 0
  unfolding backers
  scanned_start c u h =
      record {
        counted =
            sym (count_none (backing t x lo c u) lo
            (λ i l. ⊎_elim
            (λ y. let a = lead_from t lo i (backing_e t q s hi lo S x c u i y).is_lead in absurd (omega arith))
            (λ y. y) (true_or_false (backing t x lo c u i))));
        rises = h;
        none_between = λ j l f k. let a = lead_from t lo j f in absurd (omega arith);
        day = ◌⊎◌.inr refl;
        few = omega arith;
        then = ◌⊎◌.inl refl;
      }
