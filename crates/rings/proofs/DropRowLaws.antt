-- The day counts while the rows of the first day leave (src/histogram.rt, drop_rows).
--     drop_from, drop_start, drop_asks, drop_next, drop_end     the loop
-- Assumes nothing.
use Prim.Native.Nat.{ℕ, ◌+◌, ◌≤◌, ◌<◌}
use native.Mathlib.Nat.{le_refl, eq-or-lt_of_le}
use native.Mathlib.Omega.{arith}
use mathlib.Core.Path.{◌≡◌, sym, ◌∙◌}
use mathlib.Core.Logic.{◌⊎◌, ⊎_elim}
use mathlib.Core.List.{List}
use lib.ListN.{length}
use lib.Dec.{ltb}
use borrow.Author.Tests.{ltb-true, ltb-false}
use Rattle.rings.specs.Words.{at}
use Rattle.rings.specs.Table.{Table, table_of, day_of, Split}
use Rattle.rings.specs.CoreTimes.{never, row_time}
use Rattle.rings.specs.Inner.Peeling.{Setting, frame_of, estimate, CoreTimesAre}
use Rattle.rings.specs.Inner.Counting.{time_by, Histogram, Removing, RemoveAsks}
use Rattle.rings.specs.declared.Query.{Query}
use Rattle.rings.proofs.WordLaws.{true_or_false}
use Rattle.rings.proofs.CoreTimeLaws.{row_before}
use Rattle.rings.proofs.CountingLaws.{by_out, by_core, by_later, is_time, hist_same, hist_has, hist_drop}
use Rattle.rings.proofs.ShiftLaws.{mixed, mixed_below, mixed_from}

module _ (d f g : List ℕ) (q : Query) (s te lo : ℕ) (S : Setting (table_of d f g) q s te lo) {xs : List ℕ}
    (C : CoreTimesAre (table_of d f g) (frame_of q s te lo) xs) {next : ℕ} (N : Split d (s + 1) next) where
  abbrev ts : Table
  ts = table_of d f g

  abbrev at_s : ℕ → ℕ
  at_s = row_time ts q te s

  abbrev later : ℕ → ℕ
  later = time_by ts (estimate xs) (s + 1) te

  gone : (j : ℕ) → j < next → later j ≡ never
  unfolding day_of at
  gone j h = by_out ts (estimate xs) (s + 1) te j (◌⊎◌.inl (N.before j h))

  -- the rows before s are among those that have left
  pub drop_from : lo ≤ length d → lo ≤ next
  unfolding day_of at
  drop_from w =
      ⊎_elim
      (λ y.
      let h = ltb-true next lo y in
      let a = S.before_lo next h in
      let b = N.after next (le_refl next) (omega arith) in
      absurd (omega arith))
      (λ y. ltb-false next lo y) (true_or_false (ltb next lo))

  -- the rows below j have left
  abbrev Dropping : ℕ → List ℕ → Type 0
  Dropping j counts = Histogram (mixed at_s later j) (length d) counts

  pub drop_start : lo ≤ next → {counts : List ℕ} → Histogram at_s (length d) counts → Dropping lo counts
  drop_start up =
      hist_same (λ i l. ⊎_elim
      (λ y. let h = ltb-true i lo y in
      mixed_below at_s later lo i h ∙ (gone i (omega arith) ∙ sym (row_before ts q te s i (S.before_lo i h))))
      (λ y. mixed_from at_s later lo i (ltb-false i lo y)) (true_or_false (ltb i lo)))

  module _ {j : ℕ} (h : j < next) (top : te ≤ 1024) {v : ℕ} (e : v ≡ at_s j) {counts : List ℕ}
      (D : Dropping j counts) where
    here : j < length d
    here = let a = N.within in omega arith

    is : v ≡ mixed at_s later j j
    is = e ∙ sym (mixed_from at_s later j j (le_refl j))

    pub drop_asks : RemoveAsks v counts
    drop_asks = hist_has D here is (is_time ts q te s j top e)

    pub drop_next : {counts' : List ℕ} → Removing v counts counts' → Dropping (j + 1) counts'
    drop_next =
        hist_drop D here is (is_time ts q te s j top e) (mixed_below at_s later (j + 1) j (omega arith) ∙ gone j h)
        (λ a n. ⊎_elim
        (λ y. let l = ltb-true a j y in
        mixed_below at_s later (j + 1) a (omega arith) ∙ sym (mixed_below at_s later j a l))
        (λ y. let l = ltb-false a j y in
        mixed_from at_s later (j + 1) a (⊎_elim (λ o. absurd (n (sym o))) (λ o. omega arith) (eq-or-lt_of_le l))
        ∙ sym (mixed_from at_s later j a l))
        (true_or_false (ltb a j)))

  pub drop_end : {j : ℕ} → next ≤ j → {counts : List ℕ} → Dropping j counts → Histogram later (length d) counts
  unfolding day_of at
  drop_end {j} h =
      hist_same (λ i l. ⊎_elim (λ y. sym (mixed_below at_s later j i (ltb-true i j y)))
      (λ y. let o = ltb-false i j y in
      by_later ts (estimate xs) s te i (N.after i (omega arith) l)
      ∙ (by_core d f g q s te lo S C i l ∙ sym (mixed_from at_s later j i o)))
      (true_or_false (ltb i j)))
