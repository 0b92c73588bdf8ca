-- The table check, and what an accepted table says.
--     Passed d f s before j    the loop over rows has passed the rows below j: none has a fault
--     pass_start, pass_next, pass_refused, pass_end    the loop's laws
--     table_sound              what the checks say of an accepted table
--     row_here     the row that is checked
--     rising_all               days never fall, over any distance
-- Assumes nothing.
use Prim.Native.Nat.{ℕ, zero, suc, ◌+◌, ◌≤◌, ◌<◌}
use native.Mathlib.Nat.{le_refl, le_trans, eq-or-lt_of_le, not-suc-le-zero, le_of_suc-le-suc}
use native.Mathlib.Numerals.{add-one}
use native.Mathlib.Omega.{arith}
use mathlib.Core.Path.{◌≡◌, refl, sym, ap, subst}
use mathlib.Core.Logic.{⊎_elim}
use mathlib.Core.Bool.{Bool, false}
use mathlib.Core.List.{List}
use lib.ListN.{length, get_or}
use lib.Dec.{leb, ltb, eqb}
use borrow.Author.Tests.{leb-true, ltb-true, ltb-false, eqb-true}
use Rattle.std.specs.Prelude.{Ok, Err}
use Rattle.rings.specs.Words.{◌and◌, ◌or◌, no, at, tabulate}
use Rattle.rings.specs.Table.{table_of, day_of, first_of, second_of}
use Rattle.rings.specs.Sound.{NeverFall, Sound}
use Rattle.rings.specs.Checks.{◌when◌, ◌then◌, in_order}
use Rattle.rings.specs.TableCheck.{day_before, row_faults, row_check, table_check}
use Rattle.rings.specs.declared.refusal.Refusal.{Refusal}
use Rattle.rings.specs.declared.refusal.Refusal.TheVariants.{ColumnsDiffer, TooLarge, BadDay, BadAccounts}
use Rattle.rings.specs.declared.refusal.Refusal.TheVariants.{DayFalls}
use Rattle.rings.specs.Refusals.{Verdict}
use Rattle.rings.proofs.WordLaws.{true_or_false, clash, and_l, and_r, or_l, or_r, not_no}
use Rattle.rings.proofs.CheckLaws.{accepted_left, accepted_right, when_accepted, order_accepted, order_refused}
use Rattle.rings.proofs.CheckLaws.{all_accepted}

pub record Passed (d f s : List ℕ) (before j : ℕ) : Type 0 where
  pub inside : j ≤ length d
  pub day_before_lem : before ≡ day_before (table_of d f s) j
  pub passed : (l : ℕ) → l < j → row_check (table_of d f s) l ≡ Ok tt

module _ (d f s : List ℕ) where
  pub pass_start : Passed d f s 0 0
  unfolding day_before
  pass_start = record { inside = omega arith; day_before_lem = refl; passed = λ l h. absurd (not-suc-le-zero h) }

  pub row_here : (before j : ℕ) {v : Verdict} → Passed d f s before j
      → v ≡ row_faults j before (get_or d j 0) (get_or f j 0) (get_or s j 0)
      → row_check (table_of d f s) j ≡ v
  unfolding row_check day_of first_of second_of at
  row_here before j p e = sym (rw (← p.day_before_lem) e)

  pub pass_next : (before j : ℕ) → Passed d f s before j → j < length d
      → Ok tt ≡ row_faults j before (get_or d j 0) (get_or f j 0) (get_or s j 0) → Passed d f s (get_or d j 0) (j + 1)
  unfolding day_before day_of at
  pass_next before j p l e =
      record {
        inside = omega arith;
        day_before_lem = ap (day_before (table_of d f s)) (sym (add-one j));
        passed = λ i h.
            ⊎_elim
            (λ q. subst (λ (x : ℕ). row_check (table_of d f s) x ≡ Ok tt) (sym q) (row_here before j p e))
            (λ q. p.passed i q)
            (eq-or-lt_of_le (le_of_suc-le-suc (rw (add-one j) at h)));
      }

  pub pass_refused : (before j : ℕ) (r : Refusal) → Passed d f s before j → j < length d
      → Err r ≡ row_faults j before (get_or d j 0) (get_or f j 0) (get_or s j 0)
      → Err r ≡ in_order (tabulate (row_check (table_of d f s)) 0 (length d))
  pass_refused before j r p l e =
      sym
      (order_refused (row_check (table_of d f s)) 0 (length d) j (omega arith) (omega arith)
      (λ i a b. p.passed i b) (row_here before j p e))

  pub pass_end : (before j : ℕ) → Passed d f s before j → length d ≤ j
      → Ok tt ≡ in_order (tabulate (row_check (table_of d f s)) 0 (length d))
  pass_end before j p l =
      sym (order_accepted (row_check (table_of d f s)) 0 (length d) (λ i a b. p.passed i (omega arith)))

-- ---- an accepted table

faults_none : (j before day a b : ℕ) → row_faults j before day a b ≡ Ok tt
    → (1 ≤ day) × (day ≤ 1024) × (a < b) × (b ≤ 4095) × (before ≤ day)
unfolding row_faults
faults_none j before day a b e =
    let p = no (leb 1 day and leb day 1024) in
    let q = ltb 4095 b or no (ltb a b) in
    let r = ltb day before in
    let rest = BadAccounts j when q then DayFalls j when r in
    let e₁ = when_accepted (BadDay j) p (accepted_left (BadDay j when p) rest e) in
    let e' = accepted_right (BadDay j when p) rest e in
    let e₂ = when_accepted (BadAccounts j) q (accepted_left (BadAccounts j when q) (DayFalls j when r) e') in
    let e₃ = when_accepted (DayFalls j) r (accepted_right (BadAccounts j when q) (DayFalls j when r) e') in
    let both = not_no (leb 1 day and leb day 1024) e₁ in (
      leb-true 1 day (and_l (leb 1 day) (leb day 1024) both),
      leb-true day 1024 (and_r (leb 1 day) (leb day 1024) both),
      ltb-true a b (not_no (ltb a b) (right_false (ltb 4095 b) (no (ltb a b)) e₂)),
      ltb-false 4095 b (left_false (ltb 4095 b) (no (ltb a b)) e₂),
      ltb-false day before e₃,
    )
  where
    left_false : (x y : Bool) → x or y ≡ false → x ≡ false
    left_false x y h = ⊎_elim (λ z. clash (or_l x y z) h) (λ z. z) (true_or_false x)

    right_false : (x y : Bool) → x or y ≡ false → y ≡ false
    right_false x y h = ⊎_elim (λ z. clash (or_r x y z) h) (λ z. z) (true_or_false y)

row_sound : (d f s : List ℕ) (j : ℕ) → row_check (table_of d f s) j ≡ Ok tt
    → (1 ≤ get_or d j 0) × (get_or d j 0 ≤ 1024) × (get_or f j 0 < get_or s j 0) × (get_or s j 0 ≤ 4095)
    × (day_before (table_of d f s) j ≤ get_or d j 0)
unfolding row_check day_of first_of second_of at
row_sound d f s j e = faults_none j (day_before (table_of d f s) j) (get_or d j 0) (get_or f j 0) (get_or s j 0) e

pub table_sound : (d f s : List ℕ) → table_check (table_of d f s) ≡ Ok tt → Sound d f s
unfolding table_check day_before day_of at
table_sound d f s e =
    let b = no (eqb (length f) (length d) and eqb (length s) (length d)) in
    let g = ltb 16384 (length d) in
    let rest = in_order (tabulate (row_check (table_of d f s)) 0 (length d)) in
    let e₁ = when_accepted ColumnsDiffer b (accepted_left (ColumnsDiffer when b) (TooLarge when g then rest) e) in
    let e' = accepted_right (ColumnsDiffer when b) (TooLarge when g then rest) e in
    let e₂ = when_accepted TooLarge g (accepted_left (TooLarge when g) rest e') in
    let e₃ = accepted_right (TooLarge when g) rest e' in
    let both = not_no (eqb (length f) (length d) and eqb (length s) (length d)) e₁ in
    record {
      firsts = eqb-true (length f) (length d) (and_l (eqb (length f) (length d)) (eqb (length s) (length d)) both);
      seconds = eqb-true (length s) (length d) (and_r (eqb (length f) (length d)) (eqb (length s) (length d)) both);
      most = ltb-false 16384 (length d) e₂;
      rows = λ j l. let x = row e₃ j l in record { day_from = x.0; day_to = x.1; accounts = x.2; account_to = x.3 };
      rising = record { next = λ j l. (row e₃ (suc j) l).4 };
    }
  where
    row : in_order (tabulate (row_check (table_of d f s)) 0 (length d)) ≡ Ok tt → (j : ℕ) → j < length d
        → (1 ≤ get_or d j 0) × (get_or d j 0 ≤ 1024) × (get_or f j 0 < get_or s j 0) × (get_or s j 0 ≤ 4095)
        × (day_before (table_of d f s) j ≤ get_or d j 0)
    row h j l = row_sound d f s j (all_accepted (row_check (table_of d f s)) 0 (length d) h j (omega arith) (omega arith))

-- days never fall, over any distance
pub rising_all : (d : List ℕ) → NeverFall d → (i j : ℕ) → i ≤ j → j < length d → get_or d i 0 ≤ get_or d j 0
rising_all d up i zero h l = let e : i ≡ 0 = omega arith in rw e (le_refl (get_or d 0 0))
rising_all d up i (suc j) h l =
    ⊎_elim (λ e. rw e (le_refl (get_or d (suc j) 0)))
    (λ o. le_trans (rising_all d up i j (le_of_suc-le-suc o) (omega arith)) (up.next j l)) (eq-or-lt_of_le h)
