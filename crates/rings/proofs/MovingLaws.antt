-- Day counts (src/histogram.rt): rows that go from one day to another time at once.
--     Moves                     which rows go
--     moving_asks, moving_hist   what that asks of the day counts, and what they are then
--     moving_room, moving_made   the two stores that it takes
-- Assumes nothing.
use Prim.Native.Nat.{ℕ, zero, suc, ◌+◌, ◌-◌, ◌≤◌, ◌<◌}
use native.Mathlib.Nat.{le_refl}
use native.Mathlib.Omega.{arith}
use mathlib.Core.Path.{◌≡◌, sym, ◌∙◌, ap}
use mathlib.Core.Logic.{⊎_elim}
use mathlib.Core.Bool.{Bool, true, false}
use mathlib.Core.List.{List}
use lib.ListN.{length, get_or, set, length-set}
use lib.Seq.{get_or-set_same, get_or-set_other}
use lib.Dec.{eqb}
use borrow.Author.Tests.{eq-eqb, ne_eqb}
use Rattle.rings.specs.Words.{count}
use Rattle.rings.specs.CoreTimes.{never}
use Rattle.rings.specs.Inner.Counting.{IsTime, Histogram, pending_on, Adding, Moving, RoomOn, AddAsks, MoveAsks}
use Rattle.rings.proofs.WordLaws.{true_or_false, suc_if_yes, suc_if_no, count_le, count_mono, same_or}
use Rattle.rings.proofs.CountingLaws.{count_yes, count_no, pending_on_here, pending_on_else, pending_on_none}

-- mv says of each of the first n rows whether it goes from old to new; the others keep their times
abbrev pub Moves : (ℕ → ℕ) → (ℕ → ℕ) → (ℕ → Bool) → ℕ → ℕ → ℕ → Type 0
Moves g g' mv old new n = (j : ℕ) → j < n → (mv j ≡ true → (g j ≡ old) × (g' j ≡ new)) × (mv j ≡ false → g' j ≡ g j)

module _ (mv : ℕ → Bool) where
  one_yes : (n : ℕ) → mv n ≡ true → count mv (suc n) ≡ suc (count mv n)
  unfolding count
  one_yes n h = suc_if_yes (count mv n) h

  one_no : (n : ℕ) → mv n ≡ false → count mv (suc n) ≡ count mv n
  unfolding count
  one_no n h = suc_if_no (count mv n) h

  -- a row that moves is one more with its time, and one more that moves
  pending_on_one : (f : ℕ → ℕ) (d e n : ℕ)
      → mv n ≡ true
      → f n ≡ d
      → count (λ j. eqb (f j) e) (suc n) + pending_on d (count mv n) e
      ≡ count (λ j. eqb (f j) e) n + pending_on d (count mv (suc n)) e
  pending_on_one f d e n h k =
      let m = one_yes n h in
      ⊎_elim (λ y.
      let a = pending_on_here d (count mv n) e y in
      let b = pending_on_here d (count mv (suc n)) e y in
      let c = count_yes f e n (eq-eqb (f n) e (k ∙ y)) in
      omega arith)
      (λ y.
      let a = pending_on_else d (count mv n) e y in
      let b = pending_on_else d (count mv (suc n)) e y in
      let c = count_no f e n (ne_eqb (f n) e (λ z. y (sym k ∙ z))) in
      omega arith)
      (same_or d e)

  count_stays : (g g' : ℕ → ℕ) (e n : ℕ)
      → g' n ≡ g n
      → count (λ j. eqb (g' j) e) (suc n) + count (λ j. eqb (g j) e) n
      ≡ count (λ j. eqb (g j) e) (suc n) + count (λ j. eqb (g' j) e) n
  count_stays g g' e n k =
      ⊎_elim (λ y. let a = count_yes g e n y in let b = count_yes g' e n (ap (λ (c : ℕ). eqb c e) k ∙ y) in omega arith)
      (λ y. let a = count_no g e n y in let b = count_no g' e n (ap (λ (c : ℕ). eqb c e) k ∙ y) in omega arith)
      (true_or_false (eqb (g n) e))

  module _ (g g' : ℕ → ℕ) (old new : ℕ) where
    count_moves : (e n : ℕ)
        → Moves g g' mv old new n
        → count (λ j. eqb (g' j) e) n + pending_on old (count mv n) e
        ≡ count (λ j. eqb (g j) e) n + pending_on new (count mv n) e
    unfolding count
    count_moves e zero h = let a = pending_on_none old e in let b = pending_on_none new e in omega arith
    count_moves e (suc n) h =
        let before = count_moves e n (λ j l. h j (omega arith)) in
        let w = h n (le_refl (suc n)) in
        ⊎_elim (λ y. let a = pending_on_one g old e n y (w.0 y).0 in
        let b = pending_on_one g' new e n y (w.0 y).1 in omega arith)
        (λ y.
        let a = count_stays g g' e n (w.1 y) in
        let b : pending_on old (count mv (suc n)) e ≡ pending_on old (count mv n) e =
        ap (λ (m : ℕ). pending_on old m e) (one_no n y) in
        let c : pending_on new (count mv (suc n)) e ≡ pending_on new (count mv n) e =
        ap (λ (m : ℕ). pending_on new m e) (one_no n y) in
        omega arith)
        (true_or_false (mv n))

    module _ {n : ℕ} (h : Moves g g' mv old new n) {xs : List ℕ} (T : Histogram g n xs) where
      pub moving_asks : {m : ℕ} → m ≡ count mv n → n ≤ 16384 → old < 1025 → IsTime new → MoveAsks m old new xs
      moving_asks em most small i =
          record {
            long = T.long;
            from_day = small;
            enough =
                let a = T.each old small in
                let b = count_mono mv (λ j. eqb (g j) old) n (λ j l y. eq-eqb (g j) old ((h j l).0 y).0) in
                omega arith;
            room = λ k. let o : new < 1025 = ⊎_elim (λ y. y) (λ y. absurd (k y)) i in
                record {
                  in_days = o;
                  few = let a = T.each new o in let b = count_le (λ j. eqb (g j) new) n in let c = count_le mv n in
                      omega arith;
                };
          }

      pub moving_hist : {m : ℕ} {xs' : List ℕ} → m ≡ count mv n → Moving m old new xs xs' → Histogram g' n xs'
      moving_hist {m} {xs'} em M =
          record {
            long = M.long;
            each = λ e l.
                let a = count_moves e n h in let b = M.each e l in let c = T.each e l in
                let o : pending_on old m e ≡ pending_on old (count mv n) e = ap (λ (i : ℕ). pending_on old i e) em in
                let p : pending_on new m e ≡ pending_on new (count mv n) e = ap (λ (i : ℕ). pending_on new i e) em in
                omega arith;
          }

-- what `move_in_histogram` does
module _ (m old new : ℕ) (xs xs₁ : List ℕ) (long : length xs ≡ 1025) (small : old < 1025)
    (enough : m ≤ get_or xs old 0) (e₁ : xs₁ ≡ set xs old (get_or xs old 0 - m)) where
  taken_off : (e : ℕ) → get_or xs₁ e 0 + pending_on old m e ≡ get_or xs e 0
  taken_off e =
      ⊎_elim (λ y.
      let a = pending_on_here old m e y in
      let b : get_or xs₁ e 0 ≡ get_or xs old 0 - m = ap (λ (ys : List ℕ). get_or ys e 0) e₁
      ∙ (ap (λ (c : ℕ). get_or (set xs old (get_or xs old 0 - m)) c 0) (sym y)
      ∙ get_or-set_same xs old (get_or xs old 0 - m) 0 (omega arith)) in
      let c : get_or xs old 0 ≡ get_or xs e 0 = ap (λ (i : ℕ). get_or xs i 0) y in
      omega arith)
      (λ y.
      let a = pending_on_else old m e y in
      let b : get_or xs₁ e 0 ≡ get_or xs e 0 =
      ap (λ (ys : List ℕ). get_or ys e 0) e₁ ∙ get_or-set_other xs old e (get_or xs old 0 - m) 0 (λ z. y (sym z)) in
      omega arith)
      (same_or old e)

  pub moving_room : ((new ≡ never → ⊥) → RoomOn m new xs) → AddAsks m new xs₁
  moving_room ask =
      record {
        long = ap length e₁ ∙ (length-set xs old (get_or xs old 0 - m) ∙ long);
        room = λ k.
            let a = ask k in
            let b = taken_off new in let c = a.few in record { in_days = a.in_days; few = omega arith };
      }

  pub moving_made : {xs' : List ℕ} → Adding m new xs₁ xs' → Moving m old new xs xs'
  moving_made {xs'} (Adding.pass h w) =
      record {
        long = ap length w ∙ (ap length e₁ ∙ (length-set xs old (get_or xs old 0 - m) ∙ long));
        each = λ e l.
            let a = taken_off e in
            let b = pending_on_else new m e (λ z. omega arith) in
            let c : get_or xs' e 0 ≡ get_or xs₁ e 0 = ap (λ (ys : List ℕ). get_or ys e 0) w in
            omega arith;
      }
  moving_made {xs'} (Adding.some h w) =
      record {
        long =
            ap length w
            ∙ (length-set xs₁ new (get_or xs₁ new 0 + m)
            ∙ (ap length e₁ ∙ (length-set xs old (get_or xs old 0 - m) ∙ long)));
        each = λ e l.
            let a = taken_off e in
            ⊎_elim (λ y.
            let b = pending_on_here new m e y in
            let k : length xs₁ ≡ 1025 = ap length e₁ ∙ (length-set xs old (get_or xs old 0 - m) ∙ long) in
            let c : get_or xs' e 0 ≡ get_or xs₁ new 0 + m =
            ap (λ (ys : List ℕ). get_or ys e 0) w
            ∙ (ap (λ (i : ℕ). get_or (set xs₁ new (get_or xs₁ new 0 + m)) i 0) (sym y)
            ∙ get_or-set_same xs₁ new (get_or xs₁ new 0 + m) 0 (omega arith)) in
            let d : get_or xs₁ new 0 ≡ get_or xs₁ e 0 = ap (λ (i : ℕ). get_or xs₁ i 0) y in
            omega arith)
            (λ y.
            let b = pending_on_else new m e y in
            let c : get_or xs' e 0 ≡ get_or xs₁ e 0 = ap (λ (ys : List ℕ). get_or ys e 0) w
            ∙ get_or-set_other xs₁ new e (get_or xs₁ new 0 + m) 0 (λ z. y (sym z)) in
            omega arith)
            (same_or new e);
      }
