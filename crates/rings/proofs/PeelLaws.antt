-- Peeling by any test: what is left is within the start, passes the test in itself, and, where the test is monotone,
-- holds every such set within the start.
-- Nothing here knows what the test is: a rule with more conditions changes `RingLaws.keep_monotone` and not this file.
--     Stable test m      each row of m passes the test in m
--     Monotone test      what passes in a set passes in a greater one
--     within_refl, within_trans     row sets, by inclusion
--     members_length     a row set has at most as many rows as marks
--     peel_sized, peel_within, peel_stable, peel_greatest     what is left: a part of the start that passes the test
--         in itself, and the greatest
-- Assumes nothing.
use Prim.Native.Nat.{ℕ, zero, suc, ◌≤◌, ◌<◌}
use native.Mathlib.Omega.{arith}
use mathlib.Core.Path.{◌≡◌, refl, sym, ◌∙◌, ap, subst}
use mathlib.Core.Logic.{⊎_elim}
use mathlib.Core.Bool.{Bool, true, false}
use mathlib.Core.List.{List}
use lib.ListN.{length}
use Rattle.rings.specs.Words.{◌and◌, no, marked, some, count}
use Rattle.rings.specs.Ring.{Within, round, rounds, peel, members}
use Rattle.rings.proofs.WordLaws.{true_or_false, clash, and_i, and_l, and_r, no_i, no_e, some_none, some_e}
use Rattle.rings.proofs.WordLaws.{count_le, count_less, count_pos, length_tabulate, marked_tabulate_e}
use Rattle.rings.proofs.WordLaws.{marked_tabulate_i, marked_below, same_marks}

pub record Stable (test : List Bool → ℕ → Bool) (m : List Bool) : Type 0 where
  pub passes : (j : ℕ) → marked m j ≡ true → test m j ≡ true

pub record Monotone (test : List Bool → ℕ → Bool) : Type 0 where
  pub raises : (m m' : List Bool) → Within m m' → (j : ℕ) → test m j ≡ true → test m' j ≡ true

pub within_refl : (m : List Bool) → Within m m
within_refl m = record { all = λ j h. h }

pub within_trans : {a b c : List Bool} → Within a b → Within b c → Within a c
within_trans p q = record { all = λ j h. q.all j (p.all j h) }

pub members_length : (m : List Bool) → members m ≤ length m
unfolding members
members_length m = count_le (marked m) (length m)

module _ (test : List Bool → ℕ → Bool) where
  round_sized : (m : List Bool) → length (round test m) ≡ length m
  unfolding round
  round_sized m = length_tabulate (λ j. marked m j and test m j) 0 (length m)

  round_within : (m : List Bool) → Within (round test m) m
  unfolding round
  round_within m =
      record {
        all = λ j h. and_l (marked m j) (test m j)
            (marked_tabulate_e (λ i. marked m i and test m i) (length m) j h).1;
      }

  -- a row of m that passes the test stays
  round_stays : (m : List Bool) (j : ℕ) → marked m j ≡ true → test m j ≡ true → marked (round test m) j ≡ true
  unfolding round
  round_stays m j h k = marked_tabulate_i (λ i. marked m i and test m i) (length m) j (marked_below m j h) (and_i h k)

  round_passes : (m : List Bool) (j : ℕ) → marked (round test m) j ≡ true → test m j ≡ true
  unfolding round
  round_passes m j h =
      and_r (marked m j) (test m j) (marked_tabulate_e (λ i. marked m i and test m i) (length m) j h).1

  -- a set from which no row is dropped is left as it is
  round_same : (m : List Bool) → Stable test m → round test m ≡ m
  round_same m s =
      same_marks (round test m) m (round_sized m) (round_within m).all (λ j h. round_stays m j h (s.passes j h))

  rounds_same : (n : ℕ) (m : List Bool) → Stable test m → rounds test n m ≡ m
  unfolding rounds
  rounds_same zero m s = refl
  rounds_same (suc n) m s = ap (rounds test n) (round_same m s) ∙ rounds_same n m s

  rounds_sized : (n : ℕ) (m : List Bool) → length (rounds test n m) ≡ length m
  unfolding rounds
  rounds_sized zero m = refl
  rounds_sized (suc n) m = rounds_sized n (round test m) ∙ round_sized m

  rounds_within : (n : ℕ) (m : List Bool) → Within (rounds test n m) m
  unfolding rounds
  rounds_within zero m = within_refl m
  rounds_within (suc n) m = within_trans (rounds_within n (round test m)) (round_within m)

  -- either no row is dropped, or there are fewer rows after the round
  round_fewer : (m : List Bool) (j : ℕ) → marked m j ≡ true → marked (round test m) j ≡ false
      → members (round test m) < members m
  unfolding members
  round_fewer m j h k =
      subst (λ (n : ℕ). count (marked (round test m)) n < count (marked m) (length m)) (sym (round_sized m))
      (count_less (marked (round test m)) (marked m) (length m) j (λ i l. (round_within m).all i)
      (marked_below m j h) k h)

  -- as many rounds as the set has rows suffice
  rounds_stable : (n : ℕ) (m : List Bool) → members m ≤ n → Stable test (rounds test n m)
  unfolding rounds members
  rounds_stable zero m h =
      record {
        passes = λ j k.
            let p : 0 < count (marked m) (length m) = count_pos (marked m) (length m) j (marked_below m j k) k in
            absurd (omega arith);
      }
  rounds_stable (suc n) m h =
      ⊎_elim (λ e. let w = some_e dropped (length m) e in
      rounds_stable n (round test m)
      (less w.it (and_l (marked m w.it) (no (marked (round test m) w.it)) w.has)
      (no_e (marked (round test m) w.it) (and_r (marked m w.it) (no (marked (round test m) w.it)) w.has))))
      (λ e. let s : Stable test m = steady e in
      subst (Stable test) (sym (ap (rounds test n) (round_same m s) ∙ rounds_same n m s)) s)
      (true_or_false (some dropped (length m)))
    where
      dropped : ℕ → Bool
      dropped j = marked m j and no (marked (round test m) j)

      less : (j : ℕ) → marked m j ≡ true → marked (round test m) j ≡ false
          → count (marked (round test m)) (length (round test m)) ≤ n
      less j a b =
          let f : count (marked (round test m)) (length (round test m))
          < count (marked m) (length m) = round_fewer m j a b in
          omega arith

      stays : some dropped (length m) ≡ false → (j : ℕ) → marked m j ≡ true → marked (round test m) j ≡ true
      stays e j a =
          ⊎_elim (λ b. b) (λ b. clash (and_i a (no_i b)) (some_none dropped (length m) e j (marked_below m j a)))
          (true_or_false (marked (round test m) j))

      steady : some dropped (length m) ≡ false → Stable test m
      steady e = record { passes = λ j a. round_passes m j (stays e j a) }

  pub peel_sized : (m : List Bool) → length (peel test m) ≡ length m
  unfolding peel
  peel_sized m = rounds_sized (length m) m

  pub peel_within : (m : List Bool) → Within (peel test m) m
  unfolding peel
  peel_within m = rounds_within (length m) m

  pub peel_stable : (m : List Bool) → Stable test (peel test m)
  unfolding peel
  peel_stable m = rounds_stable (length m) m (members_length m)

  module _ (mono : Monotone test) where
    round_holds : (g m : List Bool) → Within g m → Stable test g → Within g (round test m)
    round_holds g m w s = record { all = λ j h. round_stays m j (w.all j h) (mono.raises g m w j (s.passes j h)) }

    rounds_holds : (n : ℕ) (g m : List Bool) → Within g m → Stable test g → Within g (rounds test n m)
    unfolding rounds
    rounds_holds zero g m w s = w
    rounds_holds (suc n) g m w s = rounds_holds n g (round test m) (round_holds g m w s) s

    -- every set within the start that passes the test in itself is within what is left
    pub peel_greatest : (g m : List Bool) → Within g m → Stable test g → Within g (peel test m)
    unfolding peel
    peel_greatest g m w s = rounds_holds (length m) g m w s
