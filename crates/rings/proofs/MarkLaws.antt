-- Marks of a ring (src/ring.rt).
--     is_zero, not_zero        an entry read through a column
--     Marking, mark_start, mark_yes, mark_no, mark_few, mark_end     the loop that marks rows and counts them
--     remaining_of             peeling leaves those who are met in the ring of the window
--     stays_place, stays_ring  a row is in the ring exactly if both its accounts are left
-- Assumes nothing.
use Prim.Native.Nat.{ℕ, ◌+◌, ◌≤◌, ◌<◌}
use native.Mathlib.Nat.{eq-or-lt_of_le, not-suc-le-zero}
use native.Mathlib.Numerals.{add-one}
use native.Mathlib.Omega.{arith}
use mathlib.Core.Path.{◌≡◌, refl, sym, ◌∙◌, ap, subst}
use mathlib.Core.Logic.{⊎_elim}
use mathlib.Core.Bool.{Bool, true, false}
use mathlib.Core.List.{List, map}
use lib.ListN.{length, get_or, set, length-set, length-map, get_or-map}
use lib.Seq.{ext_get_or, get_or-set_same, get_or-set_other}
use lib.Dec.{eqb}
use borrow.Author.Tests.{eqb-true, eq-eqb, ne_eqb}
use Rattle.rings.specs.Words.{◌and◌, at, marked, count}
use Rattle.rings.specs.Table.{Table, table_of, size, day_of, first_of, second_of}
use Rattle.rings.specs.Ring.{ring, members}
use Rattle.rings.specs.CoreTimes.{never}
use Rattle.rings.specs.Buffers.{mark, marks}
use Rattle.rings.specs.Inner.Peeling.{PeelState, nothing, all_rows, QueueEmpty, Ready, Span}
use Rattle.rings.specs.Inner.Answers.{WholeWindow, Remaining, RowAccounts, both_remain, RingMarked}
use Rattle.rings.specs.declared.Query.{Query}
use Rattle.rings.specs.declared.frame.Frame.{Frame}
use Rattle.rings.specs.declared.peel.Removal.{Removal}
use Rattle.rings.proofs.WordLaws.{and_i, and_l, and_r, same_truth, suc_if_yes, suc_if_no, count_same}
use Rattle.rings.proofs.RingLaws.{ring_sized, in_marked, marked_in, met_first, met_second}
use Rattle.rings.proofs.RankLaws.{first_small, second_small}
use Rattle.rings.proofs.LeadLaws.{Opens, day_opens, opens_ring}
use Rattle.rings.proofs.PeelStateLaws.{removed_or_not}
use Rattle.rings.proofs.PeelEndLaws.{stays_met, removed_not}

pub is_zero : (x : List ℕ) {a v : ℕ} (b : ℕ) → a ≡ b → v ≡ get_or x a 0 → v ≡ 0 → eqb (get_or x b 0) 0 ≡ true
is_zero x {a} {v} b ea ev z = eq-eqb (get_or x b 0) 0 (ap (λ (c : ℕ). get_or x c 0) (sym ea) ∙ (sym ev ∙ z))

pub not_zero : (x : List ℕ) {a v : ℕ} (b : ℕ) → a ≡ b → v ≡ get_or x a 0 → (v ≡ 0 → ⊥) → eqb (get_or x b 0) 0 ≡ false
not_zero x {a} {v} b ea ev n = ne_eqb (get_or x b 0) 0 (λ z. n (ev ∙ (ap (λ (c : ℕ). get_or x c 0) ea ∙ z)))

-- ---- the loop that marks rows

pub record Marking (g : ℕ → Bool) (j n : ℕ) (m₀ m : List ℕ) : Type 0 where
  pub long : length m ≡ length m₀
  pub done : (i : ℕ) → i < j → get_or m i 0 ≡ mark (g i)
  pub counted : n ≡ count g j

pub mark_start : (g : ℕ → Bool) (m : List ℕ) → Marking g 0 0 m m
unfolding count
mark_start g m = record { long = refl; done = λ i h. absurd (not-suc-le-zero h); counted = refl }

mark_one : {g : ℕ → Bool} {j n : ℕ} {m₀ m : List ℕ} (b : ℕ) → Marking g j n m₀ m → j < length m → b ≡ mark (g j)
    → (i : ℕ) → i < j + 1
    → get_or (set m j b) i 0 ≡ mark (g i)
mark_one {g} {j} {n} {m₀} {m} b M l e i h =
    ⊎_elim (λ y. ap (λ (c : ℕ). get_or (set m j b) c 0) y
    ∙ (get_or-set_same m j b 0 l ∙ (e ∙ ap (λ (c : ℕ). mark (g c)) (sym y))))
    (λ o. get_or-set_other m j i b 0 (λ y. omega arith) ∙ M.done i o) (eq-or-lt_of_le (omega arith))

pub mark_yes : {g : ℕ → Bool} {j n : ℕ} {m₀ m : List ℕ} → Marking g j n m₀ m → j < length m → g j ≡ true
    → Marking g (j + 1) (n + 1) m₀ (set m j 1)
unfolding count mark
mark_yes {g} {j} {n} {m₀} {m} M l y =
    record {
      long = length-set m j 1 ∙ M.long;
      done = mark_one 1 M l (sym (ap mark y));
      counted = let c = M.counted in
          rw (add-one j) (let t = suc_if_yes (count g j) y in omega arith);
    }

pub mark_no : {g : ℕ → Bool} {j n : ℕ} {m₀ m : List ℕ} → Marking g j n m₀ m → j < length m → g j ≡ false
    → Marking g (j + 1) n m₀ (set m j 0)
unfolding count mark
mark_no {g} {j} {n} {m₀} {m} M l y =
    record {
      long = length-set m j 0 ∙ M.long;
      done = mark_one 0 M l (sym (ap mark y));
      counted = let c = M.counted in
          rw (add-one j) (let t = suc_if_no (count g j) y in omega arith);
    }

-- the count is at most the rows passed
pub mark_few : {g : ℕ → Bool} {j n : ℕ} {m₀ m : List ℕ} → Marking g j n m₀ m → n ≤ j
mark_few {g} {j} M = subst (λ (c : ℕ). c ≤ j) (sym M.counted) (Rattle.rings.proofs.WordLaws.count_le g j)

pub mark_end : (t : Table) (q : Query) (start stop : ℕ) {g : ℕ → Bool} {j n : ℕ} {m₀ m : List ℕ}
    → Marking g j n m₀ m → length m₀ ≡ size t → j ≡ size t
    → ((i : ℕ) → i < size t → marked (ring t q start stop) i ≡ g i) → RingMarked t q start stop n m
unfolding members marks marked mark
mark_end t q start stop {g} {j} {n} {m₀} {m} M e y same =
    record {
      number =
          M.counted
          ∙ (ap (count g) (y ∙ sym sized)
          ∙ sym (count_same (marked r) g (length r) (λ i o. same i (let a = sized in omega arith))));
      marks = ext_get_or 0 m (map mark r) (M.long ∙ (e ∙ (sym sized ∙ sym (length-map r mark))))
          (λ i l. M.done i (let a = M.long in omega arith)
          ∙ (ap mark (sym (same i (let a = M.long in omega arith))) ∙ sym (get_or-map mark r i false)));
    }
  where
    r : List Bool
    r = ring t q start stop

    sized : length r ≡ size t
    sized = ring_sized t q start stop

-- ---- who stays is in the ring

module _ (d f s : List ℕ) (q : Frame) where
  abbrev t : Table
  t = table_of d f s

  abbrev rg : List Bool
  rg = ring t q.query q.start q.stop

  -- peeling leaves those who are met in the ring
  pub remaining_of : (scratch : List ℕ) → Ready (table_of d f s) scratch q → q.start ≤ q.stop → {end : ℕ}
      → Span d q.stop q.lo end → {r : Removal} {x l w : List ℕ}
      → QueueEmpty (table_of d f s) q (all_rows end) r x l w → Remaining t q x
  unfolding day_of at
  remaining_of scratch R order {end} Sp {r} {x} {l} {w} Q =
      record {
        long = F.buffers.times;
        is_met = stays_met t q R.setting F (λ j h k. Sp.inside j h);
        met_is = λ u k m.
            ⊎_elim (λ z. z) (λ g. absurd (removed_not t q R.setting F u k g order m)) (removed_or_not x u);
      }
    where
      F : PeelState t q 4096 never end r.tail r.tail nothing x l w
      F =
          subst (λ (c : ℕ). PeelState t q 4096 never end c r.tail nothing x l w) Q.idle
          (subst (λ (c : ℕ). PeelState t q 4096 never c r.head r.tail nothing x l w) Q.goes_on.end
          (subst (λ (c : ℕ). PeelState t q 4096 c r.end r.head r.tail nothing x l w) Q.goes_on.day
          Q.goes_on.state))

  module _ (W : WholeWindow (table_of d f s) q) {x : List ℕ} (M : Remaining t q x) (j : ℕ) (b : j < length d) where
    rank_a : get_or f j 0 < 4096
    rank_a = first_small W.sound b refl

    rank_b : get_or s j 0 < 4096
    rank_b = second_small W.sound b refl

    pub stays_place : RowAccounts f s x j
    stays_place =
        let a = W.sound.firsts in let c = W.sound.seconds in let n = M.long in let y = rank_a in let z = rank_b in
        record { first = omega arith; second = omega arith; first_account = omega arith; second_account = omega arith }

    -- all rows are those of the window
    inside : Opens t q.start q.stop j
    unfolding day_of at
    inside =
        day_opens t q.start q.stop j (W.from.after j (let e = W.lo in omega arith) b)
        (let e = W.to.before j b in omega arith)

    pub stays_ring : {y : Bool} → y ≡ both_remain f s x j → marked rg j ≡ y
    unfolding first_of second_of at
    stays_ring {y} e = same_truth (marked rg j) (za and zb) goes comes ∙ sym e
      where
        za : Bool
        za = eqb (get_or x (get_or f j 0) 0) 0

        zb : Bool
        zb = eqb (get_or x (get_or s j 0) 0) 0

        goes : marked rg j ≡ true → za and zb ≡ true
        goes h =
            let k = in_marked t q.query q.start q.stop j h in
            and_i (eq-eqb (get_or x (get_or f j 0) 0) 0
            (M.met_is (get_or f j 0) rank_a (met_first t q.query q.start q.stop j k)))
            (eq-eqb (get_or x (get_or s j 0) 0) 0
            (M.met_is (get_or s j 0) rank_b (met_second t q.query q.start q.stop j k)))

        comes : za and zb ≡ true → marked rg j ≡ true
        comes h =
            marked_in t q.query q.start q.stop j
            (opens_ring t q.query q.start q.stop j b inside
            (M.is_met (get_or f j 0) rank_a (eqb-true (get_or x (get_or f j 0) 0) 0 (and_l za zb h)))
            (M.is_met (get_or s j 0) rank_b (eqb-true (get_or x (get_or s j 0) 0) 0 (and_r za zb h))))
