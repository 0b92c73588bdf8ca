-- The loops that write a column for the rows of the window (src/label.rt, src/mark.rt).
--     repeated_at              an entry of a list of equal numbers
--     Written, write_start, write_next, write_end  the entries of the window's rows are written, the others keep theirs
--     label_start, label_next, label_end           labels
--     led_is, led-out          a row that is held under the leader of an account
--     Marked, mark_start, mark_next, mark_few, mark_end     marks, with their number
-- Assumes nothing.
use Prim.Native.Nat.{ℕ, zero, suc, ◌+◌, ◌≤◌, ◌<◌}
use native.Mathlib.Nat.{not-suc-le-zero, eq-or-lt_of_le, le_of_suc-le-suc}
use native.Mathlib.Numerals.{add-one}
use native.Mathlib.Omega.{arith}
use mathlib.Core.Path.{◌≡◌, refl, sym, ◌∙◌, ap, subst}
use mathlib.Core.Logic.{⊎_elim}
use mathlib.Core.Bool.{Bool, true, false}
use mathlib.Core.List.{List}
use lib.ListN.{length, get_or, set, replicate, length-set, length-replicate}
use lib.Seq.{ext_get_or, get_or-set_same, get_or-set_other}
use lib.Dec.{eqb, ltb}
use borrow.Author.Tests.{ltb-true, ltb-false}
use Rattle.rings.specs.Words.{◌and◌, no, marked, count, tabulate}
use Rattle.rings.specs.Buffers.{mark}
use Rattle.rings.specs.Choice.{Picked}
use Rattle.rings.proofs.WordLaws.{true_or_false, same_or, and_l, suc_if_yes, suc_if_no, count_le, count_none}
use Rattle.rings.proofs.WordLaws.{length_tabulate, get_d_tabulate}
use native.Mathlib.Nat.{zero-add}
use Rattle.groups.specs.Groups.{choose, none}
use Rattle.groups.specs.Inner.{Lent, LedMarked, labelled, led, rows_of}
use Rattle.groups.specs.declared.rows.Rows.{Rows}
use Rattle.groups.proofs.ForestLaws.{choose_yes, choose_no}
use Rattle.groups.proofs.LeaderLaws.{rows_marked, rows_in, rows_out}

pub repeated_at : (n c i : ℕ) → i < n → get_or (replicate n c) i 0 ≡ c
repeated_at zero c i h = absurd (not-suc-le-zero h)
repeated_at (suc n) c zero h = refl
repeated_at (suc n) c (suc i) h = repeated_at n c i (le_of_suc-le-suc h)

-- ---- the entries of the window's rows are written

pub record Written (F : ℕ → ℕ) (c n j : ℕ) (xs : List ℕ) : Type 0 where
  pub long : length xs ≡ n
  pub done : (i : ℕ) → i < j → i < n → get_or xs i 0 ≡ F i
  pub rest : (i : ℕ) → j ≤ i → i < n → get_or xs i 0 ≡ c

pub write_start : {F : ℕ → ℕ} {c n j : ℕ} {xs : List ℕ} → xs ≡ replicate n c → ((i : ℕ) → i < j → F i ≡ c)
    → Written F c n j xs
write_start {F} {c} {n} {j} {xs} e h =
    record {
      long = ap length e ∙ length-replicate n c;
      done = λ i l k. (ap (λ (x : List ℕ). get_or x i 0) e ∙ repeated_at n c i k) ∙ sym (h i l);
      rest = λ i l k. ap (λ (x : List ℕ). get_or x i 0) e ∙ repeated_at n c i k;
    }

pub write_next : {F : ℕ → ℕ} {c n j v : ℕ} {xs : List ℕ} → Written F c n j xs → j < n → v ≡ F j
    → Written F c n (j + 1) (set xs j v)
write_next {F} {c} {n} {j} {v} {xs} A l e =
    record {
      long = length-set xs j v ∙ A.long;
      done = λ i h k. ⊎_elim
          (λ (w : i ≡ j). ap (λ (z : ℕ). get_or (set xs j v) z 0) w
          ∙ (get_or-set_same xs j v 0 (let q = A.long in omega arith) ∙ (e ∙ ap F (sym w))))
          (λ w. get_or-set_other xs j i v 0 w ∙ A.done i (omega (arith, w)) k)
          (same_or i j);
      rest = λ i h k. get_or-set_other xs j i v 0 (λ w. omega arith) ∙ A.rest i (omega arith) k;
    }

pub write_end : {F : ℕ → ℕ} {c n j : ℕ} {xs : List ℕ} → Written F c n j xs → ((i : ℕ) → j ≤ i → F i ≡ c)
    → xs ≡ tabulate F 0 n
write_end {F} {c} {n} {j} {xs} A h =
    ext_get_or 0 xs (tabulate F 0 n) (A.long ∙ sym (length_tabulate F 0 n))
    (λ i l. let k : i < n = (let e = A.long in omega arith) in
    ⊎_elim (λ y. A.done i (ltb-true i j y) k) (λ y. let w = ltb-false i j y in A.rest i w k ∙ sym (h i w))
    (true_or_false (ltb i j))
    ∙ sym (get_d_tabulate F 0 n i 0 k ∙ ap F (zero-add i)))

-- ---- labels

module _ {d f g bytes : List ℕ} {r : Rows} (L : Lent d f g bytes r) (x : List ℕ) where
  abbrev label_at : ℕ → ℕ
  label_at j = choose (marked (rows_of bytes) j) (get_or x (get_or f j 0) 0) none

  no_label : (j : ℕ) → ((r.lo ≤ j) × (j < r.end) → ⊥) → label_at j ≡ none
  no_label j n =
      choose_no (get_or x (get_or f j 0) 0) none
      (⊎_elim (λ h. absurd (n (L.among j h))) (λ h. h) (true_or_false (marked (rows_of bytes) j)))

  pub label_start : {labels : List ℕ} → labels ≡ replicate (length d) none → Written label_at none (length d) r.lo labels
  label_start cleared = write_start cleared (λ i l. no_label i (λ w. let a = w.0 in omega arith))

  pub label_next : {j v : ℕ} {xs : List ℕ} → Written label_at none (length d) j xs → j < r.end
      → Picked (eqb (get_or bytes j 0) 0) none (get_or x (get_or f j 0) 0) v
      → Written label_at none (length d) (j + 1) (set xs j v)
  label_next {j} {v} {xs} A l P =
      write_next A (let e = L.last in omega arith)
      (⊎_elim (λ h. P.yes h ∙ sym (choose_no (get_or x (get_or f j 0) 0) none (rows_out bytes j h)))
      (λ h. P.no h ∙ sym (choose_yes (get_or x (get_or f j 0) 0) none (rows_in bytes j h)))
      (true_or_false (eqb (get_or bytes j 0) 0)))

  pub label_end : {j : ℕ} {xs : List ℕ} → Written label_at none (length d) j xs → r.end ≤ j
      → xs ≡ labelled f bytes x
  label_end {j} {xs} A h =
      write_end A (λ i l. no_label i (λ w. let a = w.1 in omega arith))
      ∙ ap (λ (n : ℕ). tabulate label_at 0 n) (sym L.sound.firsts)

-- ---- marks

pub led_is : (f bytes x : List ℕ) (a j : ℕ)
    → led f bytes x a j ≡ (no (eqb (get_or bytes j 0) 0) and eqb (get_or x (get_or f j 0) 0) (get_or x a 0))
unfolding led
led_is f bytes x a j = ap (λ (b : Bool). b and eqb (get_or x (get_or f j 0) 0) (get_or x a 0)) (rows_marked bytes j)

led_in : (f bytes x : List ℕ) (a j : ℕ) → led f bytes x a j ≡ true → marked (rows_of bytes) j ≡ true
unfolding led
led_in f bytes x a j h = and_l (marked (rows_of bytes) j) (eqb (get_or x (get_or f j 0) 0) (get_or x a 0)) h

mark_picked : (b : Bool) {v : ℕ} → Picked b 1 0 v → v ≡ mark b
unfolding mark
mark_picked true P = P.yes refl
mark_picked false P = P.no refl

count_picked : (p : ℕ → Bool) {j v : ℕ} → Picked (p j) 1 0 v → count p j + v ≡ count p (suc j)
unfolding count
count_picked p {j} {v} P =
    ⊎_elim (λ h. let e = P.yes h in let w = suc_if_yes (count p j) h in omega arith)
    (λ h. let e = P.no h in let w = suc_if_no (count p j) h in omega arith)
    (true_or_false (p j))

-- nothing to count from i on
count_rest : (p : ℕ → Bool) (i n : ℕ) → i ≤ n → ((j : ℕ) → i ≤ j → p j ≡ false) → count p n ≡ count p i
unfolding count
count_rest p i zero l h = let e : zero ≡ i = omega arith in ap (count p) e
count_rest p i (suc n) l h =
    ⊎_elim (λ (e : i ≡ suc n). ap (count p) (sym e))
    (λ k. suc_if_no (count p n) (h n (le_of_suc-le-suc k)) ∙ count_rest p i n (le_of_suc-le-suc k) h)
    (eq-or-lt_of_le l)

pub record Marked (p : ℕ → Bool) (places j n : ℕ) (xs : List ℕ) : Type 0 where
  pub written : Written (λ i. mark (p i)) 0 places j xs
  pub number : n ≡ count p j

module _ {d f g bytes : List ℕ} {r : Rows} (L : Lent d f g bytes r) (x : List ℕ) (a : ℕ) where
  abbrev held : ℕ → Bool
  held = led f bytes x a

  not_held : (j : ℕ) → ((r.lo ≤ j) × (j < r.end) → ⊥) → held j ≡ false
  not_held j n = ⊎_elim (λ h. absurd (n (L.among j (led_in f bytes x a j h)))) (λ h. h) (true_or_false (held j))

  pub mark_start : {bs : List ℕ} → bs ≡ replicate (length d) 0 → Marked held (length d) r.lo 0 bs
  unfolding mark
  mark_start cleared =
      record {
        written = write_start cleared (λ i l. ap mark (not_held i (λ w. let b = w.0 in omega arith)));
        number = sym (count_none held r.lo (λ i l. not_held i (λ w. let b = w.0 in omega arith)));
      }

  pub mark_next : {j n v : ℕ} {b : Bool} {xs : List ℕ} → Marked held (length d) j n xs → j < r.end
      → b ≡ (no (eqb (get_or bytes j 0) 0) and eqb (get_or x (get_or f j 0) 0) (get_or x a 0)) → Picked b 1 0 v
      → Marked held (length d) (j + 1) (n + v) (set xs j v)
  mark_next {j} {n} {v} {b} {xs} A l e P =
      let P' : Picked (held j) 1 0 v = subst (λ (c : Bool). Picked c 1 0 v) (e ∙ sym (led_is f bytes x a j)) P in
      record {
        written = write_next A.written (let w = L.last in omega arith) (mark_picked (held j) P');
        number =
            ap (λ (k : ℕ). k + v) A.number
            ∙ (count_picked held P' ∙ ap (count held) (sym (add-one j)));
      }

  pub mark_few : {j n : ℕ} {xs : List ℕ} → Marked held (length d) j n xs → n ≤ j
  mark_few {j} A = let e = A.number in let l = count_le held j in omega arith

  pub mark_end : {j n : ℕ} {xs : List ℕ} → Marked held (length d) j n xs → r.end ≤ j → j ≤ r.end
      → LedMarked f bytes x a n xs
  unfolding mark
  mark_end {j} {n} {xs} A h k =
      record {
        number = A.number
            ∙ sym (count_rest held j (length f) (let e = L.last in let w = L.sound.firsts in omega arith)
            (λ i l. not_held i (λ w. let b = w.1 in omega arith)));
        marks = write_end A.written (λ i l. ap mark (not_held i (λ w. let b = w.1 in omega arith)))
            ∙ ap (λ (c : ℕ). tabulate (λ i. mark (held i)) 0 c) (sym L.sound.firsts);
      }
