-- Recall (src/recalling.rt).
--     Judged d r b e before j       the loop over entries has passed the entries below j: none is bad, and `before` is
--                                   the entry before j
--     judge_start, judge_next, judge_refused, judge_end     the loop's laws
--     answer_table, answer_lengths, answer_entries, answer_window     the answer, by the check that decides
--     lengths_same                  what a passed 8 says
--     marks_ready, marks_right      an accepted call: what the loop over entries asks, and what it leaves
--     Marking r b e lo hi n j m     the marks m of n rows after the entries below j
--     mark_start, mark_early, mark_late, mark_hit, mark_end           the loop's laws
-- Assumes nothing.
use Prim.Native.Nat.{ℕ, zero, suc, ◌+◌, ◌≤◌, ◌<◌}
use native.Mathlib.Nat.{eq-or-lt_of_le, not-suc-le-zero, zero-add, le_of_suc-le-suc}
use native.Mathlib.Numerals.{add-one}
use native.Mathlib.Omega.{arith}
use mathlib.Core.Path.{◌≡◌, refl, sym, ◌∙◌, ap, subst}
use mathlib.Core.Logic.{⊎_elim}
use mathlib.Core.Bool.{Bool, true, false}
use mathlib.Core.List.{List, map}
use lib.ListN.{length, get_or, set, replicate, length-set, length-map, length-replicate, get_or-replicate, get_or-map}
use lib.Seq.{ext_get_or, get_or-set_same, get_or-set_other}
use lib.Dec.{leb, ltb, eqb}
use borrow.Author.Tests.{ltb-true, lt-leb, le-leb, eqb-true, eqb-false}
use Rattle.std.specs.Prelude.{Option, Some, None, Ok, Err}
use Rattle.rings.specs.Words.{◌and◌, ◌or◌, no, at, some, tabulate, any}
use Rattle.rings.specs.Table.{Table, table_of, day_of}
use Rattle.rings.specs.Windows.{Entry, entries, recalled}
use Rattle.rings.specs.Checks.{◌when◌, ◌then◌, in_order, range_check}
use Rattle.rings.specs.Buffers.{mark, marks}
use Rattle.rings.specs.TableCheck.{table_check}
use Rattle.rings.specs.RecallCall.{Columns, columns_of, entry_at, in_place, fits, entry_check, recall_answer}
use Rattle.rings.specs.Inner.Recalling.{entry_of, dated, entry_as, entry_before, follows, judged, hits, InTable, marks_of, Markable}
use Rattle.rings.specs.declared.recalling.Entry as lent
use Rattle.rings.specs.declared.refusal.Refusal.{Refusal}
use Rattle.rings.specs.declared.refusal.Refusal.TheVariants.{BadLength, BadEntry}
use Rattle.rings.specs.Refusals.{Verdict}
use Rattle.rings.proofs.WordLaws.{true_or_false, and_i, and_l, and_r, or_l, same_truth, some_i, some_e}
use Rattle.rings.proofs.WordLaws.{length_tabulate, get_d_tabulate}
use Rattle.rings.proofs.ListLaws.{mem_tabulate, tabulate_mem, any_i, any_e}
use Rattle.rings.proofs.CheckLaws.{then_refused, then_accepted, accepted_left, accepted_right, passed}
use Rattle.rings.proofs.CheckLaws.{order_accepted, order_refused, all_accepted}

and_no_l : {a : Bool} (b : Bool) → a ≡ false → a and b ≡ false
unfolding ◌and◌
and_no_l b h = rw h

and_no_r : (a : Bool) {b : Bool} → b ≡ false → a and b ≡ false
unfolding ◌and◌
and_no_r true h = h
and_no_r false h = refl

or_no : {a : Bool} (b : Bool) → a ≡ false → a or b ≡ b
unfolding ◌or◌
or_no b h = rw h

-- ---- the entries in their order

pub record Judged (d r b e : List ℕ) (before : Option lent.Entry) (j : ℕ) : Type 0 where
  pub inside : j ≤ length r
  pub last : before ≡ entry_before (columns_of r b e) j
  pub passed : (i : ℕ) → i < j → entry_check (dated d) (columns_of r b e) i ≡ Ok tt

module _ (d r b e : List ℕ) where
  abbrev c : Columns
  c = columns_of r b e

  -- an entry as the code reads it
  abbrev read : ℕ → lent.Entry
  read j = record { row = get_or r j 0; start = get_or b j 0; end = get_or e j 0 }

  in_place_is : (j : ℕ) → in_place c j ≡ follows (entry_before c j) (entry_as (read j))
  unfolding in_place entry_before follows entry_at at
  in_place_is zero = refl
  in_place_is (suc i) = refl

  -- what `check_entry` answers is 14 at j
  entry_here : {before : Option lent.Entry} {j : ℕ} {v : Verdict} → Judged d r b e before j → v ≡ judged d j before (read j)
      → entry_check (dated d) c j ≡ v
  unfolding entry_check judged entry_at at
  entry_here {before} {j} p h =
      ap (λ (x : Bool). BadEntry j when no (fits (dated d) (entry_as (read j)) and x))
      (in_place_is j ∙ ap (λ (x : Option lent.Entry). follows x (entry_as (read j))) (sym p.last))
      ∙ sym h

  pub judge_start : Judged d r b e None 0
  unfolding entry_before
  judge_start = record { inside = omega arith; last = refl; passed = λ i h. absurd (not-suc-le-zero h) }

  pub judge_next : {before : Option lent.Entry} {j : ℕ} → Judged d r b e before j → j < length r
      → Ok tt ≡ judged d j before (read j) → Judged d r b e (Some (read j)) (j + 1)
  unfolding entry_before at
  judge_next {j = j} p l h =
      record {
        inside = omega arith;
        last = rw (add-one j) refl;
        passed = λ i q.
            ⊎_elim
            (λ x. subst (λ (y : ℕ). entry_check (dated d) c y ≡ Ok tt) (sym x) (entry_here p h))
            (λ x. p.passed i x)
            (eq-or-lt_of_le (le_of_suc-le-suc (rw (add-one j) at q)));
      }

  pub judge_refused : {before : Option lent.Entry} {j : ℕ} {x : Refusal} → Judged d r b e before j → j < length r
      → Err x ≡ judged d j before (read j)
      → Err x ≡ in_order (tabulate (entry_check (dated d) c) 0 (length r))
  judge_refused {j = j} p l h =
      sym (order_refused (entry_check (dated d) c) 0 (length r) j (omega arith) (omega arith)
      (λ i a q. p.passed i q) (entry_here p h))

  pub judge_end : {before : Option lent.Entry} {j : ℕ} → Judged d r b e before j → length r ≤ j
      → Ok tt ≡ in_order (tabulate (entry_check (dated d) c) 0 (length r))
  judge_end p l = sym (order_accepted (entry_check (dated d) c) 0 (length r) (λ i a q. p.passed i (omega arith)))

-- ---- the answer

-- what a passed 8 says
pub lengths_same : (d r b e : List ℕ) (p : ℕ)
    → Ok tt ≡ (BadLength when no (eqb (length b) (length r) and eqb (length e) (length r) and eqb p (length d)))
    → (length b ≡ length r) × (length e ≡ length r) × (p ≡ length d)
lengths_same d r b e p h =
    let x = eqb (length b) (length r) in
    let y = eqb (length e) (length r) in
    let z = eqb p (length d) in
    let all = passed BadLength (x and y and z) (sym h) in
    let rest = and_r x (y and z) all in (
      eqb-true (length b) (length r) (and_l x (y and z) all),
      eqb-true (length e) (length r) (and_l y z rest),
      eqb-true p (length d) (and_r y z rest),
    )

module _ (d f g r b e : List ℕ) (lo hi p : ℕ) where
  abbrev t : Table
  t = table_of d f g

  abbrev c' : Columns
  c' = columns_of r b e

  abbrev unequal : Bool
  unequal = no (eqb (length b) (length r) and eqb (length e) (length r) and eqb p (length d))

  -- 14 looks at the days alone
  days_alone : entry_check (dated d) c' ≡ entry_check t c'
  unfolding entry_check fits day_of
  days_alone = refl

  abbrev listed : Verdict
  listed = in_order (tabulate (entry_check t c') 0 (length r))

  to_listed : {v : Verdict} → v ≡ in_order (tabulate (entry_check (dated d) c') 0 (length r)) → listed ≡ v
  to_listed h = sym (h ∙ ap (λ (x : ℕ → Verdict). in_order (tabulate x 0 (length r))) days_alone)

  pub answer_table : {x : Refusal} → Err x ≡ table_check t → Err x ≡ recall_answer t c' lo hi p
  unfolding recall_answer
  answer_table h = sym (then_refused (BadLength when unequal then listed then range_check lo hi) (sym h))

  pub answer_lengths : {x : Refusal} → Ok tt ≡ table_check t → Err x ≡ (BadLength when unequal)
      → Err x ≡ recall_answer t c' lo hi p
  unfolding recall_answer
  answer_lengths h₁ h₂ =
      sym
      (then_accepted (BadLength when unequal then listed then range_check lo hi) (sym h₁)
      ∙ then_refused (listed then range_check lo hi)
      (sym h₂))

  pub answer_entries : {x : Refusal} → Ok tt ≡ table_check t → Ok tt ≡ (BadLength when unequal)
      → Err x ≡ in_order (tabulate (entry_check (dated d) c') 0 (length r)) → Err x ≡ recall_answer t c' lo hi p
  unfolding recall_answer
  answer_entries h₁ h₂ h₃ =
      sym
      (then_accepted (BadLength when unequal then listed then range_check lo hi) (sym h₁)
      ∙ (then_accepted (listed then range_check lo hi) (sym h₂) ∙ then_refused (range_check lo hi) (to_listed h₃)))

  pub answer_window : {v : Verdict} → Ok tt ≡ table_check t → Ok tt ≡ (BadLength when unequal)
      → Ok tt ≡ in_order (tabulate (entry_check (dated d) c') 0 (length r)) → v ≡ range_check lo hi
      → v ≡ recall_answer t c' lo hi p
  unfolding recall_answer
  answer_window h₁ h₂ h₃ h₄ =
      sym
      (then_accepted (BadLength when unequal then listed then range_check lo hi) (sym h₁)
      ∙ (then_accepted (listed then range_check lo hi) (sym h₂) ∙ (then_accepted (range_check lo hi) (to_listed h₃) ∙ sym h₄)))

  -- a list that passes 14 names rows of the table
  rows_inside : listed ≡ Ok tt → (i : ℕ) → i < length r → get_or r i 0 < length d
  unfolding entry_check fits entry_at at
  rows_inside h i l =
      let x = entry_at c' i in
      let one = all_accepted (entry_check t c') 0 (length r) h i (omega arith) (omega arith) in
      let both = passed (BadEntry i) (fits t x and in_place c' i) one in
      ltb-true (get_or r i 0) (length d)
      (and_l (ltb (get_or r i 0) (length d))
      (leb 1 x.start and leb x.start (day_of t x.row) and leb (day_of t x.row) x.end and leb x.end 1024)
      (and_l (fits t x) (in_place c' i) both))

  -- an accepted call: the columns are of one length, a mark stands for each row, and the list names rows of the table
  list_fits : Ok tt ≡ recall_answer t c' lo hi p
      → (length b ≡ length r) × (length e ≡ length r) × (p ≡ length d) × ((i : ℕ) → i < length r → get_or r i 0 < length d)
  unfolding recall_answer
  list_fits h =
      let rest = listed then range_check lo hi in
      let after = accepted_right (table_check t) (BadLength when unequal then rest) (sym h) in
      let same = lengths_same d r b e p (sym (accepted_left (BadLength when unequal) rest after)) in
      let good = accepted_left listed (range_check lo hi) (accepted_right (BadLength when unequal) rest after) in
      (same.0, same.1, same.2, rows_inside good)

-- the call after its checks: m₀ are the marks as lent, m the cleared marks
module _ (d f g r b e : List ℕ) (lo hi : ℕ) (m₀ : List ℕ) where
  cleared_long : {m : List ℕ} → m ≡ replicate (length m₀) 0 → length m ≡ length m₀
  cleared_long h = ap length h ∙ length-replicate (length m₀) 0

  pub marks_ready : {m : List ℕ} → Ok tt ≡ recall_answer (table_of d f g) (columns_of r b e) lo hi (length m₀)
      → m ≡ replicate (length m₀) 0
      → Markable (columns_of r b e) m
  marks_ready h z =
      let x = list_fits d f g r b e lo hi (length m₀) h in
      let n = cleared_long z in
      record {
        lists = record { starts = x.0; ends = x.1 };
        rows = record { in_table = λ i l. subst (λ (k : ℕ). get_or r i 0 < k) (sym (n ∙ x.2)) (x.3 i l) };
        clear = z ∙ ap (λ (k : ℕ). replicate k 0) (sym n);
      }

  pub marks_right : {m m' : List ℕ} → Ok tt ≡ recall_answer (table_of d f g) (columns_of r b e) lo hi (length m₀)
      → m ≡ replicate (length m₀) 0 → m' ≡ marks_of (columns_of r b e) lo hi (length m)
      → m' ≡ marks_of (columns_of r b e) lo hi (length d)
  marks_right h z w =
      w ∙ ap (marks_of (columns_of r b e) lo hi) (cleared_long z ∙ (list_fits d f g r b e lo hi (length m₀) h).2)

-- ---- the marks

pub record Marking (r b e : List ℕ) (lo hi n j : ℕ) (m : List ℕ) : Type 0 where
  pub inside : j ≤ length r
  pub long : length m ≡ n
  pub mark_at : (k : ℕ) → k < n → get_or m k 0 ≡ mark (some (hits (columns_of r b e) lo hi k) j)

module _ (r b e : List ℕ) (lo hi : ℕ) where
  abbrev c'' : Columns
  c'' = columns_of r b e

  -- some entry below i + 1 hits a row, by entry i
  some_no : (p : ℕ → Bool) (i : ℕ) → p i ≡ false → some p (i + 1) ≡ some p i
  unfolding some
  some_no p i h = rw (add-one i) (or_no (some p i) h)

  some_yes : (p : ℕ → Bool) (i : ℕ) → p i ≡ true → some p (i + 1) ≡ true
  unfolding some
  some_yes p i h = rw (add-one i) (or_l (p i) (some p i) h)

  pub mark_start : (m : List ℕ) → m ≡ replicate (length m) 0 → Marking r b e lo hi (length m) 0 m
  unfolding some mark
  mark_start m h =
      record {
        inside = omega arith;
        long = refl;
        mark_at = λ k l. ap (λ (x : List ℕ). get_or x k 0) h ∙ get_or-replicate (length m) k 0 0 l;
      }

  mark_skip : {n i : ℕ} {m : List ℕ} → Marking r b e lo hi n i m → i < length r
      → ((k : ℕ) → hits c'' lo hi k i ≡ false) → Marking r b e lo hi n (i + 1) m
  mark_skip {n} {i} {m} p l h =
      record {
        inside = omega arith;
        long = p.long;
        mark_at = λ k q. p.mark_at k q ∙ ap mark (sym (some_no (hits c'' lo hi k) i (h k)));
      }

  pub mark_early : {n i start : ℕ} {m : List ℕ} → Marking r b e lo hi n i m → i < length r → start ≡ get_or b i 0
      → start < lo → Marking r b e lo hi n (i + 1) m
  unfolding hits at
  mark_early {n} {i} {start} p l h q =
      mark_skip p l
      (λ k. and_no_r (eqb (get_or r i 0) k)
      (and_no_l (leb (get_or e i 0) hi) (lt-leb lo (get_or b i 0) (subst (λ (x : ℕ). x < lo) h q))))

  pub mark_late : {n i end : ℕ} {m : List ℕ} → Marking r b e lo hi n i m → i < length r → end ≡ get_or e i 0
      → hi < end → Marking r b e lo hi n (i + 1) m
  unfolding hits at
  mark_late {n} {i} {end} p l h q =
      mark_skip p l
      (λ k. and_no_r (eqb (get_or r i 0) k)
      (and_no_r (leb lo (get_or b i 0)) (lt-leb (get_or e i 0) hi (subst (λ (x : ℕ). hi < x) h q))))

  pub mark_hit : {n i row start end : ℕ} {m : List ℕ} → Marking r b e lo hi n i m → InTable n r → i < length r
      → row ≡ get_or r i 0
      → start ≡ get_or b i 0 → end ≡ get_or e i 0 → lo ≤ start → end ≤ hi → Marking r b e lo hi n (i + 1) (set m row 1)
  unfolding hits at mark
  mark_hit {n} {i} {row} {start} {end} {m} p w l h₁ h₂ h₃ q₁ q₂ =
      record {
        inside = omega arith;
        long = length-set m row 1 ∙ p.long;
        mark_at = λ k o.
            ⊎_elim (λ x. here k (eqb-true (get_or r i 0) k x) x) (λ x. other k o x)
            (true_or_false (eqb (get_or r i 0) k));
      }
    where
      room : row < length m
      room = rw (h₁, p.long) (w.in_table i l)

      here : (k : ℕ) → get_or r i 0 ≡ k → eqb (get_or r i 0) k ≡ true
          → get_or (set m row 1) k 0 ≡ mark (some (hits c'' lo hi k) (i + 1))
      here k x y =
          ap (λ (z : ℕ). get_or (set m row 1) z 0) (sym (h₁ ∙ x))
          ∙ (get_or-set_same m row 1 0 room ∙ ap mark
          (sym
          (some_yes (hits c'' lo hi k) i
          (and_i y
          (and_i (le-leb lo (get_or b i 0) (subst (λ (z : ℕ). lo ≤ z) h₂ q₁))
          (le-leb (get_or e i 0) hi (subst (λ (z : ℕ). z ≤ hi) h₃ q₂)))))))

      other : (k : ℕ) → k < n → eqb (get_or r i 0) k ≡ false → get_or (set m row 1) k 0 ≡ mark (some (hits c'' lo hi k) (i + 1))
      other k o x =
          get_or-set_other m row k 1 0 (λ y. eqb-false (get_or r i 0) k x (sym (y ∙ h₁)))
          ∙ (p.mark_at k o
          ∙ ap mark
          (sym (some_no (hits c'' lo hi k) i (and_no_l (leb lo (get_or b i 0) and leb (get_or e i 0) hi) x))))

  -- a row is recalled if some entry hits it
  recalled_is : (k : ℕ) → recalled (entries r b e) lo hi k ≡ some (hits c'' lo hi k) (length r)
  unfolding recalled entries hits
  recalled_is k = same_truth (any test (tabulate it 0 (length r))) (some (hits c'' lo hi k) (length r)) found kept
    where
      test : Entry → Bool
      test x = eqb x.row k and leb lo x.start and leb x.end hi

      it : ℕ → Entry
      it i = entry_of (at r i) (at b i) (at e i)

      found : any test (tabulate it 0 (length r)) ≡ true → some (hits c'' lo hi k) (length r) ≡ true
      found h =
          let w = any_e test (tabulate it 0 (length r)) h in
          let m = tabulate_mem it 0 (length r) w.member in
          let l = m.below in
          some_i (hits c'' lo hi k) (length r) m.it (omega arith) (subst (λ (x : Entry). test x ≡ true) m.is w.has)

      kept : some (hits c'' lo hi k) (length r) ≡ true → any test (tabulate it 0 (length r)) ≡ true
      kept h =
          let w = some_e (hits c'' lo hi k) (length r) h in
          let l = w.below in
          any_i test (tabulate it 0 (length r)) (it w.it)
          (mem_tabulate it 0 (length r) w.it (omega arith) (omega arith)) w.has

  pub mark_end : {n i : ℕ} {m : List ℕ} → Marking r b e lo hi n i m → length r ≤ i → m ≡ marks_of c'' lo hi n
  unfolding marks mark
  mark_end {n} {i} {m} p l =
      ext_get_or 0 m (map mark rows) (p.long ∙ sym (length-map rows mark ∙ length_tabulate row 0 n)) each
    where
      row : ℕ → Bool
      row = recalled (entries r b e) lo hi

      rows : List Bool
      rows = tabulate row 0 n

      last : i ≡ length r
      last = let o = p.inside in omega arith

      each : (k : ℕ) → k < length m → get_or m k 0 ≡ get_or (map mark rows) k 0
      each k o =
          let o' : k < n = subst (λ (x : ℕ). k < x) p.long o in
          p.mark_at k o'
          ∙ (ap (λ (x : ℕ). mark (some (hits c'' lo hi k) x)) last
          ∙ (ap mark (sym (recalled_is k) ∙ sym (get_d_tabulate row 0 n k false o' ∙ ap row (zero-add k)))
          ∙ sym (get_or-map mark rows k false)))
