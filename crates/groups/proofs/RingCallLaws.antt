-- What Window ring's answer and its marks say, and what the loops write by them (src/label.rt, src/mark.rt).
--     rows_back                mark bytes of a row set give the row set back
--     RingCall, ring_call      what an accepted call of Window ring says
--     checks_places, ring_places     8 by a column that may be too long, judged by marks that are at most one too long
--     lent_of                  the marks lie in the window, and so in its rows
--     labelled_is, group_is    what the loops write is what the definitions say
-- Assumes nothing.
use Prim.Native.Nat.{ℕ, min, ◌+◌, ◌*◌, ◌≤◌, ◌<◌}
use native.Mathlib.Nat.{le_refl, zero-add}
use native.Mathlib.Omega.{arith}
use mathlib.Core.Path.{◌≡◌, refl, sym, ◌∙◌, ap, subst}
use mathlib.Core.Logic.{⊎_elim}
use mathlib.Core.Bool.{Bool, true, false}
use mathlib.Core.List.{List, [], ◌∷◌}
use lib.ListN.{length, get_or, length-map, get_or-map}
use lib.Seq.{ext_get_or}
use lib.Dec.{leb, ltb, eqb}
use borrow.Author.Tests.{ltb-true, ltb-false, eqb-true, eq-eqb}
use Rattle.std.specs.Prelude.{Ok, Err}
use Rattle.rings.specs.Refusals.{Verdict, Counted}
use Rattle.rings.specs.Words.{◌and◌, no, at, marked, count, tabulate}
use Rattle.rings.specs.Table.{Table, table_of, size, day_of, first_of, window_rows}
use Rattle.rings.specs.Ring.{Within, ring, members}
use Rattle.rings.specs.Sound.{Sound}
use Rattle.rings.specs.Checks.{◌when◌, ◌then◌, counted, query_check, range_check, scratch_check}
use Rattle.rings.specs.Buffers.{mark, marks}
use Rattle.rings.specs.TableCheck.{table_check}
use Rattle.rings.specs.WindowRingCall.{ring_checks, ring_answer}
use Rattle.rings.specs.declared.Query.{Query}
use Rattle.rings.specs.declared.refusal.Refusal.TheVariants.{BadLength}
use Rattle.rings.proofs.WordLaws.{true_or_false, same_truth, marked_tabulate}
use Rattle.rings.proofs.WordLaws.{count_same, length_tabulate, get_d_tabulate}
use Rattle.rings.proofs.RingLaws.{window_e, ring_sized, ring_within}
use Rattle.rings.proofs.CheckLaws.{counted_e}
use Rattle.rings.proofs.TableLaws.{table_sound}
use Rattle.rings.proofs.AcceptedLaws.{call_sound, call_window, call_lengths, call_scratch, window_e as window_passed}
use Rattle.groups.specs.Groups.{choose, none, leader, labels_of, group}
use Rattle.groups.specs.Inner.{Leaders, rows_of, Between, Lent}
use Rattle.groups.specs.Inner.{labelled, led, LedMarked, GroupMarked, at_most}
use Rattle.groups.specs.declared.rows.Rows.{Rows}

-- ---- mark bytes and row sets

pub rows_back : (m : List Bool) → rows_of (marks m) ≡ m
unfolding rows_of marks mark no
rows_back [] = refl
rows_back (true ∷ m) = ap (λ (r : List Bool). true ∷ r) (rows_back m)
rows_back (false ∷ m) = ap (λ (r : List Bool). false ∷ r) (rows_back m)

marks_long : (m : List Bool) → length (marks m) ≡ length m
unfolding marks
marks_long m = length-map m mark

-- lists that are made by equal functions are one
same_list : (F G : ℕ → ℕ) (n : ℕ) → ((i : ℕ) → i < n → F i ≡ G i) → tabulate F 0 n ≡ tabulate G 0 n
same_list F G n h =
    ext_get_or 0 (tabulate F 0 n) (tabulate G 0 n) (length_tabulate F 0 n ∙ sym (length_tabulate G 0 n))
    (λ i l. let k : i < n = (let e = length_tabulate F 0 n in omega arith) in
    get_d_tabulate F 0 n i 0 k ∙ (ap F (zero-add i) ∙ (h i k ∙ sym (get_d_tabulate G 0 n i 0 k ∙ ap G (zero-add i)))))

-- ---- what an accepted call of Window ring says

pub record RingCall (d f g : List ℕ) (q : Query) (s e p sc n : ℕ) : Type 0 where
  pub sound : Sound d f g
  pub ordered : s ≤ e
  pub last_day_lem : e ≤ 1024
  pub places : p ≡ length d
  pub scratch : 8192 + 4 * length d ≤ sc
  pub number : n ≡ members (ring (table_of d f g) q s e)
  pub checked : ring_checks (table_of d f g) q s e p sc ≡ Ok tt

pub ring_call : {d f g : List ℕ} {q : Query} {s e places sc n : ℕ} {v : Counted}
    → v ≡ ring_answer (table_of d f g) q s e places sc → v ≡ Ok n → RingCall d f g q s e places sc n
unfolding ring_answer ring_checks range_check
ring_call {d} {f} {g} {q} {s} {e} {places} {sc} {n} a b =
    let t = table_of d f g in
    let x = counted_e (ring_checks t q s e places sc) (members (ring t q s e)) n (sym a ∙ b) in
    let window = leb 1 s and leb s e and leb e 1024 in
    let lengths = eqb places (length d) in
    let w = window_passed s e refl (call_window d f g q window lengths sc x.0) in
    record {
      sound = call_sound d f g q window lengths sc x.0;
      ordered = w.1;
      last_day_lem = w.2;
      places = eqb-true places (length d) (call_lengths d f g q window lengths sc x.0);
      scratch = call_scratch d f g q window lengths sc x.0;
      number = sym x.1;
      checked = x.0;
    }

-- ---- 8 by a column that may be too long

then_same : (v : Verdict) {w w' : Verdict} → (v ≡ Ok tt → w ≡ w') → v then w ≡ v then w'
unfolding ◌then◌
then_same (Ok _) h = h refl
then_same (Err r) h = refl

least_same : (l n : ℕ) → n ≤ 16384 → eqb (at_most l) n ≡ eqb l n
unfolding at_most
least_same l n h =
    same_truth (eqb (min l 16385) n) (eqb l n)
    (λ y. eq-eqb l n (let w = eqb-true (min l 16385) n y in omega arith))
    (λ y. eq-eqb (min l 16385) n (let w = eqb-true l n y in omega arith))

pub checks_places : (d f g : List ℕ) (q : Query) (s e l sc : ℕ)
    → ring_checks (table_of d f g) q s e (at_most l) sc ≡ ring_checks (table_of d f g) q s e l sc
unfolding ring_checks
checks_places d f g q s e l sc =
    then_same (table_check (table_of d f g))
    (λ h. ap (λ (b : Bool). query_check q then range_check s e then BadLength when no b then scratch_check (length d) sc)
    (least_same l (length d) (table_sound d f g h).most))

pub ring_places : (d f g : List ℕ) (q : Query) (s e l sc : ℕ)
    → ring_answer (table_of d f g) q s e (at_most l) sc ≡ ring_answer (table_of d f g) q s e l sc
unfolding ring_answer
ring_places d f g q s e l sc =
    ap (λ (v : Verdict). counted v (members (ring (table_of d f g) q s e))) (checks_places d f g q s e l sc)

-- ---- where the marks lie

-- a sound table, a mark byte for each row, and none outside the window [s, e]
record Ringed (d f g bytes : List ℕ) (s e : ℕ) : Type 0 where
  sound : Sound d f g
  marks : length bytes ≡ length d
  ordered : s ≤ e
  last_day_lem : e ≤ 1024
  among : Within (rows_of bytes) (window_rows (table_of d f g) s e)

ringed_of : {d f g : List ℕ} {q : Query} {s e places sc n : ℕ} {bytes : List ℕ} → RingCall d f g q s e places sc n
    → bytes ≡ marks (ring (table_of d f g) q s e) → Ringed d f g bytes s e
ringed_of {d} {f} {g} {q} {s} {e} {bytes = bytes} C h =
    record {
      sound = C.sound;
      marks = ap length h ∙ (marks_long (ring t q s e) ∙ ring_sized t q s e);
      ordered = C.ordered;
      last_day_lem = C.last_day_lem;
      among = subst (λ (m : List Bool). Within m (window_rows t s e)) (sym (ap rows_of h ∙ rows_back (ring t q s e)))
          (ring_within t q s e);
    }
  where
    t : Table
    t = table_of d f g

in_rows : {d f g bytes : List ℕ} {s e : ℕ} {r : Rows} → Ringed d f g bytes s e → Between d s e r → Lent d f g
    bytes r
unfolding day_of at
in_rows {d} {f} {g} {bytes} {s} {e} {r} R B =
    record {
      sound = R.sound;
      marks = R.marks;
      ordered = ⊎_elim
          (λ y.
          let l = ltb-true r.end r.lo y in
          let w = B.from.within in
          let x = B.from.before r.end l in
          let z = B.to.after r.end (le_refl r.end) (omega arith) in
          let o = R.ordered in
          absurd (omega arith))
          (λ y. ltb-false r.end r.lo y)
          (true_or_false (ltb r.end r.lo));
      last = B.to.within;
      among = λ j h. let w = window_e (table_of d f g) s e j (R.among.all j h) in (
        ⊎_elim (λ y. let x = B.from.before j (ltb-true j r.lo y) in let k = w.from in absurd (omega arith))
            (λ y. ltb-false j r.lo y) (true_or_false (ltb j r.lo)),
        ⊎_elim (λ y. ltb-true j r.end y)
            (λ y. let x = B.to.after j (ltb-false j r.end y) w.row in let k = w.to in absurd (omega arith))
            (true_or_false (ltb j r.end)),
      );
    }

pub lent_of : {d f g : List ℕ} {q : Query} {s e places sc n : ℕ} {bytes : List ℕ} {r : Rows}
    → RingCall d f g q s e places sc n → bytes ≡ marks (ring (table_of d f g) q s e) → Between d s e r
    → Lent d f g bytes r
lent_of C h B = in_rows (ringed_of C h) B

-- ---- what the loops write

module _ {d f g bytes x : List ℕ} {r : Rows} (L : Lent d f g bytes r)
    (P : Leaders x (leader (table_of d f g) (rows_of bytes) (length d))) where
  abbrev t : Table
  t = table_of d f g

  abbrev m : List Bool
  m = rows_of bytes

  lead_at : (j : ℕ) → j < length d → get_or x (get_or f j 0) 0 ≡ leader t m (size t) (first_of t j)
  unfolding first_of at
  lead_at j l =
      P.each (get_or f j 0)
      (let w = L.sound.rows j l in let a = w.accounts in let b = w.account_to in omega arith)

  pub labelled_is : labelled f bytes x ≡ labels_of t m
  unfolding labels_of
  labelled_is =
      ap (λ (n : ℕ). tabulate (λ j. choose (marked m j) (get_or x (get_or f j 0) 0) none) 0 n) L.sound.firsts
      ∙ same_list (λ j. choose (marked m j) (get_or x (get_or f j 0) 0) none)
      (λ j. choose (marked m j) (leader t m (size t) (first_of t j)) none) (length d)
      (λ j l. ap (λ (v : ℕ). choose (marked m j) v none) (lead_at j l))

  module _ (a : ℕ) (small : a < 4096) where
    abbrev in_group : ℕ → Bool
    in_group j = marked m j and eqb (leader t m (size t) (first_of t j)) (leader t m (size t) a)

    led_group : (j : ℕ) → j < length d → led f bytes x a j ≡ in_group j
    unfolding led
    led_group j l =
        ap (λ (v : ℕ). marked m j and eqb v (get_or x a 0)) (lead_at j l)
        ∙ ap (λ (v : ℕ). marked m j and eqb (leader t m (size t) (first_of t j)) v) (P.each a small)

    group_long : length (group t m a) ≡ length d
    unfolding group
    group_long = length_tabulate in_group 0 (length d)

    group_at : (j : ℕ) → j < length d → marked (group t m a) j ≡ in_group j
    unfolding group
    group_at j l = marked_tabulate in_group (length d) j l

    written : tabulate (λ j. mark (led f bytes x a j)) 0 (length d) ≡ marks (group t m a)
    unfolding marks marked mark
    written =
        ext_get_or 0 (tabulate (λ j. mark (led f bytes x a j)) 0 (length d)) (marks (group t m a))
        (length_tabulate (λ j. mark (led f bytes x a j)) 0 (length d) ∙ sym (marks_long (group t m a) ∙ group_long))
        (λ i l. let k : i < length d = (let e = length_tabulate (λ j. mark (led f bytes x a j)) 0 (length d) in
        omega arith) in
        get_d_tabulate (λ j. mark (led f bytes x a j)) 0 (length d) i 0 k
        ∙ (ap (λ (j : ℕ). mark (led f bytes x a j)) (zero-add i)
        ∙ (ap mark (led_group i k ∙ sym (group_at i k)) ∙ sym (get_or-map mark (group t m a) i false))))

    pub group_is : {n : ℕ} {now : List ℕ} → LedMarked f bytes x a n now → GroupMarked t m a n now
    unfolding members
    group_is {n} {now} M =
        record {
          number = M.number
              ∙ (ap (count (led f bytes x a)) L.sound.firsts
              ∙ (count_same (led f bytes x a) (marked (group t m a)) (length d)
              (λ j l. led_group j l ∙ sym (group_at j l))
              ∙ ap (count (marked (group t m a))) (sym group_long)));
          marks = M.marks ∙ (ap (λ (k : ℕ). tabulate (λ j. mark (led f bytes x a j)) 0 k) L.sound.firsts ∙
              written);
        }
