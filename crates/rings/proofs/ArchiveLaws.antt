-- A list of minimal windows as columns: what Minimal windows writes, and what Recall makes of it.
--     mapped             an entry of a list made by `map`
--     front_of           a column that a list was written over begins with it
--     entries_of         three columns made of a list hold that list
--     archive_written    the columns that Minimal windows writes, cut at its count, are an `Archive`
--     archive_accepted   Recall accepts an archive for every window of the range
--     archive_marks      and marks that window's ring
-- Assumes nothing.
use Prim.Native.Nat.{ℕ, zero, suc, ◌+◌, ◌≤◌, ◌<◌}
use native.Mathlib.Nat.{eq-or-lt_of_le, not-suc-le-zero}
use native.Mathlib.Omega.{arith}
use mathlib.Core.Path.{◌≡◌, refl, sym, ◌∙◌, ap, subst}
use mathlib.Core.Logic.{◌⊎◌, ⊎_elim}
use mathlib.Core.Bool.{Bool, true}
use mathlib.Core.List.{List, [], ◌∷◌, ◌++◌, map}
use lib.ListN.{length, get_or, take, drop, length-map}
use lib.Dec.{eqb}
use borrow.Author.Tests.{lt-ltb, le-leb, eq-eqb}
use Rattle.std.specs.Prelude.{Ok}
use Rattle.rings.specs.Words.{◌and◌, no, at, tabulate, Pairwise}
use Rattle.rings.specs.Table.{Table, size, day_of}
use Rattle.rings.specs.Ring.{ring, in_ring}
use Rattle.rings.specs.CoreTimes.{never}
use Rattle.rings.specs.Windows.{Entry, Listed, minimal_windows, Before, IsMinimalList, entries, Archive, recalled}
use Rattle.rings.specs.Checks.{◌when◌, ◌then◌, in_order, range_check}
use Rattle.rings.specs.Buffers.{marks, over}
use Rattle.rings.specs.TableCheck.{table_check}
use Rattle.rings.specs.MinimalWindowsCall.{minimal_checks, minimal_answer, entry_column, minimal_rows}
use Rattle.rings.specs.MinimalWindowsCall.{minimal_starts, minimal_ends}
use Rattle.rings.specs.RecallCall.{Columns, columns_of, entry_at, comes_after, in_place, fits, entry_check}
use Rattle.rings.specs.RecallCall.{recall_answer, recall_marks}
use Rattle.rings.specs.declared.Query.{Query}
use Rattle.rings.specs.declared.refusal.Refusal.TheVariants.{BadRange, BadLength, BadEntry}
use Rattle.rings.specs.Refusals.{Verdict}
use Rattle.rings.proofs.WordLaws.{and_i, or_l, or_r, length_tabulate, marked_tabulate_e, marked_tabulate_i}
use Rattle.rings.proofs.WordLaws.{same_marks}
use Rattle.rings.proofs.ListLaws.{mem_tabulate}
use Rattle.rings.proofs.CheckLaws.{then_accepted, passes, order_accepted, counted_e}
use Rattle.rings.proofs.RingLaws.{ring_is, in_window_lem}
use Rattle.rings.proofs.WindowLaws.{ends_rise, list_is, recall_ring}

-- ---- lists

plus_none : (a : ℕ) → a + 0 ≡ a
plus_none a = omega arith

pub front_of : {A : Type 0} (xs ys : List A) → take (length xs) (xs ++ ys) ≡ xs
front_of [] ys = refl
front_of (x ∷ xs) ys = λ i. x ∷ front_of xs ys i

pub mapped : {A : Type 0} (g : A → ℕ) (z : A) (xs : List A) (p : ℕ) → p < length xs
    → get_or (map g xs) p 0 ≡ g (get_or xs p z)
mapped g z [] p h = absurd (not-suc-le-zero h)
mapped g z (x ∷ xs) zero h = refl
mapped g z (x ∷ xs) (suc p) h = mapped g z xs p (omega arith)

tabulate_of : {A : Type 0} (f : ℕ → A) (z : A) (xs : List A) (i : ℕ)
    → ((j : ℕ) → j < length xs → f (i + j) ≡ get_or xs j z) → tabulate f i (length xs) ≡ xs
unfolding tabulate
tabulate_of f z [] i h = refl
tabulate_of f z (x ∷ xs) i h =
    λ n.
    (ap f (sym (plus_none i)) ∙ h 0 (omega arith)) n ∷ tabulate_of f z xs (suc i)
    (λ j l. let e : suc i + j ≡ i + suc j = omega arith in ap f e ∙ h (suc j) (omega arith)) n

tabulate_pair : {A : Type 0} (R : A → A → Type 0) (f : ℕ → A) (i n a b : ℕ) → Pairwise R (tabulate f i n) → i ≤ a
    → a < b → b < i + n → R (f a) (f b)
unfolding tabulate
tabulate_pair R f i zero a b P h k l = absurd (omega arith)
tabulate_pair R f i (suc n) a b (Pairwise.more x P) h k l =
    ⊎_elim
    (λ e. subst (λ (c : ℕ). R (f c) (f b)) e (x (f b) (mem_tabulate f (suc i) n b (omega arith) (omega arith))))
    (λ o. tabulate_pair R f (suc i) n a b P o k (omega arith)) (eq-or-lt_of_le h)

pub entries_of : (es : List Entry)
    → entries (map (λ (x : Entry). x.row) es) (map (λ (x : Entry). x.start) es) (map (λ (x : Entry). x.end) es)
    ≡ es
unfolding entries at
entries_of es =
    ap (tabulate f 0) (length-map es (λ (x : Entry). x.row))
    ∙ tabulate_of f z es 0 (λ j l. ap f (zero_plus j) ∙ same j l)
  where
    z : Entry
    z = record { row = 0; start = 0; end = 0 }

    f : ℕ → Entry
    f i =
        record {
          row = get_or (map (λ (x : Entry). x.row) es) i 0;
          start = get_or (map (λ (x : Entry). x.start) es) i 0;
          end = get_or (map (λ (x : Entry). x.end) es) i 0;
        }

    zero_plus : (j : ℕ) → 0 + j ≡ j
    zero_plus j = omega arith

    same : (j : ℕ) → j < length es → f j ≡ get_or es j z
    same j l = λ n.
        record {
          row = mapped (λ (x : Entry). x.row) z es j l n;
          start = mapped (λ (x : Entry). x.start) z es j l n;
          end = mapped (λ (x : Entry). x.end) z es j l n;
        }

-- ---- written by Minimal windows

module _ (t : Table) (q : Query) (lo hi : ℕ) (rows starts ends : List ℕ)
    (row_places start_places end_places scratch : ℕ) {n : ℕ}
    (accepted : minimal_answer t q lo hi row_places start_places end_places scratch ≡ Ok n) where
  counts : length (minimal_windows t q lo hi) ≡ n
  unfolding minimal_answer
  counts =
      (counted_e (minimal_checks t q lo hi row_places start_places end_places scratch)
      (length (minimal_windows t q lo hi)) n accepted).1

  cut : (part : Entry → ℕ) (old : List ℕ)
      → take n (entry_column (Ok n) part (minimal_windows t q lo hi) old)
      ≡ map part (minimal_windows t q lo hi)
  unfolding entry_column over
  cut part old =
      let es = minimal_windows t q lo hi in
      ap (λ (m : ℕ). take m (map part es ++ drop (length (map part es)) old)) (sym (length-map es part ∙ counts))
      ∙ front_of (map part es) (drop (length (map part es)) old)

  pub archive_written : Archive t q lo hi (take n (minimal_rows (Ok n) t q lo hi rows))
      (take n (minimal_starts (Ok n) t q lo hi starts))
      (take n (minimal_ends (Ok n) t q lo hi ends))
  unfolding minimal_rows minimal_starts minimal_ends
  archive_written =
      let es = minimal_windows t q lo hi in
      rw (cut (λ x. x.row) rows, cut (λ x. x.start) starts, cut (λ x. x.end) ends)
      (record {
        as_many_starts = length-map es (λ (x : Entry). x.start) ∙ sym (length-map es (λ (x : Entry). x.row));
        as_many_ends = length-map es (λ (x : Entry). x.end) ∙ sym (length-map es (λ (x : Entry). x.row));
        holds = subst (IsMinimalList t q lo hi) (sym (entries_of es)) (list_is t q lo hi);
      })

-- ---- read by Recall

module _ (t : Table) (q : Query) (lo hi : ℕ) (one : 1 ≤ lo) (top : hi ≤ 1024) (rows starts ends : List ℕ)
    (A : Archive t q lo hi rows starts ends) where
  abbrev c : Columns
  c = columns_of rows starts ends

  entry : (i : ℕ) → i < length rows → Listed t q lo hi (entry_at c i)
  unfolding entry_at entries
  entry i l =
      A.holds.each (entry_at c i) (mem_tabulate (λ j. entry_at c j) 0 (length rows) i (omega arith) (omega arith))

  fits_here : (i : ℕ) → i < length rows → fits t (entry_at c i) ≡ true
  unfolding fits
  fits_here i l =
      let x = entry_at c i in
      let w = entry i l in
      let a = w.from in let b = w.to in
      let d = in_window_lem t q x.start x.end x.row w.is_minimal.has in
      and_i (lt-ltb x.row (size t) w.in_table)
      (and_i (le-leb 1 x.start (omega arith))
      (and_i (le-leb x.start (day_of t x.row) d.from)
      (and_i (le-leb (day_of t x.row) x.end d.to) (le-leb x.end 1024 (omega arith)))))

  -- 14 asks more than the list's order: that ends rise too follows from the entries being minimal windows
  after : (x y : Entry) → Listed t q lo hi x → Listed t q lo hi y → Before x y → comes_after x y ≡ true
  unfolding comes_after
  after x y a b (◌⊎◌.inl l) = or_l _ _ (lt-ltb x.row y.row l)
  after x y a b (◌⊎◌.inr w) =
      let ends : x.end < y.end = ends_rise t q lo hi x y a b w.0 w.1 in
      or_r _ _
      (and_i (eq-eqb x.row y.row w.0)
      (and_i (lt-ltb x.start y.start w.1) (lt-ltb x.end y.end ends)))

  in_place_lem : (i : ℕ) → i < length rows → in_place c i ≡ true
  unfolding in_place entries entry_at
  in_place_lem zero l = refl
  in_place_lem (suc i) l =
      after (entry_at c i) (entry_at c (suc i)) (entry i (omega arith)) (entry (suc i) l)
      (tabulate_pair Before (λ j. entry_at c j) 0 (length rows) i (suc i) A.holds.in_order (omega arith)
      (omega arith) (omega arith))

  entries_pass : in_order (tabulate (entry_check t c) 0 (length rows)) ≡ Ok tt
  unfolding entry_check
  entries_pass =
      order_accepted (entry_check t c) 0 (length rows)
      (λ i h l. passes (BadEntry i) (and_i (fits_here i (omega arith)) (in_place_lem i (omega arith))))

  module _ (s e : ℕ) (from : lo ≤ s) (order : s ≤ e) (to : e ≤ hi) where
    pub archive_accepted : table_check t ≡ Ok tt → recall_answer t c s e (size t) ≡ Ok tt
    unfolding recall_answer range_check
    archive_accepted h =
        then_accepted (lengths then (listed then range)) h
        ∙ (then_accepted (listed then range)
        (passes BadLength
        (and_i (eq-eqb (length starts) (length rows) A.as_many_starts)
        (and_i (eq-eqb (length ends) (length rows) A.as_many_ends) (eq-eqb (size t) (size t) refl))))
        ∙ (then_accepted range entries_pass
        ∙ passes BadRange
        (and_i (le-leb 1 s (omega arith)) (and_i (le-leb s e order) (le-leb e 1024 (omega arith))))))
      where
        lengths : Verdict
        lengths =
            BadLength
            when no (eqb (length starts) (length rows) and eqb (length ends) (length rows) and eqb (size t) (size t))

        listed : Verdict
        listed = in_order (tabulate (entry_check t c) 0 (length rows))

        range : Verdict
        range = range_check s e

module _ (t : Table) (q : Query) (lo hi : ℕ) (rows starts ends : List ℕ) (A : Archive t q lo hi rows starts ends)
    (s e : ℕ) (short : e < never) (from : lo ≤ s)
    (to : e ≤ hi) where
  pub archive_marks : (old : List ℕ)
      → recall_marks (Ok tt) t (columns_of rows starts ends) s e old ≡ marks (ring t q s e)
  unfolding recall_marks in_ring
  archive_marks old =
      ap marks
      (same_marks (tabulate f 0 (size t)) (ring t q s e)
      (length_tabulate f 0 (size t) ∙ sym (ring_is t q s e).sized)
      (λ j h. sym (is j) ∙ (marked_tabulate_e f (size t) j h).1)
      (λ j h. marked_tabulate_i f (size t) j (in_window_lem t q s e j h).row (is j ∙ h)))
    where
      f : ℕ → Bool
      f = recalled (entries rows starts ends) s e

      is : (j : ℕ) → recalled (entries rows starts ends) s e j ≡ in_ring t q s e j
      is j = recall_ring t q lo hi (entries rows starts ends) A.holds s e j short from to
