-- Laws of the table reader, over plain lists.
--
--   FirstWhole      a first line of 18 bytes, and the other lines behind it
--   Judging         through the loop over the lines: its invariant
--   judging_first   at its start
--   NextLine        the line behind the one judged
--   stays           a reader that stays tells the answer
--   moves           one that moves has passed a row
--   places          the places of the shortest column
--   reads_none      the reader's answer, by the code's cases: a faulty line
--   reads_short     too few places
--   reads_fit       places enough
--   reads_all       all is read
--   read_accepted   a call that has read was lent a text of rows alone
--   read_columns    and its columns, cut at its count, are the text's
--   read_rows       what a call that was lent such a text has answered and left: all of its rows
--   read_none       or nothing
-- Assumes nothing.
use Prim.Native.Nat.{ℕ, ◌+◌, ◌*◌, ◌≤◌, ◌<◌, min}
use mathlib.Core.Path.{◌≡◌, refl, sym, ap, ◌∙◌}
use mathlib.Core.Bool.{Bool, true, false, cond}
use mathlib.Core.Logic.{⊎_elim}
use mathlib.Core.List.{List, [], ◌∷◌, ◌++◌}
use native.Mathlib.Omega.{arith}
use lib.ListN.{length, take, drop, length-drop}
use lib.Seq.{take_at}
use lib.Dec.{leb}
use borrow.Author.Tests.{lt-leb, le-leb}
use Rattle.text.specs.Layout.{table_layout, line_bytes}
use Rattle.std.specs.Prelude.{Some, None, Result, Ok, Err}
use Rattle.text.specs.Line.{Line, lines_of, first_line, is_whole, step_as, row_from, row_of, step_at, passed, step_from}
use Rattle.text.specs.Table.{days_of, firsts_of, seconds_of, fault_or, judged_from, room_for, table_read_of, filled}
use Rattle.text.specs.Table.{Columns, columns, RowsFit, day_of, first_of, second_of, RowsWritten, TableReads, number}
use Rattle.text.specs.declared.lines.Row.{Row}
use Rattle.text.specs.declared.lines.Step.{Step}
use Rattle.text.specs.declared.table.ReadError.{ReadError}
use Rattle.text.specs.declared.table.ReadError.TheVariants.{NoRoom}
use Rattle.text.proofs.Tests.{true_or_false, pick_true, pick_false, zero_not_one}
use Rattle.text.proofs.LineLaws.{next_start, step_none, step_short, whole_fits, step_found, step_line, is_end, never_end}
use Rattle.text.proofs.SplitLaws.{lines_first, whole_size}
use Rattle.text.proofs.RowsLaws.{all_rows, columns_of, column_length}

-- ---- the lowest fault from line n on

fault_at : (n : ℕ) (ls : List (List ℕ)) (r : Line) → row_from (step_as table_layout ls) ≡ r → is_end r ≡ 0
    → judged_from n ls ≡ fault_or (n + 1) r (judged_from (n + 1) (drop 1 ls))
unfolding step_as judged_from row_of
fault_at n [] r e z = zero_not_one (sym (ap is_end e ∙ z))
fault_at n (l ∷ ls) r e z = ap (λ (x : Line). fault_or (n + 1) x (judged_from (n + 1) ls)) e

fault_none : (n : ℕ) (ls : List (List ℕ)) → row_from (step_as table_layout ls) ≡ Ok None → judged_from n ls ≡ Ok n
unfolding step_as judged_from row_of
fault_none n [] e = refl
fault_none n (l ∷ ls) e = zero_not_one (sym (never_end l) ∙ ap is_end e)

-- the first line is 18 bytes, and the other lines start behind it
pub record FirstWhole (s : List ℕ) : Type 0 where
  pub fits : line_bytes ≤ length s
  pub split : lines_of s ≡ first_line s ∷ lines_of (drop line_bytes s)

whole_step : (s : List ℕ) → is_whole line_bytes (first_line s) ≡ true → FirstWhole s
whole_step s e =
    let f : line_bytes ≤ length s = whole_fits s line_bytes e in
    record {
      fits = f;
      split = lines_first s (omega arith) ∙ ap (λ (k : ℕ). first_line s ∷ lines_of (drop k s)) (whole_size line_bytes (first_line s) e);
    }

row_step : (s : List ℕ) (row : Row) → row_from (step_as table_layout (lines_of s)) ≡ Ok (Some row) → FirstWhole s
row_step [] row e = zero_not_one (ap passed (ap row_from (sym (step_none table_layout [] refl)) ∙ e))
row_step (x ∷ xs) row e =
    ⊎_elim (λ t. whole_step (x ∷ xs) t)
    (λ t. zero_not_one (ap passed (ap row_from (sym (step_short table_layout (x ∷ xs) (omega arith) t)) ∙ e)))
    (true_or_false (is_whole line_bytes (first_line (x ∷ xs))))

-- line n starts within the text, and the lowest fault from there on is that of the whole
pub record Judging (text : List ℕ) (found : Result ℕ ReadError) (n : ℕ) : Type 0 where
  pub within : line_bytes * n ≤ length text
  pub rest : judged_from n (lines_of (drop (line_bytes * n) text)) ≡ found

pub judging_first : (text : List ℕ) → Judging text (judged_from 0 (lines_of text)) 0
judging_first text = record { within = omega arith; rest = refl }

-- line m is the one behind line n
pub record NextLine (text : List ℕ) (found : Result ℕ ReadError) (n m : ℕ) : Type 0 where
  pub next : m ≡ n + 1
  pub judging : Judging text found m

module _ {text : List ℕ} {found : Result ℕ ReadError} {n : ℕ} {s : Step} (so : Judging text found n) (is : s ≡ step_from text n) where
  -- the text from line n on
  abbrev from_line : List ℕ
  from_line = drop (line_bytes * n) text

  at_end : s.found ≡ Ok None → Ok n ≡ found
  unfolding step_at
  at_end e = sym (fault_none n _ (sym (step_found text n is) ∙ e)) ∙ so.rest

  at_fault : (f : Line) → s.found ≡ f → is_end f ≡ 0 → fault_or (n + 1) f (judged_from (n + 1) (drop 1 (lines_of from_line))) ≡ found
  unfolding step_at
  at_fault f e z = sym (fault_at n _ f (sym (step_found text n is) ∙ e) z) ∙ so.rest

  at_row : (row : Row) → s.found ≡ Ok (Some row) → Judging text found (n + 1)
  unfolding step_at
  at_row row e =
      let first : FirstWhole from_line = row_step from_line row (sym (step_found text n is) ∙ e) in
      record {
        within = omega (arith, first.fits, length-drop (line_bytes * n) text);
        rest = ap (λ (t : List ℕ). judged_from (n + 1) (lines_of t)) (sym (next_start text n))
            ∙ ap (λ (ls : List (List ℕ)). judged_from (n + 1) (drop 1 ls)) (sym first.split) ∙ at_fault (Ok (Some row)) e refl;
      }

  by_stay : (l : Line) → s.found ≡ l → passed l ≡ 0 → fault_or (n + 1) l (Ok n) ≡ found
  by_stay (Ok (Some row)) e z = zero_not_one (sym z)
  by_stay (Ok None) e z = at_end e
  by_stay (Err f) e z = at_fault (Err f) e refl

  -- a reader that stays is at the text's end or at the lowest faulty line
  pub stays : {l : Line} → s.found ≡ l → s.line ≡ n → fault_or (n + 1) l (Ok n) ≡ found
  stays {l} e h = by_stay l e (omega (arith, step_line text n is, ap passed e))

  by_move : (l : Line) → s.found ≡ l → (passed l ≡ 0 → ⊥) → NextLine text found n s.line
  by_move (Ok (Some row)) e h =
      let on : s.line ≡ n + 1 = step_line text n is ∙ ap (λ (l : Line). n + passed l) e in
      record { next = on; judging = rw on (at_row row e) }
  by_move (Ok None) e h = absurd (h refl)
  by_move (Err f) e h = absurd (h refl)

  -- one that moves has passed a row
  pub moves : (s.line ≡ n → ⊥) → NextLine text found n s.line
  moves h = by_move s.found refl (λ z. h (omega (arith, step_line text n is)))

-- the places of the shortest column
abbrev pub places : Columns → ℕ
places c = min (length c.days) (min (length c.first) (length c.second))

-- ---- the reader's answer, by the code's cases

-- what is kept behind the rows, counted as lines or as rows
kept_from : (values old : List ℕ) {n m : ℕ} {now : List ℕ} → n ≡ m → now ≡ values ++ drop m old → now ≡ values ++ drop n old
kept_from values old e h = h ∙ ap (λ (k : ℕ). values ++ drop k old) (sym e)

module _ (text : List ℕ) (old : Columns) {r : Result ℕ ReadError} (is : r ≡ judged_from 0 (lines_of text)) where
  abbrev room : ℕ
  room = places old

  answer : {j : Result ℕ ReadError} → r ≡ j → room_for room j ≡ table_read_of text (length old.days) (length old.first) (length old.second)
  unfolding table_read_of
  answer e = ap (room_for room) (sym e ∙ is)

  -- an answer that is no number of rows keeps the columns
  pub reads_none : {f : ReadError} {a : Result ℕ ReadError} → r ≡ Err f → a ≡ Err f → TableReads text old a old
  reads_none e q = rw q (record { answers = answer e; days_hold = refl; first_hold = refl; second_hold = refl })

  module _ {n places : ℕ} (e : r ≡ Ok n) (q : places ≡ room) where
    pub reads_short : places < n → TableReads text old (Err NoRoom) old
    reads_short h = record {
      answers = sym (pick_false _ _ _ (lt-leb n room (rw q at h))) ∙ answer e;
      days_hold = refl;
      first_hold = refl;
      second_hold = refl;
    }

    rows : judged_from 0 (lines_of text) ≡ Ok n
    rows = sym is ∙ e

    pub reads_fit : n ≤ places → RowsFit text old
    reads_fit h =
        let all : n ≡ length (lines_of text) = all_rows n (lines_of text) rows in
        record { rows = rows ∙ ap Ok all; days_fit = omega arith; first_fit = omega arith; second_fit = omega arith }

    pub reads_all : {new : Columns} → n ≤ places → RowsWritten text old new → TableReads text old (Ok n) new
    reads_all h w =
        let all : n ≡ length (lines_of text) = all_rows n (lines_of text) rows in
        record {
          answers = sym (pick_true _ _ _ (le-leb n room (rw q at h))) ∙ answer e;
          days_hold = kept_from (days_of text) old.days all w.days_hold;
          first_hold = kept_from (firsts_of text) old.first all w.first_hold;
          second_hold = kept_from (seconds_of text) old.second all w.second_hold;
        }

-- ---- what a call of the reader has answered

-- an answer that is a number of rows had room for them
rows_fit : (b : Bool) (m n : ℕ) → ◌≡◌ {A = Result ℕ ReadError} (cond b (Ok m) (Err NoRoom)) (Ok n)
    → ◌≡◌ {A = Result ℕ ReadError} (Ok m) (Ok n)
rows_fit true m n e = e
rows_fit false m n e = let z : ⊥ = omega (arith, ap number e) in absurd z

rows_judged : (k n : ℕ) (j : Result ℕ ReadError) → room_for k j ≡ Ok n → j ≡ Ok n
rows_judged k n (Ok m) e = rows_fit (leb m k) m n e
rows_judged k n (Err f) e = e

module _ {text : List ℕ} {old new : Columns} {n : ℕ} (r : TableReads text old (Ok n) new) where
  pub read_accepted : judged_from 0 (lines_of text) ≡ Ok n
  unfolding table_read_of
  read_accepted = rows_judged (places old) n _ (sym r.answers)

  pub read_columns : columns (take n new.days) (take n new.first) (take n new.second) ≡ columns_of text
  unfolding days_of firsts_of seconds_of
  read_columns =
      let days = ap (take n) r.days_hold ∙ take_at _ _ n (column_length text n read_accepted day_of) in
      let first = ap (take n) r.first_hold ∙ take_at _ _ n (column_length text n read_accepted first_of) in
      let second = ap (take n) r.second_hold ∙ take_at _ _ n (column_length text n read_accepted second_of) in
      λ i. columns (days i) (first i) (second i)

module _ {text : List ℕ} {old new : Columns} {answer : Result ℕ ReadError} {n : ℕ} (rows : judged_from 0 (lines_of text) ≡ Ok n)
    (r : TableReads text old answer new) where
  by_places : answer ≡ room_for (places old) (Ok n)
  unfolding table_read_of
  by_places = r.answers ∙ ap (room_for (places old)) rows

  left : {a : Result ℕ ReadError} → answer ≡ a
      → new ≡ columns (filled a (days_of text) old.days) (filled a (firsts_of text) old.first) (filled a (seconds_of text) old.second)
  left e =
      let days = r.days_hold ∙ ap (λ (a : Result ℕ ReadError). filled a (days_of text) old.days) e in
      let first = r.first_hold ∙ ap (λ (a : Result ℕ ReadError). filled a (firsts_of text) old.first) e in
      let second = r.second_hold ∙ ap (λ (a : Result ℕ ReadError). filled a (seconds_of text) old.second) e in
      λ i. columns (days i) (first i) (second i)

  pub read_rows : n ≤ places old
      → (answer ≡ Ok n)
      × (new ≡ columns (days_of text ++ drop n old.days) (firsts_of text ++ drop n old.first) (seconds_of text ++ drop n old.second))
  read_rows h = let a = by_places ∙ pick_true _ _ _ (le-leb _ _ h) in (a, left a)

  pub read_none : places old < n → (answer ≡ Err NoRoom) × (new ≡ old)
  read_none h = let a = by_places ∙ pick_false _ _ _ (lt-leb _ _ h) in (a, left a)
