-- Laws of a text of rows alone, over plain lists.
--
--   rows_count      it has as many lines as rows
--   all_rows        counted from its start
--   found_at        the reader finds each line in its place
--   line_row        which is a row
--   columns_of       its columns
--   column_length   a column has as many numbers as there are rows
--   Writing         through the loop that writes one row a turn: its invariant
--   writing_none    at its start
--   writing_row     there is a row at each line
--   writing_more    after a turn
-- Assumes nothing.
use Prim.Native.Nat.{ℕ, zero, suc, ◌+◌, ◌<◌}
use mathlib.Core.Path.{◌≡◌, refl, sym, ap, ◌∙◌}
use mathlib.Core.Bool.{true}
use mathlib.Core.Logic.{⊎_elim}
use mathlib.Core.List.{List, [], ◌∷◌, map}
use native.Mathlib.Nat.{not-suc-le-zero, le_of_suc-le-suc}
use native.Mathlib.Omega.{arith}
use lib.ListN.{length, get_or, set, length-map, get_or-map}
use lib.Seq.{drop-cons}
use Rattle.std.specs.Prelude.{Some, None, Result, Ok, Err}
use Rattle.text.specs.Layout.{table_layout, line_bytes}
use Rattle.text.specs.Line.{Line, Numbers, lines_of, is_whole, line_as, step_as, row_from, row_of, step_at, passed, step_from, Reached}
use Rattle.text.specs.Table.{day_of, first_of, second_of, days_of, firsts_of, seconds_of, fault_or, judged_from, Columns, columns, RowsFit}
use Rattle.text.specs.declared.lines.LineError.TheVariants as line
use Rattle.text.specs.declared.lines.Row.{Row}
use Rattle.text.specs.declared.lines.Step.{Step}
use Rattle.text.specs.declared.table.ReadError.{ReadError}
use Rattle.text.proofs.Tests.{true_or_false, pick_false, zero_not_one}
use Rattle.text.proofs.LineLaws.{step_from_lem, step_found, is_end, never_end}
use Rattle.text.proofs.PasteLaws.{Pasting, pasting_none, pasting_on}

-- ---- a text of rows alone

no_rows : {A : Type 0} {x : ReadError} {c : ℕ} → ◌≡◌ {A = Result ℕ ReadError} (Err x) (Ok c) → A
no_rows e = zero_not_one (cc)

pub rest_rows : (n c : ℕ) (r : Line) (later : Result ℕ ReadError) → fault_or n r later ≡ Ok c → later ≡ Ok c
rest_rows n c (Ok row) later e = e
rest_rows n c (Err f) later e = no_rows e

row_whole : (n c : ℕ) (l : List ℕ) (later : Result ℕ ReadError) → fault_or n (row_of l) later ≡ Ok c → is_whole line_bytes l ≡ true
unfolding row_of line_as
row_whole n c l later e =
    ⊎_elim (λ t. t) (λ t. no_rows (ap (λ (x : Numbers). fault_or n (row_from x) later) (sym (pick_false _ _ _ t)) ∙ e)) (true_or_false (is_whole line_bytes l))

pub rows_count : (n c : ℕ) (ls : List (List ℕ)) → judged_from n ls ≡ Ok c → c ≡ n + length ls
unfolding judged_from
rows_count n c [] e = let q : n ≡ c = cc in omega arith
rows_count n c (l ∷ ls) e = omega (arith, rows_count (n + 1) c ls (rest_rows (n + 1) c (row_of l) (judged_from (n + 1) ls) e))

pub all_rows : (c : ℕ) (ls : List (List ℕ)) → judged_from 0 ls ≡ Ok c → c ≡ length ls
all_rows c ls e = omega (arith, rows_count 0 c ls e)

-- a line that is no row's length refuses
rows_whole : (n c : ℕ) (ls : List (List ℕ)) → judged_from n ls ≡ Ok c → (i : ℕ) → i < length ls → is_whole line_bytes (get_or ls i []) ≡ true
unfolding judged_from
rows_whole n c [] e i h = absurd (not-suc-le-zero h)
rows_whole n c (l ∷ ls) e zero h = row_whole (n + 1) c l (judged_from (n + 1) ls) e
rows_whole n c (l ∷ ls) e (suc i) h =
    rows_whole (n + 1) c ls (rest_rows (n + 1) c (row_of l) (judged_from (n + 1) ls) e) i (le_of_suc-le-suc h)

pub row_passed : (n c : ℕ) (r : Line) (later : Result ℕ ReadError) → is_end r ≡ 0 → fault_or n r later ≡ Ok c → passed r ≡ 1
row_passed n c (Ok (Some row)) later z e = refl
row_passed n c (Ok None) later z e = sym z
row_passed n c (Err f) later z e = no_rows e

rows_passed : (n c : ℕ) (ls : List (List ℕ)) → judged_from n ls ≡ Ok c → (i : ℕ) → i < length ls → passed (row_of (get_or ls i [])) ≡ 1
unfolding judged_from
rows_passed n c [] e i h = absurd (not-suc-le-zero h)
rows_passed n c (l ∷ ls) e zero h = row_passed (n + 1) c (row_of l) (judged_from (n + 1) ls) (never_end l) e
rows_passed n c (l ∷ ls) e (suc i) h =
    rows_passed (n + 1) c ls (rest_rows (n + 1) c (row_of l) (judged_from (n + 1) ls) e) i (le_of_suc-le-suc h)

no_bytes : row_of [] ≡ Err line.BadLine
unfolding row_of line_as is_whole
no_bytes = refl

module _ (text : List ℕ) (c : ℕ) (so : judged_from 0 (lines_of text) ≡ Ok c) where
  -- every line can be reached
  reached : (n : ℕ) → Reached text n
  reached n = record { each = λ i l k. rows_whole 0 c (lines_of text) so i k }

  all : c ≡ length (lines_of text)
  all = all_rows c (lines_of text) so

  pub found_at : (i : ℕ) → i < c → step_at text i ≡ row_of (get_or (lines_of text) i [])
  unfolding step_as row_of
  found_at i h =
      let k : i < length (lines_of text) = omega (arith, all) in
      step_from_lem text i (omega arith) (reached i) ∙ ap (λ (ls : List (List ℕ)). row_from (step_as table_layout ls)) (drop-cons (lines_of text) i [] k)

  -- and it is a row
  pub line_row : (i : ℕ) → i < c → {s : Step} → s ≡ step_from text i → passed s.found ≡ 1
  line_row i h is = ap passed (step_found text i is ∙ found_at i h) ∙ rows_passed 0 c (lines_of text) so i (omega (arith, all))

  module _ (f : Line → ℕ) where
    -- a column of the text's rows
    abbrev column : List ℕ
    column = map (λ (l : List ℕ). f (row_of l)) (lines_of text)

    pub column_length : length (map (λ (l : List ℕ). f (row_of l)) (lines_of text)) ≡ c
    column_length = length-map (lines_of text) (λ (l : List ℕ). f (row_of l)) ∙ sym all

    module _ (z : f (Err line.BadLine) ≡ 0) (i : ℕ) (h : i < c) where
      -- its number at a row is that of the line found there
      column_at : get_or column i 0 ≡ f (step_at text i)
      column_at =
          ap (get_or column i) (sym (ap f no_bytes ∙ z)) ∙ get_or-map (λ (l : List ℕ). f (row_of l)) (lines_of text) i []
          ∙ ap f (sym (found_at i h))

      -- so it is the number that the loop stores
      stored : {r : Line} {x : ℕ} → r ≡ step_at text i → x ≡ f r → x ≡ get_or column i 0
      stored e q = q ∙ ap f e ∙ sym column_at

abbrev pub columns_of : List ℕ → Columns
columns_of text = columns (days_of text) (firsts_of text) (seconds_of text)

-- ---- a text's rows, written into three columns row by row

-- the first i rows stand in the columns
pub record Writing (text : List ℕ) (old now : Columns) (i : ℕ) : Type 0 where
  pub days_hold : Pasting (days_of text) old.days now.days 0 (length (lines_of text)) i
  pub first_hold : Pasting (firsts_of text) old.first now.first 0 (length (lines_of text)) i
  pub second_hold : Pasting (seconds_of text) old.second now.second 0 (length (lines_of text)) i

module _ {text : List ℕ} {old : Columns} (fit : RowsFit text old) where
  pub writing_none : Writing text old old 0
  unfolding days_of firsts_of seconds_of
  writing_none = record {
    days_hold = pasting_none _ _ _ _ (column_length text _ fit.rows day_of) (omega (arith, fit.days_fit));
    first_hold = pasting_none _ _ _ _ (column_length text _ fit.rows first_of) (omega (arith, fit.first_fit));
    second_hold = pasting_none _ _ _ _ (column_length text _ fit.rows second_of) (omega (arith, fit.second_fit));
  }

  -- the reader at line i finds a row
  pub writing_row : {i : ℕ} {s : Step} → i < length (lines_of text) → s ≡ step_from text i → passed s.found ≡ 1
  writing_row {i = i} h is = line_row text _ fit.rows i h is

  -- its numbers are stored
  pub writing_more : {now : Columns} {i : ℕ} {s : Step} {row : Row} → Writing text old now i → i < length (lines_of text)
      → s ≡ step_from text i → s.found ≡ Ok (Some row)
      → Writing text old (columns (set now.days i row.day) (set now.first i row.first) (set now.second i row.second)) (i + 1)
  unfolding days_of firsts_of seconds_of
  writing_more {i = i} w h is e =
      let found = step_found text i is in
      record {
        days_hold = pasting_on _ _ refl w.days_hold h (omega arith) (stored text _ fit.rows day_of refl i h found (sym (ap day_of e)));
        first_hold = pasting_on _ _ refl w.first_hold h (omega arith) (stored text _ fit.rows first_of refl i h found (sym (ap first_of e)));
        second_hold = pasting_on _ _ refl w.second_hold h (omega arith) (stored text _ fit.rows second_of refl i h found (sym (ap second_of e)));
      }
