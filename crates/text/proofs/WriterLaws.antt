-- Laws of the table writer, over plain lists.
--
--   row_pieces      a table's line is its pieces, one behind the other
--   row_length      how long it is
--   SameLength      three columns of one length
--   same_length     they are what `one_length` tests
--   rows_of row_at    the rows of three columns; their numbers at a place
--   rows_length     they have as many rows as days
--   row_at_lem          and this row at a place
--   line_of          a row's line
--   lines_length    the bytes of some rows' lines
--   text_length     those of a table's text
--   same            so have columns whose lines fit
--   Written         through the loop that writes a line a turn: its invariant
--   written_none    at its start
--   written_room    there is room for one line more
--   written_more    after a turn
--   written_all     at its end
--   differ_kept     the writer's answer, by the code's cases: columns of different lengths
--   short_kept      too few bytes
--   writes_fit      neither: the lines fit
--   writes_all      all is written
--   wrote_text      what a call that was lent this text's columns has answered and left: all of the text
--   wrote_none      or nothing
--   wrote_one       a call that has written was lent columns of one length
--   wrote_bytes     and its bytes are their text
-- Assumes nothing.
use Prim.Native.Nat.{ℕ, zero, suc, ◌+◌, ◌*◌, ◌/◌, ◌≤◌, ◌<◌}
use mathlib.Core.Path.{◌≡◌, refl, sym, ap, subst, ◌∙◌}
use mathlib.Core.Bool.{true, false, ◌&&◌}
use mathlib.Core.Logic.{⊎_elim}
use mathlib.Core.List.{List, [], ◌∷◌, ◌++◌, append_assoc, append-nil}
use native.Mathlib.Nat.{not-suc-le-zero, le_of_suc-le-suc, zero-add}
use native.Mathlib.Numerals.{add-one}
use native.Mathlib.Omega.{arith}
use lib.Dec.{eqb}
use lib.ListN.{length, get_or, take, drop, length-append}
use lib.Seq.{take-suc, take_all, take_at, length-take-le}
use borrow.Author.Tests.{eqb-true, le-leb, lt-leb}
use Rattle.std.specs.Prelude.{Result, Ok, Err}
use Rattle.text.specs.Layout.{day_width, account_width, line_bytes}
use Rattle.text.specs.Print.{printed, pasted, WrittenAt}
use Rattle.text.specs.Table.{Columns}
use Rattle.text.specs.Writer.{table_line, TableRow, table_lines, table_rows, table_text, one_length, text_for, table_write_of, TableWrites}
use Rattle.text.specs.Writer.{text_after, LinesFit, written_number, written_length}
use Rattle.text.specs.declared.writer.WriteError.{WriteError}
use Rattle.text.specs.declared.writer.WriteError.TheVariants.{ColumnsDiffer, NoRoom}
use Rattle.text.proofs.Tests.{true_or_false, lt_or_le, and_left, and_right, pick_true, pick_false}
use Rattle.text.proofs.PasteLaws.{Pieces, piece_more, pasted_start}
use Rattle.text.proofs.PrintLaws.{printed_length, three_pieces}

-- ---- a line

module _ (out : List ℕ) (at : ℕ) {o₁ o₂ o₃ o₄ : List ℕ} {a b c r : ℕ} (day first second : ℕ) (h : at + line_bytes ≤ length out) where
  pub row_pieces : WrittenAt out at day_width (printed day_width day) a o₁
      → WrittenAt o₁ a account_width (printed account_width first) b o₂
      → WrittenAt o₂ b account_width (printed account_width second) c o₃
      → WrittenAt o₃ c 1 (10 ∷ []) r o₄
      → WrittenAt out at line_bytes (table_line day first second) r o₄
  unfolding table_line
  row_pieces w₁ w₂ w₃ w₄ =
      let day_size = printed_length day_width day in
      let first_size = printed_length account_width first in
      let second_size = printed_length account_width second in
      three_pieces out at _ _ _ day_width account_width account_width day_size first_size second_size h w₁ w₂ w₃ w₄

pub row_length : (day first second : ℕ) → length (table_line day first second) ≡ line_bytes
unfolding table_line
row_length day first second = simp (length-append, printed_length)

-- ---- rows

pub record SameLength (c : Columns) : Type 0 where
  pub first : length c.first ≡ length c.days
  pub second : length c.second ≡ length c.days

pub same_length : (c : Columns) → one_length c ≡ true → SameLength c
unfolding one_length
same_length c e =
    let f : length c.days ≡ length c.first = eqb-true _ _ (and_left _ _ e) in
    let s : length c.first ≡ length c.second = eqb-true _ _ (and_right (eqb (length c.days) (length c.first)) _ e) in
    record { first = sym f; second = sym s ∙ sym f }

rows_are : (days first second : List ℕ) → length first ≡ length days → length second ≡ length days
    → length (table_rows days first second) ≡ length days
unfolding table_rows
rows_are [] first second e q = refl
rows_are (d ∷ days) [] second e q = let z : ⊥ = omega arith in absurd z
rows_are (d ∷ days) (a ∷ first) [] e q = let z : ⊥ = omega arith in absurd z
rows_are (d ∷ days) (a ∷ first) (b ∷ second) e q = ap suc (rows_are days first second (omega arith) (omega arith))

abbrev pub rows_of : Columns → List TableRow
rows_of c = table_rows c.days c.first c.second

abbrev pub row_at : Columns → ℕ → TableRow
row_at c i = record { day = get_or c.days i 0; first = get_or c.first i 0; second = get_or c.second i 0 }

abbrev no_row : TableRow
no_row = record { day = 0; first = 0; second = 0 }

row_in : (days first second : List ℕ) → length first ≡ length days → length second ≡ length days → (i : ℕ) → i < length days
    → get_or (table_rows days first second) i no_row ≡ record { day = get_or days i 0; first = get_or first i 0; second = get_or second i 0 }
unfolding table_rows
row_in [] first second e q i h = absurd (not-suc-le-zero h)
row_in (d ∷ days) [] second e q i h = let z : ⊥ = omega arith in absurd z
row_in (d ∷ days) (a ∷ first) [] e q i h = let z : ⊥ = omega arith in absurd z
row_in (d ∷ days) (a ∷ first) (b ∷ second) e q zero h = refl
row_in (d ∷ days) (a ∷ first) (b ∷ second) e q (suc i) h =
    row_in days first second (omega arith) (omega arith) i (le_of_suc-le-suc h)

module _ {c : Columns} (s : SameLength c) where
  pub rows_length : length (rows_of c) ≡ length c.days
  rows_length = rows_are c.days c.first c.second s.first s.second

  pub row_at_lem : (i : ℕ) → i < length c.days → get_or (rows_of c) i no_row ≡ row_at c i
  row_at_lem i h = row_in c.days c.first c.second s.first s.second i h

-- ---- their lines

abbrev pub line_of : TableRow → List ℕ
line_of r = table_line r.day r.first r.second

lines_more : (rs : List TableRow) (r : TableRow) → table_lines (rs ++ r ∷ []) ≡ table_lines rs ++ line_of r
unfolding table_lines
lines_more [] r = append-nil (line_of r)
lines_more (d ∷ rs) r = ap (λ (l : List ℕ). line_of d ++ l) (lines_more rs r) ∙ sym (append_assoc (line_of d) (table_lines rs) (line_of r))

pub lines_length : (rs : List TableRow) → length (table_lines rs) ≡ line_bytes * length rs
unfolding table_lines
lines_length [] = refl
lines_length (r ∷ rs) =
    length-append (line_of r) (table_lines rs) ∙ omega (arith, row_length r.day r.first r.second, lines_length rs)

pub text_length : {c : Columns} → SameLength c → length (table_text c) ≡ line_bytes * length c.days
unfolding table_text
text_length {c} s = lines_length (rows_of c) ∙ ap (λ (n : ℕ). line_bytes * n) (rows_length s)

-- the text of the first i rows
abbrev text_to : Columns → ℕ → List ℕ
text_to c i = table_lines (take i (rows_of c))

module _ {c : Columns} (s : SameLength c) (i : ℕ) where
  to_more : i < length c.days → text_to c (i + 1) ≡ text_to c i ++ line_of (row_at c i)
  to_more h =
      let within : i < length (rows_of c) = omega (arith, rows_length s) in
      ap (text_to c) (add-one i) ∙ ap table_lines (take-suc (rows_of c) i no_row within)
      ∙ lines_more (take i (rows_of c)) (get_or (rows_of c) i no_row)
      ∙ ap (λ (r : TableRow). text_to c i ++ line_of r) (row_at_lem s i h)

  to_length : i ≤ length c.days → length (text_to c i) ≡ line_bytes * i
  to_length h =
      lines_length (take i (rows_of c))
      ∙ ap (λ (n : ℕ). line_bytes * n) (length-take-le i (rows_of c) (omega (arith, rows_length s)))

  to_all : length c.days ≤ i → text_to c i ≡ table_text c
  unfolding table_text
  to_all h = ap table_lines (take_all i (rows_of c) (omega (arith, rows_length s)))

-- ---- a line a turn

-- the lines of the first i rows stand at the start of the text space
pub record Written (c : Columns) (space now : List ℕ) (at i : ℕ) : Type 0 where
  pub within : i ≤ length c.days
  pub lines : Pieces (text_to c i) space now 0 at

module _ {c : Columns} {space : List ℕ} (fit : LinesFit c space) where
  pub same : SameLength c
  same = same_length c fit.one

  pub written_none : Written c space space 0 0
  unfolding table_lines pasted
  written_none = record {
    within = omega arith;
    lines = record { stop = refl; room = omega arith; long = refl; is = refl };
  }

  module _ {now : List ℕ} {at i : ℕ} (w : Written c space now at i) (h : i < length c.days) where
    place : at ≡ line_bytes * i
    place = omega (arith, w.lines.stop, to_length same i w.within)

    pub written_room : at + line_bytes ≤ length now
    written_room = omega (arith, place, w.lines.long, fit.room)

    pub written_more : {now' : List ℕ} {at' : ℕ}
        → WrittenAt now at line_bytes (table_line (get_or c.days i 0) (get_or c.first i 0) (get_or c.second i 0)) at' now'
        → Written c space now' at' (i + 1)
    written_more {now'} {at'} l =
        let r = row_at c i in
        let room : at + line_bytes ≤ length space = omega (arith, written_room, w.lines.long) in
        let both = piece_more (line_of r) line_bytes w.lines (row_length r.day r.first r.second) room l in
        record {
          within = omega arith;
          lines = subst (λ (t : List ℕ). Pieces t space now' 0 at') (sym (to_more same i h)) both;
        }

  pub written_all : {now : List ℕ} {at i : ℕ} → Written c space now at i → length c.days ≤ i
      → WrittenAt space 0 (length (table_text c)) (table_text c) at now
  written_all {now} {at} {i} w h =
      let all : Pieces (table_text c) space now 0 at = subst (λ (t : List ℕ). Pieces t space now 0 at) (to_all same i h) w.lines in
      record { behind = all.stop; holds = all.is }

-- ---- the writer's answer, by the code's cases

module _ (c : Columns) (space : List ℕ) where
  pub differ_kept : false ≡ (eqb (length c.days) (length c.first) && eqb (length c.first) (length c.second))
      → TableWrites c space (Err ColumnsDiffer) space
  unfolding one_length table_write_of
  differ_kept t = record { answers = sym (pick_false _ _ _ (sym t)); holds = refl }

  module _ (t : true ≡ (eqb (length c.days) (length c.first) && eqb (length c.first) (length c.second))) where
    one : one_length c ≡ true
    unfolding one_length
    one = sym t

    size : length (table_text c) ≡ line_bytes * length c.days
    size = text_length (same_length c one)

    pub short_kept : length space / line_bytes < length c.days → TableWrites c space (Err NoRoom) space
    unfolding table_write_of text_for
    short_kept h =
        let few : length space < length (table_text c) = omega (arith, size) in
        record { answers = sym (pick_true _ _ _ one ∙ pick_false _ _ _ (lt-leb _ _ few)); holds = refl }

    module _ (h : length c.days ≤ length space / line_bytes) where
      pub writes_fit : LinesFit c space
      writes_fit = record { one = one; room = omega arith }

      pub writes_all : {n : ℕ} {now : List ℕ} → WrittenAt space 0 (length (table_text c)) (table_text c) n now
          → TableWrites c space (Ok n) now
      unfolding table_write_of text_for
      writes_all {n} {now} w =
          let all : n ≡ length (table_text c) = w.behind ∙ zero-add _ in
          let enough : length (table_text c) ≤ length space = omega (arith, size) in
          record {
            answers = ap Ok all ∙ sym (pick_true _ _ _ one ∙ pick_true _ _ _ (le-leb _ _ enough));
            holds = w.holds ∙ pasted_start space (table_text c) n (sym all);
          }

-- ---- what a call of the writer has answered

module _ {c : Columns} {text : List ℕ} (one : one_length c ≡ true) (is : table_text c ≡ text) {space after : List ℕ} {answer : Result ℕ WriteError}
    (w : TableWrites c space answer after) where
  by_room : answer ≡ text_for text (length space)
  unfolding table_write_of
  by_room = w.answers ∙ pick_true _ _ _ one ∙ ap (λ (t : List ℕ). text_for t (length space)) is

  left : {a : Result ℕ WriteError} → answer ≡ a → after ≡ text_after a text space
  left e = w.holds ∙ (λ i. text_after (e i) (is i) space)

  pub wrote_text : length text ≤ length space → (answer ≡ Ok (length text)) × (after ≡ text ++ drop (length text) space)
  unfolding text_for
  wrote_text h = let a = by_room ∙ pick_true _ _ _ (le-leb _ _ h) in (a, left a)

  pub wrote_none : length space < length text → (answer ≡ Err NoRoom) × (after ≡ space)
  unfolding text_for
  wrote_none h = let a = by_room ∙ pick_false _ _ _ (lt-leb _ _ h) in (a, left a)

module _ {c : Columns} {space after : List ℕ} {n : ℕ} (w : TableWrites c space (Ok n) after) where
  pub wrote_one : one_length c ≡ true
  unfolding table_write_of
  wrote_one = ⊎_elim (λ t. t) (λ t. absurd (differ (w.answers ∙ pick_false _ _ _ t))) (true_or_false (one_length c))
    where
      differ : Ok n ≡ Err ColumnsDiffer → ⊥
      differ e = omega (arith, ap written_number e)

  pub wrote_bytes : take n after ≡ table_text c
  wrote_bytes = ⊎_elim short enough (lt_or_le (length space) (length (table_text c)))
    where
      none : Ok n ≡ Err NoRoom → ⊥
      none e = omega (arith, ap written_number e)

      short : length space < length (table_text c) → take n after ≡ table_text c
      short h = absurd (none (wrote_none wrote_one refl w h).0)

      enough : length (table_text c) ≤ length space → take n after ≡ table_text c
      enough h =
          let so = wrote_text wrote_one refl w h in
          let size : length (table_text c) ≡ n = ap written_length (sym so.0) in
          ap (take n) so.1 ∙ take_at (table_text c) (drop (length (table_text c)) space) n size
