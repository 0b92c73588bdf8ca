-- The two round trips of the table reader and the table writer, about what the calls answer and leave in their buffers.
-- 02, S-2: "Text that the reader accepts comes out again byte for byte, and written columns read back as they were. .. A single
-- byte of text space too few is a 10."
-- `TableReads` and `TableWrites` are the contracts of text::table::read_table and text::writer::write_table: what the call was
-- lent, its answer, and what it leaves. `places` (TableLaws) is the length of the shortest column. `Lent` (ReadBack) says of three
-- columns that each number is below 2 ^ 16, as in every column that a call is lent.
--
--   TextReturns      what the writer makes of rows that were read from a text
--   text_returns     text that the reader accepts comes out again byte for byte
--   with_rows         columns with some rows in front
--   ColumnsReturn    what the reader makes of a text that was written from columns
--   columns_return   the reader accepts it, and the columns read back as they were
--   ExactRoom        how many bytes the writer asks for
--   exact_room       18 for each row: so many pass, and one fewer is a 10
-- Assumes nothing.
use Prim.Native.Nat.{ℕ, ◌*◌, ◌≤◌, ◌<◌}
use mathlib.Core.Path.{◌≡◌, refl, sym, ap, subst, ◌∙◌}
use mathlib.Core.Bool.{true}
use mathlib.Core.List.{List, ◌++◌}
use Rattle.std.specs.Prelude.{Result, Ok, Err}
use lib.ListN.{length, take, drop}
use Rattle.std.specs.Prelude.{Result, Ok, Err}
use Rattle.text.specs.Layout.{line_bytes}
use Rattle.text.specs.Table.{Columns, columns, TableReads}
use Rattle.text.specs.Writer.{one_length, TableWrites}
use Rattle.text.specs.declared.table.ReadError.{ReadError}
use Rattle.text.specs.declared.table.ReadError.TheVariants as read
use Rattle.text.specs.declared.writer.WriteError.{WriteError}
use Rattle.text.specs.declared.writer.WriteError.TheVariants.{NoRoom}
use Rattle.text.proofs.TableLaws.{places, read_accepted, read_columns, read_rows, read_none}
use Rattle.text.proofs.WriterLaws.{same_length, text_length, wrote_text, wrote_none, wrote_one, wrote_bytes}
use Rattle.text.proofs.ReadBack.{Lent, text_rows, text_columns}
use Rattle.text.proofs.PrintBack.{one_text, text_again}

-- ---- text, read and written

pub record TextReturns (text : List ℕ) (rows : Columns) : Type 0 where
  -- "comes out again byte for byte"; bytes past the text are kept
  pub again : (space after : List ℕ) (answer : Result ℕ WriteError) → TableWrites rows space answer after → length text ≤ length space
      → (answer ≡ Ok (length text)) × (after ≡ text ++ drop (length text) space)
  -- "10, with the output kept"
  pub short : (space after : List ℕ) (answer : Result ℕ WriteError) → TableWrites rows space answer after → length space < length text
      → (answer ≡ Err NoRoom) × (after ≡ space)

-- for every text that the reader accepts, whatever columns it was lent; a host hands on the n rows that it counts
pub text_returns : (text : List ℕ) (old new : Columns) (n : ℕ) → TableReads text old (Ok n) new
    → TextReturns text (columns (take n new.days) (take n new.first) (take n new.second))
text_returns text old new n r =
    let rows = read_accepted r in
    subst (TextReturns text) (sym (read_columns r)) (record {
      again = λ space after answer w. wrote_text (one_text text n rows) (text_again text n rows) w;
      short = λ space after answer w. wrote_none (one_text text n rows) (text_again text n rows) w;
    })

-- ---- columns, written and read

-- three columns whose first n places hold the rows of c
abbrev pub with_rows : Columns → ℕ → Columns → Columns
with_rows c n old = columns (c.days ++ drop n old.days) (c.first ++ drop n old.first) (c.second ++ drop n old.second)

pub record ColumnsReturn (c : Columns) (n : ℕ) (text : List ℕ) : Type 0 where
  -- "read back as they were"; places past the rows are kept
  pub again : (old new : Columns) (answer : Result ℕ ReadError) → TableReads text old answer new
      → n ≤ places old → (answer ≡ Ok n) × (new ≡ with_rows c n old)
  -- of such a text the reader refuses nothing but too few places: never 11, 12 or 13
  pub short : (old new : Columns) (answer : Result ℕ ReadError) → TableReads text old answer new
      → places old < n → (answer ≡ Err read.NoRoom) × (new ≡ old)

-- for all columns that the writer accepts, with every number of 16 bits, whatever text space it was lent; a host hands on the m
-- bytes that it counts
pub columns_return : (c : Columns) (space after : List ℕ) (m : ℕ) → Lent c → TableWrites c space (Ok m) after
    → ColumnsReturn c (length c.days) (take m after)
columns_return c space after m lent w =
    let same = same_length c (wrote_one w) in
    let rows = text_rows c same lent in
    let is = text_columns c same lent in
    subst (ColumnsReturn c (length c.days)) (sym (wrote_bytes w)) (record {
      again =
          λ old new answer r h.
          let so = read_rows rows r h in
          (so.0, so.1 ∙ ap (λ (x : Columns). with_rows x (length c.days) old) is);
      short = λ old new answer r. read_none rows r;
    })

-- ---- room

-- "A single byte of text space too few is a 10."
pub record ExactRoom (c : Columns) : Type 0 where
  pub enough : (space after : List ℕ) (answer : Result ℕ WriteError) → TableWrites c space answer after
      → line_bytes * length c.days ≤ length space → answer ≡ Ok (line_bytes * length c.days)
  pub short : (space after : List ℕ) (answer : Result ℕ WriteError) → TableWrites c space answer after
      → length space < line_bytes * length c.days → answer ≡ Err NoRoom

-- for any three columns of equal length
pub exact_room : (c : Columns) → one_length c ≡ true → ExactRoom c
exact_room c one =
    let size = text_length (same_length c one) in
    record {
      enough = λ space after answer w h. (wrote_text one refl w (rw size h)).0 ∙ ap Ok size;
      short = λ space after answer w h. (wrote_none one refl w (rw size h)).0;
    }
