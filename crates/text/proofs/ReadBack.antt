-- What is printed reads back.
--
--   field_back     a number that fits its field and is within the limit, printed and read, is that number
--   large_back     a number above the limit is Large
--   wide_back      every number of 16 bits, in 5 columns or more
--   row_back       a printed line of a table reads back as its row
--   Small          a row of numbers of 16 bits
--   AllSmall       rows of such numbers
--   table_back     the lines of some rows read back as these rows
--   days_back firsts_back seconds_back   their days, first and second accounts
--   Bits16         a column of numbers of 16 bits
--   Lent           three such columns
--   text_rows      the text of three such columns of one length reads back as their rows
--   text_columns   its columns are these
-- Assumes nothing.
use Prim.Native.Nat.{ℕ, zero, suc, ◌+◌, ◌-◌, ◌*◌, ◌/◌, ◌%◌, ◌^◌, ◌≤◌, ◌<◌, suc-le-suc}
use mathlib.Core.Path.{◌≡◌, refl, sym, ap, ◌∙◌}
use mathlib.Core.Bool.{Bool, true, false, cond, ◌&&◌}
use mathlib.Core.Logic.{◌⊎◌, inl, inr}
use mathlib.Core.List.{List, [], ◌∷◌, ◌++◌, append_assoc, map}
use native.Mathlib.Nat.{mod-one, mod-lt, mod-eq_of_lt, div-one, le-div_iff_mul-le, div-lt_iff_lt-mul}
use native.Mathlib.Nat.{pow-succ', one-le-pow, not-suc-le-zero, one-mul, add-zero, zero-add}
use native.Mathlib.Omega.{arith}
use lib.Arith.{mod-mul}
use lib.Dec.{ltb, lit<, lit≤}
use Rattle.std.specs.Prelude.{Some, Ok, Err}
use lib.ListN.{length, get_or, take, drop, length-append}
use lib.Seq.{take_at, drop_at, get_or_at}
use borrow.Author.Tests.{eq-eqb}
use Rattle.text.specs.Layout.{largest, most_digits, day_width, account_width}
use Rattle.text.specs.Decimal.{unblank, all_digits, is_numeral, value, field_of}
use Rattle.text.specs.Line.{Line, prepend, lines_of, is_whole, judged, field_at, line_as, row_from, row_of}
use Rattle.text.specs.Table.{day_of, first_of, second_of, days_of, firsts_of, seconds_of, fault_or, judged_from, Columns, columns}
use Rattle.text.specs.Print.{column_of, printed}
use Rattle.text.specs.Writer.{table_line, TableRow, table_lines, table_rows, table_text}
use Rattle.text.specs.declared.decimal.FieldError.TheVariants.{Large}
use Rattle.text.proofs.Tests.{lt_or_le, both_true, pick_true}
use Rattle.text.proofs.FieldLaws.{unblank_at, unblank_past, digit_yes, numeral_one, numeral_more, number_field, large_field}
use Rattle.text.proofs.SplitLaws.{lines_end, lines_more, prepend_cons}
use Rattle.text.proofs.PrintLaws.{column_unit, column_blank, column_digit, below_power, printed_length}
use Rattle.text.proofs.RowsLaws.{columns_of}
use Rattle.text.proofs.WriterLaws.{SameLength, rows_of, rows_length}

-- the columns of places k - 1 down to 0 are digits, with the value n % 10 ^ k
record Digits (k n : ℕ) : Type 0 where
  digits : all_digits (printed k n) ≡ true
  sum : value (printed k n) ≡ n % 10 ^ k

no_digits : (n : ℕ) → Digits 0 n
unfolding printed all_digits value
no_digits n = record { digits = refl; sum = sym (mod-one n) }

-- one digit more
one_more : (k n : ℕ) → column_of k n ≡ 48 + n / 10 ^ k % 10 → Digits k n → Digits (suc k) n
unfolding printed all_digits value
one_more k n e d =
    let b : n / 10 ^ k % 10 < 10 = mod-lt (n / 10 ^ k) (lit< tt) in
    let f : 48 ≤ column_of k n = omega arith in
    let g : column_of k n ≤ 57 = omega arith in
    let h : column_of k n - 48 ≡ n / 10 ^ k % 10 = omega arith in
    record {
      digits = both_true _ _ (digit_yes (column_of k n) f g) d.digits;
      sum = rw (h, printed_length k n, d.sum, pow-succ') (sym (mod-mul n (lit< tt) (one-le-pow k 10 (lit< tt))));
    }

all_digits_lem : (k n : ℕ) → 10 ^ k ≤ n → Digits k n
all_digits_lem zero n h = no_digits n
all_digits_lem (suc k) n h =
    let e : 10 ^ suc k ≡ 10 * 10 ^ k = pow-succ' 10 k in
    let l : 10 ^ k ≤ n = omega arith in
    one_more k n (column_digit k n l) (all_digits_lem k n l)

-- a printed field without its blanks is the number's numeral
record Numeral (w n : ℕ) : Type 0 where
  numeral : is_numeral (unblank (printed w n)) ≡ true
  sum : value (unblank (printed w n)) ≡ n

-- a field whose first column is a digit
starts : (k n : ℕ) → n < 10 ^ suc k → Digits (suc k) n → (column_of k n ≡ 32 → ⊥) → is_numeral (printed (suc k) n) ≡ true → Numeral (suc k) n
unfolding printed
starts k n h d b t =
    let u : unblank (printed (suc k) n) ≡ printed (suc k) n = unblank_past (column_of k n) (printed k n) b in
    record { numeral = ap is_numeral u ∙ t; sum = ap value u ∙ d.sum ∙ mod-eq_of_lt h }

unit : (n : ℕ) → n < 10 ^ 1 → Numeral 1 n
unfolding printed
unit n h =
    let e : column_of 0 n ≡ 48 + n / 10 ^ 0 % 10 = column_unit n ∙ rw (div-one n) in
    let d : Digits 1 n = one_more 0 n e (no_digits n) in
    starts 0 n h d (λ q. omega arith) (numeral_one (printed 1 n) (printed_length 1 n) ∙ d.digits)

leading : (k n : ℕ) → 0 < k → 10 ^ k ≤ n → n < 10 ^ suc k → Numeral (suc k) n
unfolding printed
leading k n p l h =
    let z : 0 < 10 ^ k = one-le-pow k 10 (lit< tt) in
    let o : 1 ≤ n / 10 ^ k = (le-div_iff_mul-le z).1 (rw (one-mul (10 ^ k)) l) in
    let m : n < 10 * 10 ^ k = rw (← pow-succ' 10 k) h in
    let q : n / 10 ^ k < 10 = (div-lt_iff_lt-mul z).1 m in
    let e : column_of k n ≡ 48 + n / 10 ^ k % 10 = column_digit k n l in
    let d : Digits (suc k) n = one_more k n e (all_digits_lem k n l) in
    let s : 1 < length (printed (suc k) n) = omega (arith, printed_length (suc k) n) in
    starts k n h d (λ t. omega arith) (numeral_more (printed (suc k) n) s (λ t. omega arith) ∙ d.digits)

blank : (k n : ℕ) → 0 < k → n < 10 ^ k → Numeral k n → Numeral (suc k) n
unfolding printed
blank k n p h r =
    let u : unblank (printed (suc k) n) ≡ unblank (printed k n) = unblank_at (column_of k n) (printed k n) (column_blank k n p h) in
    record { numeral = ap is_numeral u ∙ r.numeral; sum = ap value u ∙ r.sum }

numeral_back : (w n : ℕ) → 0 < w → n < 10 ^ w → Numeral w n
numeral_back zero n p h = absurd (not-suc-le-zero p)
numeral_back (suc zero) n p h = unit n h
numeral_back (suc (suc k)) n p h = go (numeral_back (suc k) n (omega arith)) (lt_or_le n (10 ^ suc k))
  where
    go : (n < 10 ^ suc k → Numeral (suc k) n) → (n < 10 ^ suc k) ⊎ (10 ^ suc k ≤ n) → Numeral (suc (suc k)) n
    go r (inl l) = blank (suc k) n (omega arith) l (r l)
    go r (inr l) = leading (suc k) n (omega arith) l h

-- ---- for any limit and any width

module _ (limit w n : ℕ) (p : 0 < w) (h : n < 10 ^ w) where
  pub field_back : n ≤ limit → field_of limit (printed w n) ≡ Ok n
  field_back l =
      let r : Numeral w n = numeral_back w n p h in
      number_field limit (printed w n) r.numeral (rw r.sum l) ∙ ap Ok r.sum

  pub large_back : limit < n → field_of limit (printed w n) ≡ Err Large
  large_back l =
      let r : Numeral w n = numeral_back w n p h in
      large_field limit (printed w n) r.numeral (rw r.sum l)

-- a number of 16 bits fits 5 columns and more
pub wide_back : (w n : ℕ) → most_digits ≤ w → n < 2 ^ 16 → field_of largest (printed w n) ≡ Ok n
wide_back w n p h = field_back largest w n (omega arith) (below_power w n p h) (omega arith)

-- ---- a line of a table

line_whole : (p : List ℕ) (n : ℕ) → length p ≡ n → is_whole (n + 1) (p ++ 10 ∷ []) ≡ true
unfolding is_whole
line_whole p n e =
    let q : n + 1 - 1 ≡ n = omega arith in
    let g : get_or (p ++ 10 ∷ []) (n + 1 - 1) 0 ≡ 10 = ap (λ (k : ℕ). get_or (p ++ 10 ∷ []) k 0) q ∙ get_or_at p 10 [] 0 n e in
    both_true _ _ (eq-eqb _ _ (length-append p (10 ∷ []) ∙ ap (λ (k : ℕ). k + 1) e)) (eq-eqb _ _ g)

module _ (a b c : List ℕ) (rest : List ℕ) where
  first_part : (n : ℕ) → length a ≡ n → take n (a ++ b ++ c ++ rest) ≡ a
  first_part n e = rw (append_assoc (a ++ b) c rest, append_assoc a b (c ++ rest)) (take_at a (b ++ (c ++ rest)) n e)

  second_part : (n m : ℕ) → length a ≡ n → length b ≡ m → take m (drop n (a ++ b ++ c ++ rest)) ≡ b
  second_part n m e f =
      rw (append_assoc (a ++ b) c rest, append_assoc a b (c ++ rest))
      (ap (take m) (drop_at a (b ++ (c ++ rest)) n e) ∙ take_at b (c ++ rest) m f)

  third_part : (n m : ℕ) → length (a ++ b) ≡ n → length c ≡ m → take m (drop n (a ++ b ++ c ++ rest)) ≡ c
  third_part n m e f = rw (append_assoc (a ++ b) c rest) (ap (take m) (drop_at (a ++ b) (c ++ rest) n e) ∙ take_at c rest m f)

-- a printed row reads back as its row
pub row_back : (day first second : ℕ) → day < 2 ^ 16 → first < 2 ^ 16 → second < 2 ^ 16
    → row_of (table_line day first second) ≡ Ok (Some (record { day = day; first = first; second = second }))
unfolding row_of line_as field_at table_line judged
row_back day first second p q r =
    let d : List ℕ = printed day_width day in
    let f : List ℕ = printed account_width first in
    let s : List ℕ = printed account_width second in
    let l : List ℕ = d ++ f ++ s ++ 10 ∷ [] in
    let both : length (d ++ f) ≡ day_width + account_width = simp (length-append, printed_length) in
    let all : length (d ++ f ++ s) ≡ day_width + account_width + account_width = simp (length-append, printed_length) in
    let x : field_of largest (take day_width l) ≡ Ok day =
    ap (field_of largest) (first_part d f s (10 ∷ []) day_width (printed_length day_width day)) ∙ wide_back day_width day (lit≤ tt) p in
    let y : field_of largest (take account_width (drop day_width l)) ≡ Ok first =
    ap (field_of largest) (second_part d f s (10 ∷ []) day_width account_width (printed_length day_width day) (printed_length account_width first))
    ∙ wide_back account_width first (lit≤ tt) q in
    let z : field_of largest (take account_width (drop (day_width + account_width) l)) ≡ Ok second =
    ap (field_of largest) (third_part d f s (10 ∷ []) (day_width + account_width) account_width both (printed_length account_width second))
    ∙ wide_back account_width second (lit≤ tt) r in
    ap row_from (pick_true _ _ _ (line_whole (d ++ f ++ s) (day_width + account_width + account_width) all)) ∙ rw (x, y, z)

-- ---- a whole table

-- no byte ends a line
abbrev NoLineEnd : List ℕ → Type 0
NoLineEnd [] = Unit {0}
NoLineEnd (b ∷ bs) = (b ≡ 10 → ⊥) × NoLineEnd bs

no_end_append : (p q : List ℕ) → NoLineEnd p → NoLineEnd q → NoLineEnd (p ++ q)
no_end_append [] q i j = j
no_end_append (b ∷ p) q i j = (i.0, no_end_append p q i.1 j)

column_no_end : (blank : Bool) (d : ℕ) → cond blank 32 (48 + d) ≡ 10 → ⊥
column_no_end true d e = omega arith
column_no_end false d e = omega arith

printed_no_end : (k n : ℕ) → NoLineEnd (printed k n)
unfolding printed column_of
printed_no_end zero n = tt
printed_no_end (suc k) n = (column_no_end (ltb 0 k && ltb n (10 ^ k)) (n / 10 ^ k % 10), printed_no_end k n)

-- a line with its end, in front of more text
lines_behind : (p rest : List ℕ) → NoLineEnd p → lines_of (p ++ 10 ∷ rest) ≡ (p ++ 10 ∷ []) ∷ lines_of rest
lines_behind [] rest i = lines_end 10 rest refl
lines_behind (b ∷ p) rest i =
    lines_more b (p ++ 10 ∷ rest) i.0 ∙ ap (prepend b) (lines_behind p rest i.1) ∙ prepend_cons b (p ++ 10 ∷ []) (lines_of rest)

row_lines : (day first second : ℕ) (rest : List ℕ)
    → lines_of (table_line day first second ++ rest) ≡ table_line day first second ∷ lines_of rest
unfolding table_line
row_lines day first second rest =
    let d : List ℕ = printed day_width day in
    let f : List ℕ = printed account_width first in
    let s : List ℕ = printed account_width second in
    let i : NoLineEnd (d ++ f) = no_end_append d f (printed_no_end day_width day) (printed_no_end account_width first) in
    let j : NoLineEnd (d ++ f ++ s) = no_end_append (d ++ f) s i (printed_no_end account_width second) in
    ap lines_of (append_assoc (d ++ f ++ s) (10 ∷ []) rest) ∙ lines_behind (d ++ f ++ s) rest j

-- each number is one of 16 bits
pub record Small (r : TableRow) : Type 0 where
  pub day_fits : r.day < 2 ^ 16
  pub first_fits : r.first < 2 ^ 16
  pub second_fits : r.second < 2 ^ 16

abbrev pub AllSmall : List TableRow → Type 0
AllSmall [] = Unit {0}
AllSmall (r ∷ rs) = Small r × AllSmall rs

row_in : TableRow → Line
row_in r = Ok (Some (record { day = r.day; first = r.first; second = r.second }))

small_back : (r : TableRow) → Small r → row_of (table_line r.day r.first r.second) ≡ row_in r
unfolding row_in
small_back r s = row_back r.day r.first r.second s.day_fits s.first_fits s.second_fits

judged_back : (n : ℕ) (rs : List TableRow) → AllSmall rs → judged_from n (lines_of (table_lines rs)) ≡ Ok (n + length rs)
unfolding judged_from table_lines lines_of row_in
judged_back n [] a = ap Ok (sym (add-zero n))
judged_back n (r ∷ rs) a =
    let e : n + 1 + length rs ≡ n + suc (length rs) = omega arith in
    ap (judged_from n) (row_lines r.day r.first r.second (table_lines rs))
    ∙ ap (λ (x : Line). fault_or (n + 1) x (judged_from (n + 1) (lines_of (table_lines rs)))) (small_back r a.0)
    ∙ judged_back (n + 1) rs a.1 ∙ ap Ok e

column_back : (f : Line → ℕ) (rs : List TableRow) → AllSmall rs
    → map (λ (l : List ℕ). f (row_of l)) (lines_of (table_lines rs)) ≡ map (λ (r : TableRow). f (row_in r)) rs
unfolding table_lines lines_of
column_back f [] a = refl
column_back f (r ∷ rs) a =
    ap (map (λ (l : List ℕ). f (row_of l))) (row_lines r.day r.first r.second (table_lines rs))
    ∙ ap (λ (x : ℕ). x ∷ map (λ (l : List ℕ). f (row_of l)) (lines_of (table_lines rs))) (ap f (small_back r a.0))
    ∙ ap (λ (xs : List ℕ). f (row_in r) ∷ xs) (column_back f rs a.1)

-- the lines of some rows read back as these rows
module _ (rs : List TableRow) (a : AllSmall rs) where
  pub table_back : judged_from 0 (lines_of (table_lines rs)) ≡ Ok (length rs)
  table_back = judged_back 0 rs a ∙ ap Ok (zero-add (length rs))

  pub days_back : days_of (table_lines rs) ≡ map (λ (r : TableRow). r.day) rs
  unfolding days_of row_in
  days_back = column_back day_of rs a

  pub firsts_back : firsts_of (table_lines rs) ≡ map (λ (r : TableRow). r.first) rs
  unfolding firsts_of row_in
  firsts_back = column_back first_of rs a

  pub seconds_back : seconds_of (table_lines rs) ≡ map (λ (r : TableRow). r.second) rs
  unfolding seconds_of row_in
  seconds_back = column_back second_of rs a

-- ---- three columns

-- each number of a column is one of 16 bits
pub record Bits16 (xs : List ℕ) : Type 0 where
  pub each : (i : ℕ) → i < length xs → get_or xs i 0 < 2 ^ 16

tail_fits : {x : ℕ} {xs : List ℕ} → Bits16 (x ∷ xs) → Bits16 xs
tail_fits b = record { each = λ i h. b.each (suc i) (suc-le-suc h) }

rows_small : (days first second : List ℕ) → Bits16 days → Bits16 first → Bits16 second → AllSmall (table_rows days first second)
unfolding table_rows
rows_small [] first second d f s = tt
rows_small (x ∷ days) [] second d f s = tt
rows_small (x ∷ days) (y ∷ first) [] d f s = tt
rows_small (x ∷ days) (y ∷ first) (z ∷ second) d f s = (
  record { day_fits = d.each 0 (omega arith); first_fits = f.each 0 (omega arith); second_fits = s.each 0 (omega arith) },
  rows_small days first second (tail_fits d) (tail_fits f) (tail_fits s),
)

-- the columns of the rows of three columns of one length are these
rows_columns : (days first second : List ℕ) → length first ≡ length days → length second ≡ length days
    → (map (λ (r : TableRow). r.day) (table_rows days first second) ≡ days)
    × (map (λ (r : TableRow). r.first) (table_rows days first second) ≡ first)
    × (map (λ (r : TableRow). r.second) (table_rows days first second) ≡ second)
unfolding table_rows
rows_columns [] [] [] e q = (refl, refl, refl)
rows_columns [] [] (z ∷ second) e q = let f : ⊥ = omega arith in absurd f
rows_columns [] (y ∷ first) second e q = let f : ⊥ = omega arith in absurd f
rows_columns (x ∷ days) [] second e q = let f : ⊥ = omega arith in absurd f
rows_columns (x ∷ days) (y ∷ first) [] e q = let f : ⊥ = omega arith in absurd f
rows_columns (x ∷ days) (y ∷ first) (z ∷ second) e q =
    let so = rows_columns days first second (omega arith) (omega arith) in
    (ap (λ (l : List ℕ). x ∷ l) so.0, ap (λ (l : List ℕ). y ∷ l) so.1, ap (λ (l : List ℕ). z ∷ l) so.2)

-- three columns as a call is lent them
pub record Lent (c : Columns) : Type 0 where
  pub days : Bits16 c.days
  pub first : Bits16 c.first
  pub second : Bits16 c.second

module _ (c : Columns) (same : SameLength c) (lent : Lent c) where
  small : AllSmall (rows_of c)
  small = rows_small c.days c.first c.second lent.days lent.first lent.second

  pub text_rows : judged_from 0 (lines_of (table_text c)) ≡ Ok (length c.days)
  unfolding table_text
  text_rows = table_back (rows_of c) small ∙ ap Ok (rows_length same)

  pub text_columns : columns_of (table_text c) ≡ c
  unfolding table_text
  text_columns =
      let are = rows_columns c.days c.first c.second same.first same.second in
      let days = days_back (rows_of c) small ∙ are.0 in
      let first = firsts_back (rows_of c) small ∙ are.1 in
      let second = seconds_back (rows_of c) small ∙ are.2 in
      λ i. columns (days i) (first i) (second i)
