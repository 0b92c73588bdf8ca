-- What is read prints back: the other way round than ReadBack.
--
--   field_again    a field that holds a number is that number, printed
--   row_again      a line that holds a row is that row's line
--   lines_join     a text is its lines, one behind the other
--   rows_again     lines that are all rows are the lines of these rows
--   text_again     a text whose every line is a row is the text of its columns
--   one_text       which have one length
-- Assumes nothing.
use Prim.Native.Nat.{ℕ, zero, suc, ◌+◌, ◌-◌, ◌*◌, ◌/◌, ◌%◌, ◌^◌, ◌≤◌, ◌<◌}
use mathlib.Core.Path.{◌≡◌, refl, sym, ap, ◌∙◌}
use mathlib.Core.Bool.{Bool, true, false, cond, ◌||◌, true≢false, false≢true}
use mathlib.Core.Logic.{⊎_elim}
use mathlib.Core.List.{List, [], ◌∷◌, ◌++◌, map, flatten, append_assoc}
use native.Mathlib.Nat.{pow-succ', pow-le-pow_right, one-le-pow, mod-lt, mod-eq_of_lt, div-one, le_refl}
use native.Mathlib.Omega.{arith}
use lib.Arith.{mod-mul, digits_div, digits_mod}
use lib.Dec.{eqb, lit<}
use Rattle.std.specs.Prelude.{Some, None, Ok, Err}
use lib.ListN.{length, get_or, take, drop, length-drop, take-append-drop}
use lib.Seq.{drop-cons, drop-drop, drop-length, length-take-le}
use borrow.Author.Tests.{eq-eqb, eqb-true}
use Rattle.text.specs.Layout.{largest, day_width, account_width, line_bytes}
use Rattle.text.specs.Decimal.{Field, unblank, is_digit, all_digits, is_numeral, value, field_of, field_number, refuses, field_value}
use Rattle.text.specs.Line.{Line, prepend, lines_of, is_whole, any_refuses, judged, field_at, line_as, row_from, row_of, passed}
use Rattle.text.specs.Table.{day_of, first_of, second_of, days_of, firsts_of, seconds_of, judged_from}
use Rattle.text.specs.Print.{column_of, printed}
use Rattle.text.specs.Writer.{table_line, table_lines, table_rows, table_text, one_length}
use Rattle.text.specs.declared.decimal.FieldError.TheVariants.{Broken, Large}
use Rattle.text.specs.declared.lines.LineError.TheVariants.{BadField, BadNumber}
use Rattle.text.specs.declared.lines.Row.{Row}
use Rattle.text.proofs.Tests.{true_or_false, lt_or_le, same_or_not, and_left, and_right, both_true, pick_true, pick_false, zero_not_one}
use Rattle.text.proofs.FieldLaws.{unblank_at, unblank_past, digit_between, numeral_none, numeral_digits, numeral_above}
use Rattle.text.proofs.FieldLaws.{value_below, broken_field, large_field, number_field}
use Rattle.text.proofs.SplitLaws.{lines_end, lines_more, whole_size}
use Rattle.text.proofs.LineLaws.{never_end}
use Rattle.text.proofs.RowsLaws.{rest_rows, row_passed, columns_of, column_length}
use Rattle.text.proofs.PrintLaws.{column_unit, column_blank, column_digit}

-- ---- a field

-- the digit at place k of a number whose last places are b and then v
record Digit (k n b v : ℕ) : Type 0 where
  digit : 48 + n / 10 ^ k % 10 ≡ b
  rest : n % 10 ^ k ≡ v

digit_of : (k n b v : ℕ) → n % 10 ^ suc k ≡ (b - 48) * 10 ^ k + v → 48 ≤ b → v < 10 ^ k → Digit k n b v
digit_of k n b v e h l =
    let p : 0 < 10 ^ k = one-le-pow k 10 (lit< tt) in
    let both : (n / 10 ^ k % 10) * 10 ^ k + n % 10 ^ k ≡ (b - 48) * 10 ^ k + v =
    sym (mod-mul n (lit< tt) p) ∙ ap (λ (m : ℕ). n % m) (sym (pow-succ' 10 k)) ∙ e in
    let m : n % 10 ^ k < 10 ^ k = mod-lt n p in
    let q : n / 10 ^ k % 10 ≡ b - 48 =
    sym (digits_div (n / 10 ^ k % 10) m) ∙ ap (λ (x : ℕ). x / 10 ^ k) both ∙ digits_div (b - 48) l in
    let r : n % 10 ^ k ≡ v = sym (digits_mod (n / 10 ^ k % 10) m) ∙ ap (λ (x : ℕ). x % 10 ^ k) both ∙ digits_mod (b - 48) l in
    record { digit = omega arith; rest = r }

-- digits, where no column is blank
digits_again : (ds : List ℕ) (n : ℕ) → all_digits ds ≡ true → ((k : ℕ) → k < length ds → column_of k n ≡ 48 + n / 10 ^ k % 10)
    → n % 10 ^ length ds ≡ value ds → printed (length ds) n ≡ ds
unfolding printed all_digits value
digits_again [] n d shown e = refl
digits_again (b ∷ bs) n d shown e =
    let k = length bs in
    let within : (48 ≤ b) × (b ≤ 57) = digit_between b (and_left (is_digit b) (all_digits bs) d) in
    let behind : all_digits bs ≡ true = and_right (is_digit b) (all_digits bs) d in
    let so : Digit k n b (value bs) = digit_of k n b (value bs) e within.0 (value_below bs behind) in
    let first : column_of k n ≡ b = shown k (le_refl (suc k)) ∙ so.digit in
    let later : printed k n ≡ bs = digits_again bs n behind (λ j h. shown j (omega arith)) so.rest in
    λ i. first i ∷ later i

-- a numeral has no needless zero, so every column of it shows its digit
numeral_again : (ds : List ℕ) → is_numeral ds ≡ true → printed (length ds) (value ds) ≡ ds
numeral_again ds e =
    let digits : all_digits ds ≡ true = numeral_digits ds e in
    digits_again ds (value ds) digits shown (mod-eq_of_lt (value_below ds digits))
  where
    shown : (k : ℕ) → k < length ds → column_of k (value ds) ≡ 48 + value ds / 10 ^ k % 10
    shown zero h = column_unit (value ds) ∙ rw (div-one (value ds))
    shown (suc k) h = column_digit (suc k) (value ds) (numeral_above ds (suc k) e (omega arith) h)

unblank_length : (f : List ℕ) → length (unblank f) ≤ length f
unfolding unblank
unblank_length [] = le_refl 0
unblank_length (b ∷ bs) =
    ⊎_elim (λ e. rw (unblank_at b bs e) (omega (arith, unblank_length bs)))
    (λ e. rw (unblank_past b bs e) (le_refl (suc (length bs)))) (same_or_not b 32)

-- a field is its numeral, printed in as many columns
abbrev Again : List ℕ → Type 0
Again f = is_numeral (unblank f) ≡ true → printed (length f) (value (unblank f)) ≡ f

no_digits : {A : Type 0} → is_numeral [] ≡ true → A
no_digits e = absurd (false≢true (sym (numeral_none [] refl) ∙ e))

some_digits : (ds : List ℕ) → is_numeral ds ≡ true → 0 < length ds
some_digits [] e = no_digits e
some_digits (d ∷ ds) e = omega arith

no_field : Again []
unfolding unblank
no_field e = no_digits e

module _ (b : ℕ) (bs : List ℕ) (again : Again bs) where
  -- a blank before it: the number has no digit there
  blank_again : b ≡ 32 → Again (b ∷ bs)
  unfolding printed
  blank_again q e =
      let u : unblank (b ∷ bs) ≡ unblank bs = unblank_at b bs q in
      let n = value (unblank bs) in
      let numeral : is_numeral (unblank bs) ≡ true = rw u at e in
      let below : n < 10 ^ length (unblank bs) = value_below (unblank bs) (numeral_digits (unblank bs) numeral) in
      let columns : 10 ^ length (unblank bs) ≤ 10 ^ length bs = pow-le-pow_right (lit< tt) (unblank_length bs) in
      let some : 0 < length (unblank bs) = some_digits (unblank bs) numeral in
      let first : column_of (length bs) n ≡ b = column_blank (length bs) n (omega (arith, unblank_length bs)) (omega arith) ∙ sym q in
      let later : printed (length bs) n ≡ bs = again numeral in
      ap (λ (ds : List ℕ). printed (suc (length bs)) (value ds)) u ∙ (λ i. first i ∷ later i)

  digit_again : (b ≡ 32 → ⊥) → Again (b ∷ bs)
  digit_again q e =
      let u : unblank (b ∷ bs) ≡ b ∷ bs = unblank_past b bs q in
      ap (λ (ds : List ℕ). printed (suc (length bs)) (value ds)) u ∙ numeral_again (b ∷ bs) (rw u at e)

numeral_field : (f : List ℕ) → Again f
numeral_field [] = no_field
numeral_field (b ∷ bs) = ⊎_elim (blank_again b bs (numeral_field bs)) (digit_again b bs (numeral_field bs)) (same_or_not b 32)

-- what a number's field is, by its cases
pub field_again : (limit n : ℕ) (f : List ℕ) → field_of limit f ≡ Ok n → printed (length f) n ≡ f
field_again limit n f e =
    ⊎_elim (λ t. ⊎_elim (large t) (within t) (lt_or_le limit (value (unblank f)))) broken (true_or_false (is_numeral (unblank f)))
  where
    broken : is_numeral (unblank f) ≡ false → printed (length f) n ≡ f
    broken t = let z : ⊥ = omega (arith, ap field_number (sym (broken_field limit f t) ∙ e)) in absurd z

    large : is_numeral (unblank f) ≡ true → limit < value (unblank f) → printed (length f) n ≡ f
    large t h = let z : ⊥ = omega (arith, ap field_number (sym (large_field limit f t h) ∙ e)) in absurd z

    within : is_numeral (unblank f) ≡ true → value (unblank f) ≤ limit → printed (length f) n ≡ f
    within t h =
        let is : value (unblank f) ≡ n = ap field_value (sym (number_field limit f t h) ∙ e) in
        ap (printed (length f)) (sym is) ∙ numeral_field f t

-- ---- a line

none_of : (p q r : Bool) → (p || q || r) ≡ false → (p ≡ false) × (q ≡ false) × (r ≡ false)
none_of true q r e = absurd (true≢false e)
none_of false true r e = absurd (true≢false e)
none_of false false r e = (refl, refl, e)

number_only : (f : Field) → refuses (field_number (Err Broken)) f ≡ false → refuses (field_number (Err Large)) f ≡ false
    → f ≡ Ok (field_value f)
number_only (Ok n) p q = refl
number_only (Err Large) p q = absurd (true≢false q)
number_only (Err Broken) p q = absurd (true≢false p)

not_refused : (broken large : Bool) (n : ℕ × ℕ × ℕ) (row : Row)
    → row_from (cond broken (Err BadField) (cond large (Err BadNumber) (Ok (Some n)))) ≡ Ok (Some row) → (broken ≡ false) × (large ≡ false)
not_refused true large n row e = zero_not_one (ap passed e)
not_refused false true n row e = zero_not_one (ap passed e)
not_refused false false n row e = (refl, refl)

-- where a line's answer is a row, each of its fields holds the row's number
record Numbered (x y z : Field) (row : Row) : Type 0 where
  day : x ≡ Ok row.day
  first : y ≡ Ok row.first
  second : z ≡ Ok row.second

numbers_of : (x y z : Field) (row : Row) → row_from (judged x y z) ≡ Ok (Some row) → Numbered x y z row
unfolding judged
numbers_of x y z row e =
    let b = field_number (Err Broken) in
    let l = field_number (Err Large) in
    let fine = not_refused (any_refuses b x y z) (any_refuses l x y z) _ row e in
    let is = sym (ap row_from (pick_false _ _ _ fine.0 ∙ pick_false _ _ _ fine.1)) ∙ e in
    let broken = none_of (refuses b x) (refuses b y) (refuses b z) fine.0 in
    let large = none_of (refuses l x) (refuses l y) (refuses l z) fine.1 in
    record {
      day = number_only x broken.0 large.0 ∙ ap (λ (l : Line). Ok (day_of l)) is;
      first = number_only y broken.1 large.1 ∙ ap (λ (l : Line). Ok (first_of l)) is;
      second = number_only z broken.2 large.2 ∙ ap (λ (l : Line). Ok (second_of l)) is;
    }

whole_of : (l : List ℕ) (row : Row) → row_of l ≡ Ok (Some row) → is_whole line_bytes l ≡ true
unfolding row_of line_as
whole_of l row e =
    ⊎_elim (λ t. t) (λ t. zero_not_one (ap passed (sym (ap row_from (pick_false _ _ _ t)) ∙ e))) (true_or_false (is_whole line_bytes l))

-- a part of a line, of which a field holds a number
part_again : (l : List ℕ) (from width n : ℕ) → from + width ≤ length l → field_of largest (take width (drop from l)) ≡ Ok n
    → printed width n ≡ take width (drop from l)
part_again l from width n h e =
    let size : length (take width (drop from l)) ≡ width = length-take-le width (drop from l) (omega (arith, length-drop from l)) in
    ap (λ (k : ℕ). printed k n) (sym size) ∙ field_again largest n (take width (drop from l)) e

-- a list is its parts
four_parts : (l : List ℕ) (i j k : ℕ) → take i l ++ take j (drop i l) ++ take k (drop (i + j) l) ++ drop (i + j + k) l ≡ l
four_parts l i j k =
    let third : take k (drop (i + j) l) ++ drop (i + j + k) l ≡ drop (i + j) l =
    ap (λ (t : List ℕ). take k (drop (i + j) l) ++ t) (sym (drop-drop k (i + j) l)) ∙ take-append-drop k (drop (i + j) l) in
    let second : take j (drop i l) ++ drop (i + j) l ≡ drop i l =
    ap (λ (t : List ℕ). take j (drop i l) ++ t) (sym (drop-drop j i l)) ∙ take-append-drop j (drop i l) in
    append_assoc (take i l ++ take j (drop i l)) (take k (drop (i + j) l)) (drop (i + j + k) l)
    ∙ ap (λ (t : List ℕ). take i l ++ take j (drop i l) ++ t) third
    ∙ append_assoc (take i l) (take j (drop i l)) (drop (i + j) l) ∙ ap (λ (t : List ℕ). take i l ++ t) second ∙ take-append-drop i l

-- the last byte of a whole line
line_end : (l : List ℕ) → is_whole line_bytes l ≡ true → drop 17 l ≡ 10 ∷ []
unfolding is_whole
line_end l w =
    let size : length l ≡ line_bytes = whole_size line_bytes l w in
    let last : get_or l 17 0 ≡ 10 = eqb-true _ _ (and_right (eqb (length l) line_bytes) _ w) in
    let none : drop 18 l ≡ [] = ap (λ (k : ℕ). drop k l) (sym size) ∙ drop-length l in
    drop-cons l 17 0 (omega arith) ∙ (λ i. last i ∷ none i)

pub row_again : (l : List ℕ) (row : Row) → row_of l ≡ Ok (Some row) → table_line row.day row.first row.second ≡ l
unfolding row_of line_as field_at table_line
row_again l row e =
    let whole : is_whole line_bytes l ≡ true = whole_of l row e in
    let size : length l ≡ line_bytes = whole_size line_bytes l whole in
    let so : Numbered (field_of largest (take 5 l)) (field_of largest (take 6 (drop 5 l))) (field_of largest (take 6 (drop 11 l))) row =
    numbers_of _ _ _ row (sym (ap row_from (pick_true _ _ _ whole)) ∙ e) in
    let x = part_again l 0 day_width row.day (omega arith) so.day in
    let y = part_again l day_width account_width row.first (omega arith) so.first in
    let z = part_again l (day_width + account_width) account_width row.second (omega arith) so.second in
    (λ i. x i ++ y i ++ z i ++ sym (line_end l whole) i) ∙ four_parts l day_width account_width account_width

-- ---- a text

join_first : (b : ℕ) (ls : List (List ℕ)) → flatten (prepend b ls) ≡ b ∷ flatten ls
unfolding prepend flatten
join_first b [] = refl
join_first b (l ∷ ls) = refl

pub lines_join : (text : List ℕ) → flatten (lines_of text) ≡ text
unfolding lines_of flatten
lines_join [] = refl
lines_join (b ∷ bs) =
    ⊎_elim (λ e. ap flatten (lines_end b bs e) ∙ ap (λ (t : List ℕ). b ∷ t) (lines_join bs))
    (λ e. ap flatten (lines_more b bs e) ∙ join_first b (lines_of bs) ∙ ap (λ (t : List ℕ). b ∷ t) (lines_join bs)) (same_or_not b 10)

-- a line that is passed holds a row
row_of_lem : (l : Line) → passed l ≡ 1 → l ≡ Ok (Some (record { day = day_of l; first = first_of l; second = second_of l }))
row_of_lem (Ok (Some row)) e = refl
row_of_lem (Ok None) e = zero_not_one e
row_of_lem (Err f) e = zero_not_one e

-- a number of each line's row
abbrev column : (Line → ℕ) → List (List ℕ) → List ℕ
column f ls = map (λ (l : List ℕ). f (row_of l)) ls

pub rows_again : (n c : ℕ) (ls : List (List ℕ)) → judged_from n ls ≡ Ok c
    → table_lines (table_rows (column day_of ls) (column first_of ls) (column second_of ls)) ≡ flatten ls
unfolding judged_from table_lines table_rows flatten
rows_again n c [] e = refl
rows_again n c (l ∷ ls) e =
    let later = judged_from (n + 1) ls in
    let row = row_of_lem (row_of l) (row_passed (n + 1) c (row_of l) later (never_end l) e) in
    let line = row_again l _ row in
    let others = rows_again (n + 1) c ls (rest_rows (n + 1) c (row_of l) later e) in
    λ i. line i ++ others i

pub text_again : (text : List ℕ) (c : ℕ) → judged_from 0 (lines_of text) ≡ Ok c → table_text (columns_of text) ≡ text
unfolding table_text days_of firsts_of seconds_of
text_again text c e = rows_again 0 c (lines_of text) e ∙ lines_join text

pub one_text : (text : List ℕ) (c : ℕ) → judged_from 0 (lines_of text) ≡ Ok c → one_length (columns_of text) ≡ true
unfolding one_length days_of firsts_of seconds_of
one_text text c e =
    let days = column_length text c e day_of in
    let first = column_length text c e first_of in
    let second = column_length text c e second_of in
    both_true _ _ (eq-eqb _ _ (days ∙ sym first)) (eq-eqb _ _ (first ∙ sym second))
