-- Laws of decimal fields, over plain lists.
--
--   unblank_at       a list that starts with a blank, without its blanks
--   unblank_past     a list that starts with another byte
--   is_mark         another byte than a blank
--   blanks_end      where the first of these stands, or the end
--   digit_yes        a byte from 48 to 57 is a digit
--   digit_between    and a digit is one of these
--   digits_all       all digits, by the library's word
--   numeral_none     no byte is no numeral
--   numeral_one      one byte is one if it is a digit
--   numeral_zero     more bytes that start with 0 are none
--   numeral_more     more bytes that do not are one if all are digits
--   numeral_digits   a numeral is all digits
--   value_below      digits have a value below 10 to their number
--   digits_drop      a part of digits is digits
--   digit_at         one of them
--   value_next       a digit's part of the value
--   value_end        the value of no digits
--   DigitsSummed    the invariant of the loop that sums
--   value_few        the value of few digits
--   numeral_above    a numeral of more than k digits is at least 10 ^ k
--   broken_field     what a field holds, for any limit: no numeral
--   large_field      a numeral above the limit
--   number_field     a numeral within it
--   tail             the part of a slice behind a position
--   tail_is          it is the list behind that position
--   tail_broken      what a field holds, by the code's cases: no numeral behind the blanks
--   tail_large       too many digits
--   tail_high        a value above the limit
--   tail_number      a value within it
--   field_rules      a set of these lemmas
-- Assumes nothing.
use Prim.Native.Nat.{ℕ, zero, suc, ◌+◌, ◌-◌, ◌*◌, ◌^◌, ◌≤◌, ◌<◌}
use mathlib.Core.Path.{◌≡◌, refl, sym, ap, ◌∙◌}
use mathlib.Core.Bool.{Bool, true, false, not, cond, ◌&&◌, true≢false}
use mathlib.Core.Logic.{◌≢◌, ⊎_elim}
use mathlib.Core.List.{List, [], ◌∷◌}
use native.Mathlib.Nat.{pow-succ', pow-le-pow_right, mul-le-mul_right, le_of_eq, lt_of_lt_of_le, not-suc-le-zero, le_of_suc-le-suc}
use native.Mathlib.Numerals.{add-one}
use native.Mathlib.Omega.{arith}
use lib.Arith.{digits_lt}
use lib.Dec.{leb, ltb, eqb, lit<}
use lib.ListN.{length, get_or, take, drop, length-drop}
use lib.Seq.{drop-cons, drop-length, take_all}
use borrow.Author.Tests.{ltb-false, leb-true, eq-eqb, ne_eqb, le-leb, lt-leb, lt-ltb}
use Rattle.std.specs.Prelude.{Option, Ok, Err, position, unwrap_or}
use Rattle.std.specs.Char.{is_ascii_digit}
use Rattle.std.specs.List.{list_all, position_or_len}
use Rattle.text.specs.Layout.{most_digits}
use Rattle.text.specs.Decimal.{unblank, is_digit, all_digits, leads_well, is_numeral, value, numeral_of, field_of, BlanksEnd, FewDigits}
use Rattle.text.specs.declared.decimal.FieldError.TheVariants.{Broken, Large}
use Rattle.text.proofs.Tests.{true_or_false, same_or_not, and_left, and_right, pick_true, pick_false}

-- ---- blanks

unblank_cons : (b : ℕ) (bs : List ℕ) → unblank (b ∷ bs) ≡ cond (eqb b 32) (unblank bs) (b ∷ bs)
unfolding unblank
unblank_cons b bs = refl

pub unblank_at : (b : ℕ) (bs : List ℕ) → b ≡ 32 → unblank (b ∷ bs) ≡ unblank bs
unblank_at b bs e = unblank_cons b bs ∙ pick_true _ _ _ (eq-eqb _ _ e)

pub unblank_past : (b : ℕ) (bs : List ℕ) → (b ≡ 32 → ⊥) → unblank (b ∷ bs) ≡ b ∷ bs
unblank_past b bs e = unblank_cons b bs ∙ pick_false _ _ _ (ne_eqb _ _ e)

blank_more : (b : ℕ) (bs : List ℕ) {r : ℕ} → b ≡ 32 → BlanksEnd bs r → BlanksEnd (b ∷ bs) (1 + r)
blank_more b bs {r} e d =
    let next : 1 + r ≡ suc r = omega arith in
    record {
      within = omega (arith, d.within);
      rest = ap (λ (n : ℕ). drop n (b ∷ bs)) next ∙ d.rest ∙ sym (unblank_at b bs e);
    }

blank_none : (b : ℕ) (bs : List ℕ) → (b ≡ 32 → ⊥) → BlanksEnd (b ∷ bs) 0
blank_none b bs e = record { within = omega arith; rest = sym (unblank_past b bs e) }

-- another byte than a blank
abbrev pub is_mark : ℕ → Bool
is_mark b = not (eqb b 32)

blanks_before : (f : List ℕ) → BlanksEnd f (position_or_len is_mark f)
unfolding unblank
blanks_before [] = record { within = omega arith; rest = refl }
blanks_before (b ∷ bs) =
    ⊎_elim (λ e. rw (eq-eqb b 32 e) (blank_more b bs e (blanks_before bs))) (λ e. rw (ne_eqb b 32 e) (blank_none b bs e)) (same_or_not b 32)

-- the first such byte, or the end
pub blanks_end : (f : List ℕ) {o : Option ℕ} {r : ℕ} → o ≡ position is_mark f → r ≡ unwrap_or o (length f) → BlanksEnd f r
blanks_end f {o} {r} e q =
    let k = position_or_len is_mark f in
    let d : BlanksEnd f k = blanks_before f in
    let is : r ≡ k =
    ⊎_elim (λ t. q ∙ ap (λ (x : Option ℕ). unwrap_or x (length f)) (e ∙ pick_true _ _ _ t))
    (λ t. q ∙ ap (λ (x : Option ℕ). unwrap_or x (length f)) (e ∙ pick_false _ _ _ t) ∙ omega (arith, d.within, ltb-false k (length f) t))
    (true_or_false (ltb k (length f))) in
    rw is d

-- ---- digits

pub digits_all : (f : List ℕ) → list_all is_ascii_digit f ≡ all_digits f
unfolding all_digits is_digit
digits_all [] = refl
digits_all (b ∷ bs) = ap (λ (t : Bool). is_ascii_digit b && t) (digits_all bs)

digits_cons : (f : List ℕ) (i : ℕ) → i < length f → all_digits (drop i f) ≡ (is_digit (get_or f i 0) && all_digits (drop (suc i) f))
unfolding all_digits
digits_cons f i h = rw (drop-cons f i 0 h)

pub digit_yes : (b : ℕ) → 48 ≤ b → b ≤ 57 → is_digit b ≡ true
unfolding is_digit
digit_yes b l h = rw (le-leb 48 b l, le-leb b 57 h)

pub digit_between : (b : ℕ) → is_digit b ≡ true → (48 ≤ b) × (b ≤ 57)
unfolding is_digit
digit_between b e = (leb-true 48 b (and_left (leb 48 b) (leb b 57) e), leb-true b 57 (and_right (leb 48 b) (leb b 57) e))

-- ---- numerals

pub numeral_none : (f : List ℕ) → length f ≡ 0 → is_numeral f ≡ false
unfolding is_numeral
numeral_none f e = rw e

pub numeral_one : (f : List ℕ) → length f ≡ 1 → is_numeral f ≡ all_digits f
unfolding is_numeral leads_well
numeral_one f e = rw e

pub numeral_zero : (f : List ℕ) → 1 < length f → get_or f 0 0 ≡ 48 → is_numeral f ≡ false
unfolding is_numeral leads_well
numeral_zero f h e = let g : 0 < length f = omega arith in rw (lt-ltb 0 (length f) g, lt-ltb 1 (length f) h, eq-eqb (get_or f 0 0) 48 e)

pub numeral_more : (f : List ℕ) → 1 < length f → (get_or f 0 0 ≡ 48 → ⊥) → is_numeral f ≡ all_digits f
unfolding is_numeral leads_well
numeral_more f h e = let g : 0 < length f = omega arith in rw (lt-ltb 0 (length f) g, lt-ltb 1 (length f) h, ne_eqb (get_or f 0 0) 48 e)

pub numeral_digits : (f : List ℕ) → is_numeral f ≡ true → all_digits f ≡ true
unfolding is_numeral
numeral_digits f e = and_right (leads_well f) (all_digits f) (and_right (ltb 0 (length f)) (leads_well f && all_digits f) e)

-- ---- values

pub value_below : (ds : List ℕ) → all_digits ds ≡ true → value ds < 10 ^ length ds
unfolding all_digits value
value_below [] e = lit< tt
value_below (b ∷ bs) e =
    let d : (48 ≤ b) × (b ≤ 57) = digit_between b (and_left (is_digit b) (all_digits bs) e) in
    let h : b - 48 < 10 = omega arith in
    rw pow-succ' (digits_lt h (value_below bs (and_right (is_digit b) (all_digits bs) e)))

pub digits_drop : (f : List ℕ) (i : ℕ) → all_digits f ≡ true → all_digits (drop i f) ≡ true
unfolding all_digits
digits_drop f zero e = e
digits_drop [] (suc i) e = e
digits_drop (b ∷ bs) (suc i) e = digits_drop bs i (and_right (is_digit b) (all_digits bs) e)

pub digit_at : (f : List ℕ) (i : ℕ) → all_digits f ≡ true → i < length f → (48 ≤ get_or f i 0) × (get_or f i 0 ≤ 57)
digit_at f i e h = digit_between (get_or f i 0) (and_left _ _ (sym (digits_cons f i h) ∙ digits_drop f i e))

-- a digit's part of the value, where p is its place value
pub value_next : (f : List ℕ) (i p : ℕ) → i < length f → p ≡ 10 ^ (length f - 1 - i)
    → value (drop i f) ≡ (get_or f i 0 - 48) * p + value (drop (i + 1) f)
unfolding value
value_next f i p h q =
    let e : length (drop (suc i) f) ≡ length f - 1 - i = length-drop (suc i) f ∙ omega arith in
    ap value (drop-cons f i 0 h) ∙ rw (e, q, add-one)

pub value_end : (f : List ℕ) (i : ℕ) → i ≡ length f → value (drop i f) ≡ 0
unfolding value
value_end f i e = rw (e, drop-length f)

-- through the loop that sums: the parts of the first i digits
pub record DigitsSummed (f : List ℕ) (sum i : ℕ) : Type 0 where
  pub within : i ≤ length f
  pub total : sum + value (drop i f) ≡ value f

-- so no sum of its digits' parts overflows
pub value_few : {f : List ℕ} → FewDigits f → value f < 10 ^ most_digits
value_few {f} d = lt_of_lt_of_le (value_below f d.digits) (pow-le-pow_right (lit< tt) d.few)

first_not_zero : (ds : List ℕ) → is_numeral ds ≡ true → 1 < length ds → get_or ds 0 0 ≡ 48 → ⊥
first_not_zero ds e h z = true≢false (sym e ∙ numeral_zero ds h z)

-- a numeral of more than k digits is at least 10 ^ k
pub numeral_above : (ds : List ℕ) (k : ℕ) → is_numeral ds ≡ true → 0 < k → k < length ds → 10 ^ k ≤ value ds
unfolding value
numeral_above [] k e p h = absurd (not-suc-le-zero h)
numeral_above (b ∷ bs) k e p h =
    let l : 1 < length (b ∷ bs) = omega arith in
    let d : (48 ≤ b) × (b ≤ 57) = digit_at (b ∷ bs) 0 (numeral_digits (b ∷ bs) e) (omega arith) in
    let n : b ≢ 48 = first_not_zero (b ∷ bs) e l in
    let o : 1 ≤ b - 48 = omega arith in
    let m : 10 ^ k ≤ 10 ^ length bs = pow-le-pow_right (lit< tt) (le_of_suc-le-suc h) in
    omega (arith, mul-le-mul_right (10 ^ length bs) o)

-- ---- fields, for any limit

module _ (limit : ℕ) (f : List ℕ) where
  pub broken_field : is_numeral (unblank f) ≡ false → field_of limit f ≡ Err Broken
  unfolding field_of numeral_of
  broken_field e = pick_false _ _ _ e

  pub large_field : is_numeral (unblank f) ≡ true → limit < value (unblank f) → field_of limit f ≡ Err Large
  unfolding field_of numeral_of
  large_field e h = pick_true _ _ _ e ∙ pick_false _ _ _ (lt-leb _ _ h)

  pub number_field : is_numeral (unblank f) ≡ true → value (unblank f) ≤ limit → field_of limit f ≡ Ok (value (unblank f))
  unfolding field_of numeral_of
  number_field e h = pick_true _ _ _ e ∙ pick_true _ _ _ (le-leb _ _ h)

-- ---- the field without its blanks, as the part of the slice that the code takes

abbrev pub tail : List ℕ → ℕ → List ℕ
tail f r = take (length f - r) (drop r f)

pub tail_is : (f : List ℕ) (r : ℕ) → tail f r ≡ drop r f
tail_is f r = take_all (length f - r) (drop r f) (le_of_eq (length-drop r f))

module _ (limit : ℕ) (f : List ℕ) (r : ℕ) (e : drop r f ≡ unblank f) where
  is_field : tail f r ≡ unblank f
  is_field = tail_is f r ∙ e

  pub tail_broken : is_numeral (tail f r) ≡ false → Err Broken ≡ field_of limit f
  tail_broken p = sym (broken_field limit f (rw is_field at p))

  pub tail_large : (k : ℕ) → is_numeral (tail f r) ≡ true → 0 < k → k < length (tail f r) → limit < 10 ^ k → Err Large ≡ field_of limit f
  tail_large k p z h l =
      let numeral : is_numeral (unblank f) ≡ true = rw is_field at p in
      let above : 10 ^ k ≤ value (unblank f) = numeral_above (unblank f) k numeral z (rw is_field at h) in
      sym (large_field limit f numeral (lt_of_lt_of_le l above))

  pub tail_high : {n : ℕ} → is_numeral (tail f r) ≡ true → n ≡ value (tail f r) → limit < n → Err Large ≡ field_of limit f
  tail_high p v h = sym (large_field limit f (rw is_field at p) (rw (v ∙ ap value is_field) at h))

  pub tail_number : {n : ℕ} → is_numeral (tail f r) ≡ true → n ≡ value (tail f r) → n ≤ limit → Ok n ≡ field_of limit f
  tail_number p v h =
      let is = v ∙ ap value is_field in
      ap Ok is ∙ sym (number_field limit f (rw is_field at p) (rw is at h))

-- what reading a field rests on, besides
pub ruleset field_rules = (tail_broken, numeral_digits)
