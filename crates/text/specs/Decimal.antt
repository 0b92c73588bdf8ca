-- What a decimal field holds. 01, Reader: "A field is a decimal number, right-justified, blanks (byte 32) before it, no needless leading zero".
--
--   Field        what a field holds: its number, or why it has none
--   unblank      a field without the blanks before its number
--   is_digit      a byte is one of 0 to 9
--   all_digits    every byte is a digit
--   leads_well    no needless leading zero
--   is_numeral    a decimal number: digits, at least one, no needless leading zero
--   value        the number that digits stand for, by place values
--   numeral_of    what a field without its blanks holds, where numbers end at a limit
--   field_of      what a field holds, where numbers end at a limit
--   BlanksEnd    where the blanks before a field's number end
--   FewDigits    digits, no more than a number of 16 bits has
--   field_number  01's refusal number of what a field holds
--   refuses      a field has this refusal number
--   field_value   the number that a field holds, 0 where it has none
-- Assumes nothing.
use Rattle.std.specs.Prelude.{ℕ, ◌+◌, ◌-◌, ◌*◌, ◌^◌, ◌≤◌, ◌≡◌, Bool, true, not, cond, ◌&&◌, List, [], ◌∷◌, leb, ltb, eqb, length, get_or, drop}
use Rattle.std.specs.Prelude.{Result, Ok, Err}
use Rattle.text.specs.Layout.{most_digits}
use Rattle.text.specs.declared.decimal.FieldError.{FieldError}
use Rattle.text.specs.declared.decimal.FieldError.TheVariants.{Broken, Large}

abbrev pub Field : Type 0
Field = Result ℕ FieldError

-- "blanks (byte 32) before it"
unfoldable pub unblank : List ℕ → List ℕ
unblank [] = []
unblank (b ∷ bs) = cond (eqb b 32) (unblank bs) (b ∷ bs)

-- "a decimal number": bytes 48 to 57 are the digits 0 to 9
unfoldable pub is_digit : ℕ → Bool
is_digit b = leb 48 b && leb b 57

unfoldable pub all_digits : List ℕ → Bool
all_digits [] = true
all_digits (b ∷ bs) = is_digit b && all_digits bs

-- "no needless leading zero": a first digit 0 stands alone
unfoldable pub leads_well : List ℕ → Bool
leads_well ds = not (ltb 1 (length ds) && eqb (get_or ds 0 0) 48)

-- "a decimal number .. no needless leading zero"; no digit at all, as in an all_blank field, is none
unfoldable pub is_numeral : List ℕ → Bool
is_numeral ds = ltb 0 (length ds) && (leads_well ds && all_digits ds)

-- "place values": each digit times 10 to the number of digits behind it
unfoldable pub value : List ℕ → ℕ
value [] = 0
value (b ∷ bs) = (b - 48) * 10 ^ length bs + value bs

-- "12: a broken field, an all_blank one included; 13: a number above 65,535 (12 before 13)": 65,535 is the limit of each field of 01
unfoldable pub numeral_of : ℕ → List ℕ → Field
numeral_of limit ds = cond (is_numeral ds) (cond (leb (value ds) limit) (Ok (value ds)) (Err Large)) (Err Broken)

-- "right-justified, blanks (byte 32) before it": what stands behind the blanks is the number
unfoldable pub field_of : ℕ → List ℕ → Field
field_of limit f = numeral_of limit (unblank f)

-- the first r bytes are blanks, and the number stands behind them
pub record BlanksEnd (f : List ℕ) (r : ℕ) : Type 0 where
  pub within : r ≤ length f
  pub rest : drop r f ≡ unblank f

pub record FewDigits (f : List ℕ) : Type 0 where
  pub few : length f ≤ most_digits
  pub digits : all_digits f ≡ true

-- "12: a broken field, an all_blank one included; 13: a number above 65,535"; 0 for none
abbrev pub field_number : Field → ℕ
field_number (Ok n) = 0
field_number (Err Large) = 13
field_number (Err Broken) = 12

abbrev pub refuses : ℕ → Field → Bool
refuses number f = eqb (field_number f) number

-- the number of a field that has one
abbrev pub field_value : Field → ℕ
field_value (Ok n) = n
field_value (Err e) = 0
