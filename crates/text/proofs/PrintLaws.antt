-- Laws of printing, over plain lists.
--
--   column_unit      a column, by the code's cases: the units
--   column_blank     a blank
--   column_digit     a digit
--   quotient_digit   a quotient is ten times the next one, and the digit
--   below_power      a number of 16 bits is below 10 ^ 5
--   fits_place       whether a number fits, by the code's cases: by its place value
--   fits_wide        five columns or more
--   column_stays     a column, by the code's test: the blank stays
--   column_is_digit  a digit
--   digit_place      which has its place in the table
--   printed_length   a printed field has its width
--   printed_at       and these columns
--   blanks           so many blanks
--   columns_none     through the loop that writes columns over them: at its start
--   columns_more     after a turn
--   field_pasted     a field that was lent as a part of a buffer, in the whole
--   puts_none        the answer of a call that writes: no room
--   puts_all         all is written
--   field_wide       of a call that writes a number: it does not fit
--   field_fits       it does
--   line_pieces      a listing's line is its pieces, one behind the other
--   three_pieces     any three pieces, and byte 10
--   refused          the word `refused`
--   refused_pieces   the line of a refusal is its pieces
--   line_length      how long a listing's line is
--   refused_length   how long the line of a refusal is
-- Assumes nothing.
use Prim.Native.Nat.{ℕ, zero, suc, ◌+◌, ◌-◌, ◌*◌, ◌/◌, ◌%◌, ◌^◌, ◌≤◌, ◌<◌}
use mathlib.Core.Path.{◌≡◌, refl, sym, ap, ◌∙◌}
use mathlib.Core.Bool.{Bool, true, false, true≢false}
use mathlib.Core.Logic.{⊎_elim}
use mathlib.Core.List.{List, [], ◌∷◌, ◌++◌}
use native.Mathlib.Nat.{zero-add, div-one, div-add-mod, div-div-eq-div-mul, pow-suc, pow-le-pow_right, not-suc-le-zero, le_of_suc-le-suc}
use native.Mathlib.Numerals.{add-one}
use native.Mathlib.Omega.{arith}
use lib.Dec.{leb, ltb, lit<}
use lib.Seq.{set-get_or}
use lib.ListN.{length, get_or, set, replicate, length-append, length-replicate}
use borrow.Author.Tests.{lt-ltb, le-ltb}
use borrow.Rule.Slice.PartMut.{put_mid}
use Rattle.std.specs.List.{between}
use Rattle.std.specs.Prelude.{Option, Some, None}
use Rattle.std.proofs.lemmas.List.Edits.{length-between}
use Rattle.text.specs.Layout.{most_digits, day_width, rows_width, number_width, place_width, entry_bytes, refused_bytes}
use Rattle.text.specs.Print.{column_of, printed, fits, pasted, put_of, field_put, listing_line, refused_line, BlankAt, WrittenAt, Puts}
use Rattle.text.specs.Print.{PutsField}
use Rattle.text.proofs.Tests.{lt_or_le, and_false, pick_true, pick_false}
use Rattle.text.proofs.PasteLaws.{Pasting, pasting_none, pasting_more, part_pasted, Pieces, piece_first, piece_more}

-- ---- columns

pub column_unit : (n : ℕ) → column_of 0 n ≡ 48 + n % 10
unfolding column_of
column_unit n = rw (div-one n)

pub column_blank : (k n : ℕ) → 0 < k → n < 10 ^ k → column_of k n ≡ 32
unfolding column_of
column_blank k n p h = rw (lt-ltb 0 k p, lt-ltb n (10 ^ k) h)

pub column_digit : (k n : ℕ) → 10 ^ k ≤ n → column_of k n ≡ 48 + n / 10 ^ k % 10
unfolding column_of
column_digit k n h = rw (le-ltb n (10 ^ k) h, and_false (ltb 0 k))

-- a quotient is ten times the next one, and the digit
pub quotient_digit : (k n : ℕ) → 10 * (n / 10 ^ (k + 1)) + n / 10 ^ k % 10 ≡ n / 10 ^ k
quotient_digit k n =
    let power : 10 ^ k * 10 ≡ 10 ^ (k + 1) = sym (pow-suc 10 k) ∙ ap (λ (m : ℕ). 10 ^ m) (sym (add-one k)) in
    let next : n / 10 ^ k / 10 ≡ n / 10 ^ (k + 1) = div-div-eq-div-mul n (10 ^ k) 10 ∙ ap (λ (m : ℕ). n / m) power in
    ap (λ (q : ℕ). 10 * q + n / 10 ^ k % 10) (sym next) ∙ div-add-mod (n / 10 ^ k) 10

-- a number of 16 bits has no digit at place 5 or above
pub below_power : (k n : ℕ) → most_digits ≤ k → n < 2 ^ 16 → n < 10 ^ k
below_power k n h l = let m : 10 ^ most_digits ≤ 10 ^ k = pow-le-pow_right (lit< tt) h in omega arith

-- ---- what fits

pub fits_place : (width n : ℕ) → 0 < width → fits width n ≡ ltb n (10 ^ width)
unfolding fits
fits_place width n h = rw (lt-ltb 0 width h)

pub fits_wide : (width n : ℕ) → most_digits ≤ width → n < 2 ^ 16 → fits width n ≡ true
fits_wide width n h l = fits_place width n (omega arith) ∙ lt-ltb n (10 ^ width) (below_power width n h l)

-- a column, by the code's test: a blank, where the number fits the columns behind it
module _ (k n : ℕ) where
  pub column_stays : {field : List ℕ} {at : ℕ} → BlankAt field at → true ≡ fits k n
      → field ≡ set field at (column_of k n)
  unfolding column_of fits
  column_stays {field} {at} b t =
      sym (ap (set field at) (pick_true _ _ _ (sym t) ∙ sym b.blank) ∙ set-get_or field at 0)

  module _ (t : false ≡ fits k n) where
    pub column_is_digit : column_of k n ≡ 48 + n / 10 ^ k % 10
    unfolding column_of fits
    column_is_digit = pick_false _ _ _ (sym t)

    -- the table of place values has its place
    pub digit_place : n < 2 ^ 16 → k < most_digits
    digit_place l = ⊎_elim (λ h. h) (λ h. absurd (true≢false (sym (fits_wide k n h l) ∙ sym t))) (lt_or_le k most_digits)

-- ---- printed fields

pub printed_length : (width n : ℕ) → length (printed width n) ≡ width
unfolding printed
printed_length zero n = refl
printed_length (suc k) n = ap suc (printed_length k n)

pub printed_at : (width n j : ℕ) → j < width → get_or (printed width n) j 0 ≡ column_of (width - 1 - j) n
unfolding printed
printed_at zero n j h = absurd (not-suc-le-zero h)
printed_at (suc k) n zero h = ap (λ (p : ℕ). column_of p n) (omega arith)
printed_at (suc k) n (suc j) h = printed_at k n j (le_of_suc-le-suc h) ∙ ap (λ (p : ℕ). column_of p n) (omega arith)

-- ---- blanks, and columns over them

abbrev pub blanks : ℕ → List ℕ
blanks width = replicate width 32

-- through the loop that writes the columns of a number over blanks
module _ (width n : ℕ) where
  size : length (blanks width) ≡ width
  size = length-replicate width 32

  pub columns_none : {now : List ℕ} → now ≡ blanks width → Pasting (printed width n) (blanks width) now 0 width 0
  columns_none e = rw (e) (pasting_none _ _ 0 width (printed_length width n) (omega (arith, size)))

  pub columns_more : {now now' : List ℕ} {j k : ℕ} → Pasting (printed width n) (blanks width) now 0 width j → j < width
      → k ≡ width - 1 - j → now' ≡ set now j (column_of k n)
      → Pasting (printed width n) (blanks width) now' 0 width (j + 1)
  columns_more {j = j} p h e w = rw (w, e) (pasting_more j _ p h (sym (zero-add j)) (sym (printed_at width n j h)))

-- the field is a part of a buffer
pub field_pasted : (out part : List ℕ) (at width n : ℕ) → at + width ≤ length out
    → part ≡ printed (length (between at (at + width) out)) n
    → put_mid at (at + width - at) out part ≡ pasted out at (printed width n)
field_pasted out part at width n h e =
    let size : length (between at (at + width) out) ≡ width = omega (arith, length-between out at (at + width)) in
    part_pasted out part (printed width n) at (at + width) (e ∙ ap (λ (w : ℕ). printed w n) size)
    (ap (λ (w : ℕ). at + w) (sym (printed_length width n)))

-- ---- the answer of a call that writes

module _ (out : List ℕ) (at : ℕ) (bytes : List ℕ) {size : ℕ} (e : length bytes ≡ size) where
  -- the test, on the bytes themselves
  tests : {b : Bool} → b ≡ leb (at + size) (length out) → leb (at + length bytes) (length out) ≡ b
  tests t = rw (e) (sym t)

  pub puts_none : false ≡ leb (at + size) (length out) → Puts out at bytes None out
  unfolding put_of
  puts_none t = record { answers = sym (pick_false _ _ _ (tests t)); holds = refl }

  pub puts_all : {next : ℕ} {now : List ℕ} → true ≡ leb (at + size) (length out)
      → WrittenAt out at size bytes next now → Puts out at bytes (Some next) now
  unfolding put_of
  puts_all t w = record { answers = rw (w.behind, ← e) (sym (pick_true _ _ _ (tests t))); holds = w.holds }

module _ (out : List ℕ) (at width n : ℕ) where
  pub field_wide : false ≡ fits width n → PutsField out at width n None out
  unfolding field_put
  field_wide t = record { answers = sym (pick_false _ _ _ (sym t)); holds = refl }

  pub field_fits : {r : Option ℕ} {now : List ℕ} → true ≡ fits width n → Puts out at (printed width n) r now
      → PutsField out at width n r now
  unfolding field_put
  field_fits t p = record { answers = p.answers ∙ sym (pick_true _ _ _ (sym t)); holds = p.holds }

-- ---- lines, piece by piece

module _ (out : List ℕ) (at : ℕ) {o₁ o₂ o₃ o₄ o₅ : List ℕ} {a b c d r : ℕ} (start end span rows : ℕ) (h : at + entry_bytes ≤ length out)
  where
    pub line_pieces : WrittenAt out at day_width (printed day_width start) a o₁
        → WrittenAt o₁ a day_width (printed day_width end) b o₂
        → WrittenAt o₂ b day_width (printed day_width span) c o₃
        → WrittenAt o₃ c rows_width (printed rows_width rows) d o₄
        → WrittenAt o₄ d 1 (10 ∷ []) r o₅
        → WrittenAt out at entry_bytes (listing_line start end span rows) r o₅
    unfolding listing_line
    line_pieces w₁ w₂ w₃ w₄ w₅ =
        let p₁ : Pieces (printed day_width start) out o₁ at a = piece_first _ day_width (printed_length day_width start) (omega arith) w₁ in
        let p₂ : Pieces (printed day_width start ++ printed day_width end) out o₂ at b =
        piece_more _ day_width p₁ (printed_length day_width end) (omega (arith, w₁.behind)) w₂ in
        let p₃ : Pieces (printed day_width start ++ printed day_width end ++ printed day_width span) out o₃ at c =
        piece_more _ day_width p₂ (printed_length day_width span) (omega (arith, w₁.behind, w₂.behind)) w₃ in
        let p₄ : Pieces (printed day_width start ++ printed day_width end ++ printed day_width span ++ printed rows_width rows) out o₄ at d =
        piece_more _ rows_width p₃ (printed_length rows_width rows) (omega (arith, w₁.behind, w₂.behind, w₃.behind)) w₄ in
        record {
          behind = omega (arith, w₁.behind, w₂.behind, w₃.behind, w₄.behind, w₅.behind);
          holds = (piece_more _ 1 p₄ refl (omega (arith, w₁.behind, w₂.behind, w₃.behind, w₄.behind)) w₅).is;
        }

abbrev pub refused : List ℕ
refused = 114 ∷ 101 ∷ 102 ∷ 117 ∷ 115 ∷ 101 ∷ 100 ∷ []

-- any three pieces, and byte 10 behind them
module _ (out : List ℕ) (at : ℕ) {o₁ o₂ o₃ o₄ : List ℕ} {a b c r : ℕ} (s t u : List ℕ) (k m n : ℕ) where
  pub three_pieces : length s ≡ k → length t ≡ m → length u ≡ n → at + (k + m + n + 1) ≤ length out
      → WrittenAt out at k s a o₁
      → WrittenAt o₁ a m t b o₂
      → WrittenAt o₂ b n u c o₃
      → WrittenAt o₃ c 1 (10 ∷ []) r o₄
      → WrittenAt out at (k + m + n + 1) (s ++ t ++ u ++ 10 ∷ []) r o₄
  three_pieces e₁ e₂ e₃ h w₁ w₂ w₃ w₄ =
      let p₁ : Pieces s out o₁ at a = piece_first _ k e₁ (omega arith) w₁ in
      let p₂ : Pieces (s ++ t) out o₂ at b = piece_more _ m p₁ e₂ (omega (arith, w₁.behind)) w₂ in
      let p₃ : Pieces (s ++ t ++ u) out o₃ at c = piece_more _ n p₂ e₃ (omega (arith, w₁.behind, w₂.behind)) w₃ in
      record {
        behind = omega (arith, w₁.behind, w₂.behind, w₃.behind, w₄.behind);
        holds = (piece_more _ 1 p₃ refl (omega (arith, w₁.behind, w₂.behind, w₃.behind)) w₄).is;
      }

module _ (out : List ℕ) {o₁ o₂ o₃ o₄ : List ℕ} {a b c r : ℕ} (number line : ℕ) (h : refused_bytes ≤ length out) where
  pub refused_pieces : WrittenAt out 0 7 refused a o₁
      → WrittenAt o₁ a number_width (printed number_width number) b o₂
      → WrittenAt o₂ b place_width (printed place_width line) c o₃
      → WrittenAt o₃ c 1 (10 ∷ []) r o₄
      → WrittenAt out 0 refused_bytes (refused_line number line) r o₄
  unfolding refused_line
  refused_pieces w₁ w₂ w₃ w₄ =
      let number_size = printed_length number_width number in
      let line_size = printed_length place_width line in
      three_pieces out 0 refused _ _ 7 number_width place_width refl number_size line_size (omega arith) w₁ w₂ w₃ w₄

pub line_length : (start end span rows : ℕ) → length (listing_line start end span rows) ≡ entry_bytes
unfolding listing_line
line_length start end span rows = simp (length-append, printed_length)

pub refused_length : (number line : ℕ) → length (refused_line number line) ≡ refused_bytes
unfolding refused_line
refused_length number line = simp (length-append, printed_length)
