-- How much of its input the program must read.
--     seen_long, outcome_first    the outcome of so many first bytes, 18,449 or more, or all of them
--     first_bytes                 18,449 bytes tell what is printed
--     not_fewer                   18,448 do not
--     brought_text                what a read brings into a buffer of 18,449 bytes has the text of the whole input
-- Assumes nothing.
use Prim.Native.Nat.{ℕ, ◌+◌, ◌≤◌, ◌<◌, min}
use mathlib.Core.Path.{◌≡◌, refl, sym, ap, ◌∙◌}
use mathlib.Core.Logic.{◌⊎◌, inl, inr, ⊎_elim}
use mathlib.Core.List.{List}
use native.Mathlib.Nat.{min-eq_left, min_comm}
use native.Mathlib.Omega.{arith}
use lib.ListN.{length, get_or, take, replicate}
use lib.Seq.{length-take-le, take_all}
use Rattle.text.specs.Layout.{most_input}
use Rattle.text.specs.Print.{column_of, printed, refused_line}
use Rattle.text.proofs.Tests.{lt_or_le}
use Rattle.listing.specs.Program.{stopped, outcome}
use Rattle.listing.specs.ProgramText.{outcome_text, program_text}
use Rattle.listing.specs.ProgramInput.{ByFirst, Brought}
use Rattle.listing.specs.ProgramRows.{compute_program, program_rows_hold}
use Rattle.listing.proofs.ReadingLaws.{too_long}

seen_long : (input : List ℕ) (n : ℕ) → n < length input → most_input < n → outcome (take n input) ≡ outcome input
seen_long input n few more =
    too_long (take n input) (omega (arith, length-take-le n input (omega arith))) ∙ sym (too_long input (omega arith))

-- an input is seen to be too long, or all of it is had
outcome_first : (input : List ℕ) (n : ℕ) → (most_input < n) ⊎ (length input ≤ n) → outcome (take n input) ≡ outcome input
outcome_first input n h =
    ⊎_elim (λ few. seen_long input n few (⊎_elim (λ m. m) (λ (l : length input ≤ n). let no : ⊥ = omega arith in absurd no) h))
    (λ all. ap outcome (take_all n input all)) (lt_or_le n (length input))

pub first_bytes : ByFirst (most_input + 1)
unfolding program_text
first_bytes input = ap outcome_text (sym (outcome_first input (most_input + 1) (inl (omega arith))))

-- a read ends with the buffer or with the input
reaches : (a b n : ℕ) → n ≡ min a b → most_input < a → (most_input < n) ⊎ (b ≤ n)
reaches a b n e room =
    ⊎_elim (λ (l : a < b). let k : min a b ≡ a = min-eq_left (omega arith) in inl (omega arith))
    (λ (l : b ≤ a). let k : min b a ≡ b = min-eq_left l in inr (omega (arith, min_comm a b))) (lt_or_le a b)

pub brought_text : (input buffer : List ℕ) (n : ℕ) → most_input < length buffer → Brought input buffer n → program_text (take n buffer) ≡ program_text input
unfolding program_text
brought_text input buffer n room b =
    ap outcome_text (ap outcome b.bytes ∙ outcome_first input n (reaches (length buffer) (length input) n b.count room))

-- the number's last digit in the refused lines 2 and 11
two : get_or (refused_line 2 0) 11 0 ≡ 50
unfolding refused_line printed column_of
two = refl

eleven : get_or (refused_line 11 1) 11 0 ≡ 49
unfolding refused_line printed column_of
eleven = refl

-- 18,449 blanks are too many, and 18,448 are a query line that is too long
blanks : outcome (replicate (most_input + 1) 32) ≡ stopped 2 0
unfolding compute_program
blanks = refl

pub not_fewer : ByFirst most_input → ⊥
unfolding program_text outcome_text
not_fewer h =
    let long : outcome_text (outcome (replicate (most_input + 1) 32)) ≡ refused_line 2 0 = ap outcome_text blanks in
    let cut : outcome_text (outcome (take most_input (replicate (most_input + 1) 32))) ≡ refused_line 11 1 = ap outcome_text program_rows_hold.just_fits in
    let same : refused_line 2 0 ≡ refused_line 11 1 = sym long ∙ h (replicate (most_input + 1) 32) ∙ cut in
    omega (arith, two, eleven, ap (λ (l : List ℕ). get_or l 11 0) same)
