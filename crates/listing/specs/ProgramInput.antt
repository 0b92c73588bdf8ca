-- What the program must know of its input: one byte more than an input may have.
--     ByFirst n                 the program's text depends on the first n bytes of its input alone
--     Brought input buffer n    a read of the input into the buffer brought n bytes
use Rattle.std.specs.Prelude.{ℕ, min, ◌≡◌, List, length, take}
use Rattle.listing.specs.ProgramText.{program_text}

-- 01: "Over 18,448 bytes: refusal 2, place 0, before any line is read". So 18,449 bytes tell what is printed, and 18,448 do not
-- (proofs/InputLaws.antt: first_bytes, not_fewer)
abbrev pub ByFirst : ℕ → Type 0
ByFirst n = (input : List ℕ) → program_text input ≡ program_text (take n input)

-- it fills the buffer, or ends with the input, and what it brought are the input's first bytes
pub record Brought (input buffer : List ℕ) (n : ℕ) : Type 0 where
  pub count : n ≡ min (length buffer) (length input)
  pub bytes : take n buffer ≡ take n input
