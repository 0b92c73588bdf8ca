-- What the program prints stands at the start of the output.
--     prints_refused     after the refused line
--     prints_found       after a listing
--     prints_stopped     after the refused line of an input
-- Assumes nothing.
use Prim.Native.Nat.{ℕ, ◌+◌, ◌≤◌}
use mathlib.Core.Path.{◌≡◌, sym, ap, ◌∙◌}
use mathlib.Core.List.{List}
use native.Mathlib.Omega.{arith}
use lib.ListN.{length, take, drop}
use lib.Seq.{length-take-le, take_at}
use Rattle.io.specs.Counts.{IsPrefixLen}
use Rattle.text.specs.Layout.{refused_bytes}
use Rattle.text.specs.Print.{refused_line, put_of, written}
use Rattle.std.specs.Prelude.{Option}
use Rattle.text.proofs.PasteLaws.{pasted_length, pasted_start}
use Rattle.text.proofs.PrintLaws.{refused_length}
use Rattle.listing.specs.Program.{outcome}
use Rattle.listing.specs.ProgramText.{most_output, program_text}
use Rattle.listing.proofs.PrintingLaws.{put_wrote}
use Rattle.listing.proofs.OutcomeLaws.{TextAnswer, RefusedAnswer}

counts : (n : ℕ) (xs : List ℕ) → n ≤ length xs → IsPrefixLen n xs
counts n xs h = (h, sym (length-take-le n xs h))

pub prints_refused : (out : List ℕ) (n line : ℕ) {r : Option ℕ} {now : List ℕ}
    → length out ≡ most_output
    → r ≡ put_of out 0 (refused_line n line)
    → now ≡ written r out 0 (refused_line n line)
    → IsPrefixLen refused_bytes now × (take refused_bytes now ≡ refused_line n line)
prints_refused out n line {r} {now} l e w =
    let size : length (refused_line n line) ≡ refused_bytes = refused_length n line in
    let fits : 0 + length (refused_line n line) ≤ length out = omega arith in
    let is = put_wrote out 0 (refused_line n line) fits e w in (
      counts refused_bytes now (omega (arith, ap length is, pasted_length out 0 (refused_line n line) fits)),
      ap (take refused_bytes) (is ∙ pasted_start out (refused_line n line) refused_bytes size)
          ∙ take_at (refused_line n line) (drop refused_bytes out) refused_bytes size,
    )

pub prints_found : (input : List ℕ) {n : ℕ} {now : List ℕ} → TextAnswer (outcome input) n now → IsPrefixLen n now × (take n now ≡ program_text input)
unfolding program_text
prints_found input {n} {now} h = (counts n now h.room, h.is)

pub prints_stopped : (input : List ℕ) (r : ℕ) (now : List ℕ) {n line : ℕ} {old out : List ℕ}
    → RefusedAnswer (outcome input) n line old out
    → IsPrefixLen r now × (take r now ≡ refused_line n line)
    → IsPrefixLen r now × (take r now ≡ program_text input)
unfolding program_text
prints_stopped input r now h p = (p.0, p.1 ∙ h.is)
