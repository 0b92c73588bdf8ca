-- `text::print::fits_in` meets its contract: one law for each way out.
-- Assumes nothing.
use mathlib.Core.Path.{sym, ◌∙◌}
use native.Mathlib.Omega.{arith}
use borrow.Author.Tests.{le-leb, le-ltb}
use Rattle.text.specs.Print.{fits}
use Rattle.text.proofs.PrintLaws.{fits_wide, fits_place}
use Rattle.text.proofs.print.fits_in.Goals as goal

pub returns-then-width-ge-MOST_DIGITS : goal.returns-then-width-ge-MOST_DIGITS
returns-then-width-ge-MOST_DIGITS c =
    le-leb 5 c.args.width c.if-width-ge-MOST_DIGITS.true
    ∙ sym (fits_wide c.args.width c.args.n c.if-width-ge-MOST_DIGITS.true (omega arith))

pub returns-else-width-ge-MOST_DIGITS : goal.returns-else-width-ge-MOST_DIGITS
returns-else-width-ge-MOST_DIGITS c = rw c.place.ensures (sym (fits_place c.args.width c.args.n (omega arith)))

pub returns-else-width-gt0 : goal.returns-else-width-gt0
unfolding fits
returns-else-width-gt0 c = rw (le-ltb 0 c.args.width c.if-width-gt0.false)
