-- `text::print::quotient` meets its contract: the place value is the table's, and no number has more digits.
-- Assumes nothing.
use mathlib.Core.Path.{sym}
use native.Mathlib.Nat.{div-eq_of_lt, one-le-pow}
use native.Mathlib.Omega.{arith}
use lib.Dec.{lit<}
use Rattle.text.proofs.PrintLaws.{below_power}
use Rattle.text.proofs.print.quotient.Goals as goal

pub returns-then-k-ge-MOST_DIGITS : goal.returns-then-k-ge-MOST_DIGITS
returns-then-k-ge-MOST_DIGITS c =
    sym (div-eq_of_lt (below_power c.args.k c.args.n c.if-k-ge-MOST_DIGITS.true (omega arith)))

pub nonzero_div-result : goal.nonzero_div-result
nonzero_div-result c = omega (arith, one-le-pow c.args.k 10 (lit< tt))
