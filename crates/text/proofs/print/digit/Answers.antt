-- `text::print::digit` meets its contract: a quotient is ten times the next one, and the digit.
-- Assumes nothing.
use native.Mathlib.Omega.{arith}
use Rattle.text.proofs.PrintLaws.{quotient_digit}
use Rattle.text.proofs.print.digit.Goals as goal

pub overflow_sub-result : goal.overflow_sub-result
overflow_sub-result c = omega (arith, quotient_digit c.args.k c.args.n)

pub overflow_cast-result : goal.overflow_cast-result
overflow_cast-result c = omega (arith, quotient_digit c.args.k c.args.n)

pub overflow_add-result : goal.overflow_add-result
overflow_add-result c = omega (arith, quotient_digit c.args.k c.args.n)

pub returns : goal.returns
returns c = omega (arith, quotient_digit c.args.k c.args.n)
