-- `text::print::print_field` meets its contract: the first j columns stand, and blanks behind them.
-- Assumes nothing.
use lib.ListN.{length}
use Rattle.text.specs.Print.{printed}
use Rattle.text.proofs.PasteLaws.{Pasting}
use Rattle.text.proofs.PrintLaws.{blanks}
use Rattle.text.proofs.print.print_field.Given as goal

abbrev pub invariant-loop-j : goal.invariant-loop-j
invariant-loop-j l =
    let width = length l.fn.field in
    Pasting (printed width l.n) (blanks width) l.field 0 width l.j
