-- `text::print::write_column` meets its contract: the blank stays where the number has no digit.
-- Assumes nothing.
use mathlib.Core.Path.{sym, ap, ◌∙◌}
use native.Mathlib.Omega.{arith}
use lib.ListN.{set}
use Rattle.text.proofs.PrintLaws.{column_stays, column_is_digit, digit_place}
use Rattle.text.proofs.print.write_column.Goals as goal

pub digit-requires : goal.digit-requires
digit-requires c = digit_place _ c.args.n c.if-not-fits_in.ensures (omega arith)

pub returns-then-not-fits_in : goal.returns-then-not-fits_in
returns-then-not-fits_in c =
    ap (set c.args.field.now c.args.at) (c.digit.ensures ∙ sym (column_is_digit _ _ c.if-not-fits_in.ensures))

pub returns-else-not-fits_in : goal.returns-else-not-fits_in
returns-else-not-fits_in c = column_stays _ _ c.requires c.if-not-fits_in.ensures
