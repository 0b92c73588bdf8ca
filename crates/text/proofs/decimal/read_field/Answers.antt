-- `text::decimal::read_field` meets its contract: the part of the slice behind the blanks is the field without its
-- blanks; one law for each way out.
-- Assumes nothing.
use native.Mathlib.Omega.{arith}
use lib.Dec.{lit<}
use borrow.Author.Rules.{rules}
use Rattle.text.specs.Layout.{most_digits}
use Rattle.text.proofs.FieldLaws.{tail_large, tail_high, tail_number}
use Rattle.text.proofs.decimal.read_field.Goals as goal

pub returns-then-digits-gt-MOST_DIGITS : goal.returns-then-digits-gt-MOST_DIGITS
returns-then-digits-gt-MOST_DIGITS c =
    tail_large c.args.limit c.args.f.now _ c.blanks-from.ensures.rest most_digits (search rules) (lit< tt)
    c.if-digits-gt-MOST_DIGITS.true (omega arith)

pub returns-then-limit-n : goal.returns-then-limit-n
returns-then-limit-n c =
    tail_high c.args.limit c.args.f.now _ c.blanks-from.ensures.rest (search rules) c.value_of-n.ensures
    c.if-limit-n.true

pub returns : goal.returns
returns c =
    tail_number c.args.limit c.args.f.now _ c.blanks-from.ensures.rest (search rules) c.value_of-n.ensures
    c.if-limit-n.false
