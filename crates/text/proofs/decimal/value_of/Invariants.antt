-- `text::decimal::value_of` meets its contract: the sum so far and the value of the rest are the whole value, which
-- is below 10 ^ 5.
-- Assumes nothing.
use Rattle.text.proofs.FieldLaws.{DigitsSummed}
use Rattle.text.proofs.decimal.value_of.Given as goal

abbrev pub invariant-loop-i : goal.invariant-loop-i
invariant-loop-i l =
    DigitsSummed l.f l.sum l.i
