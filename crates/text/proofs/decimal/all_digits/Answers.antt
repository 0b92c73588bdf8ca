-- `text::decimal::all_digits` meets its contract: the test of each byte is that of a digit.
-- Assumes nothing.
use Rattle.std.proofs.Common.{rules, tests, ◌∙◌}
use Rattle.std.proofs.lemmas.Iterator.{YieldsList-from_slice}
use Rattle.std.proofs.lemmas.Iterator.Search.{all_from_yields_List}
use Rattle.std.specs.Char.{is_ascii_digit}
use Rattle.text.proofs.FieldLaws.{digits_all}
use Rattle.text.proofs.decimal.all_digits.Goals as goal

pub returns : goal.returns
returns c =
    all_from_yields_List is_ascii_digit _ _ c.all.result c.all.ensures.ran (YieldsList-from_slice c.args.f.now cc)
    (λ x b q k. search (rules, tests))
    ∙ digits_all c.args.f.now
