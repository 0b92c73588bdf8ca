use Rattle.rings.proofs.TableLaws.{table_sound}
use Rattle.rings.proofs.CheckLaws.{then_refused, then_accepted, handed_on}
use mathlib.Core.Path.{◌∙◌, sym}
use Rattle.rings.proofs.checks.check_call.Goals as goal

pub returns-in_err-check_table : goal.returns-in_err-check_table
returns-in_err-check_table c =
    handed_on c.from_residual.ensures.1 ∙ sym (then_refused _ (sym c.check_table.ensures ∙ c.in_err-check_table.was))

pub check_numbers-requires : goal.check_numbers-requires
check_numbers-requires c = (table_sound _ _ _ (sym c.check_table.ensures ∙ c.in_ok-check_table.was)).most

pub returns : goal.returns
returns c = c.check_numbers.ensures ∙ sym (then_accepted _ (sym c.check_table.ensures ∙ c.in_ok-check_table.was))
