use mathlib.Core.Path.{◌∙◌, sym}
use Rattle.rings.proofs.CheckLaws.{handed_on}
use Rattle.rings.proofs.TableLaws.{pass_start, pass_next, pass_refused, pass_end}
use Rattle.rings.proofs.table.check_rows.Goals as goal

pub loop-j-init : goal.loop-j-init
loop-j-init c = pass_start _ _ _

pub returns-in_err-check_row : goal.returns-in_err-check_row
returns-in_err-check_row c =
    handed_on c.from_residual.ensures.1
    ∙ pass_refused _ _ _ _ _ _ c.loop-j.invariant c.loop-j-test.true (sym c.in_err-check_row.was ∙ c.check_row.ensures)

pub loop-j-preserved : goal.loop-j-preserved
loop-j-preserved c =
    pass_next _ _ _ _ _ c.loop-j.invariant c.loop-j-test.true (sym c.in_ok-check_row.was ∙ c.check_row.ensures)

pub returns : goal.returns
returns c = pass_end _ _ _ _ _ c.loop-j.invariant c.loop-j-test.false
