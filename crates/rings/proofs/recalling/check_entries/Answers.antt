use Rattle.rings.proofs.CheckLaws.{handed_on}
use Rattle.rings.proofs.RecallLaws.{judge_start, judge_next, judge_refused, judge_end}
use mathlib.Core.Path.{sym, ◌∙◌}
use Rattle.rings.proofs.recalling.check_entries.Goals as goal

pub loop-j-init : goal.loop-j-init
loop-j-init c = judge_start _ _ _ _

pub returns-in_err-check_entry : goal.returns-in_err-check_entry
returns-in_err-check_entry c =
    handed_on c.from_residual.ensures.1
    ∙ judge_refused _ _ _ _ c.loop-j.invariant c.loop-j-test.true (sym c.in_err-check_entry.was ∙ c.check_entry.ensures)

pub loop-j-preserved : goal.loop-j-preserved
loop-j-preserved c =
    judge_next _ _ _ _ c.loop-j.invariant c.loop-j-test.true (sym c.in_ok-check_entry.was ∙ c.check_entry.ensures)

pub returns : goal.returns
returns c = judge_end _ _ _ _ c.loop-j.invariant c.loop-j-test.false
