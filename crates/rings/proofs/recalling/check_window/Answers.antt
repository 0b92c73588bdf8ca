-- `recalling::check_window` meets its contract: 7 is refused where the two days are no window.
-- Assumes nothing.
use mathlib.Core.Path.{sym, ◌∙◌}
use Rattle.rings.specs.Checks.{range_check}
use Rattle.rings.specs.declared.refusal.Refusal.TheVariants.{BadRange}
use Rattle.rings.proofs.CheckLaws.{passes, fails}
use Rattle.rings.proofs.recalling.check_window.Goals as goal

pub returns-then-is_window : goal.returns-then-is_window
unfolding range_check
returns-then-is_window c = sym (passes BadRange (sym c.is_window.ensures ∙ c.if-is_window.true))

pub returns-else-is_window : goal.returns-else-is_window
unfolding range_check
returns-else-is_window c = sym (fails BadRange (sym c.is_window.ensures ∙ c.if-is_window.false))
