-- `recalling::check_lengths` meets its contract: 8 is refused where a length differs.
-- Assumes nothing.
use mathlib.Core.Path.{sym, ◌∙◌}
use Rattle.rings.specs.declared.refusal.Refusal.TheVariants.{BadLength}
use Rattle.rings.proofs.WordLaws.{all_two}
use Rattle.rings.proofs.CheckLaws.{passes, fails}
use Rattle.rings.proofs.recalling.check_lengths.Goals as goal

pub returns-then-starts-rows : goal.returns-then-starts-rows
returns-then-starts-rows c =
    sym (passes BadLength (rw (← c.are_equal.ensures) (sym (all_two _ _) ∙ c.if-starts-rows.true)))

pub returns-else-starts-rows : goal.returns-else-starts-rows
returns-else-starts-rows c =
    sym (fails BadLength (rw (← c.are_equal.ensures) (sym (all_two _ _) ∙ c.if-starts-rows.false)))
