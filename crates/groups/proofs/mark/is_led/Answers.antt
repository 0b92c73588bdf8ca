-- `mark::is_led` meets its contract: by its test.
-- Assumes nothing.
use Rattle.rings.specs.Words.{◌and◌, no}
use borrow.Author.Tests.{eq-eqb, ne_eqb}
use Rattle.groups.proofs.mark.is_led.Goals as goal

pub returns-then-mark-ne0 : goal.returns-then-mark-ne0
unfolding ◌and◌ no
returns-then-mark-ne0 c = simp (ne_eqb _ _ c.if-mark-ne0.true)

pub returns-else-mark-ne0 : goal.returns-else-mark-ne0
unfolding ◌and◌ no
returns-else-mark-ne0 c = simp (eq-eqb _ _ c.if-mark-ne0.false)
