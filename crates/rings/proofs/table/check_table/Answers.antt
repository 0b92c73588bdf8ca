use Rattle.rings.specs.TableCheck.{table_check}
use Rattle.rings.specs.Checks.{◌when◌, ◌then◌}
use Rattle.rings.specs.Words.{◌and◌, no}
use borrow.Author.Tests.{lt-ltb, le-ltb, eq-eqb, ne_eqb}
use Rattle.rings.proofs.table.check_table.Goals as goal

pub returns-then-first-days : goal.returns-then-first-days
unfolding table_check ◌when◌ ◌then◌ ◌and◌ no
returns-then-first-days c = simp (ne_eqb _ _ c.if-first-days.true)

pub returns-then-second-days : goal.returns-then-second-days
unfolding table_check ◌when◌ ◌then◌ ◌and◌ no
returns-then-second-days c = simp (eq-eqb _ _ c.if-first-days.false, ne_eqb _ _ c.if-second-days.true)

pub returns-then-days-gt-ROWS : goal.returns-then-days-gt-ROWS
unfolding table_check ◌when◌ ◌then◌ ◌and◌ no
returns-then-days-gt-ROWS c =
    simp (eq-eqb _ _ c.if-first-days.false, eq-eqb _ _ c.if-second-days.false, lt-ltb _ _ c.if-days-gt-ROWS.true)

pub returns : goal.returns
unfolding table_check ◌when◌ ◌then◌ ◌and◌ no
returns c =
    simp (eq-eqb _ _ c.if-first-days.false, eq-eqb _ _ c.if-second-days.false, le-ltb _ _ c.if-days-gt-ROWS.false) c.check_rows.ensures
