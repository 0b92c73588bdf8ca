-- `table::check_row` meets its contract: each return rewrites the checks by the tests that led there.
-- Assumes nothing.
use borrow.Author.Tests.{lt-ltb, le-ltb, le-leb, lt-leb}
use Rattle.rings.specs.Words.{◌and◌, ◌or◌, no}
use Rattle.rings.specs.Checks.{◌when◌, ◌then◌}
use Rattle.rings.specs.TableCheck.{row_faults}
use Rattle.rings.proofs.table.check_row.Goals as goal

pub returns-then-day-lt1 : goal.returns-then-day-lt1
unfolding row_faults ◌when◌ ◌then◌ ◌and◌ ◌or◌ no
returns-then-day-lt1 c = simp (lt-leb _ _ c.if-day-lt1.true)

pub returns-then-day-gt-LAST_DAY : goal.returns-then-day-gt-LAST_DAY
unfolding row_faults ◌when◌ ◌then◌ ◌and◌ ◌or◌ no
returns-then-day-gt-LAST_DAY c = simp (le-leb _ _ c.if-day-lt1.false, lt-leb _ _ c.if-day-gt-LAST_DAY.true)

pub returns-then-b-gt-LAST_ACCOUNT : goal.returns-then-b-gt-LAST_ACCOUNT
unfolding row_faults ◌when◌ ◌then◌ ◌and◌ ◌or◌ no
returns-then-b-gt-LAST_ACCOUNT c =
    simp (le-leb _ _ c.if-day-lt1.false, le-leb _ _ c.if-day-gt-LAST_DAY.false, lt-ltb _ _ c.if-b-gt-LAST_ACCOUNT.true)

pub returns-then-b-a : goal.returns-then-b-a
unfolding row_faults ◌when◌ ◌then◌ ◌and◌ ◌or◌ no
returns-then-b-a c =
    simp (le-leb _ _ c.if-day-lt1.false, le-leb _ _ c.if-day-gt-LAST_DAY.false, le-ltb _ _ c.if-b-gt-LAST_ACCOUNT.false, le-ltb _ _ c.if-b-a.true)

pub returns-then-day-before : goal.returns-then-day-before
unfolding row_faults ◌when◌ ◌then◌ ◌and◌ ◌or◌ no
returns-then-day-before c =
    simp (
      le-leb _ _ c.if-day-lt1.false,
      le-leb _ _ c.if-day-gt-LAST_DAY.false,
      le-ltb _ _ c.if-b-gt-LAST_ACCOUNT.false,
      lt-ltb _ _ c.if-b-a.false,
      lt-ltb _ _ c.if-day-before.true,
    )

pub returns : goal.returns
unfolding row_faults ◌when◌ ◌then◌ ◌and◌ ◌or◌ no
returns c =
    simp (
      le-leb _ _ c.if-day-lt1.false,
      le-leb _ _ c.if-day-gt-LAST_DAY.false,
      le-ltb _ _ c.if-b-gt-LAST_ACCOUNT.false,
      lt-ltb _ _ c.if-b-a.false,
      le-ltb _ _ c.if-day-before.false,
    )
