-- `recalling::check_entry` meets its contract: each return rewrites 14 by the tests that led there.
-- Assumes nothing.
use borrow.Author.Tests.{lt-ltb, le-ltb, le-leb, lt-leb, eq-eqb, ne_eqb}
use Rattle.rings.specs.Words.{◌and◌, ◌or◌, no, at}
use Rattle.rings.specs.Checks.{◌when◌}
use Rattle.rings.specs.Table.{day_of}
use Rattle.rings.specs.RecallCall.{comes_after, fits}
use Rattle.rings.specs.Inner.Recalling.{judged, follows}
use Rattle.rings.proofs.recalling.check_entry.Goals as goal

pub returns-then-days-row : goal.returns-then-days-row
unfolding judged fits follows comes_after day_of at ◌when◌ ◌and◌ ◌or◌ no
returns-then-days-row c = simp (le-ltb _ _ c.if-days-row.true)

pub returns-then-start-lt1 : goal.returns-then-start-lt1
unfolding judged fits follows comes_after day_of at ◌when◌ ◌and◌ ◌or◌ no
returns-then-start-lt1 c = simp (lt-ltb _ _ c.if-days-row.false, lt-leb _ _ c.if-start-lt1.true)

pub returns-then-day-start : goal.returns-then-day-start
unfolding judged fits follows comes_after day_of at ◌when◌ ◌and◌ ◌or◌ no
returns-then-day-start c = simp (lt-ltb _ _ c.if-days-row.false, le-leb _ _ c.if-start-lt1.false, lt-leb _ _ c.if-day-start.true)

pub returns-then-end-day : goal.returns-then-end-day
unfolding judged fits follows comes_after day_of at ◌when◌ ◌and◌ ◌or◌ no
returns-then-end-day c =
    simp (lt-ltb _ _ c.if-days-row.false, le-leb _ _ c.if-start-lt1.false, le-leb _ _ c.if-day-start.false, lt-leb _ _ c.if-end-day.true)

pub returns-then-end-gt-LAST_DAY : goal.returns-then-end-gt-LAST_DAY
unfolding judged fits follows comes_after day_of at ◌when◌ ◌and◌ ◌or◌ no
returns-then-end-gt-LAST_DAY c =
    simp (
      lt-ltb _ _ c.if-days-row.false,
      le-leb _ _ c.if-start-lt1.false,
      le-leb _ _ c.if-day-start.false,
      le-leb _ _ c.if-end-day.false,
      lt-leb _ _ c.if-end-gt-LAST_DAY.true,
    )

pub returns-in_default : goal.returns-in_default
unfolding judged fits follows comes_after day_of at ◌when◌ ◌and◌ ◌or◌ no
returns-in_default c =
    simp (
      lt-ltb _ _ c.if-days-row.false,
      le-leb _ _ c.if-start-lt1.false,
      le-leb _ _ c.if-day-start.false,
      le-leb _ _ c.if-end-day.false,
      le-leb _ _ c.if-end-gt-LAST_DAY.false,
      c.in_default.is,
    )

pub returns-then-last-row : goal.returns-then-last-row
unfolding judged fits follows comes_after day_of at ◌when◌ ◌and◌ ◌or◌ no
returns-then-last-row c =
    simp (
      lt-ltb _ _ c.if-days-row.false,
      le-leb _ _ c.if-start-lt1.false,
      le-leb _ _ c.if-day-start.false,
      le-leb _ _ c.if-end-day.false,
      le-leb _ _ c.if-end-gt-LAST_DAY.false,
      c.in-Some.is,
      lt-ltb _ _ c.if-last-row.true,
    )

pub returns-then-last-row-2 : goal.returns-then-last-row-2
unfolding judged fits follows comes_after day_of at ◌when◌ ◌and◌ ◌or◌ no
returns-then-last-row-2 c =
    simp (
      lt-ltb _ _ c.if-days-row.false,
      le-leb _ _ c.if-start-lt1.false,
      le-leb _ _ c.if-day-start.false,
      le-leb _ _ c.if-end-day.false,
      le-leb _ _ c.if-end-gt-LAST_DAY.false,
      c.in-Some.is,
      le-ltb _ _ c.if-last-row.false,
      ne_eqb _ _ c.if-last-row-2.true,
    )

pub returns-then-start-last : goal.returns-then-start-last
unfolding judged fits follows comes_after day_of at ◌when◌ ◌and◌ ◌or◌ no
returns-then-start-last c =
    simp (
      lt-ltb _ _ c.if-days-row.false,
      le-leb _ _ c.if-start-lt1.false,
      le-leb _ _ c.if-day-start.false,
      le-leb _ _ c.if-end-day.false,
      le-leb _ _ c.if-end-gt-LAST_DAY.false,
      c.in-Some.is,
      le-ltb _ _ c.if-last-row.false,
      eq-eqb _ _ c.if-last-row-2.false,
      le-ltb _ _ c.if-start-last.true,
    )

pub returns-then-end-last : goal.returns-then-end-last
unfolding judged fits follows comes_after day_of at ◌when◌ ◌and◌ ◌or◌ no
returns-then-end-last c =
    simp (
      lt-ltb _ _ c.if-days-row.false,
      le-leb _ _ c.if-start-lt1.false,
      le-leb _ _ c.if-day-start.false,
      le-leb _ _ c.if-end-day.false,
      le-leb _ _ c.if-end-gt-LAST_DAY.false,
      c.in-Some.is,
      le-ltb _ _ c.if-last-row.false,
      eq-eqb _ _ c.if-last-row-2.false,
      lt-ltb _ _ c.if-start-last.false,
      le-ltb _ _ c.if-end-last.true,
    )

pub returns : goal.returns
unfolding judged fits follows comes_after day_of at ◌when◌ ◌and◌ ◌or◌ no
returns c =
    simp (
      lt-ltb _ _ c.if-days-row.false,
      le-leb _ _ c.if-start-lt1.false,
      le-leb _ _ c.if-day-start.false,
      le-leb _ _ c.if-end-day.false,
      le-leb _ _ c.if-end-gt-LAST_DAY.false,
      c.in-Some.is,
      le-ltb _ _ c.if-last-row.false,
      eq-eqb _ _ c.if-last-row-2.false,
      lt-ltb _ _ c.if-start-last.false,
      lt-ltb _ _ c.if-end-last.false,
    )
