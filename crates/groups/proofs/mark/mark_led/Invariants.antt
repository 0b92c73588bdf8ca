-- `mark::mark_led` meets its contract. The loop's invariant: the rows below j are marked and counted.
-- Assumes nothing.
use Rattle.groups.proofs.WritingLaws.{Marked}
use Rattle.groups.specs.Inner.{led}
use lib.ListN.{length}
use Rattle.groups.proofs.mark.mark_led.Given as goal

abbrev pub invariant-loop-j : goal.invariant-loop-j
invariant-loop-j l =
    Marked (led l.ring.first.now l.ring.marks.now l.leaders l.account) (length l.ring.days.now) l.j l.n l.marks
