use Rattle.rings.proofs.PeelLoopLaws.{RemovingRows}
use Rattle.rings.proofs.peel.remove_rows_from_the_end.Given as goal

-- `peel::remove_rows_from_the_end` meets its contract. The loop's invariant: the rows from the end of the removal on
-- have left, and nobody
-- waits (PeelLoopLaws).
-- Assumes nothing.
abbrev pub invariant-loop-j : goal.invariant-loop-j
invariant-loop-j l =
    RemovingRows l.payments.days.now l.payments.first.now l.payments.second.now l.frame l.j l.tail l.initial.times l.initial.left l.initial.queue l.times l.left l.queue
