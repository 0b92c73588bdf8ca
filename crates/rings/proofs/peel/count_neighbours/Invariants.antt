-- `peel::count_neighbours` meets its contract. The loop's invariant: the rows below j have been counted (PeelLoopLaws).
-- Assumes nothing.
use Rattle.rings.proofs.PeelLoopLaws.{Counting}
use Rattle.rings.proofs.peel.count_neighbours.Given as goal

abbrev pub invariant-loop-j : goal.invariant-loop-j
invariant-loop-j l =
    Counting l.payments.days.now l.payments.first.now l.payments.second.now l.frame l.j l.end l.initial.left l.left
