-- `peel::queue_low_degree` meets its contract. The loop's invariant: the accounts below u have been tested, and none
-- from u on
-- has been removed (PeelLoopLaws).
-- Assumes nothing.
use Rattle.rings.proofs.PeelLoopLaws.{QueueingLowDegree}
use Rattle.rings.proofs.peel.queue_low_degree.Given as goal

abbrev pub invariant-loop-u : goal.invariant-loop-u
invariant-loop-u l =
    QueueingLowDegree l.payments.days.now l.payments.first.now l.payments.second.now l.frame l.u l.end l.tail l.initial.times l.initial.queue l.times l.left l.queue
