-- `peel::remove_queued` meets its contract. The loop's invariant: the removal has gone on from where it began
-- (PeelLoopLaws).
-- Assumes nothing.
use Prim.Native.Nat.{◌-◌}
use Rattle.rings.proofs.PeelLoopLaws.{RemovingQueued}
use Rattle.rings.proofs.peel.remove_queued.Given as goal

abbrev pub invariant-loop-state : goal.invariant-loop-state
invariant-loop-state l =
    RemovingQueued l.payments.days.now l.payments.first.now l.payments.second.now l.frame l.initial.state l.state l.initial.times l.initial.left l.initial.queue l.times l.left l.queue

abbrev pub decreases-loop-state : goal.decreases-loop-state
decreases-loop-state l =
    4096 - l.state.head
