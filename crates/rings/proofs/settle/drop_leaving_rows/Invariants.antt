use Prim.Native.Nat.{◌≤◌}
use Rattle.rings.specs.Table.{table_of}
use Rattle.rings.specs.Inner.Peeling.{estimate}
use Rattle.rings.specs.Inner.Settling.{Leaving, Queued}
use Rattle.rings.proofs.settle.drop_leaving_rows.Given as goal

abbrev pub invariant-loop-j : goal.invariant-loop-j
invariant-loop-j l =
    (l.tail ≤ 4352)
    × Queued 0 l.initial.slack l.initial.queue l.tail l.slack l.queue
    × Leaving (table_of l.payments.days.now l.payments.first.now l.payments.second.now) (estimate l.times) l.frame.lo l.j l.initial.slack l.slack
