use Prim.Native.Nat.{◌+◌}
use lib.ListN.{length}
use Rattle.rings.specs.Table.{table_of}
use Rattle.rings.specs.CoreTimes.{row_time}
use Rattle.rings.specs.Inner.Peeling.{estimate}
use Rattle.rings.specs.Inner.Counting.{time_by, Histogram}
use Rattle.rings.proofs.ShiftLaws.{mixed}
use Rattle.rings.proofs.histogram.drop_rows.Given as goal

abbrev pub invariant-loop-j : goal.invariant-loop-j
invariant-loop-j l =
    Histogram
    (mixed (row_time (table_of l.payments.days.now l.payments.first.now l.payments.second.now) l.frame.query l.frame.stop l.frame.start)
    (time_by (table_of l.payments.days.now l.payments.first.now l.payments.second.now) (estimate l.times) (l.frame.start + 1) l.frame.stop) l.j)
    (length l.payments.days.now) l.counts
