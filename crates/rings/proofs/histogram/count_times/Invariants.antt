use Rattle.rings.specs.Table.{table_of}
use Rattle.rings.specs.CoreTimes.{row_time}
use Rattle.rings.specs.Inner.Counting.{Histogram}
use Rattle.rings.proofs.histogram.count_times.Given as goal

abbrev pub invariant-loop-j : goal.invariant-loop-j
invariant-loop-j l =
    Histogram (row_time (table_of l.payments.days.now l.payments.first.now l.payments.second.now) l.frame.query l.frame.stop l.frame.start) l.j l.counts
