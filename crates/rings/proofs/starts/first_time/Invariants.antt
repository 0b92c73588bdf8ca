use Rattle.rings.specs.Table.{table_of}
use Rattle.rings.specs.CoreTimes.{row_time}
use Rattle.rings.proofs.StartsLaws.{Least}
use Rattle.rings.proofs.starts.first_time.Given as goal

abbrev pub invariant-loop-j : goal.invariant-loop-j
invariant-loop-j l =
    Least (row_time (table_of l.payments.days.now l.payments.first.now l.payments.second.now) l.frame.query l.frame.stop l.frame.start) l.frame.lo l.j l.least
