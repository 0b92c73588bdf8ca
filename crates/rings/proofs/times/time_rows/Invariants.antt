use Rattle.rings.specs.Table.{table_of}
use Rattle.rings.specs.CoreTimes.{row_time}
use Rattle.rings.proofs.TimeLaws.{Filled}
use Rattle.rings.proofs.times.time_rows.Given as goal

abbrev pub invariant-loop-j : goal.invariant-loop-j
invariant-loop-j l =
    Filled (row_time (table_of l.payments.days.now l.payments.first.now l.payments.second.now) l.frame.query l.frame.stop l.frame.start)
    l.j l.initial.rows l.rows
