use Prim.Native.Nat.{◌+◌, ◌-◌, ◌≤◌}
use lib.ListN.{get_or}
use Rattle.rings.specs.Table.{table_of}
use Rattle.rings.specs.Inner.Peeling.{estimate}
use Rattle.rings.specs.Inner.Settling.{Short}
use Rattle.rings.proofs.scan.find_day.Given as goal

abbrev pub invariant-loop-c : goal.invariant-loop-c
invariant-loop-c l =
    Short (table_of l.payments.days.now l.payments.first.now l.payments.second.now) (estimate l.times) l.frame.start l.frame.query.k l.frame.stop
    (get_or l.times l.scan.account 0) l.scan.account l.c
    × (l.walked ≤ l.scan.budget + 32768)

abbrev pub decreases-loop-c : goal.decreases-loop-c
decreases-loop-c l =
    65535 - l.c
