use Prim.Native.Nat.{◌≤◌}
use Rattle.rings.proofs.CountedDropLaws.{CountedDropping}
use lib.Dec.{eqb}
use mathlib.Core.Bool.{not}
use Rattle.rings.proofs.supporters.drop_supported.Given as goal

abbrev pub invariant-loop-p : goal.invariant-loop-p
invariant-loop-p g l =
    (l.end ≤ 4352) × CountedDropping l.payments.days.now l.payments.first.now l.payments.second.now l.scratch l.frame l.times l.rise.account l.rise.old l.rise.new l.tail
    l.initial.slack l.initial.queue (not (eqb g.row.COUNTING 0)) l.initial.counts l.p l.end l.moved l.slack l.queue
    l.counts
