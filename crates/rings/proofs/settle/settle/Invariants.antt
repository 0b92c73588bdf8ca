use Prim.Native.Nat.{◌-◌}
use Rattle.rings.specs.Inner.Worklist.{arrays}
use Rattle.rings.proofs.WorklistLaws.{Settles}
use lib.Dec.{eqb}
use mathlib.Core.Bool.{not}
use Rattle.rings.proofs.settle.settle.Given as goal

abbrev pub invariant-loop-list : goal.invariant-loop-list
invariant-loop-list g l =
    Settles l.payments.days.now l.payments.first.now l.payments.second.now l.scratch l.frame
    (not (eqb g.row.COUNTING 0)) l.budget (arrays l.initial.times l.initial.slack l.initial.queue l.initial.counts)
    l.list (arrays l.times l.slack l.queue l.counts)

abbrev pub decreases-loop-list : goal.decreases-loop-list
decreases-loop-list g l =
    4353 - l.list.head
