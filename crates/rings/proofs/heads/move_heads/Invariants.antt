use Rattle.rings.specs.Table.{table_of}
use Rattle.rings.proofs.HeadLaws.{Moving}
use Rattle.rings.proofs.heads.move_heads.Given as goal

abbrev pub invariant-loop-j : goal.invariant-loop-j
invariant-loop-j l =
    Moving (table_of l.payments.days.now l.payments.first.now l.payments.second.now) l.initial.scratch l.j l.scratch
