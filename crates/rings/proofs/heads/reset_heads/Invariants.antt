use Rattle.rings.specs.Table.{table_of}
use Rattle.rings.proofs.HeadLaws.{Resetting}
use Rattle.rings.proofs.heads.reset_heads.Given as goal

abbrev pub invariant-loop-u : goal.invariant-loop-u
invariant-loop-u l =
    Resetting (table_of l.payments.days.now l.payments.first.now l.payments.second.now) l.initial.scratch l.u l.from l.scratch
