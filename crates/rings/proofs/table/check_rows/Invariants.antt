use Rattle.rings.proofs.TableLaws.{Passed}
use Rattle.rings.proofs.table.check_rows.Given as goal

abbrev pub invariant-loop-j : goal.invariant-loop-j
invariant-loop-j l =
    Passed l.days l.first l.second l.before l.j
