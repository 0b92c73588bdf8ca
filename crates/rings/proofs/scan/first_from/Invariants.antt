use Rattle.rings.proofs.PrunedLaws.{Seeking}
use Rattle.rings.proofs.scan.first_from.Given as goal

abbrev pub invariant-loop-p : goal.invariant-loop-p
invariant-loop-p l =
    Seeking l.scratch l.u l.lo l.p
