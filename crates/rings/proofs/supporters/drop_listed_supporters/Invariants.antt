use Rattle.rings.proofs.ListedLaws.{DroppingListed}
use Rattle.rings.proofs.supporters.drop_listed_supporters.Given as goal

abbrev pub invariant-loop-p : goal.invariant-loop-p
invariant-loop-p l =
    DroppingListed l.tail l.initial.slack l.initial.queue l.p l.end l.slack l.queue
