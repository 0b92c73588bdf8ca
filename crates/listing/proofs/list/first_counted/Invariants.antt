use Rattle.listing.specs.Inner.{Uncounted}
use Rattle.listing.proofs.list.first_counted.Given as goal

abbrev pub invariant-loop-day : goal.invariant-loop-day
invariant-loop-day l =
    Uncounted l.counts l.low l.day
