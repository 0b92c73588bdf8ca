-- `label::write_labels` meets its contract. The loop's invariant: the rows below j have their labels, the others none.
-- Assumes nothing.
use Rattle.groups.proofs.WritingLaws.{Written}
use Rattle.groups.specs.Inner.{rows_of}
use Rattle.groups.specs.Groups.{choose, none}
use Rattle.rings.specs.Words.{marked}
use lib.ListN.{length, get_or}
use Rattle.groups.proofs.label.write_labels.Given as goal

abbrev pub invariant-loop-j : goal.invariant-loop-j
invariant-loop-j l =
    Written (λ i. choose (marked (rows_of l.ring.marks.now) i) (get_or l.leaders (get_or l.ring.first.now i 0) 0) none)
    none (length l.ring.days.now) l.j l.labels
