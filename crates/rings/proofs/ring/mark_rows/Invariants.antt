-- `ring::mark_rows` meets its contract. The loop's invariant: the rows below j are marked and counted.
-- Assumes nothing.
use Rattle.rings.specs.Inner.Answers.{both_remain}
use Rattle.rings.proofs.MarkLaws.{Marking}
use Rattle.rings.proofs.ring.mark_rows.Given as goal

abbrev pub invariant-loop-j : goal.invariant-loop-j
invariant-loop-j l =
    Marking (both_remain l.payments.first.now l.payments.second.now l.times) l.j l.n l.initial.marks l.marks
