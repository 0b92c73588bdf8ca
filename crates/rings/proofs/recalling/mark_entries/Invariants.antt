-- `recalling::mark_entries` meets its contract. The loop's invariant: a mark is 1 exactly if an entry passed hits its
-- row (proofs/RecallLaws.antt).
-- Assumes nothing.
use Rattle.rings.proofs.RecallLaws.{Marking}
use lib.ListN.{length}
use Rattle.rings.proofs.recalling.mark_entries.Given as goal

abbrev pub invariant-loop-i : goal.invariant-loop-i
invariant-loop-i l =
    Marking l.rows l.starts l.ends l.s l.e (length l.initial.marks) l.i l.marks
