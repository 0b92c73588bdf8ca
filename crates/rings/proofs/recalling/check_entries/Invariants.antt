-- `recalling::check_entries` meets its contract. The loop's invariant: no entry below j is bad, and the last one
-- passed is at hand (proofs/RecallLaws.antt).
-- Assumes nothing.
use Rattle.rings.proofs.RecallLaws.{Judged}
use Rattle.rings.proofs.recalling.check_entries.Given as goal

abbrev pub invariant-loop-j : goal.invariant-loop-j
invariant-loop-j l = Judged l.days l.rows l.starts l.ends l.before l.j
