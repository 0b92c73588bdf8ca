-- `forest::join_rows` meets its contract. The loop's invariant: the forest stands for the leaders by the rows below j.
-- Assumes nothing.
use Rattle.groups.specs.Groups.{leader}
use Rattle.groups.specs.Inner.{Grown}
use Rattle.groups.specs.RingRows.{table_in, marked_in}
use Rattle.groups.proofs.forest.join_rows.Given as goal

abbrev pub invariant-loop-j : goal.invariant-loop-j
invariant-loop-j l =
    Grown l.parents (leader (table_in l.ring) (marked_in l.ring) l.j)
