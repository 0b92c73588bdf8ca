-- `forest::find` meets its contract. The loop's invariant: y is not above x and has its leader, and the forest stands
-- for what it stood for.
-- Assumes nothing.
use Rattle.groups.proofs.ForestLaws.{Walk}
use Rattle.groups.proofs.forest.find.Given as goal

abbrev pub invariant-loop-next : goal.invariant-loop-next
invariant-loop-next l =
    Walk l.initial.parents l.parents l.x l.y l.up l.next

abbrev pub decreases-loop-next : goal.decreases-loop-next
decreases-loop-next l =
    l.y
