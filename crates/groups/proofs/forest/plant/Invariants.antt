-- `forest::plant` meets its contract. The loop's invariant: each account below x is its own parent.
-- Assumes nothing.
use Rattle.groups.proofs.ForestLaws.{Planting}
use Rattle.groups.proofs.forest.plant.Given as goal

abbrev pub invariant-loop-x : goal.invariant-loop-x
invariant-loop-x l =
    Planting l.x l.parents
