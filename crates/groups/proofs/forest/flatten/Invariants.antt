-- `forest::flatten` meets its contract. The loop's invariant: each account below x has its leader for a parent.
-- Assumes nothing.
use Rattle.groups.proofs.ForestLaws.{Flat}
use Rattle.groups.proofs.forest.flatten.Given as goal

abbrev pub invariant-loop-x : goal.invariant-loop-x
invariant-loop-x l =
    Flat l.x l.initial.parents l.parents
