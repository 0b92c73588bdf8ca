-- `forest::join` meets its contract: two walks, the join of two roots, two pointings.
-- Assumes nothing.
use Rattle.groups.proofs.ForestLaws.{joins_of}
use Rattle.groups.proofs.forest.join.Goals as goal

pub returns : goal.returns
returns c =
    joins_of c.requires.a_bound c.requires.b_bound c.find-x.ensures c.find-y.ensures c.min-root.ensures c.max.ensures
    c.point.ensures c.point-2.ensures
