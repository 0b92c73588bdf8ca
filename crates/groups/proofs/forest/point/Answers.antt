-- `forest::point` meets its contract where it writes; where it doesn't, nothing changes.
-- Assumes nothing.
use Rattle.groups.proofs.ForestLaws.{points_set}
use Rattle.groups.proofs.forest.point.Goals as goal

pub returns-then-was-root : goal.returns-then-was-root
returns-then-was-root c = points_set c.requires.forest c.requires.x_bound c.requires.root_le_x
