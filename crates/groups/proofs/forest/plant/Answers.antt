use Rattle.std.proofs.Common.{rules}
use Rattle.groups.proofs.ForestLaws.{plant_start, plant_next, plant_end}
use Rattle.groups.proofs.forest.plant.Goals as goal

pub loop-x-init : goal.loop-x-init
loop-x-init c = plant_start (search rules)

pub loop-x-preserved : goal.loop-x-preserved
loop-x-preserved c = plant_next c.loop-x.invariant c.loop-x-test.true

pub returns : goal.returns
returns c = plant_end c.loop-x.invariant c.loop-x-test.false
