use Rattle.groups.proofs.ForestLaws.{flat_start, flat_next, flat_end}
use Rattle.groups.proofs.forest.flatten.Goals as goal

pub loop-x-init : goal.loop-x-init
loop-x-init c = flat_start (c.requires)

pub loop-x-preserved : goal.loop-x-preserved
loop-x-preserved c = flat_next c.loop-x.invariant c.loop-x-test.true c.parent-up.ensures.value c.parent.ensures.value

pub returns : goal.returns
returns c = flat_end c.loop-x.invariant c.loop-x-test.false
