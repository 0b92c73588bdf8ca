use Rattle.groups.proofs.ForestLaws.{walk_start, walk_step, walk_end}
use Rattle.groups.proofs.forest.find.Goals as goal

pub loop-next-init : goal.loop-next-init
loop-next-init c = walk_start c.requires.forest c.parent-up.ensures.value c.parent-next.ensures.value

pub loop-next-preserved : goal.loop-next-preserved
loop-next-preserved c =
    walk_step c.loop-next.invariant c.requires.x_bound c.loop-next-test.true c.parent-up-in-loop-next.ensures.value c.parent-next-in-loop-next.ensures.value

pub returns : goal.returns
returns c = walk_end c.loop-next.invariant c.requires.x_bound c.loop-next-test.false
