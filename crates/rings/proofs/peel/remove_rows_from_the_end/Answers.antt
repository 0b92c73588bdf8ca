use native.Mathlib.Omega.{arith}
use Rattle.rings.proofs.PeelLoopLaws.{removing_rows_start, removing_rows_asks, removing_rows_next, removing_rows_end}
use Rattle.rings.proofs.peel.remove_rows_from_the_end.Goals as goal

pub loop-j-init : goal.loop-j-init
loop-j-init c = removing_rows_start _ _ _ _ _ c.requires.ready c.requires.row_removal

pub remove_row-tail-requires : goal.remove_row-tail-requires
remove_row-tail-requires c =
    record {
      ready = c.requires.ready;
      row_removable = removing_rows_asks _ _ _ _ _ c.requires.ready c.loop-j.invariant c.loop-j-test.true;
    }

pub loop-j-smaller : goal.loop-j-smaller
loop-j-smaller c = omega (arith, c.loop-j-test.true)

pub loop-j-preserved : goal.loop-j-preserved
loop-j-preserved c =
    removing_rows_next _ _ _ _ _ c.requires.ready c.loop-j.invariant c.remove_row-tail.auto.times
    c.remove_row-tail.auto.left
    c.remove_row-tail.auto.queue c.remove_row-tail.ensures

pub shape_of-times : goal.shape_of-times
shape_of-times c = c.loop-j.invariant.lengths.times

pub shape_of-left : goal.shape_of-left
shape_of-left c = c.loop-j.invariant.lengths.left

pub shape_of-queue : goal.shape_of-queue
shape_of-queue c = c.loop-j.invariant.lengths.queue

pub returns : goal.returns
returns c = removing_rows_end _ _ _ _ _ c.requires.ready c.loop-j.invariant c.loop-j-test.false
