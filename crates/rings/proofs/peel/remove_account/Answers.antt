use native.Mathlib.Omega.{arith}
use Rattle.rings.proofs.RemoveAccountLaws.{head_small, head_place, removing_small}
use Rattle.rings.proofs.RemoveAccountLaws.{removing_start, removing_stands, removing_stop}
use Rattle.rings.proofs.RemoveAccountLaws.{removing_out, removing_room, removing_drop, removing_skip}
use Rattle.rings.proofs.peel.remove_account.Goals as goal
use Rattle.rings.proofs.peel.remove_account.Goals.{then-frame-j, else-frame-j}

pub entry-u-requires : goal.entry-u-requires
entry-u-requires c = head_place _ _ _ _ _ c.requires.ready c.requires.head_waits

pub entry-end-requires : goal.entry-end-requires
entry-end-requires c =
    omega (arith, removing_small _ _ _ _ _ c.requires.ready c.requires.head_waits c.entry-u.ensures, c.requires.ready.adjacency.long)

pub overflow_add-u : goal.overflow_add-u
overflow_add-u c = omega (arith, removing_small _ _ _ _ _ c.requires.ready c.requires.head_waits c.entry-u.ensures)

pub loop-p-init : goal.loop-p-init
loop-p-init c =
    removing_start _ _ _ _ _ c.requires.ready c.requires.head_waits c.entry-u.ensures c.entry-end.ensures c.entry-head.ensures

pub row_at-here-requires : goal.row_at-here-requires
row_at-here-requires c = removing_stands _ _ _ _ _ c.requires.ready c.loop-p.invariant c.loop-p-test.true

pub overflow_add-result : goal.overflow_add-result
overflow_add-result c = omega (arith, head_small _ _ _ _ _ c.requires.ready c.requires.head_waits)

pub shape_of-times-then-removal-j : goal.shape_of-times-then-removal-j
shape_of-times-then-removal-j c = c.loop-p.invariant.lengths.times

pub shape_of-left-then-removal-j : goal.shape_of-left-then-removal-j
shape_of-left-then-removal-j c = c.loop-p.invariant.lengths.left

pub shape_of-queue-then-removal-j : goal.shape_of-queue-then-removal-j
shape_of-queue-then-removal-j c = c.loop-p.invariant.lengths.queue

pub returns-then-removal-j : goal.returns-then-removal-j
returns-then-removal-j c =
    removing_stop _ _ _ _ _ c.requires.ready c.loop-p.invariant c.loop-p-test.true c.row_at-here.ensures c.if-removal-j.true

pub drop_neighbour-tail-requires : goal.drop_neighbour-tail-requires
drop_neighbour-tail-requires c =
    removing_room _ _ _ _ _ c.requires.ready c.loop-p.invariant c.loop-p-test.true c.row_at-here.ensures c.if-removal-j.false c.if-frame-j.true

pub loop-p-preserved : goal.loop-p-preserved
loop-p-preserved c =
    elim c.if-frame-j.branch [
      | then-frame-j w ↦ rw w.times-is (
          rw w.left-is (
          rw w.queue-is (
          rw w.tail-is (
          removing_drop _ _ _ _ _ c.requires.ready c.loop-p.invariant c.loop-p-test.true c.row_at-here.ensures
          c.if-removal-j.false w.if-frame-j.true w.drop_neighbour-tail.auto.times w.drop_neighbour-tail.auto.left
          w.drop_neighbour-tail.auto.queue w.drop_neighbour-tail.ensures
          )
          )
          )
          )
      | else-frame-j w ↦ rw w.times-is (
          rw w.left-is (
          rw w.queue-is (
          rw w.tail-is (
          removing_skip _ _ _ _ _ c.requires.ready c.loop-p.invariant c.loop-p-test.true c.row_at-here.ensures
          w.if-frame-j.false
          )
          )
          )
          )
    ]

pub overflow_add-result-2 : goal.overflow_add-result-2
overflow_add-result-2 c = omega (arith, head_small _ _ _ _ _ c.requires.ready c.requires.head_waits)

pub shape_of-times : goal.shape_of-times
shape_of-times c = c.loop-p.invariant.lengths.times

pub shape_of-left : goal.shape_of-left
shape_of-left c = c.loop-p.invariant.lengths.left

pub shape_of-queue : goal.shape_of-queue
shape_of-queue c = c.loop-p.invariant.lengths.queue

pub returns : goal.returns
returns c = removing_out _ _ _ _ _ c.requires.ready c.loop-p.invariant c.loop-p-test.false
