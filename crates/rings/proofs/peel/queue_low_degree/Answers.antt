use native.Mathlib.Omega.{arith}
use Rattle.rings.proofs.PeelStartLaws.{low_degree_start, low_degree_end, low_degree_small, low_degree_room}
use Rattle.rings.proofs.PeelStartLaws.{low_degree_left, low_degree_keep, low_degree_removal}
use Rattle.rings.proofs.peel.queue_low_degree.Goals as goal
use Rattle.rings.proofs.peel.queue_low_degree.Goals.{then-left-u, else-left-u}

pub loop-u-init : goal.loop-u-init
loop-u-init c = low_degree_start _ _ _ _ _ c.requires.ready c.requires.peel_state_of

pub offset_bounds-left-u : goal.offset_bounds-left-u
offset_bounds-left-u c = omega (arith, c.loop-u-test.true)

pub bounds-left-u : goal.bounds-left-u
bounds-left-u c = low_degree_left _ _ _ _ _ c.requires.ready c.loop-u.invariant c.loop-u-test.true

pub put-requires : goal.put-requires
put-requires c =
    record { place = (low_degree_room _ _ _ _ _ c.requires.ready c.loop-u.invariant c.loop-u-test.true).1; number = omega arith }

pub put-requires-then-left-u : goal.put-requires-then-left-u
put-requires-then-left-u c =
    record {
      place = (low_degree_room _ _ _ _ _ c.requires.ready c.loop-u.invariant c.loop-u-test.true).0;
      number = omega (arith, c.loop-u-test.true);
    }

pub overflow_add-tail : goal.overflow_add-tail
overflow_add-tail c =
    let small = low_degree_small _ _ _ _ _ c.requires.ready c.loop-u.invariant c.loop-u-test.true in omega (arith, small)

pub loop-u-preserved : goal.loop-u-preserved
loop-u-preserved c =
    elim c.if-left-u.branch [
      | then-left-u w ↦ rw w.times-is (
          rw w.queue-is (
          rw w.tail-is (
          low_degree_removal _ _ _ _ _ c.requires.ready c.loop-u.invariant c.loop-u-test.true w.if-left-u.true
          w.put.ensures w.put-then-left-u.ensures
          )
          )
          )
      | else-left-u w ↦ rw w.times-is (
          rw w.queue-is (
          rw w.tail-is (
          low_degree_keep _ _ _ _ _ c.requires.ready c.loop-u.invariant c.loop-u-test.true w.if-left-u.false
          )
          )
          )
    ]

pub shape_of-times : goal.shape_of-times
shape_of-times c = c.loop-u.invariant.times_length

pub shape_of-queue : goal.shape_of-queue
shape_of-queue c = c.loop-u.invariant.queue_length

pub returns : goal.returns
returns c = low_degree_end _ _ _ _ _ c.requires.ready c.loop-u.invariant c.loop-u-test.false
