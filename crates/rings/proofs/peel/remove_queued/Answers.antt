use native.Mathlib.Omega.{arith}
use Rattle.rings.proofs.PeelLoopLaws.{tail_most, remove_queued_start, remove_queued_next}
use Rattle.rings.proofs.PeelLoopLaws.{remove_queued_end}
use Rattle.rings.proofs.peel.remove_queued.Goals as goal

pub loop-state-init : goal.loop-state-init
loop-state-init c = remove_queued_start _ _ _ _ _ c.requires.ready c.requires.peel_state_of

pub remove_account-state-requires : goal.remove_account-state-requires
remove_account-state-requires c =
    record {
      ready = c.requires.ready;
      head_waits = record { state = c.loop-state.invariant.goes_on.state; some = c.loop-state-test.true };
    }

pub loop-state-smaller : goal.loop-state-smaller
loop-state-smaller c =
    omega (arith, c.loop-state-test.true, tail_most _ _ _ _ _ c.requires.ready c.loop-state.invariant.goes_on.state, c.remove_account-state.ensures.head)

pub loop-state-preserved : goal.loop-state-preserved
loop-state-preserved c =
    remove_queued_next _ _ _ _ _ c.requires.ready c.loop-state.invariant c.remove_account-state.auto.times
    c.remove_account-state.auto.left
    c.remove_account-state.auto.queue c.remove_account-state.ensures

pub shape_of-times : goal.shape_of-times
shape_of-times c = c.loop-state.invariant.lengths.times

pub shape_of-left : goal.shape_of-left
shape_of-left c = c.loop-state.invariant.lengths.left

pub shape_of-queue : goal.shape_of-queue
shape_of-queue c = c.loop-state.invariant.lengths.queue

pub returns : goal.returns
returns c = remove_queued_end _ _ _ _ _ c.requires.ready c.loop-state.invariant c.loop-state-test.false
