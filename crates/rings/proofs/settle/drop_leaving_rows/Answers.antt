use native.Mathlib.Omega.{arith}
use Rattle.rings.proofs.SupporterLaws.{queued_start, queued_then}
use Rattle.rings.proofs.LeavingLaws.{leaving_start, leaving_last}
use mathlib.Core.Path.{sym, ◌∙◌}
use Rattle.rings.proofs.settle.drop_leaving_rows.Goals as goal

pub loop-j-init : goal.loop-j-init
loop-j-init c = (
  omega arith,
  queued_start _ _ _ c.requires.drop_leaving_asks.queue_long,
  leaving_start _ _ _ _ _ c.requires.drop_leaving_asks.placed.setting _ c.requires.drop_leaving_asks.times_long
      c.requires.drop_leaving_asks.days _ c.requires.drop_leaving_asks.slack_long,
)

pub drop_leaving_row-requires : goal.drop_leaving_row-requires
drop_leaving_row-requires c =
    record {
      drop_leaving_asks = record {
        placed = c.requires.drop_leaving_asks.placed;
        times_long = c.requires.drop_leaving_asks.times_long;
        days = c.requires.drop_leaving_asks.days;
        slack_long = c.loop-j.invariant.2.long;
        queue_long = c.loop-j.invariant.1.long;
      };
      j_in_bounds = omega (arith, c.loop-j-test.true, c.requires.leaving_rows.within);
    }

pub returns-in_err-tail : goal.returns-in_err-tail
returns-in_err-tail c = rw c.from_residual.ensures tt

pub loop-j-preserved : goal.loop-j-preserved
loop-j-preserved c =
    let left = rw c.in_ok-tail.was at c.drop_leaving_row.ensures in (
      left.within,
      queued_then c.loop-j.invariant.1 left.queued,
      left.leaving _ c.loop-j.invariant.2,
    )

pub shape_of-slack : goal.shape_of-slack
shape_of-slack c = c.loop-j.invariant.2.long ∙ sym c.requires.drop_leaving_asks.slack_long

pub shape_of-queue : goal.shape_of-queue
shape_of-queue c = c.loop-j.invariant.1.long ∙ sym c.requires.drop_leaving_asks.queue_long

pub returns : goal.returns
returns c =
    record {
      within = c.loop-j.invariant.0;
      queued = c.loop-j.invariant.1;
      leaving = leaving_last c.loop-j.invariant.2 (c.loop-j.auto.j-end c.requires.leaving_rows.order) c.loop-j-test.false;
    }
