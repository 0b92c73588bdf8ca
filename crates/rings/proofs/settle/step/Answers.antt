use mathlib.Core.Path.{refl}
use native.Mathlib.Omega.{arith}
use Rattle.rings.proofs.SettleStartLaws.{core_days, split_rises, settle_start}
use Rattle.rings.proofs.DayLaws.{span_after}
use Rattle.rings.proofs.WorklistLaws.{step_placed}
use Rattle.rings.proofs.settle.step.Goals as goal

pub drop_leaving_rows-requires : goal.drop_leaving_rows-requires
drop_leaving_rows-requires g c =
    let placed = step_placed c.requires in
    record {
      drop_leaving_asks = record {
        placed = placed;
        times_long = c.requires.times_are.long;
        days = core_days _ _ _ _ _ _ _ placed.setting c.requires.times_are;
        slack_long = c.requires.slacks.long;
        queue_long = c.requires.queue_long;
      };
      leaving_rows = record { order = split_rises c.requires.starts c.requires.follows; within = c.requires.follows.within };
    }

pub returns-in_err-waiting : goal.returns-in_err-waiting
returns-in_err-waiting g c = rw c.from_residual.ensures (record { same = λ y. refl })

pub overflow_sub-budget : goal.overflow_sub-budget
overflow_sub-budget g c = (span_after (omega (arith, c.requires.ordered)) c.requires.follows c.requires.ends).ordered

pub next_frame-after-requires : goal.next_frame-after-requires
next_frame-after-requires g c = omega (arith, c.requires.ordered, c.requires.in_days)

pub settle-requires : goal.settle-requires
settle-requires g c =
    let placed = step_placed c.requires in
    let left = rw c.in_ok-waiting.was at c.drop_leaving_rows.ensures in
    rw c.next_frame-after.ensures (record {
      opened = c.requires.opened;
      covered = c.requires.covered;
      bounded = omega (arith, c.requires.ends.within, c.requires.opened.sound.most);
      within = left.within;
      rising =
          settle_start _ _ _ _ _ _ _ placed.setting c.requires.opened.setting
          (split_rises c.requires.starts c.requires.follows)
          c.requires.follows.within c.requires.times_are c.requires.slacks left.leaving left.queued left.within;
      counted = λ y. record { in_days = c.requires.in_days; counts_are = c.requires.counted y };
    })

pub returns : goal.returns
returns g c = rw c.next_frame-after.ensures at c.settle.ensures
