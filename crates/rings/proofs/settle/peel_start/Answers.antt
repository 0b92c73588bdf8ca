use native.Mathlib.Omega.{arith}
use Rattle.rings.proofs.SettleStartLaws.{slack_ones}
use Rattle.rings.proofs.settle.peel_start.Goals as goal

pub peel-requires : goal.peel-requires
peel-requires c =
    record {
      ready = c.requires.ready;
      span = c.requires.span;
      peel_buffers = record { times = c.requires.times_long; left = c.requires.slack_long; queue = omega (arith, c.requires.queue_long) };
    }

pub returns : goal.returns
returns c =
    record {
      times_are = c.peel.ensures;
      slacks =
          slack_ones _ _ _ _ _ _ _ c.requires.ready.setting c.peel.ensures c.reset_slack.ensures.long
          c.reset_slack.ensures.each;
    }
