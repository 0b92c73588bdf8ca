use native.Mathlib.Omega.{arith}
use Rattle.rings.proofs.DayLaws.{span_of}
use Rattle.rings.proofs.SettleStartLaws.{split_rises}
use Rattle.rings.proofs.StartsLaws.{least_start, least_next, least_end}
use Rattle.rings.proofs.starts.first_time.Goals as goal

pub loop-j-init : goal.loop-j-init
loop-j-init c = least_start _ _

pub row_time-time-requires : goal.row_time-time-requires
row_time-time-requires c =
    record {
      times_known = record {
        framed = c.requires.times_at.inside.0;
        span = span_of c.requires.start_asks.ordered c.requires.start_asks.starts c.requires.start_asks.ends;
        times_are = c.requires.times_at.inside.1;
      };
      j_in_bounds = omega (arith, c.loop-j-test.true, c.requires.start_asks.follows.within);
    }

pub loop-j-preserved : goal.loop-j-preserved
loop-j-preserved c = least_next c.loop-j.auto.j c.loop-j.invariant c.row_time-time.ensures c.min-least.ensures

pub returns : goal.returns
returns c =
    least_end c.requires.times_at.inside.0 c.requires.start_asks.follows
    (c.loop-j.auto.j-end (split_rises c.requires.start_asks.starts c.requires.start_asks.follows))
    c.loop-j-test.false c.loop-j.invariant
