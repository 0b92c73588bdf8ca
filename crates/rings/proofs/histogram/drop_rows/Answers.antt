use native.Mathlib.Omega.{arith}
use mathlib.Core.Path.{sym, ◌∙◌}
use Rattle.rings.proofs.DropRowLaws.{drop_from, drop_start, drop_asks, drop_next, drop_end}
use Rattle.rings.proofs.histogram.drop_rows.Goals as goal

pub loop-j-init : goal.loop-j-init
loop-j-init c =
    drop_start _ _ _ _ _ _ _ c.requires.count_asks.known.framed.setting c.requires.count_asks.known.times_are c.requires.drop_asks.follows
    (
    drop_from _ _ _ _ _ _ _ c.requires.count_asks.known.framed.setting c.requires.count_asks.known.times_are
    c.requires.drop_asks.follows
    (omega (arith, c.requires.count_asks.known.span.ordered, c.requires.count_asks.known.span.within))
    ) c.requires.drop_asks.timed

pub row_time-time-requires : goal.row_time-time-requires
row_time-time-requires c =
    record {
      times_known = c.requires.count_asks.known;
      j_in_bounds = omega (arith, c.loop-j-test.true, c.requires.drop_asks.follows.within);
    }

pub drop_count-requires : goal.drop_count-requires
drop_count-requires c =
    drop_asks _ _ _ _ _ _ _ c.requires.count_asks.known.framed.setting c.requires.count_asks.known.times_are c.requires.drop_asks.follows
    c.loop-j-test.true c.requires.count_asks.in_days
    c.row_time-time.ensures c.loop-j.invariant

pub loop-j-preserved : goal.loop-j-preserved
loop-j-preserved c =
    drop_next _ _ _ _ _ _ _ c.requires.count_asks.known.framed.setting c.requires.count_asks.known.times_are c.requires.drop_asks.follows
    c.loop-j-test.true c.requires.count_asks.in_days
    c.row_time-time.ensures c.loop-j.invariant c.drop_count.ensures

pub shape_of-counts : goal.shape_of-counts
shape_of-counts c = c.loop-j.invariant.long ∙ sym c.requires.drop_asks.timed.long

pub returns : goal.returns
returns c =
    drop_end _ _ _ _ _ _ _ c.requires.count_asks.known.framed.setting c.requires.count_asks.known.times_are c.requires.drop_asks.follows
    c.loop-j-test.false c.loop-j.invariant
