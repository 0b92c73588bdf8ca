use native.Mathlib.Omega.{arith}
use mathlib.Core.Path.{sym, ◌∙◌}
use Rattle.rings.proofs.CountingLaws.{is_time, hist_start, hist_few, hist_next, hist_past}
use Rattle.rings.proofs.CoreTimeLaws.{row_before}
use Rattle.rings.proofs.TimeLaws.{row_late}
use Rattle.rings.proofs.histogram.count_times.Goals as goal

pub loop-j-init : goal.loop-j-init
loop-j-init c =
    hist_start _ _ _ c.requires.counts_len (c.fill.ensures.after (λ y e. e))
    (λ j h. row_before _ _ _ _ j (c.requires.count_asks.known.framed.setting.before_lo j h))

pub row_time-time-requires : goal.row_time-time-requires
row_time-time-requires c =
    record {
      times_known = c.requires.count_asks.known;
      j_in_bounds = omega (arith, c.loop-j-test.true, c.requires.count_asks.known.span.within);
    }

pub add_count-requires : goal.add_count-requires
add_count-requires c =
    hist_few _ c.loop-j.invariant
    (omega (arith, c.loop-j-test.true, c.requires.count_asks.known.span.within, c.requires.count_asks.known.framed.sound.most))
    (is_time _ _ _ _ _ c.requires.count_asks.in_days c.row_time-time.ensures)

pub loop-j-preserved : goal.loop-j-preserved
loop-j-preserved c = hist_next _ c.loop-j.invariant c.row_time-time.ensures c.add_count.ensures

pub shape_of-counts : goal.shape_of-counts
shape_of-counts c = c.loop-j.invariant.long ∙ sym c.requires.counts_len

pub returns : goal.returns
returns c =
    hist_past _ c.loop-j.invariant (omega (arith, c.loop-j.auto.j-end, c.requires.count_asks.known.span.within))
    (λ j a b. sym (row_late _ _ _ _ c.requires.count_asks.known b (omega (arith, a, c.loop-j-test.false))))
