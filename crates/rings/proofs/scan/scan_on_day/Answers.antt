use Rattle.rings.proofs.DayScanLaws.{day_scan_start, day_scan_out, day_scan_most, day_scan_few}
use Rattle.rings.proofs.DayScanLaws.{day_scan_over, day_scan_mark}
use Rattle.rings.proofs.PrunedLaws.{reading_few, reading_stands}
use Rattle.rings.proofs.IncidentLaws.{stands_place, row_known, same_day}
use mathlib.Core.Logic.{⊎_elim}
use native.Mathlib.Omega.{arith}
use Rattle.rings.proofs.scan.scan_on_day.Goals as goal

pub entry-last-requires : goal.entry-last-requires
entry-last-requires c = omega (arith, c.requires.lent.small, c.requires.lent.opened.pruned.long)

pub loop-p-init : goal.loop-p-init
loop-p-init c =
    record {
      day_scan = day_scan_start _ _ _ _ _ c.requires.lent.opened _ c.requires.lent.long c.requires.lent.days c.requires.lent.small
          c.requires.in_range c.requires.every c.requires.lent.reading;
      few =
          omega (
            arith,
            c.requires.lent.reading.to,
            (c.requires.lent.opened.pruned.pruned_list _ c.requires.lent.small).to,
            c.requires.lent.opened.sound.most,
          );
    }

pub day_at-day-requires : goal.day_at-day-requires
day_at-day-requires c =
    stands_place (
    reading_stands _ _ _ _ c.requires.lent.opened.sound c.requires.lent.opened.pruned c.requires.lent.small
    c.loop-p.invariant.day_scan.reading c.entry-last.ensures c.loop-p-test.true
    )

pub overflow_sub-result : goal.overflow_sub-result
overflow_sub-result c = omega (arith, c.loop-p.auto.p)

pub returns-then-is_over : goal.returns-then-is_over
returns-then-is_over c =
    let row =
    row_known (reading_stands _ _ _ _ c.requires.lent.opened.sound c.requires.lent.opened.pruned c.requires.lent.small
    c.loop-p.invariant.day_scan.reading c.entry-last.ensures c.loop-p-test.true) _ c.day_at-day.ensures
    in
    record {
      scanned = day_scan_over _ _ _ _ _ c.requires.lent.opened _ c.requires.lent.long c.requires.lent.days c.requires.lent.small
          c.requires.in_range c.requires.every c.loop-p.invariant.day_scan
          c.entry-last.ensures c.loop-p-test.true row (c.is_over.ensures.yes c.if-is_over.true);
      short_walk = omega (arith, c.loop-p.invariant.few);
      few = day_scan_most _ _ _ _ _ c.requires.lent.opened _ c.requires.lent.long c.requires.lent.days c.requires.lent.small
          c.requires.in_range c.requires.every c.loop-p.invariant.day_scan
          c.entry-last.ensures;
    }

pub row_at-here-requires : goal.row_at-here-requires
row_at-here-requires c =
    reading_stands _ _ _ _ c.requires.lent.opened.sound c.requires.lent.opened.pruned c.requires.lent.small
    c.loop-p.invariant.day_scan.reading c.entry-last.ensures c.loop-p-test.true

pub offset_bounds-times-v : goal.offset_bounds-times-v
offset_bounds-times-v c = omega (arith, c.row_at-here.ensures.small)

pub bounds-times-v : goal.bounds-times-v
bounds-times-v c = omega (arith, c.row_at-here.ensures.small, c.requires.lent.long)

pub note_row-noted-requires : goal.note_row-noted-requires
note_row-noted-requires c =
    day_scan_few _ _ _ _ _ c.requires.lent.opened _ c.requires.lent.long c.requires.lent.days c.requires.lent.small
    c.requires.in_range c.requires.every c.loop-p.invariant.day_scan
    c.entry-last.ensures c.loop-p-test.true c.row_at-here.ensures

pub loop-p-preserved : goal.loop-p-preserved
loop-p-preserved c =
    let day = same_day c.row_at-here.ensures c.day_at-day.ensures in
    record {
      day_scan = day_scan_mark _ _ _ _ _ c.requires.lent.opened _ c.requires.lent.long c.requires.lent.days c.requires.lent.small
          c.requires.in_range c.requires.every c.loop-p.invariant.day_scan
          c.entry-last.ensures c.loop-p-test.true c.row_at-here.ensures
          (⊎_elim (λ h. omega (arith, h, c.requires.in_range, day)) (λ h. omega (arith, h, day))
          (c.is_over.ensures.not c.if-is_over.false))
          c.max-z.ensures
          c.pick.ensures c.note_row-noted.ensures;
      few = omega (
        arith,
        reading_few _ _ _ _ c.requires.lent.opened.sound c.requires.lent.opened.pruned c.requires.lent.small
            c.loop-p.invariant.day_scan.reading c.entry-last.ensures
            c.loop-p-test.true,
      );
    }

pub overflow_sub-result-2 : goal.overflow_sub-result-2
overflow_sub-result-2 c = omega (arith, c.loop-p.auto.p)

pub returns : goal.returns
returns c =
    record {
      scanned = day_scan_out _ _ _ _ _ c.requires.lent.opened _ c.requires.lent.long c.requires.lent.days c.requires.lent.small
          c.requires.in_range c.requires.every c.loop-p.invariant.day_scan
          c.entry-last.ensures c.loop-p-test.false;
      short_walk = omega (arith, c.loop-p.invariant.few);
      few = day_scan_most _ _ _ _ _ c.requires.lent.opened _ c.requires.lent.long c.requires.lent.days c.requires.lent.small
          c.requires.in_range c.requires.every c.loop-p.invariant.day_scan
          c.entry-last.ensures;
    }
