use Rattle.rings.proofs.RiseScanLaws.{as_day_scan, rise_scan_start, rise_scan_out, rise_scan_few}
use Rattle.rings.proofs.RiseScanLaws.{rise_scan_over, rise_scan_next}
use Rattle.rings.proofs.ChoiceLaws.{picked_most, picked_as}
use Rattle.rings.proofs.DayScanLaws.{day_scan_out, day_scan_most, day_scan_few, day_scan_over}
use Rattle.rings.proofs.PrunedLaws.{reading_few, reading_stands}
use Rattle.rings.proofs.IncidentLaws.{stands_place, row_known, same_day}
use mathlib.Core.Logic.{⊎_elim}
use mathlib.Core.Path.{refl, ◌∙◌, sym}
use native.Mathlib.Nat.{le_refl}
use native.Mathlib.Omega.{arith}
use Rattle.rings.proofs.scan.scan_for_rise.Goals as goal

pub entry-last-requires : goal.entry-last-requires
entry-last-requires c = omega (arith, c.requires.scan_on.lent.small, c.requires.scan_on.lent.opened.pruned.long)

pub loop-p-init : goal.loop-p-init
loop-p-init c =
    record {
      rise_scan =
          rise_scan_start _ _ _ _ _ c.requires.scan_on.lent.opened _ c.requires.scan_on.lent.long c.requires.scan_on.lent.days
          c.requires.scan_on.lent.small
          c.requires.scan_on.in_range c.requires.scan_on.every _
          _ c.requires.room_behind.long c.requires.scan_on.lent.reading;
      few = omega (
        arith,
        c.requires.scan_on.lent.reading.to,
        (c.requires.scan_on.lent.opened.pruned.pruned_list _ c.requires.scan_on.lent.small
            ).to,
        c.requires.scan_on.lent.opened.sound.most,
      );
      room = le_refl _;
    }

pub day_at-day-requires : goal.day_at-day-requires
day_at-day-requires c =
    stands_place (
    reading_stands _ _ _ _ c.requires.scan_on.lent.opened.sound c.requires.scan_on.lent.opened.pruned c.requires.scan_on.lent.small
    c.loop-p.invariant.rise_scan.reading c.entry-last.ensures c.loop-p-test.true
    )

pub overflow_sub-result : goal.overflow_sub-result
overflow_sub-result c = omega (arith, c.loop-p.auto.p)

pub shape_of-queue-then-is_over : goal.shape_of-queue-then-is_over
shape_of-queue-then-is_over c = c.loop-p.invariant.rise_scan.behind.long ∙ sym c.requires.room_behind.long

pub returns-then-is_over : goal.returns-then-is_over
returns-then-is_over c =
    let row =
    row_known (reading_stands _ _ _ _ c.requires.scan_on.lent.opened.sound c.requires.scan_on.lent.opened.pruned
    c.requires.scan_on.lent.small
    c.loop-p.invariant.rise_scan.reading c.entry-last.ensures c.loop-p-test.true) _ c.day_at-day.ensures
    in
    record {
      found =
          record {
            scanned =
                day_scan_over _ _ _ _ _ c.requires.scan_on.lent.opened _ c.requires.scan_on.lent.long c.requires.scan_on.lent.days
                c.requires.scan_on.lent.small
                c.requires.scan_on.in_range c.requires.scan_on.every
                (as_day_scan c.loop-p.invariant.rise_scan) c.entry-last.ensures c.loop-p-test.true row
                (c.is_over.ensures.yes c.if-is_over.true);
            short_walk = omega (arith, c.loop-p.invariant.few);
            few =
                day_scan_most _ _ _ _ _ c.requires.scan_on.lent.opened _ c.requires.scan_on.lent.long c.requires.scan_on.lent.days
                c.requires.scan_on.lent.small
                c.requires.scan_on.in_range c.requires.scan_on.every
                (as_day_scan c.loop-p.invariant.rise_scan) c.entry-last.ensures;
          };
      within = omega (arith, c.requires.room_behind.room, c.entry-last.ensures, c.loop-p.invariant.room, c.loop-p-test.true);
      rise_scanned = λ few.
          rise_scan_over _ _ _ _ _ c.requires.scan_on.lent.opened _ c.requires.scan_on.lent.long c.requires.scan_on.lent.days
          c.requires.scan_on.lent.small
          c.requires.scan_on.in_range c.requires.scan_on.every _ _
          c.loop-p.invariant.rise_scan c.entry-last.ensures c.loop-p-test.true row (c.is_over.ensures.yes c.if-is_over.true) few;
      behind = c.loop-p.invariant.rise_scan.behind;
    }

pub row_at-here-requires : goal.row_at-here-requires
row_at-here-requires c =
    reading_stands _ _ _ _ c.requires.scan_on.lent.opened.sound c.requires.scan_on.lent.opened.pruned c.requires.scan_on.lent.small
    c.loop-p.invariant.rise_scan.reading c.entry-last.ensures c.loop-p-test.true

pub offset_bounds-times-v : goal.offset_bounds-times-v
offset_bounds-times-v c = omega (arith, c.row_at-here.ensures.small)

pub bounds-times-v : goal.bounds-times-v
bounds-times-v c = omega (arith, c.row_at-here.ensures.small, c.requires.scan_on.lent.long)

pub put-requires : goal.put-requires
put-requires c =
    record {
      place = omega (
        arith,
        c.requires.room_behind.long,
        c.requires.room_behind.room,
        c.entry-last.ensures,
        c.loop-p.invariant.rise_scan.behind.long,
        c.loop-p.invariant.room,
        c.loop-p-test.true,
      );
      number = omega (arith, c.row_at-here.ensures.small);
    }

pub overflow_add-end : goal.overflow_add-end
overflow_add-end c =
    omega (
      arith,
      picked_most c.one.ensures,
      c.wide-end.ensures,
      c.requires.room_behind.room,
      c.entry-last.ensures,
      c.loop-p.invariant.room,
      c.loop-p-test.true,
    )

pub overflow_add-moved : goal.overflow_add-moved
overflow_add-moved c =
    omega (
      arith,
      picked_most c.one-moved.ensures,
      rise_scan_few _ _ _ _ _ c.requires.scan_on.lent.opened _ c.requires.scan_on.lent.long c.requires.scan_on.lent.days
          c.requires.scan_on.lent.small
          c.requires.scan_on.in_range c.requires.scan_on.every _ _
          c.loop-p.invariant.rise_scan c.entry-last.ensures c.loop-p-test.true c.row_at-here.ensures,
    )

pub note_row-noted-requires : goal.note_row-noted-requires
note_row-noted-requires c =
    day_scan_few _ _ _ _ _ c.requires.scan_on.lent.opened _ c.requires.scan_on.lent.long c.requires.scan_on.lent.days
    c.requires.scan_on.lent.small c.requires.scan_on.in_range c.requires.scan_on.every
    (as_day_scan c.loop-p.invariant.rise_scan) c.entry-last.ensures c.loop-p-test.true c.row_at-here.ensures

pub loop-p-preserved : goal.loop-p-preserved
loop-p-preserved c =
    let day = same_day c.row_at-here.ensures c.day_at-day.ensures in
    record {
      rise_scan =
          rise_scan_next _ _ _ _ _ c.requires.scan_on.lent.opened _ c.requires.scan_on.lent.long c.requires.scan_on.lent.days
          c.requires.scan_on.lent.small
          c.requires.scan_on.in_range c.requires.scan_on.every _ _
          c.loop-p.invariant.rise_scan c.entry-last.ensures c.loop-p-test.true c.row_at-here.ensures
          (⊎_elim (λ h. omega (arith, h, c.requires.scan_on.in_range, day)) (λ h. omega (arith, h, day))
          (c.is_over.ensures.not c.if-is_over.false))
          refl
          c.max-z.ensures c.note_row-noted.ensures c.one-moved.ensures
          (omega (
            arith,
            c.requires.room_behind.long,
            c.requires.room_behind.room,
            c.entry-last.ensures,
            c.loop-p.invariant.rise_scan.behind.long,
            c.loop-p.invariant.room,
            c.loop-p-test.true,
          ))
          c.put.ensures (picked_as c.wide-end.ensures c.one.ensures);
      few = omega (
        arith,
        reading_few _ _ _ _ c.requires.scan_on.lent.opened.sound c.requires.scan_on.lent.opened.pruned c.requires.scan_on.lent.small
            c.loop-p.invariant.rise_scan.reading
            c.entry-last.ensures c.loop-p-test.true,
      );
      room = omega (arith, c.loop-p.invariant.room, picked_most c.one.ensures, c.wide-end.ensures);
    }

pub overflow_sub-result-2 : goal.overflow_sub-result-2
overflow_sub-result-2 c = omega (arith, c.loop-p.auto.p)

pub shape_of-queue : goal.shape_of-queue
shape_of-queue c = c.loop-p.invariant.rise_scan.behind.long ∙ sym c.requires.room_behind.long

pub returns : goal.returns
returns c =
    record {
      found =
          record {
            scanned =
                day_scan_out _ _ _ _ _ c.requires.scan_on.lent.opened _ c.requires.scan_on.lent.long c.requires.scan_on.lent.days
                c.requires.scan_on.lent.small
                c.requires.scan_on.in_range c.requires.scan_on.every
                (as_day_scan c.loop-p.invariant.rise_scan) c.entry-last.ensures c.loop-p-test.false;
            short_walk = omega (arith, c.loop-p.invariant.few);
            few =
                day_scan_most _ _ _ _ _ c.requires.scan_on.lent.opened _ c.requires.scan_on.lent.long c.requires.scan_on.lent.days
                c.requires.scan_on.lent.small
                c.requires.scan_on.in_range c.requires.scan_on.every
                (as_day_scan c.loop-p.invariant.rise_scan) c.entry-last.ensures;
          };
      within = omega (arith, c.requires.room_behind.room, c.entry-last.ensures, c.loop-p.invariant.room, c.loop-p.invariant.rise_scan.reading.to);
      rise_scanned = λ few.
          rise_scan_out _ _ _ _ _ c.requires.scan_on.lent.opened _ c.requires.scan_on.lent.long c.requires.scan_on.lent.days
          c.requires.scan_on.lent.small
          c.requires.scan_on.in_range c.requires.scan_on.every _ _
          c.loop-p.invariant.rise_scan c.entry-last.ensures c.loop-p-test.false;
      behind = c.loop-p.invariant.rise_scan.behind;
    }
