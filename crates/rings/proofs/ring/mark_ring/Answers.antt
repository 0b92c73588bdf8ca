-- `ring::mark_ring` meets its contract: days never fall, so the rows of the window are those from lo to end, and their
-- ring among 0s is the whole ring (PartLaws).
-- Assumes nothing.
use mathlib.Core.Path.{refl, ◌∙◌, ap}
use Prim.Native.Nat.{ℕ}
use lib.ListN.{replicate}
use Rattle.rings.proofs.PartTableLaws.{part_sound, part_same, room_long, part_room, part_from, part_to}
use Rattle.rings.proofs.PartTableLaws.{part_members, part_marks}
use Rattle.rings.proofs.DayLaws.{span_of}
use Rattle.rings.proofs.ring.mark_ring.Goals as goal

pub overflow_sub-room : goal.overflow_sub-room
overflow_sub-room c = (span_of c.requires.asked.ordered c.rows_before-lo.ensures c.rows_before-end.ensures).ordered

pub slice_bounds-part-count : goal.slice_bounds-part-count
slice_bounds-part-count c = (span_of c.requires.asked.ordered c.rows_before-lo.ensures c.rows_before-end.ensures).ordered

pub slice_bounds-part-start : goal.slice_bounds-part-start
slice_bounds-part-start c = (span_of c.requires.asked.ordered c.rows_before-lo.ensures c.rows_before-end.ensures).ordered

pub slice_bounds-part-count-2 : goal.slice_bounds-part-count-2
slice_bounds-part-count-2 c = (span_of c.requires.asked.ordered c.rows_before-lo.ensures c.rows_before-end.ensures).ordered

pub slice_bounds-part-start-2 : goal.slice_bounds-part-start-2
slice_bounds-part-start-2 c = (span_of c.requires.asked.ordered c.rows_before-lo.ensures c.rows_before-end.ensures).ordered

pub slice_bounds-part-count-3 : goal.slice_bounds-part-count-3
slice_bounds-part-count-3 c = (span_of c.requires.asked.ordered c.rows_before-lo.ensures c.rows_before-end.ensures).ordered

pub slice_bounds-part-start-3 : goal.slice_bounds-part-start-3
slice_bounds-part-start-3 c = (span_of c.requires.asked.ordered c.rows_before-lo.ensures c.rows_before-end.ensures).ordered

pub slice_bounds-mark_part-count : goal.slice_bounds-mark_part-count
slice_bounds-mark_part-count c = (span_of c.requires.asked.ordered c.rows_before-lo.ensures c.rows_before-end.ensures).ordered

pub slice_bounds-mark_part-start : goal.slice_bounds-mark_part-start
slice_bounds-mark_part-start c = (span_of c.requires.asked.ordered c.rows_before-lo.ensures c.rows_before-end.ensures).ordered

pub slice_bounds-mark_part-end-3 : goal.slice_bounds-mark_part-end-3
slice_bounds-mark_part-end-3 c =
    let o = span_of c.requires.asked.ordered c.rows_before-lo.ensures c.rows_before-end.ensures in room_long c.args.payments.days.now
    c.args.payments.first.now c.args.payments.second.now _ _ o.ordered o.within c.args.scratch.now c.requires.ring_buffers.scratch

pub invariant_of-part : goal.invariant_of-part
invariant_of-part c =
    let o = span_of c.requires.asked.ordered c.rows_before-lo.ensures c.rows_before-end.ensures in
    record { sound = part_sound _ _ _ _ _ o.ordered o.within c.args.payments.sound }

pub mark_part-n-requires : goal.mark_part-n-requires
mark_part-n-requires c =
    let o = span_of c.requires.asked.ordered c.rows_before-lo.ensures c.rows_before-end.ensures in
    record {
      whole_window = record {
        sound = part_sound _ _ _ _ _ o.ordered o.within c.args.payments.sound;
        asked = c.requires.asked;
        lo = refl;
        from = part_from _ c.args.payments.first.now c.args.payments.second.now _ _ o.ordered o.within c.rows_before-lo.ensures;
        to = part_to _ c.args.payments.first.now c.args.payments.second.now _ _ o.ordered o.within c.rows_before-end.ensures;
      };
      ring_buffers = record {
        marks =
            part_same _ c.args.payments.first.now c.args.payments.second.now _ _ o.ordered o.within (c.fill.ensures.after (λ y e. e))
            c.requires.ring_buffers.marks;
        scratch =
            part_room _ c.args.payments.first.now c.args.payments.second.now _ _ o.ordered o.within c.args.scratch.now
            c.requires.ring_buffers.scratch;
      };
    }

pub returns : goal.returns
returns c =
    let o = span_of c.requires.asked.ordered c.rows_before-lo.ensures c.rows_before-end.ensures in record {
      marked = record {
        number =
            part_members c.args.payments.days.now c.args.payments.first.now c.args.payments.second.now c.rows_before-lo.result c.rows_before-end.result o.ordered
            o.within c.args.query c.args.start c.args.stop c.rows_before-lo.ensures c.rows_before-end.ensures c.mark_part-n.ensures.number;
        marks =
            part_marks c.args.payments.days.now c.args.payments.first.now c.args.payments.second.now c.rows_before-lo.result c.rows_before-end.result o.ordered
            o.within c.args.query c.args.start c.args.stop c.rows_before-lo.ensures c.rows_before-end.ensures (c.fill.ensures.after (λ y e. e))
            c.requires.ring_buffers.marks c.mark_part-n.ensures.marks;
      };
      cleared = c.fill-2.ensures.after (λ y e. e) ∙ ap (λ (m : ℕ). replicate {A = ℕ} m 0) c.scratch-1.given.1;
    }
