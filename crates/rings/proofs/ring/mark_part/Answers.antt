-- `ring::mark_part` meets its contract: all rows lie in the window, so the frame begins at row 0 and ends behind the
-- last row.
-- Assumes nothing.
use native.Mathlib.Omega.{arith}
use mathlib.Core.Path.{refl}
use Rattle.rings.proofs.HeadLaws.{adjacency_later}
use Rattle.rings.proofs.DayLaws.{ready_of, span_of}
use Rattle.rings.proofs.MarkLaws.{remaining_of}
use Rattle.rings.proofs.ring.mark_part.Goals as goal

pub core-requires : goal.core-requires
core-requires c =
    record {
      ready = ready_of c.requires.whole_window.sound (adjacency_later c.prepare_adjacency.ensures (omega (arith, c.requires.whole_window.from)))
          c.requires.whole_window.asked.some_k
          c.requires.whole_window.asked.last_day_lem c.requires.whole_window.from;
      span = span_of c.requires.whole_window.asked.ordered c.requires.whole_window.from c.requires.whole_window.to;
      peel_buffers = record { times = refl; left = refl; queue = omega arith };
    }

pub mark_rows-requires : goal.mark_rows-requires
mark_rows-requires c =
    record {
      whole_window = c.requires.whole_window;
      remaining = remaining_of _ _ _ _ _
          (
          ready_of c.requires.whole_window.sound (adjacency_later c.prepare_adjacency.ensures (omega (arith, c.requires.whole_window.from)))
          c.requires.whole_window.asked.some_k
          c.requires.whole_window.asked.last_day_lem c.requires.whole_window.from
          ) c.requires.whole_window.asked.ordered (span_of c.requires.whole_window.asked.ordered c.requires.whole_window.from c.requires.whole_window.to) c.core.ensures;
      marks_len = c.requires.ring_buffers.marks;
    }

pub returns : goal.returns
returns c = c.mark_rows.ensures
