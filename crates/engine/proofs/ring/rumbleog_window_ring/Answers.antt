-- `ring::rumbleog_window_ring` meets its contract: it hands on what the call answered.
-- Assumes nothing.
use Rattle.engine.proofs.ToldLaws.{by_counted, ring_told}
use Rattle.engine.proofs.ring.rumbleog_window_ring.Goals as goal

pub returns : goal.returns
returns c =
    ring_told _ _ _ _ _ _ c.window_ring-answer.ensures.result_value c.window_ring-answer.ensures.marks_after c.window_ring-answer.ensures.scratch_after
    (by_counted _ c.from-told.ensures)
