-- `windows::rumbleog_minimal_windows` meets its contract: it hands on what the call answered.
-- Assumes nothing.
use Rattle.engine.proofs.ToldLaws.{by_counted, minimal_told}
use Rattle.engine.proofs.windows.rumbleog_minimal_windows.Goals as goal

pub returns : goal.returns
returns c =
    minimal_told _ _ _ _ _ _ _ _ c.minimal_windows-answer.ensures.result_value c.minimal_windows-answer.ensures.rows_after
    c.minimal_windows-answer.ensures.starts_after c.minimal_windows-answer.ensures.ends_after c.minimal_windows-answer.ensures.scratch_after
    (by_counted _ c.from-told.ensures)
