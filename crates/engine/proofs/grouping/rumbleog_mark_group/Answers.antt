-- `grouping::rumbleog_mark_group` meets its contract: it hands on what the call answered.
-- Assumes nothing.
use Rattle.engine.proofs.ToldLaws.{by_counted, group_told}
use Rattle.engine.proofs.grouping.rumbleog_mark_group.Goals as goal

pub returns : goal.returns
returns c =
    group_told _ _ _ _ _ _ _ c.mark_group-answer.ensures.result_value c.mark_group-answer.ensures.marks_after c.mark_group-answer.ensures.scratch_after
    (by_counted _ c.from-told.ensures)
