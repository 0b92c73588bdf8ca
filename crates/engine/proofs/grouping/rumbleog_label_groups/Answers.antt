-- `grouping::rumbleog_label_groups` meets its contract: it hands on what the call answered.
-- Assumes nothing.
use Rattle.engine.proofs.ToldLaws.{by_counted, label_told}
use Rattle.engine.proofs.grouping.rumbleog_label_groups.Goals as goal

pub returns : goal.returns
returns c =
    label_told _ _ _ _ _ _ c.label_groups-answer.ensures.result_value c.label_groups-answer.ensures.labels_after c.label_groups-answer.ensures.scratch_after
    (by_counted _ c.from-told.ensures)
