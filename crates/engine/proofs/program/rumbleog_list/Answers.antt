-- `program::rumbleog_list` meets its contract: it hands on what the call answered.
-- Assumes nothing.
use Rattle.engine.proofs.ToldLaws.{by_list, list_told}
use Rattle.engine.proofs.program.rumbleog_list.Goals as goal

pub returns : goal.returns
returns c =
    list_told _ _ c.list_text-answer.ensures.value c.list_text-answer.ensures.output_after (by_list _ c.from-told.ensures)
