-- `recalling::rumbleog_recall` meets its contract: it hands on what the call answered.
-- Assumes nothing.
use Rattle.engine.proofs.ToldLaws.{by_verdict, recall_told}
use Rattle.engine.proofs.recalling.rumbleog_recall.Goals as goal

pub returns : goal.returns
returns c =
    recall_told _ _ _ _ _ c.recall-answer.ensures.result_value c.recall-answer.ensures.marks_after (by_verdict _ c.from-told.ensures)
