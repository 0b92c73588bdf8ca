-- `times::rumbleog_core_times` meets its contract: it hands on what the call answered.
-- Assumes nothing.
use Rattle.engine.proofs.ToldLaws.{by_verdict, times_told}
use Rattle.engine.proofs.times.rumbleog_core_times.Goals as goal

pub returns : goal.returns
returns c =
    times_told _ _ _ _ _ _ _ c.core_times-answer.ensures.result_value c.core_times-answer.ensures.accounts_after c.core_times-answer.ensures.rows_after
    c.core_times-answer.ensures.scratch_after (by_verdict _ c.from-told.ensures)
