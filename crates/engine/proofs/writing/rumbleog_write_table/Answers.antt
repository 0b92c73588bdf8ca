-- `writing::rumbleog_write_table` meets its contract: it hands on what the call answered.
-- Assumes nothing.
use Rattle.engine.proofs.ToldLaws.{by_written, write_told}
use Rattle.engine.proofs.writing.rumbleog_write_table.Goals as goal

pub returns : goal.returns
returns c =
    write_told _ _ c.write_table-answer.ensures.answers c.write_table-answer.ensures.holds (by_written _ c.from-told.ensures)
