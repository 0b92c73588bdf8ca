-- `reading::rumbleog_read_table` meets its contract: it hands on what the call answered.
-- Assumes nothing.
use Rattle.text.specs.Table.{days_of, firsts_of, seconds_of}
use Rattle.engine.proofs.ToldLaws.{by_read, read_told}
use Rattle.engine.proofs.reading.rumbleog_read_table.Goals as goal

pub returns : goal.returns
returns c =
    read_told (days_of c.args.text.now) (firsts_of c.args.text.now) (seconds_of c.args.text.now) c.args.days.now
    c.args.first.now c.args.second.now c.read_table-answer.ensures.answers c.read_table-answer.ensures.days_hold
    c.read_table-answer.ensures.first_hold c.read_table-answer.ensures.second_hold (by_read _ c.from-told.ensures)
