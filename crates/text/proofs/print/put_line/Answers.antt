-- `text::print::put_line` meets its contract: the answer by the test, and what `write_line` ensures.
-- Assumes nothing.
use Rattle.text.proofs.PrintLaws.{puts_none, puts_all, line_length}
use Rattle.text.proofs.print.put_line.Goals as goal

pub returns-then-not-has_room : goal.returns-then-not-has_room
returns-then-not-has_room c =
    puts_none _ _ _ (line_length c.args.start c.args.end c.args.span c.args.rows) c.if-not-has_room.ensures

pub returns : goal.returns
returns c = puts_all _ _ _ (line_length _ _ _ _) c.if-not-has_room.ensures c.write_line.ensures
