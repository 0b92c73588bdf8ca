-- `text::print::put_refused` meets its contract: the answer by the test, and what `write_refused` ensures.
-- Assumes nothing.
use Rattle.text.proofs.PrintLaws.{puts_none, puts_all, refused_length}
use Rattle.text.proofs.print.put_refused.Goals as goal

pub returns-then-not-has_room : goal.returns-then-not-has_room
returns-then-not-has_room c = puts_none _ 0 _ (refused_length c.args.number c.args.line) c.if-not-has_room.ensures

pub returns : goal.returns
returns c = puts_all _ 0 _ (refused_length _ _) c.if-not-has_room.ensures c.write_refused.ensures
