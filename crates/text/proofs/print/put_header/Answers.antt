-- `text::print::put_header` meets its contract: the answer by the test, and what `write_bytes` ensures.
-- Assumes nothing.
use mathlib.Core.Path.{refl}
use Rattle.text.specs.Print.{header}
use Rattle.text.proofs.PrintLaws.{puts_none, puts_all}
use Rattle.text.proofs.print.put_header.Goals as goal

pub returns-then-not-has_room : goal.returns-then-not-has_room
returns-then-not-has_room c = puts_none c.args.out.now 0 header refl c.if-not-has_room.ensures

pub returns : goal.returns
returns c = puts_all c.args.out.now 0 header refl c.if-not-has_room.ensures c.write_bytes.ensures
