-- `checking::rumbleog_check_table` meets its contract: it hands on what the call answered.
-- Assumes nothing.
use Rattle.rings.specs.Refusals.{verdict_report}
use Rattle.engine.proofs.ToldLaws.{by_verdict, told}
use Rattle.engine.proofs.checking.rumbleog_check_table.Goals as goal

pub returns : goal.returns
returns c =
    let n = told verdict_report c.check_table-answer.ensures (by_verdict _ c.from-told.ensures) in (n.number, n.place)
