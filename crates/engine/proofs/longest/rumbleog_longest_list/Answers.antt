-- `longest::rumbleog_longest_list` meets its contract: it hands on what the call answered.
-- Assumes nothing.
use Rattle.rings.specs.Refusals.{counted_report}
use Rattle.engine.proofs.ToldLaws.{by_counted, told}
use Rattle.engine.proofs.longest.rumbleog_longest_list.Goals as goal

pub returns : goal.returns
returns c =
    let n = told counted_report c.longest_list-answer.ensures (by_counted _ c.from-told.ensures) in (n.number, n.place, n.count)
