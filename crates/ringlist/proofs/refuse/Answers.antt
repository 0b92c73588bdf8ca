-- `ringlist::refuse` meets its contract: the refused line stands at the output's start.
-- Assumes nothing.
use Rattle.ringlist.proofs.PrintedLaws.{prints_refused}
use Rattle.ringlist.proofs.refuse.Goals as goal

pub returns : goal.returns
returns c =
    let all = prints_refused c.args.output.now c.args.refused.number c.args.refused.line c.requires.2 c.put_refused.ensures.answers
    c.put_refused.ensures.holds in record {
      prefix_len = all.0;
      output_after = all.1;
    }
