-- `ringlist::answer` meets its contract: a buffer of 18,449 bytes has the text of every input that it was filled from.
-- Assumes nothing.
use mathlib.Core.Path.{◌∙◌}
use Rattle.listing.proofs.InputLaws.{brought_text}
use Rattle.ringlist.proofs.answer.Goals as goal

pub returns : goal.returns
returns c =
    record {
      result_len = c.print.ensures.prefix_len;
      prints = λ input b. c.print.ensures.output_after ∙ brought_text input c.args.buffer.now c.args.read c.requires.room.0 b;
    }
