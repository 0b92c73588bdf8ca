-- `ringlist::print` meets its contract: the list call's answer, in an output that holds every text.
-- Assumes nothing.
use mathlib.Core.Path.{ap, ◌∙◌}
use lib.ListN.{length}
use Rattle.listing.proofs.OutcomeLaws.{text_answer, refused_answer}
use Rattle.ringlist.proofs.PrintedLaws.{prints_found, prints_stopped}
use Rattle.ringlist.proofs.print.Goals as goal

pub returns-in-Ok : goal.returns-in-Ok
returns-in-Ok c =
    let all = prints_found c.args.input.now
    (
    text_answer c.args.input.now c.args.output.now c.requires c.list_text.ensures.value c.list_text.ensures.output_after
    c.in-Ok.is
    ) in record {
      prefix_len = all.0;
      output_after = all.1;
    }

pub refuse-requires : goal.refuse-requires
refuse-requires c =
    let told = refused_answer c.args.input.now c.args.output.now c.requires c.list_text.ensures.value c.list_text.ensures.output_after
    c.in-Err.is in (told.number, told.place, ap length told.kept ∙ c.requires)

pub returns-in-Err : goal.returns-in-Err
returns-in-Err c =
    let all = prints_stopped c.args.input.now c.refuse.result c.refuse.new.output
    (
    refused_answer c.args.input.now c.args.output.now c.requires c.list_text.ensures.value c.list_text.ensures.output_after
    c.in-Err.is
    ) (c.refuse.ensures.prefix_len, c.refuse.ensures.output_after) in record {
      prefix_len = all.0;
      output_after = all.1;
    }
