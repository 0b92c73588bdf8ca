use Rattle.listing.proofs.PrintingLaws.{text_none, text_done}
use Rattle.listing.specs.ProgramSteps.{text_columns}
use Rattle.listing.proofs.program.write_listing.Goals as goal

pub returns-then-output-size : goal.returns-then-output-size
returns-then-output-size c =
    text_none (text_columns c.args.starts.now c.args.ends.now c.args.rows.now) c.args.output.now
    _ c.if-output-size.true c.refused.ensures

pub returns : goal.returns
returns c =
    text_done (text_columns c.args.starts.now c.args.ends.now c.args.rows.now) c.args.output.now
    _ c.if-output-size.false c.put_header.ensures.answers c.put_header.ensures.holds
    c.write_lines.ensures
