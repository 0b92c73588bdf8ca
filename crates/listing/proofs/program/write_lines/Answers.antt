use Rattle.listing.specs.ProgramSteps.{text_columns, entry_at}
use Rattle.listing.specs.Listing.{span}
use Rattle.listing.proofs.PrintingLaws.{print_start, print_next}
use Rattle.listing.proofs.program.write_lines.Goals as goal

pub loop-i-init : goal.loop-i-init
loop-i-init c = print_start (text_columns c.args.starts.now c.args.ends.now c.args.rows.now) c.args.output.now

pub loop-i-preserved : goal.loop-i-preserved
unfolding span entry_at
loop-i-preserved c =
    print_next (text_columns c.args.starts.now c.args.ends.now c.args.rows.now) c.loop-i.invariant c.loop-i-test.true
    c.requires.room c.put_line.ensures.answers c.put_line.ensures.holds
