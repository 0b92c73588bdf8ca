-- `program::write_lines` meets its contract. The loop's invariant: the first i lines stand behind the header.
-- Assumes nothing.
use Rattle.listing.specs.ProgramSteps.{text_columns}
use Rattle.listing.proofs.PrintingLaws.{Printing}
use Rattle.listing.proofs.program.write_lines.Given as goal

abbrev pub invariant-loop-i : goal.invariant-loop-i
invariant-loop-i l =
    Printing (text_columns l.starts l.ends l.rows) l.initial.output l.output l.i
