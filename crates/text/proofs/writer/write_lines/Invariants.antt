-- `text::writer::write_lines` meets its contract: the lines of the first i rows stand at the start of the text space.
-- Assumes nothing.
use Rattle.text.specs.Table.{columns}
use Rattle.text.proofs.WriterLaws.{Written}
use Rattle.text.proofs.writer.write_lines.Given as goal

abbrev pub invariant-loop-i : goal.invariant-loop-i
invariant-loop-i l =
    Written (columns l.days l.first l.second) l.initial.text l.text l.at l.i
