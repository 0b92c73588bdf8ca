-- `text::writer::write_row` meets its contract: the line is its pieces, one behind the other.
-- Assumes nothing.
use Rattle.text.proofs.WriterLaws.{row_pieces}
use Rattle.text.proofs.writer.write_row.Goals as goal

pub returns : goal.returns
returns c =
    row_pieces c.args.out.now c.args.at c.args.day c.args.first c.args.second c.requires c.write_field-a.ensures
    c.write_field-b.ensures c.write_field-c.ensures c.write_bytes.ensures
