-- `text::print::write_line` meets its contract: the line is its pieces, one behind the other.
-- Assumes nothing.
use Rattle.text.proofs.PrintLaws.{line_pieces}
use Rattle.text.proofs.print.write_line.Goals as goal

pub returns : goal.returns
returns c =
    line_pieces c.args.out.now c.args.at c.args.start c.args.end c.args.span c.args.rows c.requires
    c.write_field-a.ensures c.write_field-b.ensures c.write_field-c.ensures c.write_field-d.ensures c.write_bytes.ensures
