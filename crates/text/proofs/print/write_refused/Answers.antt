-- `text::print::write_refused` meets its contract: the line is its pieces, one behind the other.
-- Assumes nothing.
use Rattle.text.proofs.PrintLaws.{refused_pieces}
use Rattle.text.proofs.print.write_refused.Goals as goal

pub returns : goal.returns
returns c =
    refused_pieces c.args.out.now c.args.number c.args.line c.requires c.write_bytes-a.ensures
    c.write_field-b.ensures c.write_field-c.ensures c.write_bytes.ensures
