-- `text::print::write_field` meets its contract: the field is a part of the buffer.
-- Assumes nothing.
use mathlib.Core.Path.{refl}
use Rattle.text.proofs.PrintLaws.{field_pasted}
use Rattle.text.proofs.print.write_field.Goals as goal

pub returns : goal.returns
returns c =
    record {
      behind = refl;
      holds = field_pasted _ _ c.args.at c.args.width c.args.n c.requires c.print_field.ensures;
    }
