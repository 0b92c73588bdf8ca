-- `text::print::write_bytes` meets its contract: the part that is copied over holds the bytes.
-- Assumes nothing.
use mathlib.Core.Path.{refl}
use Rattle.text.proofs.PasteLaws.{part_pasted}
use Rattle.text.proofs.print.write_bytes.Goals as goal

pub returns : goal.returns
returns c = record { behind = refl; holds = part_pasted _ _ _ _ _ c.copy_from_slice.ensures.after refl }
