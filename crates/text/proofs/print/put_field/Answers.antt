-- `text::print::put_field` meets its contract: the answer by the two tests, and what `write_field` ensures.
-- Assumes nothing.
use Rattle.text.proofs.PrintLaws.{puts_none, puts_all, field_fits, field_wide, printed_length}
use Rattle.text.proofs.print.put_field.Goals as goal

pub returns-then-not-fits_in : goal.returns-then-not-fits_in
returns-then-not-fits_in c = field_wide _ _ _ _ c.if-not-fits_in.ensures

pub returns-then-not-has_room : goal.returns-then-not-has_room
returns-then-not-has_room c =
    let long = printed_length c.args.width c.args.n in
    field_fits _ _ _ _ c.if-not-fits_in.ensures (puts_none _ _ _ long c.if-not-has_room.ensures)

pub returns : goal.returns
returns c =
    let long = printed_length c.args.width c.args.n in
    field_fits _ _ _ _ c.if-not-fits_in.ensures (puts_all _ _ _ long c.if-not-has_room.ensures c.write_field.ensures)
