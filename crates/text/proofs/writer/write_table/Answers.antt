-- `text::writer::write_table` meets its contract: one law for each way out; the text is written only where it fits.
-- Assumes nothing.
use Rattle.text.specs.Table.{columns}
use Rattle.text.proofs.WriterLaws.{differ_kept, short_kept, writes_fit, writes_all}
use Rattle.text.proofs.writer.write_table.Goals as goal

pub returns-then-not-one_length : goal.returns-then-not-one_length
returns-then-not-one_length c =
    let rows = columns c.args.days.now c.args.first.now c.args.second.now in
    differ_kept rows c.args.text.now c.if-not-one_length.ensures

pub returns-then-text-days : goal.returns-then-text-days
returns-then-text-days c =
    let rows = columns c.args.days.now c.args.first.now c.args.second.now in
    short_kept rows c.args.text.now c.if-not-one_length.ensures c.if-text-days.true

pub write_lines-size-requires : goal.write_lines-size-requires
write_lines-size-requires c =
    let rows = columns c.args.days.now c.args.first.now c.args.second.now in
    writes_fit rows c.args.text.now c.if-not-one_length.ensures c.if-text-days.false

pub returns : goal.returns
returns c =
    let rows = columns c.args.days.now c.args.first.now c.args.second.now in
    writes_all rows c.args.text.now c.if-not-one_length.ensures c.if-text-days.false c.write_lines-size.ensures
