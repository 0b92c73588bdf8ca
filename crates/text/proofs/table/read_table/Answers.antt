-- `text::table::read_table` meets its contract: one law for each way out; the columns are written only where all is
-- judged.
-- Assumes nothing.
use mathlib.Core.Path.{sym, ◌∙◌}
use borrow.Author.Rules.{rules}
use Rattle.text.specs.Table.{columns}
use Rattle.text.proofs.TableLaws.{reads_none, reads_short, reads_fit, reads_all}
use Rattle.text.proofs.RowsLaws.{all_rows}
use Rattle.text.proofs.table.read_table.Goals as goal

pub returns-in_err-n : goal.returns-in_err-n
returns-in_err-n c =
    let old = columns c.args.days.now c.args.first.now c.args.second.now in
    reads_none c.args.text.now old c.check_lines.ensures c.in_err-n.was (search rules)

pub returns-then-min-n : goal.returns-then-min-n
returns-then-min-n c =
    let old = columns c.args.days.now c.args.first.now c.args.second.now in
    reads_short c.args.text.now old c.check_lines.ensures c.in_ok-n.was (search rules) c.if-min-n.true

pub write_rows-requires-clause-fit : goal.write_rows-requires-clause-fit
write_rows-requires-clause-fit c =
    let old = columns c.args.days.now c.args.first.now c.args.second.now in
    reads_fit c.args.text.now old c.check_lines.ensures c.in_ok-n.was (search rules) c.if-min-n.false

pub write_rows-requires-clause-all : goal.write_rows-requires-clause-all
write_rows-requires-clause-all c =
    all_rows _ _ (sym c.check_lines.ensures ∙ c.in_ok-n.was)

pub returns : goal.returns
returns c =
    let old = columns c.args.days.now c.args.first.now c.args.second.now in
    reads_all c.args.text.now old c.check_lines.ensures c.in_ok-n.was (search rules) c.if-min-n.false
    c.write_rows.ensures
