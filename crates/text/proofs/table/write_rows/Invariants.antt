-- `text::table::write_rows` meets its contract: the first i rows stand in the columns; every line is a row, so the
-- reader finds it in its place.
-- Assumes nothing.
use Rattle.text.specs.Table.{columns}
use Rattle.text.proofs.RowsLaws.{Writing}
use Rattle.text.proofs.table.write_rows.Given as goal

abbrev pub invariant-loop-i : goal.invariant-loop-i
invariant-loop-i l =
    Writing l.text (columns l.initial.days l.initial.first l.initial.second) (columns l.days l.first l.second) l.i
