-- `text::table::check_lines` meets its contract: the lowest fault from the line reached on is that of the whole text;
-- where the reader moves it has passed a row, and where it stays it tells the fault or the end.
-- Assumes nothing.
use Prim.Native.Nat.{◌-◌}
use lib.ListN.{length}
use Rattle.text.specs.Table.{judged_from}
use Rattle.text.specs.Line.{lines_of}
use Rattle.text.proofs.TableLaws.{Judging}
use Rattle.text.proofs.table.check_lines.Given as goal

abbrev pub invariant-loop-line : goal.invariant-loop-line
invariant-loop-line l =
    Judging l.text (judged_from 0 (lines_of l.text)) l.line

abbrev pub decreases-loop-line : goal.decreases-loop-line
decreases-loop-line l =
    length l.text - l.line
