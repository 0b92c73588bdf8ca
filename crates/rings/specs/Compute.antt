-- For worked examples: a theorem that says `unfolding compute` computes with every definition of this crate.
use mathlib.Core.List.{flatten}
use Rattle.rings.specs.Words.{◌and◌, ◌or◌, no, at, marked, some, every, suc_if, count, tabulate, cons_if, filter_by, any}
use Rattle.rings.specs.Table.{day_of, first_of, second_of, in_window, window_rows}
use Rattle.rings.specs.Ring.{joins, neighbour, greatest, names, degree, touches, met, keep, round, rounds, peel, ring, in_ring, members}
use Rattle.rings.specs.CoreTimes.{least, account_time, row_time}
use Rattle.rings.specs.Windows.{windows_from, windows, smaller, minimal, minimal_of, minimal_windows, entries, recalled}
use Rattle.rings.specs.Refusals.{number_of, place_of, behind_scratch, done, refused, verdict_report, counted_report}
use Rattle.rings.specs.Checks.{◌when◌, ◌then◌, in_order, counted, query_check, range_check, scratch_check}
use Rattle.rings.specs.Buffers.{mark, marks, over, cleared, cleared_if, scratch_on, verdict_scratch, counted_scratch}
use Rattle.rings.specs.TableCheck.{day_before, row_faults, row_check, table_check}
use Rattle.rings.specs.WindowRingCall.{ring_checks, ring_answer, ring_marks}
use Rattle.rings.specs.CoreTimesCall.{times_answer, account_column, row_column}
use Rattle.rings.specs.MinimalWindowsCall.{minimal_checks, minimal_answer, entry_column, minimal_rows, minimal_starts, minimal_ends}
use Rattle.rings.specs.RecallCall.{entry_at, comes_after, in_place, fits, entry_check, recall_answer, recall_marks}

unfoldable pub compute : Unit {0}
unfolding
    ◌and◌ ◌or◌ no at marked some every suc_if count tabulate flatten cons_if filter_by any
    day_of first_of second_of in_window window_rows
    joins neighbour greatest names degree touches met keep round rounds peel ring in_ring members
    least account_time row_time
    windows_from windows smaller minimal minimal_of minimal_windows entries recalled
    number_of place_of behind_scratch done refused verdict_report counted_report
    ◌when◌ ◌then◌ in_order counted query_check range_check scratch_check
    mark marks over cleared cleared_if scratch_on verdict_scratch counted_scratch
    day_before row_faults row_check table_check
    ring_checks ring_answer ring_marks
    times_answer account_column row_column
    minimal_checks minimal_answer entry_column minimal_rows minimal_starts minimal_ends
    entry_at comes_after in_place fits entry_check recall_answer recall_marks
compute = tt
