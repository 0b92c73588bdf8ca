-- What a ring is of (src/rows.rt, Ring).
--     table_in r     its table
--     marked_in r    its rows, as a row set
use Rattle.std.specs.Prelude.{Bool, List}
use Rattle.rings.specs.Table.{Table, table_of}
use Rattle.groups.specs.Inner.{rows_of}
use Rattle.groups.specs.declared.rows.Ring.{Ring}

abbrev pub table_in : Ring → Table
table_in r = table_of r.days.now r.first.now r.second.now

abbrev pub marked_in : Ring → List Bool
marked_in r = rows_of r.marks.now
