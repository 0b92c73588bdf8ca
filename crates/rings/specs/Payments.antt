-- The payments of an accepted table, as the code lends them to each other.
--     table p            the table of the three lent columns
use Rattle.rings.specs.Table.{Table, table_of}
use Rattle.rings.specs.declared.payments.Payments.{Payments}

abbrev pub table : Payments → Table
table p = table_of p.days.now p.first.now p.second.now
