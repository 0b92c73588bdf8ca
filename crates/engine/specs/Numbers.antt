-- The words of the exports' contracts. What the numbers are for each answer is defined with the answers, in text, rings and listing.
--     refused_report r    the report of a refused line
--     read_report a       the report of the table reader
--     written_report a    the report of the table writer
--     numbers a          the report a as the engine's own struct
use Rattle.std.specs.Prelude.{ℕ, Result}
use Rattle.rings.specs.Refusals.{Report}
use Rattle.text.specs.Table.{number, place, count}
use Rattle.text.specs.Writer.{written_number, written_place, written_length}
use Rattle.text.specs.declared.table.ReadError.{ReadError}
use Rattle.text.specs.declared.writer.WriteError.{WriteError}
use Rattle.listing.specs.declared.Refused.{Refused}
use Rattle.engine.specs.declared.numbers.Numbers.{Numbers}

abbrev pub refused_report : Refused → Report
refused_report r = record { number = r.number; place = r.line; count = 0 }

abbrev pub read_report : Result ℕ ReadError → Report
read_report a = record { number = number a; place = place a; count = count a }

abbrev pub written_report : Result ℕ WriteError → Report
written_report a = record { number = written_number a; place = written_place a; count = written_length a }

abbrev pub numbers : Report → Numbers
numbers a = record { number = a.number; place = a.place; count = a.count }
