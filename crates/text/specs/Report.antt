-- What the reader and the writer tell in numbers. 01: "the refusal number (0 for none)", its place, and the count.
--
--   table_report   of a table's text
--   query_report   of a query line
--   written_report   of a table's text that is written
-- Assumes nothing.
use Rattle.std.specs.Prelude.{ℕ, Result}
use Rattle.text.specs.Line.{query_number, query_place}
use Rattle.text.specs.Table.{number, place, count}
use Rattle.text.specs.Writer.{written_number, written_place, written_length}
use Rattle.text.specs.declared.lines.LineError.{LineError}
use Rattle.text.specs.declared.lines.Query.{Query}
use Rattle.text.specs.declared.report.Report.{Report}
use Rattle.text.specs.declared.table.ReadError.{ReadError}
use Rattle.text.specs.declared.writer.WriteError.{WriteError}

abbrev pub table_report : Result ℕ ReadError → Report
table_report a = record { number = number a; place = place a; count = count a }

abbrev pub query_report : Result Query LineError → Report
query_report a = record { number = query_number a; place = query_place a; count = 0 }

abbrev pub written_report : Result ℕ WriteError → Report
written_report a = record { number = written_number a; place = written_place a; count = written_length a }
