use Rattle.listing.proofs.ReadingLaws.{unread_told}
use Rattle.text.specs.declared.report.Report.{Report}
use mathlib.Core.Path.{ap}
use native.Mathlib.Omega.{arith}
use Rattle.listing.proofs.program.unread.Goals as goal

pub reader_line-requires : goal.reader_line-requires
reader_line-requires c = omega (arith, c.requires, ap (λ (t : Report). t.place) c.report_table-told.ensures)

pub returns : goal.returns
returns c = unread_told c.args.e c.report_table-told.ensures c.reader_line.ensures
