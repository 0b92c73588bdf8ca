use Rattle.listing.proofs.ReadingLaws.{reader_none, reader_more}
use Rattle.listing.proofs.program.reader_line.Goals as goal

pub returns-then-line-eq0 : goal.returns-then-line-eq0
returns-then-line-eq0 c = reader_none c.args.line c.if-line-eq0.true

pub returns-else-line-eq0 : goal.returns-else-line-eq0
returns-else-line-eq0 c = reader_more c.args.line c.if-line-eq0.false
