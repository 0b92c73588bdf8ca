use native.Mathlib.Omega.{arith}
use borrow.Author.Rules.{rules}
use Rattle.text.proofs.RowsLaws.{writing_none, writing_row, writing_more}
use Rattle.text.proofs.table.write_rows.Goals as goal

pub loop-i-init : goal.loop-i-init
loop-i-init c = writing_none c.requires.fit

pub unreachable-requires : goal.unreachable-requires
unreachable-requires c =
    let row = writing_row c.requires.fit (omega (arith, c.requires.all, c.loop-i-test.true)) c.read_line.ensures in
    search (rules, row)

pub loop-i-preserved : goal.loop-i-preserved
loop-i-preserved c =
    writing_more c.requires.fit c.loop-i.invariant (omega (arith, c.requires.all, c.loop-i-test.true))
    c.read_line.ensures (search rules)
