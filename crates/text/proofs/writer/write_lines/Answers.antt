use native.Mathlib.Omega.{arith}
use Rattle.text.proofs.WriterLaws.{same, written_none, written_room, written_more, written_all}
use Rattle.text.proofs.writer.write_lines.Goals as goal

pub loop-i-init : goal.loop-i-init
loop-i-init c = written_none c.requires

pub bounds-first-i : goal.bounds-first-i
bounds-first-i c = omega (arith, (same c.requires).first)

pub bounds-second-i : goal.bounds-second-i
bounds-second-i c = omega (arith, (same c.requires).second)

pub write_row-at-requires : goal.write_row-at-requires
write_row-at-requires c = written_room c.requires c.loop-i.invariant c.loop-i-test.true

pub loop-i-preserved : goal.loop-i-preserved
loop-i-preserved c = written_more c.requires c.loop-i.invariant c.loop-i-test.true c.write_row-at.ensures

pub returns : goal.returns
returns c = written_all c.requires c.loop-i.invariant c.loop-i-test.false
