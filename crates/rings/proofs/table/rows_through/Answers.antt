use Rattle.rings.proofs.DayLaws.{linear_on, linear_next, linear_found, linear_end}
use native.Mathlib.Omega.{arith}
use Rattle.rings.proofs.table.rows_through.Goals as goal

pub loop-r-init : goal.loop-r-init
loop-r-init c = linear_on c.requires.split

pub bounds-days-r : goal.bounds-days-r
bounds-days-r c = c.loop-r-test.true

pub returns-then-s-days : goal.returns-then-s-days
returns-then-s-days c = linear_found c.requires.never_fall c.loop-r.invariant (omega (arith, c.if-s-days.true))

pub loop-r-preserved : goal.loop-r-preserved
loop-r-preserved c = linear_next c.loop-r.invariant c.loop-r-test.true (omega (arith, c.if-s-days.false))

pub returns : goal.returns
returns c = linear_end c.loop-r.invariant c.loop-r-test.false
