use native.Mathlib.Omega.{arith}
use mathlib.Core.Path.{refl}
use Rattle.rings.specs.Inner.Counting.Removing.{pass, one}
use Rattle.rings.proofs.histogram.drop_count.Goals as goal

pub returns-then-time-eq-NEVER : goal.returns-then-time-eq-NEVER
returns-then-time-eq-NEVER c = pass c.if-time-eq-NEVER.true refl

pub bounds-counts-e : goal.bounds-counts-e
bounds-counts-e c = omega (arith, c.requires.long, (c.requires.has c.if-time-eq-NEVER.false).in_days)

pub overflow_sub-counts : goal.overflow_sub-counts
overflow_sub-counts c = omega (arith, (c.requires.has c.if-time-eq-NEVER.false).one)

pub bounds-counts-e-2 : goal.bounds-counts-e-2
bounds-counts-e-2 c = omega (arith, c.requires.long, (c.requires.has c.if-time-eq-NEVER.false).in_days)

pub returns : goal.returns
returns c = one c.if-time-eq-NEVER.false refl
