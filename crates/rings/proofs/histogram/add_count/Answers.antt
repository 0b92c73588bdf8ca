use native.Mathlib.Omega.{arith}
use mathlib.Core.Path.{refl}
use Rattle.rings.specs.Inner.Counting.Adding.{pass, some}
use Rattle.rings.proofs.histogram.add_count.Goals as goal

pub returns-then-time-eq-NEVER : goal.returns-then-time-eq-NEVER
returns-then-time-eq-NEVER c = pass c.if-time-eq-NEVER.true refl

pub bounds-counts-e : goal.bounds-counts-e
bounds-counts-e c = omega (arith, c.requires.long, (c.requires.room c.if-time-eq-NEVER.false).in_days)

pub overflow_add-counts : goal.overflow_add-counts
overflow_add-counts c = omega (arith, (c.requires.room c.if-time-eq-NEVER.false).few)

pub bounds-counts-e-2 : goal.bounds-counts-e-2
bounds-counts-e-2 c = omega (arith, c.requires.long, (c.requires.room c.if-time-eq-NEVER.false).in_days)

pub returns : goal.returns
returns c = some c.if-time-eq-NEVER.false refl
