use Rattle.rings.specs.Inner.Settling.SlackAbove.{none, some, few}
use native.Mathlib.Omega.{arith}
use mathlib.Core.Path.{refl}
use Rattle.rings.proofs.scan.slack_above.Goals as goal

pub returns-then-above-eq-NEVER : goal.returns-then-above-eq-NEVER
returns-then-above-eq-NEVER c = none c.if-above-eq-NEVER.true refl

pub returns-then-both-k : goal.returns-then-both-k
returns-then-both-k c = few c.if-above-eq-NEVER.false c.if-both-k.true refl

pub overflow_add-result : goal.overflow_add-result
overflow_add-result c = omega (arith, c.requires)

pub overflow_sub-result : goal.overflow_sub-result
overflow_sub-result c = omega (arith, c.if-both-k.false)

pub returns : goal.returns
returns c = some c.if-above-eq-NEVER.false c.if-both-k.false refl
