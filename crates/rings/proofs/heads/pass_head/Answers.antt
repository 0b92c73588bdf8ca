use Rattle.rings.proofs.PassHeadLaws.{passing_move}
use mathlib.Core.Path.{refl}
use Rattle.rings.specs.Inner.Adjacency.{Passing}
use Rattle.rings.proofs.heads.pass_head.Goals as goal

pub returns-then-last-place : goal.returns-then-last-place
returns-then-last-place c = Passing.stays refl

pub returns-then-entry-j : goal.returns-then-entry-j
returns-then-entry-j c =
    passing_move c.entry-last.ensures c.entry-place.ensures c.if-last-place.false c.entry.ensures c.if-entry-j.true c.put.ensures

pub returns-else-entry-j : goal.returns-else-entry-j
returns-else-entry-j c = Passing.stays refl
