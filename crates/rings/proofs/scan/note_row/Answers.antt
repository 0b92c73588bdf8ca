use native.Mathlib.Omega.{arith}
use Rattle.rings.proofs.DayScanLaws.{row_noted}
use Rattle.rings.proofs.ChoiceLaws.{picked_most}
use Rattle.rings.proofs.scan.note_row.Goals as goal

pub overflow_add-result : goal.overflow_add-result
overflow_add-result c = omega (arith, c.requires.0, picked_most c.one.ensures)

pub overflow_add-more : goal.overflow_add-more
overflow_add-more c = omega (arith, c.requires.1, picked_most c.one-3.ensures)

pub returns : goal.returns
returns c =
    row_noted _ _ _ _ _ _ c.requires.2 c.one.ensures c.pick.ensures c.one-2.ensures c.one-3.ensures c.pick-2.ensures
