use mathlib.Core.Path.{refl}
use native.Mathlib.Omega.{arith}
use Rattle.rings.proofs.ChoiceLaws.{picked_most}
use Rattle.rings.proofs.SupporterLaws.{dropped_supporter, under}
use Rattle.rings.proofs.supporters.drop_supporter.Goals as goal

pub overflow_sub-slack : goal.overflow_sub-slack
overflow_sub-slack c = under c.args.test _ c.one.ensures

pub overflow_add-result : goal.overflow_add-result
overflow_add-result c = omega (arith, c.requires.room, c.wide.ensures, picked_most c.one-2.ensures)

pub returns : goal.returns
returns c = dropped_supporter _ _ _ _ _ c.one.ensures c.one-2.ensures refl c.put.ensures c.wide.ensures
