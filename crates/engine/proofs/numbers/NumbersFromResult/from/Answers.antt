-- `numbers::NumbersFromResult::from` meets its contract: by the cases of the answer.
-- Assumes nothing.
use Rattle.rings.specs.Refusals.{done}
use Rattle.engine.proofs.ToldLaws.{numbers_as}
use mathlib.Core.Path.{ap}
use Rattle.engine.proofs.numbers.NumbersFromResult.from.Goals as goal

pub returns-in-Ok : goal.returns-in-Ok
unfolding done
returns-in-Ok g c = rw c.in-Ok.is (ap (numbers_as 0 0) c.count.ensures)
