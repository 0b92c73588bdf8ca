use Rattle.rings.proofs.WordLaws.{all_two}
use Rattle.rings.proofs.checks.are_equal.Goals as goal

pub returns : goal.returns
returns c = all_two _ _
