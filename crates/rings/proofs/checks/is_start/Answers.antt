use Rattle.rings.proofs.WordLaws.{all_four}
use Rattle.rings.proofs.checks.is_start.Goals as goal

pub returns : goal.returns
returns c = all_four _ _ _ _
