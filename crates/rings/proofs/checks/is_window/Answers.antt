use Rattle.rings.proofs.WordLaws.{all_three}
use Rattle.rings.proofs.checks.is_window.Goals as goal

pub returns : goal.returns
returns c = all_three _ _ _
