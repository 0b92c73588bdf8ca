use Rattle.rings.proofs.IncidentLaws.{other_sum}
use mathlib.Core.Path.{refl}
use mathlib.Core.Logic.{⊎_elim}
use native.Mathlib.Omega.{arith}
use Rattle.rings.proofs.pairs.other.Goals as goal

pub overflow_sub-result : goal.overflow_sub-result
overflow_sub-result c = ⊎_elim (λ h. omega (arith, h)) (λ h. omega (arith, h)) c.requires.one

pub returns : goal.returns
returns c = other_sum c.requires.one refl
