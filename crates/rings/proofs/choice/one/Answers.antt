use mathlib.Core.Path.{refl}
use Rattle.rings.proofs.WordLaws.{clash}
use Rattle.rings.proofs.choice.one.Goals as goal

pub returns-then-test : goal.returns-then-test
returns-then-test c = record { yes = λ e. refl; no = λ e. clash c.if-test.true e }

pub returns-else-test : goal.returns-else-test
returns-else-test c = record { yes = λ e. clash e c.if-test.false; no = λ e. refl }
