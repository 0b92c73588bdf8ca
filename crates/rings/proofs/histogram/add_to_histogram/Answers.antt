use mathlib.Core.Path.{refl}
use Rattle.rings.proofs.ChoiceLaws.{flag_set, flag_clear}
use Rattle.rings.proofs.WordLaws.{clash}
use Rattle.rings.proofs.histogram.add_to_histogram.Goals as goal

pub returns-then-not-this : goal.returns-then-not-this
returns-then-not-this g c = record { counted = λ h. clash h (flag_clear c.if-not-this.true); same = λ h. refl }

pub add_count-requires : goal.add_count-requires
add_count-requires g c = c.requires (flag_set c.if-not-this.false)

pub returns : goal.returns
returns g c = record { counted = λ h. c.add_count.ensures; same = λ h. clash (flag_set c.if-not-this.false) h }
