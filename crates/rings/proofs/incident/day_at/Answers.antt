use Rattle.rings.proofs.SupporterLaws.{at_place}
use Rattle.rings.proofs.incident.day_at.Goals as goal

pub returns : goal.returns
returns c = at_place c.args.days.now c.entry-here.ensures
