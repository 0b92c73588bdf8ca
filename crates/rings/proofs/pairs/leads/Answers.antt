use Rattle.rings.proofs.RemoveAccountLaws.{lead_is}
use Rattle.rings.proofs.pairs.leads.Goals as goal

pub returns : goal.returns
returns c = lead_is c.args.lo c.args.j c.entry-earlier.ensures
