use Rattle.rings.proofs.SlotLaws.{slot_is}
use Rattle.rings.proofs.pairs.slot_of.Goals as goal

pub returns : goal.returns
returns c = slot_is c.args.a c.args.b
