use Rattle.rings.proofs.SlotLaws.{emptied_part}
use Rattle.rings.proofs.pairs.clear_slots.Goals as goal

pub returns : goal.returns
returns c = emptied_part c.requires (c.fill.ensures.after (λ y e. e))
