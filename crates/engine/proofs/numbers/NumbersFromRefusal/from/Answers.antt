use Rattle.engine.proofs.ToldLaws.{refusal_told}
use Rattle.engine.proofs.numbers.NumbersFromRefusal.from.Goals as goal

pub returns : goal.returns
returns c = refusal_told c.args.r c.number.ensures c.place.ensures c.place_number.ensures
