use borrow.Author.Rules.{rules}
use Rattle.rings.proofs.starts.prepare.Goals as goal

pub returns : goal.returns
returns c = record { inside = search rules }
