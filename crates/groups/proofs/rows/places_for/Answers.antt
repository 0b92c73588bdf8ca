-- `rows::places_for` meets its contract: by the definition.
-- Assumes nothing.
use Rattle.groups.specs.Inner.{at_most}
use Rattle.groups.proofs.rows.places_for.Goals as goal

pub returns : goal.returns
unfolding at_most
returns c = c.min.ensures
