use Rattle.listing.proofs.FoundLaws.{lengths_differ, lengths_alike}
use mathlib.Core.Path.{sym, ◌∙◌}
use Rattle.listing.proofs.list.one_length.Goals as goal

pub returns-then-are_equal : goal.returns-then-are_equal
returns-then-are_equal c = lengths_alike _ _ _ (sym c.are_equal.ensures ∙ c.if-are_equal.true)

pub returns-else-are_equal : goal.returns-else-are_equal
returns-else-are_equal c = c.if-are_equal.false ∙ lengths_differ _ _ _ (sym c.are_equal.ensures ∙ c.if-are_equal.false)
