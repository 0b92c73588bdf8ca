-- `mark::mark_group` meets its contract: it lends marks for the ring.
-- Assumes nothing.
use Rattle.groups.proofs.CallLaws.{few_most, few_long}
use mathlib.Core.Path.{refl, sym, ◌∙◌}
use Rattle.groups.proofs.mark.mark_group.Goals as goal

pub slice_bounds-ring-end : goal.slice_bounds-ring-end
slice_bounds-ring-end c = few_most _ c.places_for-places.ensures

pub slice_bounds-mark_part-end : goal.slice_bounds-mark_part-end
slice_bounds-mark_part-end c = sym (few_long _ _ c.places_for-places.ensures refl)

pub mark_part-requires : goal.mark_part-requires
mark_part-requires c = few_long _ _ c.places_for-places.ensures refl ∙ c.places_for-places.ensures
