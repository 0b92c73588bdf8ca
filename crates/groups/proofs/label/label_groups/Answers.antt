-- `label::label_groups` meets its contract: it lends marks.
-- Assumes nothing.
use Rattle.groups.proofs.CallLaws.{few_most, few_long}
use mathlib.Core.Path.{refl, sym, ◌∙◌}
use Rattle.groups.proofs.label.label_groups.Goals as goal

pub slice_bounds-marks-end : goal.slice_bounds-marks-end
slice_bounds-marks-end c = few_most _ c.places_for-places.ensures

pub slice_bounds-label_ring-end : goal.slice_bounds-label_ring-end
slice_bounds-label_ring-end c = sym (few_long _ _ c.places_for-places.ensures refl)

pub label_ring-requires : goal.label_ring-requires
label_ring-requires c = few_long _ _ c.places_for-places.ensures refl ∙ c.places_for-places.ensures
