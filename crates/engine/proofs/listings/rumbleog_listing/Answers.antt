-- `listings::rumbleog_listing` meets its contract: it hands on what the call answered.
-- Assumes nothing.
use Rattle.engine.proofs.ToldLaws.{by_listing, sum_told, empty_told, listing_told}
use Rattle.engine.proofs.listings.rumbleog_listing.Goals as goal

pub returns : goal.returns
returns c =
    listing_told _ _ _ _ _ _ c.list_rings-answer.ensures.result_value c.list_rings-answer.ensures.after c.list_rings-answer.ensures.scratch_after
    (by_listing _ c.from-told.ensures) (sum_told _ c.unwrap_or-listed.ensures) (empty_told _ c.unwrap_or-listed.ensures)
