use Rattle.listing.proofs.FoundLaws.{room_most, room_counted}
use Rattle.listing.proofs.list.has_room.Goals as goal

pub returns-then-longest-starts : goal.returns-then-longest-starts
returns-then-longest-starts c = room_most _ _ _ _ _ c.requires.prepared c.most-longest.ensures c.if-longest-starts.true

pub returns : goal.returns
returns c = room_counted _ _ _ _ c.pass-passed.ensures
