use Rattle.listing.proofs.FoundLaws.{find_refused, find_done}
use Rattle.rings.specs.Buffers.{cleared}
use lib.ListN.{replicate}
use mathlib.Core.Path.{◌∙◌, ap}
use Prim.Native.Nat.{ℕ}
use Rattle.listing.proofs.list.find_rings.Goals as goal

pub returns-then-not-room : goal.returns-then-not-room
unfolding cleared
returns-then-not-room c =
    find_refused _ _ _ _ c.has_room-room.ensures
    (c.fill.ensures.after (λ y e. e) ∙ ap (λ (m : ℕ). replicate m 0) (c.has_room-room.auto.scratch ∙ c.prepare.auto.scratch))
    c.if-not-room.true

pub returns : goal.returns
unfolding cleared
returns c =
    rw c.into.ensures
    (
    find_done _ _ _ _ c.has_room-room.ensures
    (
    c.fill-2.ensures.after (λ y e. e) ∙ ap (λ (m : ℕ). replicate m 0)
    (c.pass-passed.auto.scratch ∙ (c.has_room-room.auto.scratch ∙ c.prepare.auto.scratch))
    ) c.if-not-room.false c.pass-passed.ensures
    )
