-- `peel::remove_row` meets its contract: the last row leaves freely where it does not lead or one of its accounts has
-- been removed;
-- else both accounts lose a neighbour (PeelLoopLaws).
-- Assumes nothing.
use native.Mathlib.Omega.{arith}
use mathlib.Core.Path.{refl}
use Rattle.rings.proofs.PeelLoopLaws.{remove_row_below, remove_row_place, remove_row_accounts, remove_row_old}
use Rattle.rings.proofs.PeelLoopLaws.{remove_row_a_removed, remove_row_b_removed, remove_row_room_a}
use Rattle.rings.proofs.PeelLoopLaws.{remove_row_room_b, remove_row_now, remove_row_left}
use Rattle.rings.proofs.peel.remove_row.Goals as goal

pub leads-requires : goal.leads-requires
leads-requires c = remove_row_place _ _ _ _ _ c.requires.ready _ c.requires.row_removable refl

pub entry-a-requires : goal.entry-a-requires
entry-a-requires c =
    omega (arith, remove_row_below _ _ _ _ _ c.requires.ready (c.requires.row_removable), c.requires.ready.sound.firsts)

pub entry-b-requires : goal.entry-b-requires
entry-b-requires c =
    omega (arith, remove_row_below _ _ _ _ _ c.requires.ready (c.requires.row_removable), c.requires.ready.sound.seconds)

pub entry-requires : goal.entry-requires
entry-requires c =
    (remove_row_accounts _ _ _ _ _ c.requires.ready _ c.requires.row_removable refl c.entry-a.ensures c.entry-b.ensures).0

pub returns-then-entry-ne0 : goal.returns-then-entry-ne0
returns-then-entry-ne0 c =
    remove_row_a_removed _ _ _ _ _ c.requires.ready _ c.requires.row_removable refl c.entry-a.ensures c.entry.ensures c.if-entry-ne0.true

pub entry-requires-then-leads : goal.entry-requires-then-leads
entry-requires-then-leads c =
    (remove_row_accounts _ _ _ _ _ c.requires.ready _ c.requires.row_removable refl c.entry-a.ensures c.entry-b.ensures).1

pub returns-then-entry-ne0-2 : goal.returns-then-entry-ne0-2
returns-then-entry-ne0-2 c =
    remove_row_b_removed _ _ _ _ _ c.requires.ready _ c.requires.row_removable refl c.entry-b.ensures c.entry-then-leads.ensures c.if-entry-ne0-2.true

pub drop_neighbour-one-requires : goal.drop_neighbour-one-requires
drop_neighbour-one-requires c =
    remove_row_room_a _ _ _ _ _ c.requires.ready _ c.requires.row_removable refl c.leads.ensures c.if-leads.true c.entry-a.ensures
    c.entry-b.ensures
    c.entry.ensures c.entry-then-leads.ensures c.if-entry-ne0.false c.if-entry-ne0-2.false

pub drop_neighbour-two-requires : goal.drop_neighbour-two-requires
drop_neighbour-two-requires c =
    remove_row_room_b _ _ _ _ _ c.requires.ready _ c.requires.row_removable refl c.leads.ensures c.if-leads.true c.entry-a.ensures
    c.entry-b.ensures
    c.entry.ensures c.entry-then-leads.ensures c.if-entry-ne0.false c.if-entry-ne0-2.false c.drop_neighbour-one.ensures

pub remove_queued-idle-requires : goal.remove_queued-idle-requires
remove_queued-idle-requires c =
    record {
      ready = c.requires.ready;
      peel_state_of = remove_row_now _ _ _ _ _ c.requires.ready _ c.requires.row_removable refl c.leads.ensures c.if-leads.true c.entry-a.ensures c.entry-b.ensures
          c.entry.ensures c.entry-then-leads.ensures c.if-entry-ne0.false c.if-entry-ne0-2.false c.drop_neighbour-one.ensures
          c.drop_neighbour-two.ensures;
    }

pub returns-then-leads : goal.returns-then-leads
returns-then-leads c =
    remove_row_left _ _ _ _ _ c.requires.ready _ c.requires.row_removable refl refl refl c.remove_queued-idle.ensures

pub returns : goal.returns
returns c =
    remove_row_old _ _ _ _ _ c.requires.ready _ c.requires.row_removable refl c.leads.ensures c.if-leads.false
