-- `ring::stays` meets its contract.
-- Assumes nothing.
use lib.ListN.{get_or}
use Rattle.rings.specs.Words.{◌and◌}
use Rattle.rings.proofs.MarkLaws.{is_zero, not_zero}
use Rattle.rings.proofs.ring.stays.Goals as goal

pub returns-then-entry-ne0 : goal.returns-then-entry-ne0
unfolding ◌and◌
returns-then-entry-ne0 c =
    simp (not_zero c.args.times.now (get_or c.args.first.now c.args.j 0) c.entry-a.ensures c.entry.ensures
    c.if-entry-ne0.true)

pub returns-then-entry-ne0-2 : goal.returns-then-entry-ne0-2
unfolding ◌and◌
returns-then-entry-ne0-2 c =
    simp (
      is_zero c.args.times.now (get_or c.args.first.now c.args.j 0) c.entry-a.ensures c.entry.ensures c.if-entry-ne0.false,
      not_zero c.args.times.now (get_or c.args.second.now c.args.j 0) c.entry-b.ensures c.entry-2.ensures
          c.if-entry-ne0-2.true,
    )

pub returns : goal.returns
unfolding ◌and◌
returns c =
    simp (
      is_zero c.args.times.now (get_or c.args.first.now c.args.j 0) c.entry-a.ensures c.entry.ensures c.if-entry-ne0.false,
      is_zero c.args.times.now (get_or c.args.second.now c.args.j 0) c.entry-b.ensures c.entry-2.ensures
          c.if-entry-ne0-2.false,
    )
