use Rattle.groups.proofs.LeaderLaws.{join_start, join_skip, join_row, join_end}
use mathlib.Core.Path.{refl}
use Rattle.groups.proofs.forest.join_rows.Goals.{then-p-q, else-p-q}
use Rattle.groups.proofs.forest.join_rows.Goals as goal

pub loop-j-init : goal.loop-j-init
loop-j-init c = join_start c.args.ring.lent c.requires

pub loop-j-preserved : goal.loop-j-preserved
loop-j-preserved c =
    elim c.if-p-q.branch [
      | then-p-q w ↦ rw w.parents-is
          (join_row c.args.ring.lent _ c.loop-j.invariant refl refl c.pick-q.ensures w.if-p-q.true w.join.ensures)
      | else-p-q w ↦ rw w.parents-is
          (join_skip c.args.ring.lent c.loop-j.invariant c.loop-j-test.true refl refl c.parent-p.ensures.value
          c.parent.ensures.value c.pick-q.ensures w.if-p-q.false)
    ]

pub returns : goal.returns
returns c =
    join_end c.args.ring.lent c.loop-j.invariant c.loop-j-test.false (c.loop-j.auto.j-end c.args.ring.lent.ordered)
