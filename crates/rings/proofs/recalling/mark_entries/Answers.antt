use Rattle.rings.proofs.RecallLaws.{mark_start, mark_early, mark_late, mark_hit, mark_end}
use native.Mathlib.Omega.{arith}
use Rattle.rings.proofs.recalling.mark_entries.Goals as goal
use Rattle.rings.proofs.recalling.mark_entries.Goals.{then-s-start+then-end-e, else-s-start}
use Rattle.rings.proofs.recalling.mark_entries.Goals.{else-s-start-via-then-s-start+else-end-e, else-s-start-via-else-s-start}

pub loop-i-init : goal.loop-i-init
loop-i-init c = mark_start _ _ _ _ _ _ c.requires.clear

pub entry-row-requires : goal.entry-row-requires
entry-row-requires c = omega (arith, c.loop-i-test.true)

pub entry-start-requires : goal.entry-start-requires
entry-start-requires c = omega (arith, c.loop-i-test.true, c.requires.lists.starts)

pub entry-end-requires : goal.entry-end-requires
entry-end-requires c = omega (arith, c.loop-i-test.true, c.requires.lists.ends)

pub bounds-marks-row : goal.bounds-marks-row
bounds-marks-row c =
    omega (arith, c.entry-row.ensures, c.requires.rows.in_table _ c.loop-i-test.true, c.loop-i.invariant.long)

pub loop-i-preserved : goal.loop-i-preserved
loop-i-preserved c =
    elim c.if-s-start.branch [
      | then-s-start+then-end-e w ↦ rw w.marks-is (
          mark_hit _ _ _ _ _ c.loop-i.invariant c.requires.rows c.loop-i-test.true c.entry-row.ensures
          c.entry-start.ensures c.entry-end.ensures w.if-s-start.true w.if-end-e.true
          )
      | else-s-start w ↦ rw w.marks-is (
          elim w.else-s-start.branch [
            | else-s-start-via-then-s-start+else-end-e w' ↦
                mark_late _ _ _ _ _ c.loop-i.invariant c.loop-i-test.true c.entry-end.ensures w'.if-end-e.false
            | else-s-start-via-else-s-start w' ↦
                mark_early _ _ _ _ _ c.loop-i.invariant c.loop-i-test.true c.entry-start.ensures w'.if-s-start.false
          ]
          )
    ]

pub shape_of-marks : goal.shape_of-marks
shape_of-marks c = c.loop-i.invariant.long

pub returns : goal.returns
returns c = mark_end _ _ _ _ _ c.loop-i.invariant c.loop-i-test.false
