use native.Mathlib.Omega.{arith}
use mathlib.Core.Path.{refl, sym, ◌∙◌}
use native.Mathlib.Nat.{le_antisymm}
use Rattle.rings.proofs.MarkLaws.{mark_start, mark_yes, mark_no, mark_few, mark_end, stays_place}
use Rattle.rings.proofs.MarkLaws.{stays_ring}
use Rattle.rings.proofs.ring.mark_rows.Goals as goal
use Rattle.rings.proofs.ring.mark_rows.Goals.{then-stays, else-stays}

pub loop-j-init : goal.loop-j-init
loop-j-init c = mark_start _ _

pub stays-requires : goal.stays-requires
stays-requires c = stays_place _ _ _ _ c.requires.whole_window c.requires.remaining _ c.loop-j-test.true

pub bounds-marks-j : goal.bounds-marks-j
bounds-marks-j c = omega (arith, c.loop-j-test.true, c.requires.marks_len, c.loop-j.invariant.long)

pub overflow_add-n : goal.overflow_add-n
overflow_add-n c =
    omega (arith, c.loop-j-test.true, mark_few c.loop-j.invariant, c.requires.whole_window.sound.most)

pub loop-j-preserved : goal.loop-j-preserved
loop-j-preserved c =
    elim c.if-stays.branch [
      | then-stays w ↦ rw w.marks-is (
          rw w.n-is (
          mark_yes c.loop-j.invariant (omega (arith, c.loop-j-test.true, c.requires.marks_len, c.loop-j.invariant.long))
          (sym c.stays.ensures ∙ w.if-stays.true)
          )
          )
      | else-stays w ↦ rw w.marks-is (
          rw w.n-is (
          mark_no c.loop-j.invariant (omega (arith, c.loop-j-test.true, c.requires.marks_len, c.loop-j.invariant.long))
          (sym c.stays.ensures ∙ w.if-stays.false)
          )
          )
    ]

pub shape_of-marks : goal.shape_of-marks
shape_of-marks c = c.loop-j.invariant.long

pub returns : goal.returns
returns c =
    mark_end _ _ _ _ c.loop-j.invariant c.requires.marks_len (le_antisymm c.loop-j.auto.j-end c.loop-j-test.false)
    (λ i h. stays_ring _ _ _ _ c.requires.whole_window c.requires.remaining i h refl)
