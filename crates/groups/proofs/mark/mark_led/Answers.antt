use Rattle.groups.proofs.WritingLaws.{mark_start, mark_next, mark_few, mark_end}
use Rattle.rings.proofs.ChoiceLaws.{picked_most}
use native.Mathlib.Omega.{arith}
use Rattle.groups.proofs.mark.mark_led.Goals as goal

pub loop-j-init : goal.loop-j-init
loop-j-init c = mark_start c.args.ring.lent _ _ c.requires.cleared

pub overflow_add-n : goal.overflow_add-n
overflow_add-n c =
    let lent = c.args.ring.lent in
    omega (
      arith,
      picked_most c.one-led.ensures,
      mark_few lent _ _ c.loop-j.invariant,
      c.loop-j-test.true,
      lent.last,
      lent.sound.most,
    )

pub loop-j-preserved : goal.loop-j-preserved
loop-j-preserved c =
    mark_next c.args.ring.lent _ _ c.loop-j.invariant c.loop-j-test.true c.is_led.ensures c.one-led.ensures

pub returns : goal.returns
returns c =
    mark_end c.args.ring.lent _ _ c.loop-j.invariant c.loop-j-test.false (c.loop-j.auto.j-end c.args.ring.lent.ordered)
