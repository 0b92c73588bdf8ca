use native.Mathlib.Omega.{arith}
use Rattle.rings.proofs.HeadLaws.{resetting_start, resetting_few, resetting_next, resetting_end}
use Rattle.rings.proofs.heads.reset_heads.Goals as goal

pub loop-u-init : goal.loop-u-init
loop-u-init c = resetting_start _ _

pub entry-end-requires : goal.entry-end-requires
entry-end-requires c =
    omega (arith, c.loop-u-test.true, c.loop-u.invariant.else.long, c.requires.adjacency.long)

pub overflow_add-u : goal.overflow_add-u
overflow_add-u c = omega (arith, c.loop-u-test.true)

pub put-requires : goal.put-requires
put-requires c =
    record {
      place = omega (arith, c.loop-u-test.true, c.loop-u.invariant.else.long, c.requires.adjacency.long);
      number = resetting_few _ c.args.payments.sound.most c.loop-u.invariant;
    }

pub loop-u-preserved : goal.loop-u-preserved
loop-u-preserved c =
    resetting_next c.requires.adjacency c.loop-u.invariant c.loop-u-test.true
    c.entry-end.ensures c.put.ensures

pub shape_of-scratch : goal.shape_of-scratch
shape_of-scratch c = c.loop-u.invariant.else.long

pub returns : goal.returns
returns c =
    resetting_end c.requires.adjacency c.loop-u.invariant c.loop-u-test.false
