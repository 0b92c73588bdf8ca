use native.Mathlib.Omega.{arith}
use Rattle.rings.proofs.HeadLaws.{moving_start, moving_asks, moving_mid, moving_next, moving_end}
use Rattle.rings.proofs.heads.move_heads.Goals as goal

pub loop-j-init : goal.loop-j-init
loop-j-init c =
    moving_start _ _ _ c.requires.sound c.requires.adjacency c.requires.first

pub entry-a-requires : goal.entry-a-requires
entry-a-requires c = omega (arith, c.loop-j-test.true, c.requires.last.within, c.requires.sound.firsts)

pub entry-b-requires : goal.entry-b-requires
entry-b-requires c = omega (arith, c.loop-j-test.true, c.requires.last.within, c.requires.sound.seconds)

pub pass_row-requires : goal.pass_row-requires
pass_row-requires c =
    moving_asks _ _ _ c.requires.sound c.loop-j.invariant (omega (arith, c.loop-j-test.true, c.requires.last.within))
    c.entry-a.ensures
    c.entry-b.ensures (omega (arith, c.requires.adjacency.long))

pub pass_row-requires-in-loop-j : goal.pass_row-requires-in-loop-j
pass_row-requires-in-loop-j c =
    moving_mid _ _ _ c.requires.sound c.loop-j.invariant (omega (arith, c.loop-j-test.true, c.requires.last.within))
    c.entry-a.ensures
    c.entry-b.ensures c.pass_row.ensures (omega (arith, c.requires.adjacency.long))

pub loop-j-preserved : goal.loop-j-preserved
loop-j-preserved c =
    moving_next _ _ _ c.requires.sound c.loop-j.invariant (omega (arith, c.loop-j-test.true, c.requires.last.within))
    c.entry-a.ensures c.entry-b.ensures c.pass_row.ensures (omega (arith, c.requires.adjacency.long))
    c.pass_row-in-loop-j.ensures

pub shape_of-scratch : goal.shape_of-scratch
shape_of-scratch c = c.loop-j.invariant.else.long

pub returns : goal.returns
returns c =
    moving_end _ _ _ c.requires.sound c.requires.adjacency c.loop-j.invariant (c.loop-j.auto.j-end c.requires.ordered) c.requires.last
