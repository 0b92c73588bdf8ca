use native.Mathlib.Omega.{arith}
use mathlib.Core.Path.{refl}
use Rattle.rings.proofs.PeelLoopLaws.{count_end}
use Rattle.rings.proofs.CountNeighbourLaws.{count_start, count_below, count_place, count_first, count_second}
use Rattle.rings.proofs.CountNeighbourLaws.{count_skip, count_row}
use Rattle.rings.proofs.peel.count_neighbours.Goals as goal
use Rattle.rings.proofs.peel.count_neighbours.Goals.{then-leads, else-leads}

pub loop-j-init : goal.loop-j-init
loop-j-init c = count_start _ _ _ _ _ c.requires.ready c.requires.span c.requires.neighbour_counts

pub leads-requires : goal.leads-requires
leads-requires c = count_place _ _ _ _ _ c.requires.ready c.loop-j.invariant c.loop-j-test.true c.requires.span

pub entry-a-requires : goal.entry-a-requires
entry-a-requires c = omega (arith, count_below _ _ _ _ _ c.requires.ready c.loop-j.invariant c.loop-j-test.true c.requires.span, c.requires.ready.sound.firsts)

pub entry-b-requires : goal.entry-b-requires
entry-b-requires c = omega (arith, count_below _ _ _ _ _ c.requires.ready c.loop-j.invariant c.loop-j-test.true c.requires.span, c.requires.ready.sound.seconds)

pub entry-x-requires : goal.entry-x-requires
entry-x-requires c =
    (count_first _ _ _ _ _ c.requires.ready c.loop-j.invariant c.loop-j-test.true c.requires.span c.entry-a.ensures refl).0

pub overflow_add-x : goal.overflow_add-x
overflow_add-x c =
    let first =
    count_first _ _ _ _ _ c.requires.ready c.loop-j.invariant c.loop-j-test.true c.requires.span c.entry-a.ensures
    c.entry-x.ensures in
    omega arith

pub put-requires : goal.put-requires
put-requires c =
    let first =
    count_first _ _ _ _ _ c.requires.ready c.loop-j.invariant c.loop-j-test.true c.requires.span c.entry-a.ensures
    c.entry-x.ensures in
    record { place = first.0; number = omega arith }

pub entry-y-requires : goal.entry-y-requires
entry-y-requires c =
    (count_second _ _ _ _ _ c.requires.ready c.loop-j.invariant c.loop-j-test.true c.requires.span c.entry-a.ensures c.entry-b.ensures
    c.entry-x.ensures c.put.ensures refl).0

pub overflow_add-y : goal.overflow_add-y
overflow_add-y c =
    let second =
    count_second _ _ _ _ _ c.requires.ready c.loop-j.invariant c.loop-j-test.true c.requires.span c.entry-a.ensures
    c.entry-b.ensures c.entry-x.ensures c.put.ensures c.entry-y.ensures in
    omega arith

pub put-requires-then-leads : goal.put-requires-then-leads
put-requires-then-leads c =
    let second =
    count_second _ _ _ _ _ c.requires.ready c.loop-j.invariant c.loop-j-test.true c.requires.span c.entry-a.ensures
    c.entry-b.ensures c.entry-x.ensures c.put.ensures c.entry-y.ensures in
    record { place = second.0; number = omega arith }

pub loop-j-preserved : goal.loop-j-preserved
loop-j-preserved c =
    elim c.if-leads.branch [
      | then-leads w ↦ rw w.left-is (
          count_row _ _ _ _ _ c.requires.ready c.loop-j.invariant c.loop-j-test.true c.requires.span c.leads.ensures
          w.if-leads.true w.entry-a.ensures w.entry-b.ensures w.entry-x.ensures w.put.ensures w.entry-y.ensures
          w.put-then-leads.ensures
          )
      | else-leads w ↦ rw w.left-is (
          count_skip _ _ _ _ _ c.requires.ready c.loop-j.invariant c.loop-j-test.true c.requires.span c.leads.ensures
          w.if-leads.false
          )
    ]

pub shape_of-left : goal.shape_of-left
shape_of-left c = c.loop-j.invariant.lengths

pub returns : goal.returns
returns c = count_end c.loop-j.invariant c.loop-j-test.false
