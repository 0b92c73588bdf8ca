use native.Mathlib.Omega.{arith}
use mathlib.Core.Path.{refl, ◌∙◌}
use Rattle.rings.proofs.RankLaws.{first_small, second_small}
use Rattle.rings.proofs.PassHeadLaws.{heads_start, heads_asks, heads_mid, heads_next, heads_end, passing_long}
use Rattle.rings.proofs.heads.pass_heads.Goals as goal

pub loop-row-init : goal.loop-row-init
loop-row-init c =
    record {
      long = refl;
      passed = heads_start _ c.requires.pruned;
    }

pub entry-a-requires : goal.entry-a-requires
entry-a-requires c = omega (arith, c.loop-row-test.true, c.requires.within, c.requires.sound.firsts)

pub entry-b-requires : goal.entry-b-requires
entry-b-requires c = omega (arith, c.loop-row-test.true, c.requires.within, c.requires.sound.seconds)

pub pass_head-requires : goal.pass_head-requires
pass_head-requires c =
    heads_asks c.requires.sound.most c.loop-row.invariant.passed.pruned
    (first_small c.requires.sound (omega (arith, c.loop-row-test.true, c.requires.within)) c.entry-a.ensures)

pub pass_head-requires-in-loop-row : goal.pass_head-requires-in-loop-row
pass_head-requires-in-loop-row c =
    heads_asks c.requires.sound.most
    (
    heads_mid c.loop-row.invariant.passed
    (first_small c.requires.sound (omega (arith, c.loop-row-test.true, c.requires.within)) c.entry-a.ensures) c.pass_head.ensures
    )
    (second_small c.requires.sound (omega (arith, c.loop-row-test.true, c.requires.within)) c.entry-b.ensures)

pub loop-row-preserved : goal.loop-row-preserved
loop-row-preserved c =
    record {
      long = passing_long c.pass_head-in-loop-row.ensures ∙ (passing_long c.pass_head.ensures ∙ c.loop-row.invariant.long);
      passed = heads_next c.loop-row.invariant.passed
          (first_small c.requires.sound (omega (arith, c.loop-row-test.true, c.requires.within)) c.entry-a.ensures)
          (second_small c.requires.sound (omega (arith, c.loop-row-test.true, c.requires.within)) c.entry-b.ensures)
          c.pass_head.ensures c.pass_head-in-loop-row.ensures;
    }

pub shape_of-scratch : goal.shape_of-scratch
shape_of-scratch c = c.loop-row.invariant.long

pub returns : goal.returns
returns c = heads_end c.loop-row.invariant.passed (c.loop-row.auto.row-end c.requires.ordered)
