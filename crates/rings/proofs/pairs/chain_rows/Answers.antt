use mathlib.Core.Path.{refl, ◌∙◌}
use Rattle.rings.proofs.SlotLaws.{row_slot, chain_last, chain_next, chain_end}
use Rattle.rings.proofs.RankLaws.{first_small, second_small}
use native.Mathlib.Omega.{arith}
use Rattle.rings.proofs.pairs.chain_rows.Goals as goal

pub loop-j-init : goal.loop-j-init
loop-j-init c =
    record {
      rows = refl;
      long = refl;
      chained = c.requires;
    }

pub entry-a-requires : goal.entry-a-requires
entry-a-requires c = omega (arith, c.loop-j-test.true, c.args.payments.sound.firsts)

pub entry-b-requires : goal.entry-b-requires
entry-b-requires c = omega (arith, c.loop-j-test.true, c.args.payments.sound.seconds)

pub slot_of-h-requires : goal.slot_of-h-requires
slot_of-h-requires c =
    record {
      first = first_small c.args.payments.sound c.loop-j-test.true c.entry-a.ensures;
      second = second_small c.args.payments.sound c.loop-j-test.true c.entry-b.ensures;
    }

pub entry-last-requires : goal.entry-last-requires
entry-last-requires c = omega (arith, c.slot_of-h.ensures.below, c.loop-j.invariant.chained.long)

pub overflow_mul-n : goal.overflow_mul-n
overflow_mul-n c = omega (arith, c.args.payments.sound.most)

pub overflow_add-n : goal.overflow_add-n
overflow_add-n c = omega (arith, c.args.payments.sound.most)

pub overflow_add-n-in-loop-j : goal.overflow_add-n-in-loop-j
overflow_add-n-in-loop-j c = omega (arith, c.args.payments.sound.most, c.loop-j-test.true)

pub put-requires : goal.put-requires
put-requires c =
    record {
      place = omega (arith, c.loop-j-test.true, c.loop-j.invariant.chained.long);
      number = omega (
        arith,
        c.loop-j-test.true,
        c.args.payments.sound.most,
        chain_last _ _ _ c.args.payments.sound c.loop-j.invariant.chained c.slot_of-h.ensures.below c.entry-last.ensures,
      );
    }

pub overflow_add-j : goal.overflow_add-j
overflow_add-j c = omega (arith, c.loop-j-test.true, c.args.payments.sound.most)

pub put-requires-in-loop-j : goal.put-requires-in-loop-j
put-requires-in-loop-j c =
    record {
      place = omega (arith, c.slot_of-h.ensures.below, c.put.auto.s, c.loop-j.invariant.chained.long);
      number = omega (arith, c.loop-j-test.true, c.args.payments.sound.most);
    }

pub loop-j-preserved : goal.loop-j-preserved
loop-j-preserved c =
    record {
      rows = refl;
      long = c.put-in-loop-j.auto.s ∙ (c.put.auto.s ∙ c.loop-j.invariant.long);
      chained = chain_next _ _ _ c.args.payments.sound c.loop-j.invariant.chained c.loop-j-test.true c.slot_of-h.ensures.below
          (row_slot _ _ _ c.args.payments.sound _ c.entry-a.ensures c.entry-b.ensures c.slot_of-h.ensures.is) c.entry-last.ensures
          c.put.ensures c.put-in-loop-j.ensures;
    }

pub shape_of-scratch : goal.shape_of-scratch
shape_of-scratch c = c.loop-j.invariant.long

pub returns : goal.returns
returns c =
    chain_end _ _ _ c.args.payments.sound c.loop-j.invariant.chained c.loop-j.auto.j-end c.loop-j-test.false
