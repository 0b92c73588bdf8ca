use mathlib.Core.Path.{refl, ◌∙◌}
use Rattle.rings.proofs.SlotLaws.{seek_start, seek_row, seek_place, seek_less, seek_found, seek_next}
use Rattle.rings.proofs.SlotLaws.{seek_none, pairing_end}
use native.Mathlib.Omega.{arith}
use Rattle.rings.proofs.pairs.find_pairs.Goals as goal

pub rows-init : goal.rows-init
rows-init c =
    record {
      long = refl;
      pairing = c.requires;
    }

pub entry-a-requires : goal.entry-a-requires
entry-a-requires c = omega (arith, c.rows-test.true, c.rows.auto.j, c.args.payments.sound.firsts)

pub entry-b-requires : goal.entry-b-requires
entry-b-requires c = omega (arith, c.rows-test.true, c.rows.auto.j, c.args.payments.sound.seconds)

pub overflow_mul-n : goal.overflow_mul-n
overflow_mul-n c = omega (arith, c.args.payments.sound.most)

pub overflow_add-n : goal.overflow_add-n
overflow_add-n c = omega (arith, c.args.payments.sound.most)

pub overflow_add-n-in-rows : goal.overflow_add-n-in-rows
overflow_add-n-in-rows c = omega (arith, c.args.payments.sound.most, c.rows.auto.j, c.rows-test.true)

pub entry-p-requires : goal.entry-p-requires
entry-p-requires c = omega (arith, c.rows.invariant.pairing.long, c.rows.auto.j, c.rows-test.true)

pub loop-p-init : goal.loop-p-init
loop-p-init c =
    record {
      long = refl;
      seeking =
          seek_start _ _ _ c.args.payments.sound c.rows.invariant.pairing c.rows-test.true c.rows.auto.j refl
          c.entry-p.ensures;
    }

pub overflow_sub-i : goal.overflow_sub-i
overflow_sub-i c = omega (arith, c.loop-p-test.true)

pub is_pair-requires : goal.is_pair-requires
is_pair-requires c =
    record {
      first = omega (arith, seek_row _ _ _ c.args.payments.sound c.loop-p.invariant.seeking c.loop-p-test.true refl, c.args.payments.sound.firsts);
      second = omega (arith, seek_row _ _ _ c.args.payments.sound c.loop-p.invariant.seeking c.loop-p-test.true refl, c.args.payments.sound.seconds);
    }

pub overflow_mul-n-then-is_pair : goal.overflow_mul-n-then-is_pair
overflow_mul-n-then-is_pair c = omega (arith, c.args.payments.sound.most)

pub overflow_add-n-then-is_pair : goal.overflow_add-n-then-is_pair
overflow_add-n-then-is_pair c = omega (arith, c.args.payments.sound.most)

pub overflow_add-n-then-is_pair-2 : goal.overflow_add-n-then-is_pair-2
overflow_add-n-then-is_pair-2 c = omega (arith, c.args.payments.sound.most, c.loop-p.invariant.seeking.row)

pub put-requires : goal.put-requires
put-requires c =
    record {
      place = omega (arith, c.loop-p.invariant.seeking.made.long, c.loop-p.invariant.seeking.row);
      number = omega (arith, c.loop-p.invariant.seeking.low, c.loop-p.invariant.seeking.row, c.args.payments.sound.most);
    }

pub rows-preserved-then-is_pair : goal.rows-preserved-then-is_pair
rows-preserved-then-is_pair c =
    record {
      long = c.put.auto.s ∙ (c.loop-p.invariant.long ∙ c.rows.invariant.long);
      pairing = seek_found _ _ _ c.args.payments.sound c.loop-p.invariant.seeking c.loop-p-test.true refl c.entry-a.ensures c.entry-b.ensures
          c.is_pair.ensures c.if-is_pair.true c.put.ensures;
    }

pub overflow_mul-n-in-loop-p : goal.overflow_mul-n-in-loop-p
overflow_mul-n-in-loop-p c = omega (arith, c.args.payments.sound.most)

pub overflow_add-n-in-loop-p : goal.overflow_add-n-in-loop-p
overflow_add-n-in-loop-p c = omega (arith, c.args.payments.sound.most)

pub overflow_add-n-in-loop-p-2 : goal.overflow_add-n-in-loop-p-2
overflow_add-n-in-loop-p-2 c =
    omega (arith, c.args.payments.sound.most, seek_row _ _ _ c.args.payments.sound c.loop-p.invariant.seeking c.loop-p-test.true refl)

pub entry-p-requires-in-loop-p : goal.entry-p-requires-in-loop-p
entry-p-requires-in-loop-p c = seek_place _ _ _ c.args.payments.sound c.loop-p.invariant.seeking c.loop-p-test.true refl

pub loop-p-smaller : goal.loop-p-smaller
loop-p-smaller c =
    seek_less _ _ _ c.args.payments.sound c.loop-p.invariant.seeking c.loop-p-test.true refl c.entry-p-in-loop-p.ensures

pub loop-p-preserved : goal.loop-p-preserved
loop-p-preserved c =
    record {
      long = c.loop-p.invariant.long;
      seeking = seek_next _ _ _ c.args.payments.sound c.loop-p.invariant.seeking c.loop-p-test.true refl c.entry-a.ensures c.entry-b.ensures
          c.is_pair.ensures c.if-is_pair.false c.entry-p-in-loop-p.ensures;
    }

pub overflow_mul-n-in-rows : goal.overflow_mul-n-in-rows
overflow_mul-n-in-rows c = omega (arith, c.args.payments.sound.most)

pub overflow_add-n-in-rows-2 : goal.overflow_add-n-in-rows-2
overflow_add-n-in-rows-2 c = omega (arith, c.args.payments.sound.most)

pub overflow_add-n-in-rows-3 : goal.overflow_add-n-in-rows-3
overflow_add-n-in-rows-3 c = omega (arith, c.args.payments.sound.most, c.loop-p.invariant.seeking.row)

pub put-requires-in-rows : goal.put-requires-in-rows
put-requires-in-rows c =
    record {
      place = omega (arith, c.loop-p.invariant.seeking.made.long, c.loop-p.invariant.seeking.row);
      number = omega arith;
    }

pub rows-preserved : goal.rows-preserved
rows-preserved c =
    record {
      long = c.put-in-rows.auto.s ∙ (c.loop-p.invariant.long ∙ c.rows.invariant.long);
      pairing = seek_none _ _ _ c.args.payments.sound c.loop-p.invariant.seeking c.loop-p-test.false c.put-in-rows.ensures;
    }

pub shape_of-scratch : goal.shape_of-scratch
shape_of-scratch c = c.rows.invariant.long

pub returns : goal.returns
returns c = pairing_end _ _ _ c.args.payments.sound c.rows.invariant.pairing c.rows-test.false
