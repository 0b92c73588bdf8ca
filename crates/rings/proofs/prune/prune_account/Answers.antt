use native.Mathlib.Omega.{arith}
use mathlib.Core.Path.{◌∙◌}
use Rattle.rings.proofs.ChoiceLaws.{picked_most}
use Rattle.rings.proofs.PruneLaws.{pruning_start, pruning_stands, pruning_place, pruning_few}
use Rattle.rings.proofs.PruneLaws.{pruning_timed, pruning_next, pruning_end}
use Rattle.rings.proofs.prune.prune_account.Goals as goal

pub entry-last-requires : goal.entry-last-requires
entry-last-requires c = omega (arith, c.requires.account, c.requires.pruned.long)

pub overflow_add-u : goal.overflow_add-u
overflow_add-u c = omega (arith, c.requires.account)

pub loop-p-init : goal.loop-p-init
loop-p-init c =
    record {
      cursor = c.entry-last.ensures;
      pruning = pruning_start _ (c.requires.pruned.pruned_list _ c.requires.account) c.entry-head.ensures;
    }

pub row_at-here-requires : goal.row_at-here-requires
row_at-here-requires c =
    pruning_stands c.requires.sound c.requires.pruned c.requires.account c.loop-p.invariant.pruning
    (omega (arith, c.loop-p.invariant.cursor, c.loop-p-test.true))

pub offset_bounds-times-v : goal.offset_bounds-times-v
offset_bounds-times-v c = omega (arith, c.row_at-here.ensures.small)

pub bounds-times-v : goal.bounds-times-v
bounds-times-v c = omega (arith, c.row_at-here.ensures.small, c.requires.times)

pub overflow_add-end : goal.overflow_add-end
overflow_add-end c =
    omega (arith, pruning_few c.requires.pruned c.requires.account c.loop-p.invariant.pruning c.requires.sound.most)

pub put-requires : goal.put-requires
put-requires c =
    record {
      place = (pruning_place c.requires.pruned c.requires.account c.loop-p.invariant.pruning
          (omega (arith, c.loop-p.invariant.cursor, c.loop-p-test.true)) c.row_at-here.ensures.row).1;
      number = omega (arith, c.row_at-here.ensures.below, c.requires.sound.most);
    }

pub overflow_add-end-in-loop-p : goal.overflow_add-end-in-loop-p
overflow_add-end-in-loop-p c =
    omega (
      arith,
      pruning_few c.requires.pruned c.requires.account c.loop-p.invariant.pruning c.requires.sound.most,
      c.wide-end.ensures,
      picked_most c.one.ensures,
    )

pub loop-p-preserved : goal.loop-p-preserved
loop-p-preserved c =
    record {
      cursor = c.loop-p.invariant.cursor;
      pruning =
          pruning_next c.requires.pruned c.requires.account c.loop-p.invariant.pruning
          (omega (arith, c.loop-p.invariant.cursor, c.loop-p-test.true)) c.row_at-here.ensures.row c.put.ensures
          (λ n. c.wide-end.ensures
          ∙ c.one.ensures.yes (pruning_timed c.args.times.now c.requires.times c.row_at-here.ensures.small
          c.row_at-here.ensures.other n))
          (omega (arith, c.wide-end.ensures, picked_most c.one.ensures));
    }

pub put-requires-2 : goal.put-requires-2
put-requires-2 c =
    record {
      place = omega (arith, c.loop-p.invariant.pruning.long, c.requires.pruned.long, c.requires.account);
      number = omega (arith, pruning_few c.requires.pruned c.requires.account c.loop-p.invariant.pruning c.requires.sound.most);
    }

pub shape_of-scratch : goal.shape_of-scratch
shape_of-scratch c =
    (pruning_end c.requires.pruned c.requires.account c.loop-p.invariant.pruning
    (omega (arith, c.loop-p.invariant.cursor, c.loop-p-test.false)) c.put-2.ensures).long

pub returns : goal.returns
returns c =
    pruning_end c.requires.pruned c.requires.account c.loop-p.invariant.pruning
    (omega (arith, c.loop-p.invariant.cursor, c.loop-p-test.false)) c.put-2.ensures
