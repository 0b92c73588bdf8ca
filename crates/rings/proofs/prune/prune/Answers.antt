use native.Mathlib.Omega.{arith}
use mathlib.Core.Path.{refl, ◌∙◌}
use Rattle.rings.proofs.PruneLaws.{pruning_all_start, pruning_all_next}
use Rattle.rings.proofs.prune.prune.Goals as goal
use Rattle.rings.proofs.prune.prune.Goals.{then-times-u, else-times-u}

pub loop-u-init : goal.loop-u-init
loop-u-init c =
    record {
      long = refl;
      pruning_all = pruning_all_start _ c.requires.adjacency;
    }

pub offset_bounds-times-u : goal.offset_bounds-times-u
offset_bounds-times-u c = omega (arith, c.loop-u-test.true)

pub bounds-times-u : goal.bounds-times-u
bounds-times-u c = omega (arith, c.loop-u-test.true, c.requires.times)

pub prune_account-requires : goal.prune_account-requires
prune_account-requires c =
    record {
      sound = c.requires.sound;
      pruned = c.loop-u.invariant.pruning_all.pruned;
      times = c.requires.times;
      account = c.loop-u-test.true;
    }

pub loop-u-preserved : goal.loop-u-preserved
loop-u-preserved c =
    elim c.if-times-u.branch [
      | then-times-u w ↦ rw w.scratch-is (
          record {
            long = w.prune_account.ensures.long ∙ c.loop-u.invariant.long;
            pruning_all = pruning_all_next c.loop-u.invariant.pruning_all c.loop-u-test.true w.prune_account.ensures;
          }
          )
      | else-times-u w ↦ rw w.scratch-is c.loop-u.invariant
    ]

pub shape_of-scratch : goal.shape_of-scratch
shape_of-scratch c = c.loop-u.invariant.long

pub returns : goal.returns
returns c =
    record { pruned = c.loop-u.invariant.pruning_all.pruned; covered = c.loop-u.invariant.pruning_all.covered }
