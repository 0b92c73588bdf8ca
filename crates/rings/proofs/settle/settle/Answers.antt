use mathlib.Core.Path.{refl, sym, ◌∙◌}
use native.Mathlib.Omega.{arith}
use native.Mathlib.Nat.{le_refl}
use Rattle.rings.proofs.SettleStartLaws.{settle_end}
use Rattle.rings.proofs.CountingLaws.{by_core, counted_so, counted_then, hist_same}
use Rattle.rings.proofs.PrunedLaws.{covered_rise}
use Rattle.rings.proofs.settle.settle.Goals as goal

pub loop-list-init : goal.loop-list-init
loop-list-init g c =
    record {
      covered = c.requires.covered;
      within = c.requires.within;
      few = omega arith;
      rising = c.requires.rising;
      long_counts = refl;
      counted = record { counted = λ y. (c.requires.counted y).counts_are; same = λ y. refl };
    }

pub shape_of-times-then-budget-list : goal.shape_of-times-then-budget-list
shape_of-times-then-budget-list g c = c.loop-list.invariant.rising.settling.long ∙ sym c.requires.rising.settling.long

pub shape_of-slack-then-budget-list : goal.shape_of-slack-then-budget-list
shape_of-slack-then-budget-list g c =
    c.loop-list.invariant.rising.settling.long_slack ∙ sym c.requires.rising.settling.long_slack

pub shape_of-queue-then-budget-list : goal.shape_of-queue-then-budget-list
shape_of-queue-then-budget-list g c = c.loop-list.invariant.rising.waiting.long ∙ sym c.requires.rising.waiting.long

pub shape_of-counts-then-budget-list : goal.shape_of-counts-then-budget-list
shape_of-counts-then-budget-list g c = c.loop-list.invariant.long_counts

pub returns-then-budget-list : goal.returns-then-budget-list
returns-then-budget-list g c = record { same = c.loop-list.invariant.counted.same }

pub settle_account-requires : goal.settle_account-requires
settle_account-requires g c =
    record {
      working = record {
        opened = c.requires.opened;
        covered = c.loop-list.invariant.covered;
        waits = c.loop-list-test.true;
        within = c.loop-list.invariant.within;
        behind = c.loop-list.invariant.rising.behind;
        few = omega (arith, c.if-budget-list.false, c.requires.bounded);
        times_long = c.loop-list.invariant.rising.settling.long;
        slack_long = c.loop-list.invariant.rising.settling.long_slack;
        queue_long = c.loop-list.invariant.rising.waiting.long;
        days = c.loop-list.invariant.rising.settling.days;
        counted = λ y. record { in_days = (c.requires.counted y).in_days; counts_are = c.loop-list.invariant.counted.counted y };
      };
      small = c.loop-list.invariant.rising.waiting.small _ (le_refl _) c.loop-list-test.true;
      bounded = c.requires.bounded;
    }

pub shape_of-times-in_err-list : goal.shape_of-times-in_err-list
shape_of-times-in_err-list g c =
    c.settle_account.auto.times
    ∙ (c.loop-list.invariant.rising.settling.long ∙ sym c.requires.rising.settling.long)

pub shape_of-slack-in_err-list : goal.shape_of-slack-in_err-list
shape_of-slack-in_err-list g c =
    c.settle_account.auto.slack
    ∙ (c.loop-list.invariant.rising.settling.long_slack ∙ sym c.requires.rising.settling.long_slack)

pub shape_of-queue-in_err-list : goal.shape_of-queue-in_err-list
shape_of-queue-in_err-list g c =
    c.settle_account.auto.queue
    ∙ (c.loop-list.invariant.rising.waiting.long ∙ sym c.requires.rising.waiting.long)

pub shape_of-counts-in_err-list : goal.shape_of-counts-in_err-list
shape_of-counts-in_err-list g c = c.settle_account.auto.counts ∙ c.loop-list.invariant.long_counts

pub returns-in_err-list : goal.returns-in_err-list
returns-in_err-list g c =
    let stay = rw c.in_err-list.was at c.settle_account.ensures in
    rw c.from_residual.ensures (record { same = λ y. stay.same y ∙ c.loop-list.invariant.counted.same y })

pub loop-list-smaller : goal.loop-list-smaller
loop-list-smaller g c =
    let moved = rw c.in_ok-list.was at c.settle_account.ensures in
    omega (arith, moved.next, c.loop-list-test.true, c.loop-list.invariant.within)

pub loop-list-preserved : goal.loop-list-preserved
loop-list-preserved g c =
    let moved = rw c.in_ok-list.was at c.settle_account.ensures in
    record {
      covered = covered_rise moved.nevers (le_refl _) c.loop-list.invariant.covered;
      within = moved.within;
      few = omega (arith, c.if-budget-list.false, moved.walked);
      rising = moved.rising _ c.loop-list.invariant.rising;
      long_counts = c.settle_account.auto.counts ∙ c.loop-list.invariant.long_counts;
      counted = counted_then c.loop-list.invariant.counted moved.counted;
    }

pub shape_of-times : goal.shape_of-times
shape_of-times g c = c.loop-list.invariant.rising.settling.long ∙ sym c.requires.rising.settling.long

pub shape_of-slack : goal.shape_of-slack
shape_of-slack g c = c.loop-list.invariant.rising.settling.long_slack ∙ sym c.requires.rising.settling.long_slack

pub shape_of-queue : goal.shape_of-queue
shape_of-queue g c = c.loop-list.invariant.rising.waiting.long ∙ sym c.requires.rising.waiting.long

pub shape_of-counts : goal.shape_of-counts
shape_of-counts g c = c.loop-list.invariant.long_counts

pub returns : goal.returns
returns g c =
    let end = settle_end _ _ _ _ _ _ _ c.requires.opened.setting c.loop-list.invariant.rising c.loop-list-test.false in
    record {
      times_are = end.0;
      slacks = end.1;
      listed = end.2;
      counted =
          counted_so (hist_same (λ j l. sym (by_core _ _ _ _ _ _ _ c.requires.opened.setting end.0 j l)))
          c.loop-list.invariant.counted;
    }
