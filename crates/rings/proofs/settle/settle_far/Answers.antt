use Rattle.rings.proofs.PeelStateLaws.{estimate_at}
use lib.ListN.{length-set}
use Rattle.rings.proofs.SettleLaws.{account_same, account_rise}
use Rattle.rings.proofs.SettleNearLaws.{account_days, account_now, account_never, account_every}
use Rattle.rings.proofs.SettleNearLaws.{account_counts_before_rise}
use mathlib.Core.Path.{refl, sym, ◌∙◌}
use native.Mathlib.Omega.{arith}
use borrow.Author.Rules.{rules}
use Rattle.rings.proofs.settle.settle_far.Goals as goal

pub offset_bounds-times-u : goal.offset_bounds-times-u
offset_bounds-times-u g c = omega (arith, c.requires.at_head.small)

pub bounds-times-u : goal.bounds-times-u
bounds-times-u g c = omega (arith, c.requires.at_head.small, c.requires.working.times_long)

pub find_day-requires : goal.find_day-requires
find_day-requires g c =
    record {
      lent = record {
        opened = c.requires.working.opened;
        small = c.requires.at_head.small;
        long = c.requires.working.times_long;
        days = c.requires.working.days;
        reading = c.requires.at_head.reading;
      };
      bounded = c.requires.bounded;
      every = λ n.
          c.requires.working.covered.rows _ c.requires.at_head.small
          (λ e. n (sym (estimate_at c.args.times.now _ c.requires.working.times_long c.requires.at_head.small) ∙ e));
      short = c.requires.short;
    }

pub returns-in_err-found : goal.returns-in_err-found
returns-in_err-found g c = rw c.from_residual.ensures (record { same = λ y. refl })

pub offset_bounds-slack-u : goal.offset_bounds-slack-u
offset_bounds-slack-u g c = omega (arith, c.requires.at_head.small)

pub bounds-slack-u : goal.bounds-slack-u
bounds-slack-u g c = omega (arith, c.requires.at_head.small, c.requires.working.slack_long)

pub overflow_add-result : goal.overflow_add-result
overflow_add-result g c =
    let found_day = rw c.in_ok-found.was at c.find_day.ensures in
    omega (arith, c.requires.working.waits, c.requires.working.within, c.requires.working.behind, c.requires.working.few, found_day.short_walk)

pub overflow_add-result-then-time-old : goal.overflow_add-result-then-time-old
overflow_add-result-then-time-old g c =
    let found_day = rw c.in_ok-found.was at c.find_day.ensures in
    omega (arith, c.requires.working.waits, c.requires.working.within, c.requires.working.behind, c.requires.working.few, found_day.short_walk)

pub returns-then-time-old : goal.returns-then-time-old
returns-then-time-old g c =
    let found_day = rw c.in_ok-found.was at c.find_day.ensures in
    record {
      next = refl;
      within = c.requires.working.within;
      walked = omega (arith, found_day.short_walk);
      rising = λ xs Z.
          account_same _ _ _ _ _ c.requires.working.opened.setting Z.settling c.requires.at_head.small found_day.day_found Z.waiting
          c.requires.at_head.is_head Z.behind Z.raised c.requires.working.waits c.requires.working.within c.if-time-old.true;
      nevers = λ v e. e;
      counted = record { counted = λ y. (c.requires.working.counted y).counts_are; same = λ y. refl };
    }

pub offset_bounds-times-u-2 : goal.offset_bounds-times-u-2
offset_bounds-times-u-2 g c = omega (arith, c.requires.at_head.small)

pub bounds-times-u-2 : goal.bounds-times-u-2
bounds-times-u-2 g c = omega (arith, c.requires.at_head.small, c.requires.working.times_long)

pub put-requires : goal.put-requires
put-requires g c =
    record {
      place = omega (arith, c.requires.working.waits, c.requires.working.within, c.requires.working.behind, c.requires.working.queue_long);
      number = omega (arith, c.requires.at_head.small);
    }

pub drop_supported-requires : goal.drop_supported-requires
drop_supported-requires g c =
    let found_day = rw c.in_ok-found.was at c.find_day.ensures in
    record {
      opened = c.requires.working.opened;
      within = c.requires.working.within;
      small = c.requires.at_head.small;
      times_long = search (rules, c.requires.working.times_long);
      slack_long = search (rules, c.requires.working.slack_long);
      queue_long = c.put.auto.s ∙ c.requires.working.queue_long;
      reading = c.requires.at_head.reading;
      every =
          account_every c.args.times.now (omega (arith, c.requires.working.opened.setting.fits)) c.requires.working.times_long c.requires.at_head.small
          c.requires.working.days found_day.day_found
          c.if-time-old.false c.requires.working.covered;
      days =
          account_days c.args.times.now (omega (arith, c.requires.working.opened.setting.fits)) c.requires.working.times_long c.requires.at_head.small
          c.requires.working.days found_day.day_found;
      now_is =
          account_now c.args.times.now (omega (arith, c.requires.working.opened.setting.fits)) c.requires.working.times_long c.requires.at_head.small
          c.requires.working.days found_day.day_found;
      counted = λ y.
          account_counts_before_rise c.args.times.now (omega (arith, c.requires.working.opened.setting.fits)) c.requires.working.times_long
          c.requires.at_head.small c.requires.working.days found_day.day_found
          c.if-time-old.false (c.requires.working.counted y).in_days (c.requires.working.counted y).counts_are;
    }

pub returns-in_err-end : goal.returns-in_err-end
returns-in_err-end g c =
    let full = rw c.in_err-end.was at c.drop_supported.ensures in
    rw c.from_residual-in_err-end.ensures (record { same = full.same })

pub overflow_add-result-2 : goal.overflow_add-result-2
overflow_add-result-2 g c =
    let found_day = rw c.in_ok-found.was at c.find_day.ensures in
    omega (arith, c.requires.working.waits, c.requires.working.within, c.requires.working.behind, c.requires.working.few, found_day.short_walk)

pub overflow_add-result-3 : goal.overflow_add-result-3
overflow_add-result-3 g c =
    let found_day = rw c.in_ok-found.was at c.find_day.ensures in
    omega (arith, c.requires.working.waits, c.requires.working.within, c.requires.working.behind, c.requires.working.few, found_day.short_walk)

pub overflow_add-result-4 : goal.overflow_add-result-4
overflow_add-result-4 g c =
    let found_day = rw c.in_ok-found.was at c.find_day.ensures in
    omega (arith, c.requires.working.waits, c.requires.working.within, c.requires.working.behind, c.requires.working.few, found_day.short_walk)

pub shape_of-slack : goal.shape_of-slack
shape_of-slack g c = c.drop_supported.auto.slack ∙ simp length-set

pub returns : goal.returns
returns g c =
    let found_day = rw c.in_ok-found.was at c.find_day.ensures in
    let taken = rw c.in_ok-end.was at c.drop_supported.ensures in
    record {
      next = refl;
      within = taken.within;
      walked = omega (arith, found_day.short_walk);
      rising = λ xs Z.
          account_rise _ _ _ _ _ c.requires.working.opened.setting Z.settling c.requires.at_head.small found_day.day_found Z.waiting
          c.requires.at_head.is_head Z.behind Z.raised c.requires.working.waits c.requires.working.within c.put.ensures
          taken.dropped_supported taken.queued taken.within;
      nevers =
          account_never c.args.times.now (omega (arith, c.requires.working.opened.setting.fits)) c.requires.working.times_long c.requires.at_head.small
          c.requires.working.days found_day.day_found;
      counted = taken.counted;
    }
