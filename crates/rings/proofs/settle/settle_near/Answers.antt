use mathlib.Core.Path.{sym, refl, ◌∙◌}
use Rattle.rings.proofs.WorklistLaws.{unmoved_none}
use native.Mathlib.Omega.{arith}
use lib.ListN.{length-set}
use Rattle.rings.proofs.SettleNearLaws.{scanned_on, rise_scanned_on, moving_on}
use Rattle.rings.proofs.SettleNearLaws.{near_short, near_day, near_every, near_same, near_never, near_asks}
use Rattle.rings.proofs.SettleNearLaws.{near_counts, near_small, near_rise}
use Rattle.rings.proofs.settle.settle_near.Goals as goal

pub returns-then-scan-eq-NEVER : goal.returns-then-scan-eq-NEVER
returns-then-scan-eq-NEVER g c = unmoved_none c.requires

pub entry-last-requires : goal.entry-last-requires
entry-last-requires g c = omega (arith, c.requires.working.opened.pruned.long, c.requires.at_head.small)

pub overflow_add-scan : goal.overflow_add-scan
overflow_add-scan g c =
    omega (arith, c.requires.at_head.reading.to, (c.requires.working.opened.pruned.pruned_list _ c.requires.at_head.small).to, c.requires.working.opened.sound.most)

pub overflow_add-list : goal.overflow_add-list
overflow_add-list g c =
    omega (
      arith,
      c.entry-last.ensures,
      c.requires.working.within,
      (c.requires.working.opened.pruned.pruned_list _ c.requires.at_head.small).to,
      c.requires.working.opened.sound.most,
    )

pub returns-then-scan-list : goal.returns-then-scan-list
returns-then-scan-list g c = unmoved_none c.requires

pub scan_for_rise-outcome-requires : goal.scan_for_rise-outcome-requires
scan_for_rise-outcome-requires g c =
    record {
      scan_on = record {
        lent = record {
          opened = c.requires.working.opened;
          small = c.requires.at_head.small;
          long = c.requires.working.times_long;
          days = c.requires.working.days;
          reading = c.requires.at_head.reading;
        };
        in_range =
            rw c.requires.its_time (near_day _ _ _ _ _ _ _ c.requires.working.opened.setting c.args.times.now c.requires.working.times_long
            c.requires.working.days c.requires.at_head.small
            (λ e. c.if-scan-eq-NEVER.false (c.requires.its_time ∙ e)));
        every = near_every _ _ _ _ _ _ _ c.requires.working.opened.setting c.args.times.now c.requires.working.times_long c.requires.working.days c.requires.at_head.small
            (λ e. c.if-scan-eq-NEVER.false (c.requires.its_time ∙ e)) c.requires.working.covered;
      };
      room_behind = record { long = c.requires.working.queue_long; room = omega (arith, c.entry-last.ensures, c.if-scan-list.false) };
    }

pub overflow_add-slack : goal.overflow_add-slack
overflow_add-slack g c = omega (arith, c.scan_for_rise-outcome.ensures.found.few)

pub overflow_sub-slack : goal.overflow_sub-slack
overflow_sub-slack g c = omega (arith, c.if-frame-outcome.true)

pub offset_bounds-slack-u : goal.offset_bounds-slack-u
offset_bounds-slack-u g c = omega (arith, c.requires.at_head.small)

pub bounds-slack-u : goal.bounds-slack-u
bounds-slack-u g c = omega (arith, c.requires.at_head.small, c.requires.working.slack_long)

pub overflow_add-result : goal.overflow_add-result
overflow_add-result g c = omega (arith, c.requires.working.waits, c.requires.working.within)

pub overflow_add-result-then-frame-outcome : goal.overflow_add-result-then-frame-outcome
overflow_add-result-then-frame-outcome g c =
    omega (arith, c.requires.working.few, c.scan_for_rise-outcome.ensures.found.short_walk)

pub returns-then-frame-outcome : goal.returns-then-frame-outcome
returns-then-frame-outcome g c =
    record {
      next = refl;
      within = c.requires.working.within;
      walked = omega (arith, c.scan_for_rise-outcome.ensures.found.short_walk);
      rising = λ xs Z.
          near_same _ _ _ _ _ _ _ c.requires.working.opened.setting c.args.times.now c.requires.working.times_long c.requires.working.days c.requires.at_head.small
          (λ e. c.if-scan-eq-NEVER.false (c.requires.its_time ∙ e))
          (scanned_on c.requires.its_time c.scan_for_rise-outcome.ensures.found.scanned) c.if-frame-outcome.true
          c.scan_for_rise-outcome.ensures.behind Z c.requires.at_head.is_head c.requires.working.waits c.requires.working.within;
      nevers = λ v e. e;
      counted = record { counted = λ y. (c.requires.working.counted y).counts_are; same = λ y. refl };
    }

pub overflow_add-outcome : goal.overflow_add-outcome
overflow_add-outcome g c = omega (arith, c.scan_for_rise-outcome.ensures.found.few)

pub slack_above-left-requires : goal.slack_above-left-requires
slack_above-left-requires g c = c.scan_for_rise-outcome.ensures.found.few

pub overflow_add-result-then-left-eq0 : goal.overflow_add-result-then-left-eq0
overflow_add-result-then-left-eq0 g c =
    omega (arith, c.requires.working.few, c.scan_for_rise-outcome.ensures.found.short_walk)

pub returns-then-left-eq0 : goal.returns-then-left-eq0
returns-then-left-eq0 g c =
    record {
      same_times = refl;
      same_slack = refl;
      same_counts = refl;
      behind = c.scan_for_rise-outcome.ensures.behind;
      short = near_short _ _ _ _ _ _ _ c.requires.working.opened.setting c.args.times.now c.requires.working.times_long c.requires.working.days c.requires.at_head.small
          (λ e. c.if-scan-eq-NEVER.false (c.requires.its_time ∙ e))
          (scanned_on c.requires.its_time c.scan_for_rise-outcome.ensures.found.scanned) c.if-frame-outcome.false;
      few = omega (arith, c.scan_for_rise-outcome.ensures.found.short_walk);
    }

pub offset_bounds-slack-u-2 : goal.offset_bounds-slack-u-2
offset_bounds-slack-u-2 g c = omega (arith, c.requires.at_head.small)

pub bounds-slack-u-2 : goal.bounds-slack-u-2
bounds-slack-u-2 g c = omega (arith, c.requires.at_head.small, c.requires.working.slack_long)

pub offset_bounds-times-u : goal.offset_bounds-times-u
offset_bounds-times-u g c = omega (arith, c.requires.at_head.small)

pub bounds-times-u : goal.bounds-times-u
bounds-times-u g c = omega (arith, c.requires.at_head.small, c.requires.working.times_long)

pub put-requires : goal.put-requires
put-requires g c =
    record {
      place = omega (arith, c.scan_for_rise-outcome.ensures.behind.long, c.requires.working.waits, c.requires.working.within, c.requires.working.behind);
      number = omega (arith, c.requires.at_head.small);
    }

pub drop_listed_supporters-end-requires : goal.drop_listed_supporters-end-requires
drop_listed_supporters-end-requires g c =
    let outcome = scanned_on c.requires.its_time c.scan_for_rise-outcome.ensures.found.scanned in
    let rise_scanned = rise_scanned_on c.requires.its_time (c.scan_for_rise-outcome.ensures.rise_scanned c.if-frame-outcome.false) in
    record {
      slack_long = length-set c.args.slack.now c.args.scan.account c.slack_above-left.result ∙ c.requires.working.slack_long;
      queue_long = c.put.auto.s ∙ c.scan_for_rise-outcome.ensures.behind.long;
      order = rise_scanned.grows;
      within = c.scan_for_rise-outcome.ensures.within;
      small = near_small _ _ _ _ _ _ _ c.requires.working.opened.setting c.args.times.now c.requires.working.times_long c.requires.working.days c.requires.at_head.small
          (λ e. c.if-scan-eq-NEVER.false (c.requires.its_time ∙ e)) outcome c.if-frame-outcome.false refl c.slack_above-left.ensures
          c.if-left-eq0.false rise_scanned c.put.ensures
          (omega (arith, c.requires.working.waits, c.requires.working.behind));
    }

pub move_in_histogram-requires : goal.move_in_histogram-requires
move_in_histogram-requires g c =
    let outcome = scanned_on c.requires.its_time c.scan_for_rise-outcome.ensures.found.scanned in
    let rise_scanned = rise_scanned_on c.requires.its_time (c.scan_for_rise-outcome.ensures.rise_scanned c.if-frame-outcome.false) in
    rw c.requires.its_time (λ y. near_asks _ _ _ _ _ _ _ c.requires.working.opened.setting c.args.times.now c.requires.working.times_long
    c.requires.working.days c.requires.at_head.small
    (λ e. c.if-scan-eq-NEVER.false (c.requires.its_time ∙ e)) outcome c.if-frame-outcome.false refl c.slack_above-left.ensures c.if-left-eq0.false rise_scanned
    c.requires.working.opened.sound.most (c.requires.working.counted y).in_days (c.requires.working.counted y).counts_are)

pub overflow_add-result-2 : goal.overflow_add-result-2
overflow_add-result-2 g c = omega (arith, c.requires.working.waits, c.requires.working.within)

pub overflow_add-result-3 : goal.overflow_add-result-3
overflow_add-result-3 g c =
    omega (arith, c.requires.working.waits, c.requires.working.within, c.requires.working.behind)

pub overflow_add-result-4 : goal.overflow_add-result-4
overflow_add-result-4 g c = omega (arith, c.requires.working.few, c.scan_for_rise-outcome.ensures.found.short_walk)

pub shape_of-slack : goal.shape_of-slack
shape_of-slack g c =
    c.drop_listed_supporters-end.auto.slack ∙ length-set c.args.slack.now c.args.scan.account c.slack_above-left.result

pub shape_of-queue : goal.shape_of-queue
shape_of-queue g c =
    c.drop_listed_supporters-end.auto.queue
    ∙ (c.put.auto.s ∙ (c.scan_for_rise-outcome.ensures.behind.long ∙ sym c.requires.working.queue_long))

pub returns : goal.returns
returns g c =
    let outcome = scanned_on c.requires.its_time c.scan_for_rise-outcome.ensures.found.scanned in
    let rise_scanned = rise_scanned_on c.requires.its_time (c.scan_for_rise-outcome.ensures.rise_scanned c.if-frame-outcome.false) in
    record {
      next = refl;
      within = c.drop_listed_supporters-end.ensures.within;
      walked = omega (arith, c.scan_for_rise-outcome.ensures.found.short_walk);
      rising = λ xs Z.
          near_rise _ _ _ _ _ _ _ c.requires.working.opened.setting c.args.times.now c.requires.working.times_long c.requires.working.days c.requires.at_head.small
          (λ e. c.if-scan-eq-NEVER.false (c.requires.its_time ∙ e)) outcome c.if-frame-outcome.false refl c.slack_above-left.ensures c.if-left-eq0.false rise_scanned
          c.scan_for_rise-outcome.ensures.behind Z c.requires.at_head.is_head c.requires.working.waits c.requires.working.within c.put.ensures
          c.drop_listed_supporters-end.ensures.queued
          c.drop_listed_supporters-end.ensures.fewer c.drop_listed_supporters-end.ensures.within;
      nevers = near_never _ _ _ _ _ _ _ c.requires.working.opened.setting c.args.times.now c.requires.working.times_long c.requires.working.days c.requires.at_head.small
          (λ e. c.if-scan-eq-NEVER.false (c.requires.its_time ∙ e)) outcome c.if-frame-outcome.false refl c.slack_above-left.ensures c.if-left-eq0.false rise_scanned;
      counted = record {
        counted = λ y.
            near_counts _ _ _ _ _ _ _ c.requires.working.opened.setting c.args.times.now c.requires.working.times_long c.requires.working.days c.requires.at_head.small
            (λ e. c.if-scan-eq-NEVER.false (c.requires.its_time ∙ e)) outcome c.if-frame-outcome.false refl c.slack_above-left.ensures
            c.if-left-eq0.false rise_scanned (c.requires.working.counted y).counts_are
            (moving_on c.requires.its_time (c.move_in_histogram.ensures.counted y));
        same = c.move_in_histogram.ensures.same;
      };
    }
