use native.Mathlib.Omega.{arith}
use native.Mathlib.Nat.{le_refl}
use mathlib.Core.Bool.{not}
use mathlib.Core.Path.{◌∙◌, refl, ap}
use Rattle.rings.proofs.DayLaws.{ready_pruned_of, ready_pruned_framed, pruned_paired, span_of}
use Rattle.rings.proofs.SettleStartLaws.{split_rises, core_never}
use Rattle.rings.proofs.PrunedLaws.{covered_rise}
use Rattle.rings.proofs.WorklistLaws.{settled}
use Rattle.rings.proofs.starts.next_start.Goals as goal

pub drop_rows-requires : goal.drop_rows-requires
drop_rows-requires c =
    record {
      count_asks = record {
        known = record {
          framed = ready_pruned_framed c.requires.at_start.inside.opened;
          span = span_of c.requires.start_asks.ordered c.requires.start_asks.starts c.requires.start_asks.ends;
          times_are = c.requires.at_start.inside.times_are;
        };
        in_days = c.requires.start_asks.in_days;
      };
      drop_asks = record { follows = c.requires.start_asks.follows; timed = c.requires.at_start.inside.timed };
    }

pub pass_heads-requires : goal.pass_heads-requires
pass_heads-requires c =
    record {
      sound = c.requires.at_start.inside.opened.sound;
      pruned = c.requires.at_start.inside.opened.pruned;
      ordered = split_rises c.requires.start_asks.starts c.requires.start_asks.follows;
      within = c.requires.start_asks.follows.within;
    }

pub step-found-requires : goal.step-found-requires
step-found-requires c =
    record {
      opened =
          ready_pruned_of c.requires.at_start.inside.opened.sound c.pass_heads.ensures.pruned c.requires.at_start.inside.opened.setting.some_k
          c.requires.start_asks.in_days c.requires.start_asks.follows;
      ordered = c.requires.start_asks.ordered;
      in_days = c.requires.start_asks.in_days;
      starts = c.requires.start_asks.starts;
      follows = c.requires.start_asks.follows;
      ends = c.requires.start_asks.ends;
      times_are = c.requires.at_start.inside.times_are;
      slacks = c.requires.at_start.inside.slacks;
      queue_long = c.requires.queue_len;
      covered = c.pass_heads.ensures.covered _ c.requires.at_start.inside.covered;
      counted = λ y. c.drop_rows.ensures;
    }

pub next_frame-after-requires : goal.next_frame-after-requires
next_frame-after-requires c = omega (arith, c.requires.start_asks.ordered, c.requires.start_asks.in_days)

pub first_start-requires : goal.first_start-requires
first_start-requires c =
    rw c.next_frame-after.ensures (record {
      prepared = record { inside = pruned_paired c.pass_heads.ensures.pruned };
      first_asks = record {
        some_k = c.requires.at_start.inside.opened.setting.some_k;
        ordered = omega (arith, c.requires.start_asks.ordered);
        in_days = c.requires.start_asks.in_days;
        starts = c.requires.start_asks.follows;
        ends = c.requires.start_asks.ends;
      };
      array_lengths = record {
        times_long = c.step-found.auto.times ∙ c.requires.at_start.inside.times_are.long;
        slack_long = c.step-found.auto.slack ∙ c.requires.at_start.inside.slacks.long;
        queue_long = c.step-found.auto.queue ∙ c.requires.queue_len;
        counts_long =
            c.step-found.auto.counts
            ∙ (c.drop_rows.auto.counts ∙ c.requires.at_start.inside.timed.long);
      };
    })

pub returns-else-is_none : goal.returns-else-is_none
returns-else-is_none c =
    let done = (settled _ c.step-found.ensures (c.is_none.ensures ∙ ap not c.if-is_none.false)).1 in
    record {
      inside = record {
        opened =
            ready_pruned_of c.requires.at_start.inside.opened.sound c.pass_heads.ensures.pruned c.requires.at_start.inside.opened.setting.some_k
            c.requires.start_asks.in_days c.requires.start_asks.follows;
        covered =
            covered_rise (core_never c.requires.at_start.inside.opened.setting.fits c.requires.at_start.inside.times_are done.times_are) (le_refl _)
            (c.pass_heads.ensures.covered _ c.requires.at_start.inside.covered);
        times_are = done.times_are;
        slacks = done.slacks;
        timed = done.counted.counted refl;
      };
    }
