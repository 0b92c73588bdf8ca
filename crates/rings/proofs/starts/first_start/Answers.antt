use Rattle.rings.proofs.PrunedLaws.{adjacency_covered}
use Rattle.rings.proofs.DayLaws.{ready_of, ready_pruned_of, heads_on, span_after}
use Rattle.rings.proofs.StartsLaws.{first_framed}
use mathlib.Core.Path.{◌∙◌}
use Rattle.rings.proofs.starts.first_start.Goals as goal

pub move_heads-requires : goal.move_heads-requires
move_heads-requires c = heads_on c.args.payments.sound c.build_adjacency.ensures c.requires.first_asks.starts

pub peel_start-requires : goal.peel_start-requires
peel_start-requires c =
    record {
      ready =
          ready_of c.args.payments.sound c.move_heads.ensures.adjacency c.requires.first_asks.some_k c.requires.first_asks.in_days
          c.requires.first_asks.starts;
      span = span_after c.requires.first_asks.ordered c.requires.first_asks.starts c.requires.first_asks.ends;
      times_long = c.requires.array_lengths.times_long;
      slack_long = c.requires.array_lengths.slack_long;
      queue_long = c.requires.array_lengths.queue_long;
    }

pub count_times-requires : goal.count_times-requires
count_times-requires c =
    record {
      count_asks = record {
        known = record {
          framed = first_framed c.args.payments.sound (c.requires.first_asks);
          span = span_after c.requires.first_asks.ordered c.requires.first_asks.starts c.requires.first_asks.ends;
          times_are = c.peel_start.ensures.times_are;
        };
        in_days = c.requires.first_asks.in_days;
      };
      counts_len = c.requires.array_lengths.counts_long;
    }

pub prune-requires : goal.prune-requires
prune-requires c =
    record { sound = c.args.payments.sound; adjacency = c.move_heads.ensures.adjacency; times = c.peel_start.ensures.times_are.long }

pub shape_of-scratch : goal.shape_of-scratch
shape_of-scratch c = c.prune.auto.scratch ∙ (c.move_heads.auto.scratch ∙ c.build_adjacency.auto.scratch)

pub returns : goal.returns
returns c =
    record {
      inside = record {
        opened =
            ready_pruned_of c.args.payments.sound c.prune.ensures.pruned c.requires.first_asks.some_k c.requires.first_asks.in_days
            c.requires.first_asks.starts;
        covered = c.prune.ensures.covered _
            (adjacency_covered c.move_heads.ensures.adjacency _
            (first_framed c.args.payments.sound c.requires.first_asks).setting.from_lo);
        times_are = c.peel_start.ensures.times_are;
        slacks = c.peel_start.ensures.slacks;
        timed = c.count_times.ensures;
      };
    }
