use native.Mathlib.Omega.{arith}
use Rattle.rings.proofs.TimeLaws.{accounts_are}
use Rattle.rings.proofs.DayLaws.{ready_of, framed_of, heads_on, span_of}
use lib.ListN.{replicate}
use Prim.Native.Nat.{ℕ}
use mathlib.Core.Path.{◌∙◌, ap, refl}
use Rattle.rings.proofs.times.find_times.Goals as goal

pub move_heads-requires : goal.move_heads-requires
move_heads-requires c = heads_on c.args.payments.sound c.prepare_adjacency.ensures c.rows_before-lo.ensures

pub peel-requires : goal.peel-requires
peel-requires c =
    record {
      ready = ready_of c.args.payments.sound c.move_heads.ensures.adjacency c.requires.asked.some_k c.requires.asked.last_day_lem c.rows_before-lo.ensures;
      span = span_of c.requires.asked.ordered c.rows_before-lo.ensures c.rows_before-end.ensures;
      peel_buffers = record { times = c.requires.times_buffers.accounts; left = refl; queue = omega arith };
    }

pub time_rows-requires : goal.time_rows-requires
time_rows-requires c =
    record {
      times_known = record {
        framed = framed_of c.args.payments.sound c.requires.asked.some_k c.requires.asked.last_day_lem c.rows_before-lo.ensures;
        span = span_of c.requires.asked.ordered c.rows_before-lo.ensures c.rows_before-end.ensures;
        times_are = c.peel.ensures;
      };
      rows_len = c.requires.times_buffers.rows;
    }

pub returns : goal.returns
returns c =
    record {
      accounts = accounts_are c.peel.ensures;
      rows = c.time_rows.ensures;
      cleared = c.fill.ensures.after (λ y e. e) ∙ ap (λ (m : ℕ). replicate m 0)
          (c.move_heads.auto.scratch ∙ c.prepare_adjacency.auto.scratch);
    }
