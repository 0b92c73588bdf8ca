use mathlib.Core.Path.{◌∙◌}
use Rattle.rings.proofs.CountNeighbourLaws.{counted_start}
use Rattle.rings.proofs.PeelStartLaws.{core_start}
use Rattle.rings.proofs.peel.core.Goals as goal

pub count_neighbours-requires : goal.count_neighbours-requires
count_neighbours-requires c =
    record {
      ready = c.requires.ready;
      span = c.requires.span;
      neighbour_counts = counted_start _ _ _ _ _ c.requires.ready c.args.left.now c.requires.peel_buffers.left (c.fill-2.ensures.after (λ y e. e));
    }

pub queue_low_degree-low-requires : goal.queue_low_degree-low-requires
queue_low_degree-low-requires c =
    record {
      ready = c.requires.ready;
      peel_state_of = core_start _ _ _ _ _ c.requires.ready c.requires.span c.requires.peel_buffers (c.fill.ensures.after (λ y e. e)) c.count_neighbours.ensures;
    }

pub remove_queued-requires : goal.remove_queued-requires
remove_queued-requires c =
    record {
      ready = c.requires.ready;
      peel_state_of = c.queue_low_degree-low.ensures.state;
    }

pub shape_of-times : goal.shape_of-times
shape_of-times c = c.remove_queued.auto.times ∙ (c.queue_low_degree-low.auto.times ∙ c.fill.auto.self)

pub shape_of-left : goal.shape_of-left
shape_of-left c =
    c.remove_queued.auto.left ∙
    (c.queue_low_degree-low.auto.left ∙ (c.count_neighbours.auto.left ∙ c.fill-2.auto.self))

pub returns : goal.returns
returns c =
    record {
      goes_on = record {
        state = c.remove_queued.ensures.goes_on.state;
        day = c.remove_queued.ensures.goes_on.day ∙ c.queue_low_degree-low.ensures.day;
        end = c.remove_queued.ensures.goes_on.end
            ∙ c.queue_low_degree-low.ensures.end;
      };
      idle = c.remove_queued.ensures.idle;
    }
