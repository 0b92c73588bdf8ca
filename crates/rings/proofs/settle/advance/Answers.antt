use native.Mathlib.Omega.{arith}
use mathlib.Core.Path.{◌∙◌, refl}
use Rattle.rings.proofs.WordLaws.{clash}
use Rattle.rings.proofs.SettleStartLaws.{all_raised}
use Rattle.rings.proofs.DayLaws.{ready_pruned_of, span_after}
use Rattle.rings.proofs.PrunedLaws.{adjacency_pruned, adjacency_covered}
use Rattle.rings.proofs.settle.advance.Goals as goal

pub step-found-requires : goal.step-found-requires
step-found-requires c =
    record {
      opened =
          ready_pruned_of c.requires.ready.sound (adjacency_pruned c.requires.ready.adjacency) c.requires.ready.setting.some_k c.requires.in_days
          c.requires.follows;
      ordered = c.requires.ordered;
      in_days = c.requires.in_days;
      starts = c.requires.starts;
      follows = c.requires.follows;
      ends = c.requires.ends;
      times_are = c.requires.times_are;
      slacks = c.requires.slacks;
      queue_long = c.requires.queue_long;
      covered = adjacency_covered c.requires.ready.adjacency _ c.requires.ready.setting.from_lo;
      counted = λ y. clash y refl;
    }

pub peel_start-requires : goal.peel_start-requires
peel_start-requires c =
    rw c.next_frame-after.ensures (
    record {
      ready = c.requires.ready;
      span = span_after (omega (arith, c.requires.ordered)) c.requires.follows c.requires.ends;
      times_long = c.step-found.auto.times ∙ c.requires.times_are.long;
      slack_long = c.step-found.auto.slack ∙ c.requires.slacks.long;
      queue_long = c.step-found.auto.queue ∙ c.requires.queue_long;
    }
    )

pub list_all-requires : goal.list_all-requires
list_all-requires c = c.peel_start.auto.queue ∙ (c.step-found.auto.queue ∙ c.requires.queue_long)

pub returns-in-Some : goal.returns-in-Some
returns-in-Some c =
    let done = rw c.in-Some.is at c.step-found.ensures in
    record { times_are = done.times_are; slacks = done.slacks; listed = done.listed }

pub returns-in-None : goal.returns-in-None
returns-in-None c =
    let done = rw c.next_frame-after.ensures at c.peel_start.ensures in
    record {
      times_are = done.times_are;
      slacks = done.slacks;
      listed = all_raised c.list_all.ensures.long c.list_all.ensures.each;
    }
