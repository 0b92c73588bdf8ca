use native.Mathlib.Omega.{arith}
use mathlib.Core.Path.{refl, ◌∙◌, sym}
use Rattle.rings.proofs.PrunedLaws.{reading_stands}
use Rattle.rings.proofs.SupporterLaws.{dropped_supporter_on}
use Rattle.rings.proofs.CountingLaws.{counted_added}
use Rattle.rings.proofs.CountedDropLaws.{counted_dropping_start, counted_dropping_out}
use Rattle.rings.proofs.CountedDropLaws.{counted_dropping_stop, counted_dropping_asks, counted_dropping_next}
use Rattle.rings.proofs.CountedDropLaws.{counted_dropping_adds}
use borrow.Author.Rules.{rules}
use Rattle.rings.proofs.supporters.drop_supported.Goals as goal

pub entry-last-requires : goal.entry-last-requires
entry-last-requires g c = omega (arith, c.requires.small, c.requires.opened.pruned.long)

pub overflow_add-frame : goal.overflow_add-frame
overflow_add-frame g c = omega (arith, c.requires.opened.setting.fits)

pub loop-p-init : goal.loop-p-init
loop-p-init g c = (
  c.requires.within,
  counted_dropping_start _ _ _ _ _ c.requires.opened _ c.requires.times_long c.requires.small c.requires.every c.requires.days _ _
      c.requires.now_is _
      _ _ _ c.requires.slack_long c.requires.queue_long c.requires.reading c.requires.counted,
)

pub row_at-here-requires : goal.row_at-here-requires
row_at-here-requires g c =
    reading_stands _ _ _ _ c.requires.opened.sound c.requires.opened.pruned c.requires.small
    c.loop-p.invariant.1.dropping.reading c.entry-last.ensures
    c.loop-p-test.true

pub add_to_histogram-requires : goal.add_to_histogram-requires
add_to_histogram-requires g c =
    λ h.
    counted_dropping_adds c.args.times.now c.requires.opened c.requires.small c.requires.days c.requires.now_is
    (c.requires.counted h).top
    (
    (counted_dropping_stop _ _ _ _ _ c.requires.opened _ c.requires.times_long c.requires.small c.requires.every c.requires.days _ _
    c.requires.now_is _
    _ _ _ c.loop-p.invariant.1 c.entry-last.ensures c.loop-p-test.true c.row_at-here.ensures c.min-until.ensures
    c.if-until-here.true).1.counted h
    )

pub shape_of-slack-then-until-here : goal.shape_of-slack-then-until-here
shape_of-slack-then-until-here g c = c.loop-p.invariant.1.dropping.done.long ∙ sym c.requires.slack_long

pub shape_of-queue-then-until-here : goal.shape_of-queue-then-until-here
shape_of-queue-then-until-here g c = c.loop-p.invariant.1.dropping.queued.long ∙ sym c.requires.queue_long

pub shape_of-counts-then-until-here : goal.shape_of-counts-then-until-here
shape_of-counts-then-until-here g c = search (rules, c.loop-p.auto.counts)

pub returns-then-until-here : goal.returns-then-until-here
returns-then-until-here g c =
    let done = counted_dropping_stop _ _ _ _ _ c.requires.opened _ c.requires.times_long c.requires.small c.requires.every
    c.requires.days _ _ c.requires.now_is
    _ _ _ _ c.loop-p.invariant.1 c.entry-last.ensures c.loop-p-test.true c.row_at-here.ensures
    c.min-until.ensures c.if-until-here.true in
    record {
      within = c.loop-p.invariant.0;
      dropped_supported = done.0.0;
      queued = done.0.1;
      counted = counted_added done.1 c.add_to_histogram.ensures;
    }

pub shape_of-slack-then-end-ge-QUEUE : goal.shape_of-slack-then-end-ge-QUEUE
shape_of-slack-then-end-ge-QUEUE g c = c.loop-p.invariant.1.dropping.done.long ∙ sym c.requires.slack_long

pub shape_of-queue-then-end-ge-QUEUE : goal.shape_of-queue-then-end-ge-QUEUE
shape_of-queue-then-end-ge-QUEUE g c = c.loop-p.invariant.1.dropping.queued.long ∙ sym c.requires.queue_long

pub shape_of-counts-then-end-ge-QUEUE : goal.shape_of-counts-then-end-ge-QUEUE
shape_of-counts-then-end-ge-QUEUE g c = c.loop-p.auto.counts

pub returns-then-end-ge-QUEUE : goal.returns-then-end-ge-QUEUE
returns-then-end-ge-QUEUE g c = record { same = c.loop-p.invariant.1.shift.same }

pub offset_bounds-times-v : goal.offset_bounds-times-v
offset_bounds-times-v g c = omega (arith, c.row_at-here.ensures.small)

pub bounds-times-v : goal.bounds-times-v
bounds-times-v g c = omega (arith, c.row_at-here.ensures.small, c.requires.times_long)

pub drop_supporter-end-requires : goal.drop_supporter-end-requires
drop_supporter-end-requires g c =
    record {
      slack_long = c.loop-p.invariant.1.dropping.done.long;
      queue_long = c.loop-p.invariant.1.dropping.queued.long;
      small = c.row_at-here.ensures.small;
      room = c.if-end-ge-QUEUE.false;
    }

pub take_from_histogram-moved-requires : goal.take_from_histogram-moved-requires
take_from_histogram-moved-requires g c =
    λ h.
    counted_dropping_asks _ _ _ _ _ c.requires.opened _ c.requires.times_long c.requires.small c.requires.every c.requires.days _ _
    c.requires.now_is
    _ _ _ _ c.loop-p.invariant.1 c.entry-last.ensures c.loop-p-test.true c.row_at-here.ensures
    c.min-until.ensures c.if-until-here.false refl
    c.max-own.ensures c.max-time.ensures refl h

pub loop-p-preserved : goal.loop-p-preserved
loop-p-preserved g c = (
  omega (arith, c.if-end-ge-QUEUE.false, dropped_supporter_on c.drop_supporter-end.ensures),
  counted_dropping_next _ _ _ _ _ c.requires.opened _ c.requires.times_long c.requires.small c.requires.every c.requires.days _ _
      c.requires.now_is _ _
      _ _ c.loop-p.invariant.1 c.entry-last.ensures c.loop-p-test.true c.row_at-here.ensures
      c.min-until.ensures c.if-until-here.false
      refl c.max-own.ensures c.max-time.ensures refl c.if-end-ge-QUEUE.false refl c.drop_supporter-end.ensures
      c.take_from_histogram-moved.ensures.where_counted,
)

pub add_to_histogram-requires-2 : goal.add_to_histogram-requires-2
add_to_histogram-requires-2 g c =
    λ h.
    counted_dropping_adds c.args.times.now c.requires.opened c.requires.small c.requires.days c.requires.now_is
    (c.requires.counted h).top
    (
    (counted_dropping_out _ _ _ _ _ c.requires.opened _ c.requires.times_long c.requires.small c.requires.every c.requires.days _ _
    c.requires.now_is _
    _ _ _ c.loop-p.invariant.1 c.entry-last.ensures c.loop-p-test.false).1.counted h
    )

pub shape_of-slack : goal.shape_of-slack
shape_of-slack g c = c.loop-p.invariant.1.dropping.done.long ∙ sym c.requires.slack_long

pub shape_of-queue : goal.shape_of-queue
shape_of-queue g c = c.loop-p.invariant.1.dropping.queued.long ∙ sym c.requires.queue_long

pub shape_of-counts : goal.shape_of-counts
shape_of-counts g c = search (rules, c.loop-p.auto.counts)

pub returns : goal.returns
returns g c =
    let done = counted_dropping_out _ _ _ _ _ c.requires.opened _ c.requires.times_long c.requires.small c.requires.every
    c.requires.days _ _ c.requires.now_is
    _ _ _ _ c.loop-p.invariant.1 c.entry-last.ensures c.loop-p-test.false in
    record {
      within = c.loop-p.invariant.0;
      dropped_supported = done.0.0;
      queued = done.0.1;
      counted = counted_added done.1 c.add_to_histogram-2.ensures;
    }
