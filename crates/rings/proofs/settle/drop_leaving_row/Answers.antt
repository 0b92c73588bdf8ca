use Rattle.rings.proofs.IncidentLaws.{lead_reads}
use Rattle.rings.proofs.SupporterLaws.{dropped_supporter_less, queued_start, queued_dropped_supporter}
use Rattle.rings.proofs.SupporterLaws.{dropped_supporter_on}
use Rattle.rings.proofs.LeavingLaws.{leaving_row, first_is, second_is, day_of_lem}
use Rattle.rings.proofs.LeavingLaws.{first_small, second_small}
use mathlib.Core.Path.{refl}
use native.Mathlib.Omega.{arith}
use Rattle.rings.proofs.settle.drop_leaving_row.Goals as goal

pub returns-then-tail-ge4351 : goal.returns-then-tail-ge4351
returns-then-tail-ge4351 c = tt

pub offset_bounds-times-a : goal.offset_bounds-times-a
offset_bounds-times-a c =
    omega (arith, first_small _ _ _ c.requires.drop_leaving_asks.placed.sound c.requires.j_in_bounds c.entry-a.ensures)

pub bounds-times-a : goal.bounds-times-a
bounds-times-a c =
    omega (
      arith,
      first_small _ _ _ c.requires.drop_leaving_asks.placed.sound c.requires.j_in_bounds c.entry-a.ensures,
      c.requires.drop_leaving_asks.times_long,
    )

pub offset_bounds-times-b : goal.offset_bounds-times-b
offset_bounds-times-b c =
    omega (arith, second_small _ _ _ c.requires.drop_leaving_asks.placed.sound c.requires.j_in_bounds c.entry-b.ensures)

pub bounds-times-b : goal.bounds-times-b
bounds-times-b c =
    omega (
      arith,
      second_small _ _ _ c.requires.drop_leaving_asks.placed.sound c.requires.j_in_bounds c.entry-b.ensures,
      c.requires.drop_leaving_asks.times_long,
    )

pub drop_supporter-mid-requires : goal.drop_supporter-mid-requires
drop_supporter-mid-requires c =
    record {
      slack_long = c.requires.drop_leaving_asks.slack_long;
      queue_long = c.requires.drop_leaving_asks.queue_long;
      small = first_small _ _ _ c.requires.drop_leaving_asks.placed.sound c.requires.j_in_bounds c.entry-a.ensures;
      room = omega (arith, c.if-tail-ge4351.false);
    }

pub drop_supporter-requires : goal.drop_supporter-requires
drop_supporter-requires c =
    let small = first_small _ _ _ c.requires.drop_leaving_asks.placed.sound c.requires.j_in_bounds c.entry-a.ensures in
    record {
      slack_long = (dropped_supporter_less small c.requires.drop_leaving_asks.slack_long c.drop_supporter-mid.ensures).long;
      queue_long =
          (queued_dropped_supporter small (omega (arith, c.if-tail-ge4351.false)) c.requires.drop_leaving_asks.slack_long
          (queued_start _ _ _ c.requires.drop_leaving_asks.queue_long) c.drop_supporter-mid.ensures).long;
      small = second_small _ _ _ c.requires.drop_leaving_asks.placed.sound c.requires.j_in_bounds c.entry-b.ensures;
      room = omega (arith, c.if-tail-ge4351.false, dropped_supporter_on c.drop_supporter-mid.ensures);
    }

pub returns : goal.returns
returns c =
    let small = first_small _ _ _ c.requires.drop_leaving_asks.placed.sound c.requires.j_in_bounds c.entry-a.ensures in
    record {
      within =
          omega (
            arith,
            c.if-tail-ge4351.false,
            dropped_supporter_on c.drop_supporter-mid.ensures,
            dropped_supporter_on c.drop_supporter.ensures,
          );
      queued = queued_dropped_supporter (second_small _ _ _ c.requires.drop_leaving_asks.placed.sound c.requires.j_in_bounds c.entry-b.ensures)
          (omega (arith, c.if-tail-ge4351.false, dropped_supporter_on c.drop_supporter-mid.ensures))
          (dropped_supporter_less small c.requires.drop_leaving_asks.slack_long c.drop_supporter-mid.ensures).long
          (queued_dropped_supporter small (omega (arith, c.if-tail-ge4351.false)) c.requires.drop_leaving_asks.slack_long
          (queued_start _ _ _ c.requires.drop_leaving_asks.queue_long) c.drop_supporter-mid.ensures)
          c.drop_supporter.ensures;
      leaving = λ sp F.
          leaving_row _ _ _ _ _ c.requires.drop_leaving_asks.placed.setting _ c.requires.drop_leaving_asks.times_long
          c.requires.drop_leaving_asks.days F c.requires.j_in_bounds
          (lead_reads _ _ _ c.requires.drop_leaving_asks.placed.sound c.requires.j_in_bounds _ c.args.scratch.now c.requires.drop_leaving_asks.placed.paired.pairs
          c.leads-leading.ensures)
          (first_is _ _ _ c.requires.drop_leaving_asks.placed.sound c.requires.j_in_bounds c.entry-a.ensures) (second_is _ _ _ c.requires.drop_leaving_asks.placed.sound c.requires.j_in_bounds c.entry-b.ensures)
          (day_of_lem _ _ _ c.requires.drop_leaving_asks.placed.sound c.requires.j_in_bounds refl) refl refl c.loses_supporter-by_a.ensures c.loses_supporter-by_b.ensures
          c.drop_supporter-mid.ensures c.drop_supporter.ensures;
    }
