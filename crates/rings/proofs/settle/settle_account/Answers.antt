use mathlib.Core.Path.{refl, sym, ◌∙◌}
use native.Mathlib.Omega.{arith}
use Rattle.rings.proofs.SettleNearLaws.{same_short}
use Rattle.rings.proofs.WorklistLaws.{unmoved_working, unmoved_attempt, moved_more}
use Rattle.rings.proofs.settle.settle_account.Goals as goal

pub first_from-from-requires : goal.first_from-from-requires
first_from-from-requires g c =
    (c.requires.working.opened.pruned, omega (arith, c.entry-u.ensures, c.requires.small))

pub offset_bounds-times-u : goal.offset_bounds-times-u
offset_bounds-times-u g c = omega (arith, c.entry-u.ensures, c.requires.small)

pub bounds-times-u : goal.bounds-times-u
bounds-times-u g c = omega (arith, c.entry-u.ensures, c.requires.small, c.requires.working.times_long)

pub settle_near-near-requires : goal.settle_near-near-requires
settle_near-near-requires g c =
    record {
      working = c.requires.working;
      at_head = record {
        small = omega (arith, c.entry-u.ensures, c.requires.small);
        is_head = sym c.entry-u.ensures;
        reading = c.first_from-from.ensures;
      };
      its_time = refl;
    }

pub settle_far-requires : goal.settle_far-requires
settle_far-requires g c =
    let unmoved = rw c.in-Err.is at c.settle_near-near.ensures in
    record {
      working = unmoved_working unmoved c.requires.working;
      at_head = record {
        small = omega (arith, c.entry-u.ensures, c.requires.small);
        is_head = unmoved.behind.front _ c.requires.working.waits ∙ sym c.entry-u.ensures;
        reading = c.first_from-from.ensures;
      };
      bounded = c.requires.bounded;
      short = same_short _ _ _ _ unmoved.same_times unmoved.short;
    }

pub returns-in-Ok : goal.returns-in-Ok
returns-in-Ok g c = moved_more (omega arith) (rw c.in-Ok.is at c.settle_near-near.ensures)

pub returns-in-Err : goal.returns-in-Err
returns-in-Err g c =
    unmoved_attempt _ _ c.settle_far.result (rw c.in-Err.is at c.settle_near-near.ensures)
    c.settle_far.ensures
