use native.Mathlib.Omega.{arith}
use mathlib.Core.Logic.{⊎_elim}
use mathlib.Core.Path.{refl}
use Rattle.rings.proofs.FindDayLaws.{find_day_next, short_next, find_day_then, find_day_found, find_day_never}
use Rattle.rings.proofs.scan.find_day.Goals as goal

pub loop-c-init : goal.loop-c-init
loop-c-init c = (c.requires.short, omega arith)

pub scan_on_day-outcome-requires : goal.scan_on_day-outcome-requires
scan_on_day-outcome-requires c =
    record {
      lent = record {
        opened = c.requires.lent.opened;
        small = c.requires.lent.small;
        long = c.requires.lent.long;
        days = c.requires.lent.days;
        reading = c.requires.lent.reading;
      };
      in_range = ⊎_elim (λ h. h) (λ h. absurd (omega (arith, h, c.loop-c-test.true))) c.loop-c.invariant.0.day;
      every = c.requires.every (λ e. omega (arith, e, c.loop-c.invariant.0.from, c.loop-c-test.true));
    }

pub overflow_add-walked : goal.overflow_add-walked
overflow_add-walked c = omega (arith, c.scan_on_day-outcome.ensures.short_walk, c.if-scan-walked.false, c.requires.bounded)

pub overflow_add-result-then-frame-both : goal.overflow_add-result-then-frame-both
overflow_add-result-then-frame-both c = omega (arith, c.scan_on_day-outcome.ensures.few)

pub overflow_sub-result-then-frame-both : goal.overflow_sub-result-then-frame-both
overflow_sub-result-then-frame-both c = omega (arith, c.if-frame-both.true)

pub returns-then-frame-outcome : goal.returns-then-frame-outcome
returns-then-frame-outcome c =
    record {
      day_found =
          find_day_found _ _ _ _ _ c.requires.lent.opened.setting _ c.loop-c.invariant.0.fewer c.loop-c.invariant.0.from
          c.scan_on_day-outcome.ensures.scanned
          c.if-frame-outcome.true (⊎_elim (λ h. h) (λ h. absurd (omega (arith, h, c.loop-c-test.true))) c.loop-c.invariant.0.day) refl;
      short_walk = omega (arith, c.scan_on_day-outcome.ensures.short_walk, c.if-scan-walked.false, c.requires.bounded);
    }

pub returns-then-c : goal.returns-then-c
returns-then-c c =
    record {
      day_found = find_day_never _ _ _ _ _ c.requires.lent.opened.setting _
          (short_next _ _ _ _ _ c.requires.lent.opened.setting _ c.loop-c.invariant.0 c.scan_on_day-outcome.ensures.scanned
          c.if-frame-outcome.false).fewer
          (short_next _ _ _ _ _ c.requires.lent.opened.setting _ c.loop-c.invariant.0 c.scan_on_day-outcome.ensures.scanned
          c.if-frame-outcome.false).from
          c.if-c.true refl;
      short_walk = omega (arith, c.scan_on_day-outcome.ensures.short_walk, c.if-scan-walked.false, c.requires.bounded);
    }

pub overflow_add-both : goal.overflow_add-both
overflow_add-both c = omega (arith, c.scan_on_day-outcome.ensures.few)

pub overflow_add-result : goal.overflow_add-result
overflow_add-result c = omega (arith, c.scan_on_day-outcome.ensures.few)

pub overflow_sub-result : goal.overflow_sub-result
overflow_sub-result c = omega (arith, c.if-frame-outcome.true)

pub returns-then-frame-both : goal.returns-then-frame-both
returns-then-frame-both c =
    record {
      day_found =
          find_day_then _ _ _ _ _ c.requires.lent.opened.setting _ c.loop-c.invariant.0.fewer c.loop-c.invariant.0.from
          c.scan_on_day-outcome.ensures.scanned
          c.if-frame-outcome.false c.if-c.false c.if-frame-both.true refl;
      short_walk = omega (arith, c.scan_on_day-outcome.ensures.short_walk, c.if-scan-walked.false, c.requires.bounded);
    }

pub loop-c-smaller : goal.loop-c-smaller
loop-c-smaller c =
    omega (
      arith,
      (find_day_next _ _ _ _ _ c.requires.lent.opened.setting _ c.loop-c.invariant.0.fewer c.scan_on_day-outcome.ensures.scanned
          c.if-frame-outcome.false).1,
      c.loop-c-test.true,
    )

pub loop-c-preserved : goal.loop-c-preserved
loop-c-preserved c = (
  short_next _ _ _ _ _ c.requires.lent.opened.setting _ c.loop-c.invariant.0 c.scan_on_day-outcome.ensures.scanned c.if-frame-outcome.false,
  omega (arith, c.scan_on_day-outcome.ensures.short_walk, c.if-scan-walked.false),
)

pub returns : goal.returns
returns c =
    record {
      day_found = find_day_never _ _ _ _ _ c.requires.lent.opened.setting _ c.loop-c.invariant.0.fewer c.loop-c.invariant.0.from
          (
          ⊎_elim (λ h. absurd (omega (arith, h, c.loop-c-test.false, c.requires.lent.opened.setting.fits))) (λ h. h)
          c.loop-c.invariant.0.day
          ) refl;
      short_walk = omega (arith, c.loop-c.invariant.1, c.requires.bounded);
    }
