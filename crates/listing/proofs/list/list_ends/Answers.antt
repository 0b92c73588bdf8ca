use Rattle.listing.proofs.ColumnLaws.{entering_put}
use Rattle.listing.proofs.EndsLaws.{ends_none, ends_start, ends_total, ends_skip, ends_entered, ends_one, ends_places, ends_end}
use mathlib.Core.Path.{refl}
use native.Mathlib.Omega.{arith}
use Rattle.listing.proofs.list.list_ends.Goals as goal

pub returns-then-stop-least : goal.returns-then-stop-least
returns-then-stop-least g c = ends_none c.requires c.if-stop-least.true refl

pub loop-e-init : goal.loop-e-init
loop-e-init g c = ends_start c.requires

pub loop-e-preserved-then-e-least : goal.loop-e-preserved-then-e-least
loop-e-preserved-then-e-least g c =
    ends_skip c.requires c.loop-e.invariant c.loop-e-test.true c.first_counted-next.ensures c.if-e-least.true

pub overflow_cast-total-else-e-least : goal.overflow_cast-total-else-e-least
overflow_cast-total-else-e-least g c = omega (arith, ends_total c.requires c.loop-e.invariant c.loop-e-test.true)

pub enter-requires : goal.enter-requires
enter-requires g c =
    ends_entered c.requires c.loop-e.invariant c.loop-e-test.true c.first_counted-next.ensures c.if-e-least.false

pub loop-e-preserved : goal.loop-e-preserved
loop-e-preserved g c =
    ends_one c.requires c.loop-e.invariant c.loop-e-test.true c.first_counted-next.ensures c.if-e-least.false
    (entering_put _ _ _ _ c.enter.ensures)

-- The check finds this by itself too; docs/ names the law.
pub fill_starts-requires : goal.fill_starts-requires
fill_starts-requires g c = ends_places c.requires _ c.loop-e.invariant refl

pub returns : goal.returns
returns g c =
    ends_end c.requires _ c.loop-e.invariant c.if-stop-least.false c.loop-e-test.false refl c.fill_starts.ensures
