use Rattle.rings.proofs.ChoiceLaws.{picked_as}
use mathlib.Core.Path.{refl}
use Rattle.rings.proofs.CountingLaws.{take_place, take_less, take_few, take_end}
use Rattle.rings.proofs.ChoiceLaws.{flag_set, flag_clear}
use Rattle.rings.proofs.WordLaws.{clash}
use native.Mathlib.Omega.{arith}
use Rattle.rings.proofs.histogram.take_from_histogram.Goals as goal

pub returns-then-not-this : goal.returns-then-not-this
returns-then-not-this g c =
    record {
      where_counted = record { counted = λ h. clash h (flag_clear c.if-not-this.true); same = λ h. refl };
      value = λ h. refl;
    }

pub bounds-counts-e : goal.bounds-counts-e
bounds-counts-e g c =
    let asks = c.requires (flag_set c.if-not-this.false) in
    take_place c.args.counts.now (picked_as c.wide-e.ensures c.pick.ensures) c.one-more.ensures asks.has asks.long

pub overflow_sub-counts : goal.overflow_sub-counts
overflow_sub-counts g c =
    take_less c.args.counts.now (picked_as c.wide-e.ensures c.pick.ensures)
    c.one-more.ensures (c.requires (flag_set c.if-not-this.false)).has

pub bounds-counts-e-2 : goal.bounds-counts-e-2
bounds-counts-e-2 g c =
    let asks = c.requires (flag_set c.if-not-this.false) in
    take_place c.args.counts.now (picked_as c.wide-e.ensures c.pick.ensures) c.one-more.ensures asks.has asks.long

pub overflow_add-result : goal.overflow_add-result
overflow_add-result g c =
    let asks = c.requires (flag_set c.if-not-this.false) in
    omega
    (arith, take_few c.args.counts.now (picked_as c.wide-e.ensures c.pick.ensures) c.one-more.ensures asks.has, asks.few)

pub returns : goal.returns
returns g c =
    record {
      where_counted = record {
        counted = λ h. take_end c.args.counts.now (picked_as c.wide-e.ensures c.pick.ensures) c.one-more.ensures
            (c.requires (flag_set c.if-not-this.false)).has;
        same = λ h. clash (flag_set c.if-not-this.false) h;
      };
      value = λ h. clash (flag_set c.if-not-this.false) h;
    }
