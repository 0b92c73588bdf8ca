use Rattle.rings.proofs.MovingLaws.{moving_room, moving_made}
use Rattle.rings.proofs.ChoiceLaws.{flag_set, flag_clear}
use Rattle.rings.proofs.WordLaws.{clash}
use lib.ListN.{get_or, set, length-set}
use mathlib.Core.Path.{refl, sym, ◌∙◌, ap, subst}
use native.Mathlib.Omega.{arith}
use Prim.Native.Nat.{ℕ, ◌-◌, ◌≤◌}
use Rattle.rings.proofs.histogram.move_in_histogram.Goals as goal

pub returns-then-not-this : goal.returns-then-not-this
returns-then-not-this g c = record { counted = λ h. clash h (flag_clear c.if-not-this.true); same = λ h. refl }

pub bounds-counts-e : goal.bounds-counts-e
bounds-counts-e g c =
    let asks = c.requires (flag_set c.if-not-this.false) in
    omega (arith, c.wide-e.ensures, asks.long, asks.from_day)

pub overflow_sub-counts : goal.overflow_sub-counts
overflow_sub-counts g c =
    subst (λ (i : ℕ). c.args.m ≤ get_or c.args.counts.now i 0) (sym c.wide-e.ensures)
    (c.requires (flag_set c.if-not-this.false)).enough

pub bounds-counts-e-2 : goal.bounds-counts-e-2
bounds-counts-e-2 g c =
    let asks = c.requires (flag_set c.if-not-this.false) in
    omega (arith, c.wide-e.ensures, asks.long, asks.from_day)

pub add_count-requires : goal.add_count-requires
add_count-requires g c =
    let asks = c.requires (flag_set c.if-not-this.false) in
    moving_room _ _ _ c.args.counts.now _ asks.long asks.from_day asks.enough
    (ap (λ (i : ℕ). set c.args.counts.now i (get_or c.args.counts.now i 0 - c.args.m)) c.wide-e.ensures)
    asks.room

pub shape_of-counts : goal.shape_of-counts
shape_of-counts g c =
    c.add_count.auto.counts ∙ length-set c.args.counts.now c.wide-e.result
    (get_or c.args.counts.now c.wide-e.result 0 - c.args.m)

pub returns : goal.returns
returns g c =
    let asks = c.requires (flag_set c.if-not-this.false) in
    record {
      counted = λ h. moving_made _ _ _ c.args.counts.now _ asks.long asks.from_day asks.enough
          (ap (λ (i : ℕ). set c.args.counts.now i (get_or c.args.counts.now i 0 - c.args.m)) c.wide-e.ensures)
          c.add_count.ensures;
      same = λ h. clash (flag_set c.if-not-this.false) h;
    }
