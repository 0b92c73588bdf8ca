use lib.Dec.{eqb}
use Prim.Native.Nat.{ℕ}
use mathlib.Core.Bool.{◌&&◌}
use mathlib.Core.Path.{◌∙◌, ap}
use Rattle.rings.proofs.pairs.is_pair.Goals as goal

pub returns : goal.returns
returns c =
    ap (λ (x : ℕ). eqb x c.args.a && eqb c.entry-y.result c.args.b) c.entry-x.ensures ∙ ap
    (λ (y : ℕ). eqb (lib.ListN.get_or c.args.first.now c.args.i 0) c.args.a && eqb y c.args.b) c.entry-y.ensures
