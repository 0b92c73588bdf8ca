use lib.ListN.{set}
use mathlib.Core.Path.{◌∙◌, ap}
use Prim.Native.Nat.{ℕ, ◌+◌}
use Rattle.rings.proofs.heads.pass_row.Goals as goal

pub returns : goal.returns
returns c =
    c.put.ensures ∙ ap (λ (m : ℕ). set c.args.scratch.now (4096 + c.args.u) (m + 1)) c.entry-head.ensures
