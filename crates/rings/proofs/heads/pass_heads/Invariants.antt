use mathlib.Core.List.{List}
use Prim.Native.Nat.{ℕ}
use mathlib.Core.Path.{◌≡◌}
use lib.ListN.{length}
use Rattle.rings.specs.Table.{table_of}
use Rattle.rings.specs.Inner.Adjacency.{HeadsPassed}
use Rattle.rings.proofs.heads.pass_heads.Given as goal

-- what holds at the test of the loop
pub record Held (days first second scratch₀ : List ℕ) (lo : ℕ) (scratch : List ℕ) (row : ℕ) : Type 0 where
  pub long : length scratch ≡ length scratch₀
  pub passed : HeadsPassed (table_of days first second) lo scratch₀ row scratch

abbrev pub invariant-loop-row : goal.invariant-loop-row
invariant-loop-row l =
    Held l.payments.days.now l.payments.first.now l.payments.second.now l.initial.scratch l.lo l.scratch l.row
