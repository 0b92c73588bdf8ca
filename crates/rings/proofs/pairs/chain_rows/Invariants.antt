use mathlib.Core.List.{List}
use Prim.Native.Nat.{ℕ}
use lib.ListN.{length}
use mathlib.Core.Path.{◌≡◌}
use Rattle.rings.specs.Table.{table_of}
use Rattle.rings.specs.Inner.Adjacency.{Chained}
use Rattle.rings.proofs.pairs.chain_rows.Given as goal

-- what holds at the test of the loop
pub record Held (days first second scratch₀ : List ℕ) (n : ℕ) (scratch : List ℕ) (j : ℕ) : Type 0 where
  pub rows : n ≡ length days
  pub long : length scratch ≡ length scratch₀
  pub chained : Chained (table_of days first second) j scratch

abbrev pub invariant-loop-j : goal.invariant-loop-j
invariant-loop-j l =
    Held l.payments.days.now l.payments.first.now l.payments.second.now l.initial.scratch l.n l.scratch l.j
