use mathlib.Core.List.{List}
use Prim.Native.Nat.{ℕ}
use mathlib.Core.Path.{◌≡◌}
use lib.ListN.{get_or}
use Rattle.rings.specs.Table.{table_of}
use Rattle.rings.specs.Inner.Peeling.{estimate}
use Rattle.rings.proofs.PruneLaws.{Pruning}
use Rattle.rings.proofs.prune.prune_account.Given as goal

-- what holds at the test of the loop
pub record Held (days first second scratch₀ times : List ℕ) (u last : ℕ) (scratch : List ℕ) (p end : ℕ) : Type 0 where
  pub cursor : last ≡ get_or scratch₀ u 0
  pub pruning : Pruning (table_of days first second) (estimate times) u scratch₀ p end scratch

abbrev pub invariant-loop-p : goal.invariant-loop-p
invariant-loop-p l =
    Held l.payments.days.now l.payments.first.now l.payments.second.now l.initial.scratch l.times l.u l.last l.scratch l.p l.end
