use mathlib.Core.List.{List}
use Prim.Native.Nat.{ℕ}
use mathlib.Core.Path.{◌≡◌}
use lib.ListN.{length}
use Rattle.rings.specs.Inner.Peeling.{estimate}
use Rattle.rings.specs.Table.{table_of}
use Rattle.rings.proofs.PruneLaws.{PruningAll}
use Rattle.rings.proofs.prune.prune.Given as goal

-- what holds at the test of the loop
pub record Held (days first second scratch₀ times scratch : List ℕ) : Type 0 where
  pub long : length scratch ≡ length scratch₀
  pub pruning_all : PruningAll (table_of days first second) (estimate times) scratch₀ scratch

abbrev pub invariant-loop-u : goal.invariant-loop-u
invariant-loop-u l =
    Held l.payments.days.now l.payments.first.now l.payments.second.now l.initial.scratch l.times l.scratch
