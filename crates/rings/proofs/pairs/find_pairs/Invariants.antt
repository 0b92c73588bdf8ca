use mathlib.Core.List.{List}
use Prim.Native.Nat.{ℕ}
use lib.ListN.{length}
use mathlib.Core.Path.{◌≡◌}
use Rattle.rings.specs.Table.{table_of}
use Rattle.rings.specs.Inner.Adjacency.{Pairing}
use Rattle.rings.proofs.SlotLaws.{Seeking}
use Rattle.rings.proofs.pairs.find_pairs.Given as goal

-- what holds at the test of the loop
pub record Held (days first second scratch₀ : List ℕ) (j : ℕ) (scratch : List ℕ) (p : ℕ) : Type 0 where
  pub long : length scratch ≡ length scratch₀
  pub seeking : Seeking days first second j p scratch

-- what holds at the test of the loop over the rows
pub record Held-rows (days first second scratch₀ scratch : List ℕ) (left : ℕ) : Type 0 where
  pub long : length scratch ≡ length scratch₀
  pub pairing : Pairing (table_of days first second) left scratch

abbrev pub invariant-loop-p : goal.invariant-loop-p
invariant-loop-p l =
    Held l.payments.days.now l.payments.first.now l.payments.second.now l.initial.scratch l.j l.scratch l.p

abbrev pub decreases-loop-p : goal.decreases-loop-p
decreases-loop-p l =
    l.p

abbrev pub invariant-rows : goal.invariant-rows
invariant-rows l =
    Held-rows l.payments.days.now l.payments.first.now l.payments.second.now l.initial.scratch l.scratch l.j
