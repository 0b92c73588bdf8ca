use Rattle.rings.proofs.SettleStartLaws.{Filled}
use Prim.Native.Nat.{ℕ}
use Rattle.rings.proofs.settle.list_all.Given as goal

abbrev pub invariant-loop-u : goal.invariant-loop-u
invariant-loop-u l =
    Filled (λ (i : ℕ). i) 4352 l.u l.list
