use Rattle.rings.proofs.DayLaws.{LinearSearch}
use Prim.Native.Nat.{◌+◌}
use Rattle.rings.proofs.table.rows_through.Given as goal

abbrev pub invariant-loop-r : goal.invariant-loop-r
invariant-loop-r l =
    LinearSearch l.days (l.s + 1) l.r
