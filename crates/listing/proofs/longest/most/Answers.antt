-- `longest::most` meets its contract: it is the rule itself, and 1,024 * 1,025 fits 32 bits.
-- Assumes nothing.
use native.Mathlib.Nat.{lt_of_le_of_lt, mul-le-mul}
use native.Mathlib.Omega.{arith}
use Rattle.listing.proofs.longest.most.Goals as goal

pub overflow_mul-result : goal.overflow_mul-result
overflow_mul-result c =
    record { fits = lt_of_le_of_lt (mul-le-mul {n₂ = 1024} {m₂ = 1025} (omega arith) (omega arith)) (omega arith) }
