-- Longest list (Ts, Te): the most rings that a range can have.
--     longest n          n(n+1)/2
--     days_of lo hi       the number of days of the range [lo, hi]
--     longest_answer lo hi    the answer
use Rattle.std.specs.Prelude.{ℕ, suc, ◌+◌, ◌*◌, ◌-◌, ◌/◌}
use Rattle.rings.specs.Checks.{counted, range_check}
use Rattle.rings.specs.Refusals.{Counted}

-- 01: "n(n+1)/2 for n days, the most rings there can be"
unfoldable pub longest : ℕ → ℕ
longest n = n * (n + 1) / 2

unfoldable pub days_of : ℕ → ℕ → ℕ
days_of lo hi = suc hi - lo

unfoldable pub longest_answer : ℕ → ℕ → Counted
longest_answer lo hi = counted (range_check lo hi) (longest (days_of lo hi))
