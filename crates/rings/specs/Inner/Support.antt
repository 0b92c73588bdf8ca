-- Supporters of an account: what closes an estimate of its core time.
--     backs t x s c u v j   row j is a payment of u and v that opens by c in a window from s on, and x v is at most c
--     supports t x s c u v  v supports u at c: a row says so
--     supporters t x s c u  how many accounts support u at c
use Rattle.std.specs.Prelude.{ℕ, Bool, leb}
use Rattle.rings.specs.Words.{◌and◌, some, count}
use Rattle.rings.specs.Table.{Table, size}
use Rattle.rings.specs.Ring.{joins, names}
use Rattle.rings.specs.Inner.Adjacency.{opens_by}

-- a row that makes v a supporter of u at c
unfoldable pub backs : Table → (ℕ → ℕ) → ℕ → ℕ → ℕ → ℕ → ℕ → Bool
backs t x s c u v j = joins t j u v and opens_by t s c j and leb (x v) c

unfoldable pub supports : Table → (ℕ → ℕ) → ℕ → ℕ → ℕ → ℕ → Bool
supports t x s c u v = some (backs t x s c u v) (size t)

unfoldable pub supporters : Table → (ℕ → ℕ) → ℕ → ℕ → ℕ → ℕ
supporters t x s c u = count (supports t x s c u) (names t)
