-- Core times of accounts and of rows.
--     never                     65,535
--     least p s n               the least of the n numbers from s on that has p, or never
--     account_time t q hi s u    the core time of account u at start s in a range that ends on hi (001, Definition 4: vertex core time)
--     row_time t q hi s j        the core time of row j (001, section IV: edge core time)
--     LeastDay t q hi s has x   in words: x is the least day e of [s, hi] on which the ring of [s, e] has it, be it an account or a row
--     NoDay t q hi s has x      x is never, and on no day of [s, hi] has the ring of [s, e] it
--     IsCoreTime t q hi s has x     one or the other: x is its core time (proofs/Demand2.antt)
use Rattle.std.specs.Prelude.{ℕ, zero, suc, ◌-◌, ◌≤◌, ◌<◌, ◌≡◌, ◌⊎◌, Bool, true, false, List}
use Rattle.rings.specs.Table.{Table}
use Rattle.rings.specs.Ring.{met, IsRing, ring, in_ring}
use Rattle.rings.specs.declared.Query.{Query}

-- 01: "65,535 means never"
abbrev pub never : ℕ
never = 65535

unfoldable pub least : (ℕ → Bool) → ℕ → ℕ → ℕ
least p s zero = never
least p s (suc n) = elim (p s) [ true ↦ s | false ↦ least p (suc s) n ]

-- 01: "the least e with s ≤ e ≤ Te such that the account is in the ring of [s, e]"
unfoldable pub account_time : Table → Query → ℕ → ℕ → ℕ → ℕ
account_time t q hi s u = least (λ e. met t (ring t q s e) u) s (suc hi - s)

-- 01: "Core time of a row: the same for the row"
unfoldable pub row_time : Table → Query → ℕ → ℕ → ℕ → ℕ
row_time t q hi s j = least (λ e. in_ring t q s e j) s (suc hi - s)

pub record LeastDay (t : Table) (q : Query) (hi s : ℕ) (has : List Bool → Bool) (x : ℕ) : Type 0 where
  pub from : s ≤ x
  pub to : x ≤ hi
  pub is_in_ring : (m : List Bool) → IsRing t q s x m → has m ≡ true
  pub none_sooner : (e : ℕ) (m : List Bool) → s ≤ e → e < x → IsRing t q s e m → has m ≡ false

pub record NoDay (t : Table) (q : Query) (hi s : ℕ) (has : List Bool → Bool) (x : ℕ) : Type 0 where
  pub is_never : x ≡ never
  pub none : (e : ℕ) (m : List Bool) → s ≤ e → e ≤ hi → IsRing t q s e m → has m ≡ false

-- 01: "the least e with s ≤ e ≤ Te such that the account is in the ring of [s, e]; 65,535 means never"
abbrev pub IsCoreTime : Table → Query → ℕ → ℕ → (List Bool → Bool) → ℕ → Type 0
IsCoreTime t q hi s has x = LeastDay t q hi s has x ⊎ NoDay t q hi s has x
