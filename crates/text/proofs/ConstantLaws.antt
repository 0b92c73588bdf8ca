-- Laws of a constant array that is its own rule, written out entry by entry.
--
--   listed      f i, f (i + 1), .., in all n entries
--   listed_at   its entry k, counted from 0, is f k
-- Assumes nothing.
use Prim.Native.Nat.{ℕ, zero, suc, ◌+◌, ◌<◌}
use mathlib.Core.Path.{◌≡◌, sym, ap, ◌∙◌}
use mathlib.Core.List.{List, [], ◌∷◌}
use native.Mathlib.Nat.{add-zero, zero-add, add-suc, suc-add, le_of_suc-le-suc, not-suc-le-zero}
use lib.ListN.{get_or}

abbrev pub listed : (ℕ → ℕ) → ℕ → ℕ → List ℕ
listed f i zero = []
listed f i (suc n) = f i ∷ listed f (suc i) n

listed_from : (f : ℕ → ℕ) (n i k : ℕ) → k < n → get_or (listed f i n) k 0 ≡ f (i + k)
listed_from f zero i k h = absurd (not-suc-le-zero h)
listed_from f (suc n) i zero h = ap f (sym (add-zero i))
listed_from f (suc n) i (suc k) h = listed_from f n (suc i) k (le_of_suc-le-suc h) ∙ ap f (suc-add i k ∙ sym (add-suc i k))

pub listed_at : (f : ℕ → ℕ) (n k : ℕ) → k < n → get_or (listed f 0 n) k 0 ≡ f k
listed_at f n k h = listed_from f n 0 k h ∙ ap f (zero-add k)
