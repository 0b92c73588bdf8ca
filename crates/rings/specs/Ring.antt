-- The ring of a window: its temporal k-core (001, Definition 2).
--     joins t j u v      row j is a payment between u and v
--     neighbour t m u v  v is a neighbour of u in the row set m
--     greatest xs        the greatest number of a list
--     names t            one more than the greatest account number of the table
--     degree t m u       how many distinct neighbours u has in m
--     touches t j u      u is an account of row j
--     met t m u          u is met in m: a row of m has it
--     query n            the query for k = n
--     Shares t m u v     v is another account than u, and a row of m has both
--     Others t m u ns    the list ns holds these accounts v, each once: its length is `degree` in an accepted table (proofs/OthersLaws.antt)
--     Good t q m         every account met in m has at least k distinct others
--     Within m m'        each row of m is a row of m'
--     IsRing t q s e m   m is the ring of [s, e], in 01's words
--     keep t q m j       both accounts of row j have at least k distinct others in m
--     round, rounds      one round of peeling; n of them
--     peel test m        drop the rows that fail the test, for as many rounds as there are rows
--     ring t q s e       the ring of [s, e], computed: `IsRing` holds of it and of nothing else (proofs/RingLaws.antt)
--     in_ring t q s e j   row j is in the ring of [s, e]
--     members m          how many rows a row set has
use Rattle.std.specs.Prelude.{ℕ, zero, suc, max, ◌≤◌, ◌<◌, ◌≡◌, ◌⊎◌, Bool, true, length, leb, eqb}
use mathlib.Core.List.{List, [], ◌∷◌, Memᴰ as Mem}
use Rattle.rings.specs.Words.{◌and◌, ◌or◌, marked, some, count, tabulate, Pairwise}
use Rattle.rings.specs.Table.{Table, size, first_of, second_of, window_rows}
use Rattle.rings.specs.declared.Query.{Query}

unfoldable pub joins : Table → ℕ → ℕ → ℕ → Bool
joins t j u v = (eqb (first_of t j) u and eqb (second_of t j) v) or (eqb (first_of t j) v and eqb (second_of t j) u)

-- 01: "Two rows of one pair give one neighbour"
unfoldable pub neighbour : Table → List Bool → ℕ → ℕ → Bool
neighbour t m u v = some (λ j. marked m j and joins t j u v) (size t)

-- the greatest number of a list, 0 for an empty one
unfoldable pub greatest : List ℕ → ℕ
greatest [] = 0
greatest (x ∷ xs) = max x (greatest xs)

unfoldable pub names : Table → ℕ
names t = suc (max (greatest t.first) (greatest t.second))

unfoldable pub degree : Table → List Bool → ℕ → ℕ
degree t m u = count (neighbour t m u) (names t)

unfoldable pub touches : Table → ℕ → ℕ → Bool
touches t j u = eqb (first_of t j) u or eqb (second_of t j) u

unfoldable pub met : Table → List Bool → ℕ → Bool
met t m u = some (λ j. marked m j and touches t j u) (size t)

abbrev pub query : ℕ → Query
query n = record { k = n }

pub record Shares (t : Table) (m : List Bool) (u v : ℕ) : Type 0 where
  pub other : v ≡ u → ⊥
  pub row : ℕ
  pub in_table : row < size t
  pub in_set : marked m row ≡ true
  pub has_u : (first_of t row ≡ u) ⊎ (second_of t row ≡ u)
  pub has_v : (first_of t row ≡ v) ⊎ (second_of t row ≡ v)

-- 01: "distinct other accounts"
pub record Others (t : Table) (m : List Bool) (u : ℕ) (ns : List ℕ) : Type 0 where
  pub each : (v : ℕ) → Mem v ns → Shares t m u v
  pub whole : (v : ℕ) → Shares t m u v → Mem v ns
  pub once : Pairwise (λ v w. v ≡ w → ⊥) ns

-- 01: "every account met has at least k distinct other accounts"
pub record Good (t : Table) (q : Query) (m : List Bool) : Type 0 where
  pub neighbours : (u : ℕ) → met t m u ≡ true → q.k ≤ degree t m u

pub record Within (m m' : List Bool) : Type 0 where
  pub all : (j : ℕ) → marked m j ≡ true → marked m' j ≡ true

-- 01: "Its ring for k is the greatest set of its rows in which every account met has at least k distinct other accounts"
pub record IsRing (t : Table) (q : Query) (s e : ℕ) (m : List Bool) : Type 0 where
  pub sized : length m ≡ size t
  pub within : Within m (window_rows t s e)
  pub good : Good t q m
  pub greatest_one : (m' : List Bool) → Within m' (window_rows t s e) → Good t q m' → Within m' m

unfoldable pub keep : Table → Query → List Bool → ℕ → Bool
keep t q m j = leb q.k (degree t m (first_of t j)) and leb q.k (degree t m (second_of t j))

-- one round: of the rows of m those that pass the test in m
unfoldable pub round : (List Bool → ℕ → Bool) → List Bool → List Bool
round test m = tabulate (λ j. marked m j and test m j) 0 (length m)

unfoldable pub rounds : (List Bool → ℕ → Bool) → ℕ → List Bool → List Bool
rounds test zero m = m
rounds test (suc n) m = rounds test n (round test m)

unfoldable pub peel : (List Bool → ℕ → Bool) → List Bool → List Bool
peel test m = rounds test (length m) m

unfoldable pub ring : Table → Query → ℕ → ℕ → List Bool
ring t q s e = peel (keep t q) (window_rows t s e)

unfoldable pub in_ring : Table → Query → ℕ → ℕ → ℕ → Bool
in_ring t q s e j = marked (ring t q s e) j

unfoldable pub members : List Bool → ℕ
members m = count (marked m) (length m)
