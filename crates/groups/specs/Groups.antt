-- The groups of a row set: a ring falls into groups with no payment between them (02, S-4).
--     Connected t m u v  u and v are connected through rows of m: one account, linked by a row of m, or through others
--     Reaches t m j v    row j has an account that is connected with v
--     IsLabel t m j l    l is the smallest account connected with row j
--     RowsConnected t m i j     rows i and j are connected: an account of the one is, with an account of the other
--     choose b x y       x where b holds, else y
--     joined a b x       the smaller of a and b where x is one of them, else x
--     leader t m n u     the smallest account connected with u through rows of m among the first n, computed row by row
--     none               65,535: the label of a row outside
--     labels_of t m       the labels of all rows: `IsLabel` holds of a label of m's rows and of nothing else
--                        (proofs/ConnectedLaws.antt)
--     group t m a        the rows of m that are connected with the account a, computed: they are those that reach it
--                        (proofs/ConnectedLaws.antt)
--     picked m xs        the entries of a column that belong to rows of m, in their order
--     alone t m          the rows of m as a table of their own
use Rattle.std.specs.Prelude.{ℕ, zero, suc, min, ◌≤◌, ◌≡◌, Bool, true, false, List, [], ◌∷◌, eqb}
use Rattle.rings.specs.Words.{◌and◌, ◌or◌, marked, tabulate, cons_if}
use Rattle.rings.specs.Table.{Table, table_of, size, first_of, second_of}
use Rattle.rings.specs.Ring.{Shares, touches}

-- 02: "connected .. through ring rows". `Shares t m v w`: another account, and a row of m has both
pub data Connected (t : Table) (m : List Bool) (u : ℕ) : ℕ → Type 0 where
  itself : Connected t m u u
  through : {v w : ℕ} → Connected t m u v → Shares t m v w → Connected t m u w

pub record Reaches (t : Table) (m : List Bool) (j v : ℕ) : Type 0 where
  pub account : ℕ
  pub has : touches t j account ≡ true
  pub connected : Connected t m account v

-- 02: "the smallest account connected to it through ring rows"
pub record IsLabel (t : Table) (m : List Bool) (j l : ℕ) : Type 0 where
  pub reached : Reaches t m j l
  pub smallest : (v : ℕ) → Reaches t m j v → l ≤ v

pub record RowsConnected (t : Table) (m : List Bool) (i j : ℕ) : Type 0 where
  pub account : ℕ
  pub has : touches t i account ≡ true
  pub reached : Reaches t m j account

unfoldable pub choose : Bool → ℕ → ℕ → ℕ
choose true x y = x
choose false x y = y

unfoldable pub joined : ℕ → ℕ → ℕ → ℕ
joined a b x = choose (eqb x a or eqb x b) (min a b) x

-- each row of m makes the groups of its two accounts one
unfoldable pub leader : Table → List Bool → ℕ → ℕ → ℕ
leader t m zero u = u
leader t m (suc n) u =
    choose (marked m n) (joined (leader t m n (first_of t n)) (leader t m n (second_of t n)) (leader t m n u)) (leader t m n u)

abbrev pub none : ℕ
none = 65535

-- 02: "Label each row of a window's ring with the smallest account connected to it through ring rows, and rows outside with 65,535"
unfoldable pub labels_of : Table → List Bool → List ℕ
labels_of t m = tabulate (λ j. choose (marked m j) (leader t m (size t) (first_of t j)) none) 0 (size t)

-- 02: "only the group of one named account"
unfoldable pub group : Table → List Bool → ℕ → List Bool
group t m a = tabulate (λ j. marked m j and eqb (leader t m (size t) (first_of t j)) (leader t m (size t) a)) 0 (size t)

unfoldable pub picked : List Bool → List ℕ → List ℕ
picked [] xs = []
picked (b ∷ m) [] = []
picked (b ∷ m) (x ∷ xs) = cons_if b x (picked m xs)

-- 02: "Each group taken as a table of its own"
abbrev pub alone : Table → List Bool → Table
alone t m = table_of (picked m t.days) (picked m t.first) (picked m t.second)
