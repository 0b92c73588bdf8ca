-- The ring of a window is that of the window's rows alone (src/ring.rt).
--     Copy, Copies             each row of a row set has its like in a row set of another table
--     copy_met, copy_degree, copy_good     so accounts met stay met, degrees do not fall, and a good set stays good
--     zeros_at, put_before, put_inside, put_after     a list with a part of it replaced
-- Assumes nothing.
use Prim.Native.Nat.{ℕ, zero, suc, ◌+◌, ◌≤◌, ◌<◌}
use native.Mathlib.Nat.{le_trans}
use native.Mathlib.Omega.{arith}
use mathlib.Core.Path.{◌≡◌, refl, sym, ◌∙◌, ap}
use mathlib.Core.Bool.{Bool, true}
use mathlib.Core.List.{List, ◌++◌}
use lib.ListN.{length, get_or, take, drop, replicate, get_or-append}
use lib.Seq.{length-take-le, get_or-take, get_or-drop, get_or-append-add}
use lib.Dec.{eqb}
use borrow.Rule.Slice.PartMut.{put_mid}
use Rattle.rings.specs.Words.{◌and◌, ◌or◌, marked}
use Rattle.rings.specs.Table.{Table, size, first_of, second_of}
use Rattle.rings.specs.Ring.{joins, neighbour, names, degree, touches, met, Good}
use Rattle.rings.specs.declared.Query.{Query}
use Rattle.rings.proofs.RingLaws.{met_i, met_e, neighbour_i, neighbour_e}
use Rattle.rings.proofs.PairLaws.{count_inject}
use Rattle.rings.proofs.OthersLaws.{neighbour_named}

-- ---- row sets with the same payments

-- row it of m' is a payment between the accounts of row j of t
pub record Copy (t t' : Table) (m' : List Bool) (j : ℕ) : Type 0 where
  pub it : ℕ
  pub below : it < size t'
  pub has : marked m' it ≡ true
  pub same_first : first_of t' it ≡ first_of t j
  pub same_second : second_of t' it ≡ second_of t j

pub record Copies (t : Table) (m : List Bool) (t' : Table) (m' : List Bool) : Type 0 where
  pub each : (j : ℕ) → j < size t → marked m j ≡ true → Copy t t' m' j

touch_same : (t t' : Table) (i j u : ℕ) → first_of t' i ≡ first_of t j → second_of t' i ≡ second_of t j
    → touches t' i u ≡ touches t j u
unfolding touches
touch_same t t' i j u a b =
    ap (λ (x : ℕ). eqb x u or eqb (second_of t' i) u) a ∙ ap (λ (y : ℕ). eqb (first_of t j) u or eqb y u) b

joins_alike : (t t' : Table) (i j u v : ℕ) → first_of t' i ≡ first_of t j → second_of t' i ≡ second_of t j
    → joins t' i u v ≡ joins t j u v
unfolding joins
joins_alike t t' i j u v a b =
    ap (λ (x : ℕ). (eqb x u and eqb (second_of t' i) v) or (eqb x v and eqb (second_of t' i) u)) a
    ∙ ap (λ (y : ℕ). (eqb (first_of t j) u and eqb y v) or (eqb (first_of t j) v and eqb y u)) b

module _ {t t' : Table} {m m' : List Bool} (C : Copies t m t' m') where
  pub copy_met : (u : ℕ) → met t m u ≡ true → met t' m' u ≡ true
  copy_met u h =
      let x = met_e t m u h in
      let y = C.each x.row x.below x.has in
      met_i t' m' y.it u y.below y.has
      (touch_same t t' y.it x.row u y.same_first y.same_second ∙ x.touch)

  copy_neighbour : (u v : ℕ) → neighbour t m u v ≡ true → neighbour t' m' u v ≡ true
  copy_neighbour u v h =
      let x = neighbour_e t m u v h in
      let y = C.each x.row x.below x.has in
      neighbour_i t' m' y.it u v y.below y.has
      (joins_alike t t' y.it x.row u v y.same_first y.same_second ∙ x.join)

  pub copy_degree : (u : ℕ) → degree t m u ≤ degree t' m' u
  unfolding degree
  copy_degree u =
      count_inject (neighbour t m u) (names t) (neighbour t' m' u) (names t') (λ v w. v ≡ w)
      (λ v l h. let n = copy_neighbour u v h in
      record { it = v; below = neighbour_named t' m' u v n; has = n; to = refl })
      (λ i i' j a b. a ∙ sym b)

pub copy_good : (q : Query) {t t' : Table} {m m' : List Bool} → Copies t m t' m' → Copies t' m' t m → Good t q m
    → Good t' q m'
copy_good q C D g = record { neighbours = λ u h. le_trans (g.neighbours u (copy_met D u h)) (copy_degree C u) }

-- ---- a list with a part of it replaced

pub zeros_at : (n i : ℕ) → ◌≡◌ {A = ℕ} (get_or (replicate n 0) i 0) 0
zeros_at zero i = refl
zeros_at (suc n) zero = refl
zeros_at (suc n) (suc i) = zeros_at n i

module _ (lo k : ℕ) (xs ys : List ℕ) (h : lo ≤ length xs) where
  pub put_before : (i : ℕ) → i < lo → get_or (put_mid lo k xs ys) i 0 ≡ get_or xs i 0
  put_before i l =
      get_or-append (take lo xs) (ys ++ drop k (drop lo xs)) 0 i (let e = length-take-le lo xs h in omega arith)
      ∙ get_or-take lo xs i 0 l

  put_from : (j : ℕ) → get_or (put_mid lo k xs ys) (lo + j) 0 ≡ get_or (ys ++ drop k (drop lo xs)) j 0
  put_from j =
      ap (λ (a : ℕ). get_or (put_mid lo k xs ys) (a + j) 0) (sym (length-take-le lo xs h))
      ∙ get_or-append-add (take lo xs) (ys ++ drop k (drop lo xs)) j 0

  pub put_inside : (j : ℕ) → j < length ys → get_or (put_mid lo k xs ys) (lo + j) 0 ≡ get_or ys j 0
  put_inside j l = put_from j ∙ get_or-append ys (drop k (drop lo xs)) 0 j l

  pub put_after : (j : ℕ) → get_or (put_mid lo k xs ys) (lo + (length ys + j)) 0 ≡ get_or xs (lo + (k + j)) 0
  put_after j =
      put_from (length ys + j)
      ∙ (get_or-append-add ys (drop k (drop lo xs)) j 0 ∙ (get_or-drop k (drop lo xs) j 0 ∙ get_or-drop lo xs (k + j) 0))
