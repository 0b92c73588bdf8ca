-- The rows of a row set as a table of their own.
--     place, rank              which row of the table a row of the part is, and the other way round
--     PickedAt, picked_at, RankAt, rank_at     their entries are the same
--     picked_most, picked_same a part is not longer, and columns of one length stay so
--     all, all_i, all_below    all rows of a table
--     alone_copies, copies_alone     so each row has its like
--     alone_sound              a part of a sound table is sound
-- Assumes nothing.
use Prim.Native.Nat.{ℕ, zero, suc, ◌≤◌, ◌<◌, zero-le}
use native.Mathlib.Nat.{not-suc-le-zero, le_of_suc-le-suc}
use native.Mathlib.Omega.{arith}
use mathlib.Core.Path.{◌≡◌, refl, sym, ◌∙◌, ap}
use mathlib.Core.Bool.{Bool, true, false}
use mathlib.Core.List.{List, [], ◌∷◌}
use lib.ListN.{length, get_or, replicate}
use Rattle.rings.specs.Words.{at, marked, cons_if}
use Rattle.rings.specs.Table.{Table, table_of, size, first_of, second_of}
use Rattle.rings.specs.Sound.{RowSound, Sound}
use Rattle.rings.proofs.WordLaws.{clash}
use Rattle.rings.proofs.TableLaws.{rising_all}
use Rattle.rings.proofs.PartLaws.{Copies}
use Rattle.groups.specs.Groups.{picked, alone}

-- row i of the part, as a row of the table
pub place : List Bool → ℕ → ℕ
place [] i = 0
place (true ∷ m) zero = 0
place (true ∷ m) (suc i) = suc (place m i)
place (false ∷ m) i = suc (place m i)

-- row j of the table, as a row of the part
pub rank : List Bool → ℕ → ℕ
rank [] j = 0
rank (true ∷ m) zero = 0
rank (true ∷ m) (suc j) = suc (rank m j)
rank (false ∷ m) zero = 0
rank (false ∷ m) (suc j) = rank m j

pub record PickedAt (m : List Bool) (xs : List ℕ) (i : ℕ) : Type 0 where
  pub below : place m i < length m
  pub has : marked m (place m i) ≡ true
  pub same : get_or (picked m xs) i 0 ≡ get_or xs (place m i) 0

pub picked_at : (m : List Bool) (xs : List ℕ) (i : ℕ) → length xs ≡ length m → i < length (picked m xs) → PickedAt
    m xs i
unfolding picked cons_if marked place
picked_at [] xs i e l = absurd (not-suc-le-zero l)
picked_at (b ∷ m) [] i e l = absurd (not-suc-le-zero l)
picked_at (true ∷ m) (x ∷ xs) zero e l = record { below = omega arith; has = refl; same = refl }
picked_at (true ∷ m) (x ∷ xs) (suc i) e l =
    let w = picked_at m xs i (omega arith) (le_of_suc-le-suc l) in
    record { below = (let b = w.below in omega arith); has = w.has; same = w.same }
picked_at (false ∷ m) (x ∷ xs) i e l =
    let w = picked_at m xs i (omega arith) l in
    record { below = (let b = w.below in omega arith); has = w.has; same = w.same }

pub record RankAt (m : List Bool) (xs : List ℕ) (j : ℕ) : Type 0 where
  pub below : rank m j < length (picked m xs)
  pub same : get_or (picked m xs) (rank m j) 0 ≡ get_or xs j 0

pub rank_at : (m : List Bool) (xs : List ℕ) (j : ℕ) → length xs ≡ length m → marked m j ≡ true → RankAt m xs j
unfolding picked cons_if marked rank
rank_at [] xs j e h = clash refl (sym h)
rank_at (b ∷ m) [] j e h = absurd (omega arith)
rank_at (true ∷ m) (x ∷ xs) zero e h = record { below = omega arith; same = refl }
rank_at (true ∷ m) (x ∷ xs) (suc j) e h =
    let w = rank_at m xs j (omega arith) h in record { below = (let b = w.below in omega arith); same = w.same }
rank_at (false ∷ m) (x ∷ xs) zero e h = clash refl (sym h)
rank_at (false ∷ m) (x ∷ xs) (suc j) e h =
    let w = rank_at m xs j (omega arith) h in record { below = w.below; same = w.same }

pub picked_most : (m : List Bool) (xs : List ℕ) → length (picked m xs) ≤ length xs
unfolding picked cons_if
picked_most [] xs = zero-le
picked_most (b ∷ m) [] = zero-le
picked_most (true ∷ m) (x ∷ xs) = let l = picked_most m xs in omega arith
picked_most (false ∷ m) (x ∷ xs) = let l = picked_most m xs in omega arith

place_rises : (m : List Bool) (xs : List ℕ) (i : ℕ) → suc i < length (picked m xs) → place m i < place m (suc i)
unfolding picked cons_if place
place_rises [] xs i l = absurd (not-suc-le-zero l)
place_rises (b ∷ m) [] i l = absurd (not-suc-le-zero l)
place_rises (true ∷ m) (x ∷ xs) zero l = omega arith
place_rises (true ∷ m) (x ∷ xs) (suc i) l = let w = place_rises m xs i (le_of_suc-le-suc l) in omega arith
place_rises (false ∷ m) (x ∷ xs) i l = let w = place_rises m xs i l in omega arith

-- columns of one length stay so
pub picked_same : (m : List Bool) (xs ys : List ℕ) → length xs ≡ length m → length ys ≡ length m
    → length (picked m xs) ≡ length (picked m ys)
unfolding picked cons_if
picked_same [] xs ys a b = refl
picked_same (c ∷ m) [] ys a b = absurd (omega arith)
picked_same (c ∷ m) (x ∷ xs) [] a b = absurd (omega arith)
picked_same (true ∷ m) (x ∷ xs) (y ∷ ys) a b = ap suc (picked_same m xs ys (omega arith) (omega arith))
picked_same (false ∷ m) (x ∷ xs) (y ∷ ys) a b = picked_same m xs ys (omega arith) (omega arith)

-- all rows of a table
abbrev pub all : Table → List Bool
all t = replicate (size t) true

pub all_below : (n j : ℕ) → marked (replicate n true) j ≡ true → j < n
unfolding marked
all_below zero j h = clash refl (sym h)
all_below (suc n) zero h = omega arith
all_below (suc n) (suc j) h = let l = all_below n j h in omega arith

pub all_i : (n j : ℕ) → j < n → marked (replicate n true) j ≡ true
unfolding marked
all_i zero j l = absurd (not-suc-le-zero l)
all_i (suc n) zero l = refl
all_i (suc n) (suc j) l = all_i n j (le_of_suc-le-suc l)

module _ {d f g : List ℕ} (S : Sound d f g) (m : List Bool) (e : length m ≡ length d) where
  abbrev t : Table
  t = table_of d f g

  abbrev p : Table
  p = alone t m

  long_f : length f ≡ length m
  long_f = S.firsts ∙ sym e

  long_g : length g ≡ length m
  long_g = S.seconds ∙ sym e

  f_at : (i : ℕ) → i < length (picked m d) → PickedAt m f i
  f_at i l = picked_at m f i long_f (let w = picked_same m f d long_f (sym e) in omega arith)

  g_at : (i : ℕ) → i < length (picked m d) → PickedAt m g i
  g_at i l = picked_at m g i long_g (let w = picked_same m g d long_g (sym e) in omega arith)

  pub d_at : (i : ℕ) → i < length (picked m d) → PickedAt m d i
  d_at i l = picked_at m d i (sym e) l

  pub alone_copies : Copies t m p (all p)
  unfolding first_of second_of at
  alone_copies =
      record {
        each = λ j l h. let w = rank_at m d j (sym e) h in
            record {
              it = rank m j;
              below = w.below;
              has = all_i (length (picked m d)) (rank m j) w.below;
              same_first = (rank_at m f j long_f h).same;
              same_second = (rank_at m g j long_g h).same;
            };
      }

  pub copies_alone : Copies p (all p) t m
  unfolding first_of second_of at
  copies_alone =
      record {
        each = λ i l h. let w = d_at i l in
            record {
              it = place m i;
              below = let b = w.below in omega arith;
              has = w.has;
              same_first = sym (f_at i l).same;
              same_second = sym (g_at i l).same;
            };
      }

  pub alone_sound : Sound (picked m d) (picked m f) (picked m g)
  alone_sound =
      record {
        firsts = picked_same m f d long_f (sym e);
        seconds = picked_same m g d long_g (sym e);
        most = let a = picked_most m d in let b = S.most in omega arith;
        rows = row;
        rising = record { next = rises };
      }
    where
      row : (i : ℕ) → i < length (picked m d) → RowSound (picked m d) (picked m f) (picked m g) i
      row i l =
          let a = d_at i l in
          let ea = a.same in
          let eb = (f_at i l).same in
          let ec = (g_at i l).same in
          let r = S.rows (place m i) (let b = a.below in omega arith) in
          let r₁ = r.day_from in
          let r₂ = r.day_to in
          let r₃ = r.accounts in
          let r₄ = r.account_to in
          record { day_from = omega arith; day_to = omega arith; accounts = omega arith; account_to = omega arith }

      rises : (i : ℕ) → suc i < length (picked m d) → get_or (picked m d) i 0 ≤ get_or (picked m d) (suc i) 0
      rises i l =
          let a = d_at i (omega arith) in
          let b = d_at (suc i) l in
          let ea = a.same in
          let eb = b.same in
          let o = place_rises m d i l in
          let c : get_or d (place m i) 0 ≤ get_or d (place m (suc i)) 0 =
          rising_all d S.rising (place m i) (place m (suc i)) (omega arith) (let x = b.below in omega arith) in
          omega arith
