-- The leaders, row by row, and the loop that joins them (src/forest.rt).
--     leader_yes, leader_no    one row more, by whether it belongs to m
--     leader_none, leader_rest rows outside change nothing
--     joined_same              two accounts with one leader
--     rows_marked, rows_in, rows_out     a row set by its mark bytes
--     RowAt, row_accounts      the accounts of a row are below 4,096
--     join_start, join_skip, join_row, join_end     the loop: before row j a forest stands for leaders by rows below j
-- Assumes nothing.
use Prim.Native.Nat.{ℕ, zero, suc, ◌+◌, ◌≤◌, ◌<◌}
use native.Mathlib.Nat.{le_refl, eq-or-lt_of_le, le_of_suc-le-suc}
use native.Mathlib.Numerals.{add-one}
use native.Mathlib.Omega.{arith}
use mathlib.Core.Path.{◌≡◌, refl, sym, ◌∙◌, ap, subst}
use mathlib.Core.Logic.{⊎_elim}
use mathlib.Core.Bool.{Bool, true, false}
use mathlib.Core.List.{List}
use lib.ListN.{length, get_or, get_or-map}
use lib.Dec.{eqb}
use Rattle.rings.specs.Words.{no, at, marked}
use Rattle.rings.specs.Table.{Table, table_of, size, first_of, second_of}
use Rattle.rings.specs.Sound.{Sound}
use Rattle.rings.specs.Choice.{Picked}
use Rattle.rings.proofs.WordLaws.{true_or_false, same_or, no_i}
use Rattle.groups.specs.Groups.{joined, leader}
use Rattle.groups.specs.Inner.{Stands, Grown, Joins, Leaders, Lent, rows_of}
use Rattle.groups.specs.declared.rows.Rows.{Rows}
use Rattle.groups.proofs.ForestLaws.{choose_yes, choose_no, joined_left, joined_other, stands_same, planted}

-- ---- one row more

module _ (t : Table) (m : List Bool) where
  pub leader_yes : (n u : ℕ) → marked m n ≡ true
      → leader t m (suc n) u ≡ joined (leader t m n (first_of t n)) (leader t m n (second_of t n)) (leader t m n u)
  unfolding leader
  leader_yes n u h =
      choose_yes (joined (leader t m n (first_of t n)) (leader t m n (second_of t n)) (leader t m n u)) (leader t m n u) h

  pub leader_no : (n u : ℕ) → marked m n ≡ false → leader t m (suc n) u ≡ leader t m n u
  unfolding leader
  leader_no n u h =
      choose_no (joined (leader t m n (first_of t n)) (leader t m n (second_of t n)) (leader t m n u)) (leader t m n u) h

  -- rows that do not belong to m change nothing
  pub leader_none : (n u : ℕ) → ((j : ℕ) → j < n → marked m j ≡ false) → leader t m n u ≡ u
  unfolding leader
  leader_none zero u h = refl
  leader_none (suc n) u h = leader_no n u (h n (le_refl (suc n))) ∙ leader_none n u (λ j l. h j (omega (arith, l)))

  pub leader_rest : (i n u : ℕ) → i ≤ n → ((j : ℕ) → i ≤ j → marked m j ≡ false) → leader t m n u ≡ leader t m i u
  leader_rest i zero u l h = ap (λ (k : ℕ). leader t m k u) (omega arith)
  leader_rest i (suc n) u l h =
      ⊎_elim (λ (e : i ≡ suc n). ap (λ (k : ℕ). leader t m k u) (sym e))
      (λ k. leader_no n u (h n (le_of_suc-le-suc k)) ∙ leader_rest i n u (le_of_suc-le-suc k) h)
      (eq-or-lt_of_le l)

pub joined_same : (a b x : ℕ) → a ≡ b → joined a b x ≡ x
joined_same a b x e =
    ⊎_elim
    (λ (h : x ≡ a).
    subst (λ (z : ℕ). joined a b z ≡ z) (sym h) (joined_left a b ∙ (omega arith)))
    (λ n. joined_other a b x n (λ h. n (h ∙ sym e)))
    (same_or x a)

-- ---- a row set by its mark bytes

pub rows_marked : (bytes : List ℕ) (j : ℕ) → marked (rows_of bytes) j ≡ no (eqb (get_or bytes j 0) 0)
unfolding marked rows_of no
rows_marked bytes j = get_or-map (λ b. no (eqb b 0)) bytes j 0

pub rows_in : (bytes : List ℕ) (j : ℕ) → eqb (get_or bytes j 0) 0 ≡ false → marked (rows_of bytes) j ≡ true
rows_in bytes j h = rows_marked bytes j ∙ no_i h

pub rows_out : (bytes : List ℕ) (j : ℕ) → eqb (get_or bytes j 0) 0 ≡ true → marked (rows_of bytes) j ≡ false
unfolding no
rows_out bytes j h = rows_marked bytes j ∙ ap no h

-- ---- the loop that joins the accounts of each row

pub record RowAt (f g : List ℕ) (j : ℕ) : Type 0 where
  pub first_in : j < length f
  pub second_in : j < length g
  pub first : get_or f j 0 < 4096
  pub second : get_or g j 0 < 4096

pub row_accounts : {d f g : List ℕ} (j : ℕ) → Sound d f g → j < length d → RowAt f g j
row_accounts j S l =
    let a = S.firsts in
    let b = S.seconds in
    let r = S.rows j l in
    let x = r.accounts in
    let y = r.account_to in
    record { first_in = omega arith; second_in = omega arith; first = omega arith; second = omega arith }

-- the rows from lo to before j have joined their accounts
module _ {d f g bytes : List ℕ} {r : Rows} (L : Lent d f g bytes r) where
  abbrev t : Table
  t = table_of d f g

  abbrev m : List Bool
  m = rows_of bytes

  out_at : (j : ℕ) → ((r.lo ≤ j) × (j < r.end) → ⊥) → marked m j ≡ false
  out_at j n = ⊎_elim (λ h. absurd (n (L.among j h))) (λ h. h) (true_or_false (marked m j))

  abbrev Here : ℕ → List ℕ → Type 0
  Here j p = Grown p (leader t m j)

  pub join_start : {p : List ℕ} → Leaders p (λ u. u) → Here r.lo p
  join_start P =
      record {
        forest = (planted P).forest;
        stands = stands_same
            (λ u. sym (leader_none t m r.lo u (λ j l. out_at j (λ x. let a = x.0 in omega arith))))
            (planted P).stands;
      }

  pub row_at_lem : {j : ℕ} → j < r.end → RowAt f g j
  row_at_lem {j} l = row_accounts j L.sound (let e = L.last in omega arith)

  -- the next row changes no leader
  same_next : (j : ℕ) {p : List ℕ} → Here j p → ((u : ℕ) → leader t m (suc j) u ≡ leader t m j u) → Here (j + 1) p
  same_next j {p} J e =
      record {
        forest = J.forest;
        stands = rw add-one (stands_same (λ u. sym (e u)) J.stands);
      }

  -- it is not marked, or its accounts have one parent
  pub join_skip : {j a b va vb q : ℕ} {p : List ℕ} → Here j p → j < r.end → a ≡ get_or f j 0 → b ≡ get_or g j 0
      → va ≡ get_or p a 0 → vb ≡ get_or p b 0 → Picked (eqb (get_or bytes j 0) 0) va vb q → va ≡ q
      → Here (j + 1) p
  unfolding first_of second_of at
  join_skip {j} {a} {b} {va} {vb} {q} {p} J l ea eb eva evb P e =
      same_next j J (λ u. ⊎_elim
      (λ h. leader_no t m j u (rows_out bytes j h))
      (λ h. leader_yes t m j u (rows_in bytes j h) ∙ joined_same (leader t m j (first_of t j)) (leader t m j
      (second_of t j)) (leader t m j u) (one h))
      (true_or_false (eqb (get_or bytes j 0) 0)))
    where
      A : RowAt f g j
      A = row_at_lem l

      S : Stands p (leader t m j)
      S = J.stands

      one : eqb (get_or bytes j 0) 0 ≡ false → leader t m j (get_or f j 0) ≡ leader t m j (get_or g j 0)
      one h =
          let x : get_or p (get_or f j 0) 0 ≡ get_or p (get_or g j 0) 0 =
          ap (λ (z : ℕ). get_or p z 0) (sym ea) ∙ (sym eva ∙ (e ∙ (P.no h ∙ (evb ∙ ap (λ (z : ℕ). get_or p z 0) eb)))) in
          sym (S.same (get_or f j 0) A.first) ∙ (ap (leader t m j) x ∙ S.same (get_or g j 0) A.second)

  pub join_row : (j : ℕ) {a b va vb q : ℕ} {p p' : List ℕ} → Here j p → a ≡ get_or f j 0 → b ≡ get_or g j 0
      → Picked (eqb (get_or bytes j 0) 0) va vb q → (va ≡ q → ⊥) → Joins p p' a b
      → Here (j + 1) p'
  unfolding first_of second_of at
  join_row j {a} {b} {va} {vb} {q} {p} {p'} J ea eb P n K =
      record {
        forest = K.forest;
        stands = rw add-one (stands_same (λ u. sym (is u)) (K.stands (leader t m j) J.stands));
      }
    where
      yes : marked m j ≡ true
      yes = ⊎_elim (λ h. absurd (n (sym (P.yes h)))) (λ h. rows_in bytes j h) (true_or_false (eqb (get_or bytes j 0) 0))

      is : (u : ℕ) → leader t m (suc j) u ≡ joined (leader t m j a) (leader t m j b) (leader t m j u)
      is u =
          leader_yes t m j u yes
          ∙ (ap (λ (z : ℕ). joined (leader t m j z) (leader t m j (get_or g j 0)) (leader t m j u)) (sym ea)
          ∙ ap (λ (z : ℕ). joined (leader t m j a) (leader t m j z) (leader t m j u)) (sym eb))

  pub join_end : {j : ℕ} {p : List ℕ} → Here j p → r.end ≤ j → j ≤ r.end → Grown p (leader t m (size t))
  join_end {j} {p} J h k =
      record {
        forest = J.forest;
        stands = stands_same
            (λ u. sym (leader_rest t m j (size t) u (let b = L.last in omega arith)
            (λ i l. out_at i (λ x. let a = x.1 in omega arith))))
            J.stands;
      }
