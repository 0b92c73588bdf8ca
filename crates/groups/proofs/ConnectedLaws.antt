-- Accounts connected through rows: the relation, and that the computed leader is the smallest account in it.
--     Proper                   the rows of m lie in the table, each between two accounts
--     connected_trans, connected_symm     the relation is an equivalence
--     row_linked               the accounts of a row of m are connected
--     leader_connected         a leader is connected with its account
--     leader_below             and not above it
--     leader_same              connected accounts have one leader
--     leader_least             no connected account is below it
--     row_leader               a row's leader is that of each of its accounts
--     label_is, label_only     the leader of a row's account is the row's label, the only one
--     group_e, group_i         a row is in the group of an account exactly if it belongs to m and reaches the account
-- Assumes nothing.
use Prim.Native.Nat.{ℕ, zero, suc, min, ◌≤◌, ◌<◌}
use native.Mathlib.Nat.{le_refl, not-suc-le-zero, eq-or-lt_of_le, le_of_suc-le-suc, le_antisymm}
use native.Mathlib.Omega.{arith}
use mathlib.Core.Path.{◌≡◌, refl, sym, ◌∙◌, ap, subst}
use mathlib.Core.Logic.{◌⊎◌, ⊎_elim}
use mathlib.Core.Bool.{Bool, true}
use mathlib.Core.List.{List}
use lib.Dec.{eqb}
use borrow.Author.Tests.{eqb-true, eq-eqb}
use Rattle.rings.specs.Words.{◌and◌, marked}
use Rattle.rings.specs.Table.{Table, size, first_of, second_of}
use Rattle.rings.specs.Ring.{touches, Shares}
use Rattle.rings.proofs.WordLaws.{true_or_false, same_or, and_i, and_l, and_r, marked_tabulate_e, marked_tabulate_i}
use Rattle.rings.proofs.RingLaws.{touch_cases, touch_first}
use Rattle.groups.specs.Groups.{Connected, Reaches, IsLabel, joined, leader, group}
use Rattle.groups.specs.Groups.Connected.{itself, through}
use Rattle.groups.proofs.ForestLaws.{joined_left, joined_right, joined_other}
use Rattle.groups.proofs.LeaderLaws.{leader_yes, leader_no}

-- the rows of m lie in the table, each between two accounts
pub record Proper (t : Table) (m : List Bool) : Type 0 where
  pub in_table : (j : ℕ) → marked m j ≡ true → j < size t
  pub apart : (j : ℕ) → marked m j ≡ true → first_of t j < second_of t j

-- ---- the relation

module _ (t : Table) (m : List Bool) where
  pub connected_trans : {u v w : ℕ} → Connected t m u v → Connected t m v w → Connected t m u w
  connected_trans C itself = C
  connected_trans C (through D S) = through (connected_trans C D) S

  shares_symm : {u v : ℕ} → Shares t m u v → Shares t m v u
  shares_symm S =
      record {
        other = λ e. S.other (sym e);
        row = S.row;
        in_table = S.in_table;
        in_set = S.in_set;
        has_u = S.has_v;
        has_v = S.has_u;
      }

  pub connected_symm : {u v : ℕ} → Connected t m u v → Connected t m v u
  connected_symm itself = itself
  connected_symm (through C S) = connected_trans (through itself (shares_symm S)) (connected_symm C)

  module _ (P : Proper t m) where
    first_second : (j : ℕ) → marked m j ≡ true → Connected t m (first_of t j) (second_of t j)
    first_second j h =
        through itself
        (record {
          other = λ (e : second_of t j ≡ first_of t j). (let l = P.apart j h in omega arith);
          row = j;
          in_table = P.in_table j h;
          in_set = h;
          has_u = ◌⊎◌.inl refl;
          has_v = ◌⊎◌.inr refl;
        })

    -- from the first account of a row to each of its accounts
    from_first : (j u : ℕ) → marked m j ≡ true → touches t j u ≡ true → Connected t m (first_of t j) u
    from_first j u h k =
        ⊎_elim (λ e. subst (λ (x : ℕ). Connected t m (first_of t j) x) e itself)
        (λ e. subst (λ (x : ℕ). Connected t m (first_of t j) x) e (first_second j h))
        (touch_cases t j u k)

    pub row_linked : (j u v : ℕ) → marked m j ≡ true → touches t j u ≡ true → touches t j v ≡ true → Connected t m u v
    row_linked j u v h a b = connected_trans (connected_symm (from_first j u h a)) (from_first j v h b)

    -- ---- a leader is connected with its account

    -- one row more: `before` is what holds of the rows before it
    next_connected : (n u : ℕ) (before : (w : ℕ) → Connected t m (leader t m n w) w) → Connected t m (leader t m
        (suc n) u) u
    next_connected n u before =
        ⊎_elim
        (λ h. subst (λ (x : ℕ). Connected t m x u) (sym (leader_yes t m n u h)) (one h))
        (λ h. subst (λ (x : ℕ). Connected t m x u) (sym (leader_no t m n u h)) (before u))
        (true_or_false (marked m n))
      where
        a : ℕ
        a = leader t m n (first_of t n)

        b : ℕ
        b = leader t m n (second_of t n)

        x : ℕ
        x = leader t m n u

        two : marked m n ≡ true → Connected t m a b
        two h =
            connected_trans (before (first_of t n))
            (connected_trans (first_second n h) (connected_symm (before (second_of t n))))

        -- the smaller of the two is connected with each
        least_a : marked m n ≡ true → Connected t m (min a b) a
        least_a h =
            ⊎_elim (λ (e : min a b ≡ a). subst (λ (y : ℕ). Connected t m y a) (sym e) itself)
            (λ k. let e : min a b ≡ b = omega (arith, k) in
            subst (λ (y : ℕ). Connected t m y a) (sym e) (connected_symm (two h)))
            (same_or (min a b) a)

        one : marked m n ≡ true → Connected t m (joined a b x) u
        one h =
            ⊎_elim
            (λ (e : x ≡ a). subst (λ (y : ℕ). Connected t m y u) (sym (ap (joined a b) e ∙ joined_left a b))
            (connected_trans (least_a h) (subst (λ (y : ℕ). Connected t m y u) e (before u))))
            (λ k. ⊎_elim
            (λ (e : x ≡ b). subst (λ (y : ℕ). Connected t m y u) (sym (ap (joined a b) e ∙ joined_right a b))
            (connected_trans (connected_trans (least_a h) (two h))
            (subst (λ (y : ℕ). Connected t m y u) e (before u))))
            (λ l. subst (λ (y : ℕ). Connected t m y u) (sym (joined_other a b x k l)) (before u))
            (same_or x b))
            (same_or x a)

    pub leader_connected : (n u : ℕ) → Connected t m (leader t m n u) u
    unfolding leader
    leader_connected zero u = itself
    leader_connected (suc n) u = next_connected n u (λ w. leader_connected n w)

  -- ---- and not above it

  joined_below : (a b x : ℕ) → joined a b x ≤ x
  joined_below a b x =
      ⊎_elim (λ (e : x ≡ a). let w : joined a b x ≡ min a b = ap (joined a b) e ∙ joined_left a b in omega arith)
      (λ k. ⊎_elim (λ (e : x ≡ b). let w : joined a b x ≡ min a b = ap (joined a b) e ∙ joined_right a b in omega arith)
      (λ l. let w = joined_other a b x k l in omega arith) (same_or x b))
      (same_or x a)

  pub leader_below : (n u : ℕ) → leader t m n u ≤ u
  unfolding leader
  leader_below zero u = le_refl u
  leader_below (suc n) u =
      ⊎_elim
      (λ h.
      let e = leader_yes t m n u h in
      let l = joined_below (leader t m n (first_of t n)) (leader t m n (second_of t n)) (leader t m n u) in
      let k = leader_below n u in
      omega arith)
      (λ h. let e = leader_no t m n u h in let k = leader_below n u in omega arith)
      (true_or_false (marked m n))

  -- ---- connected accounts have one leader

  -- after its row the accounts of a row have the smaller of their leaders
  after_row : (n u : ℕ) → marked m n ≡ true → (first_of t n ≡ u) ⊎ (second_of t n ≡ u)
      → leader t m (suc n) u ≡ min (leader t m n (first_of t n)) (leader t m n (second_of t n))
  after_row n u h (◌⊎◌.inl e) =
      leader_yes t m n u h
      ∙ (ap (λ (x : ℕ). joined (leader t m n (first_of t n)) (leader t m n (second_of t n)) (leader t m n x)) (sym e)
      ∙ joined_left (leader t m n (first_of t n)) (leader t m n (second_of t n)))
  after_row n u h (◌⊎◌.inr e) =
      leader_yes t m n u h
      ∙ (ap (λ (x : ℕ). joined (leader t m n (first_of t n)) (leader t m n (second_of t n)) (leader t m n x)) (sym e)
      ∙ joined_right (leader t m n (first_of t n)) (leader t m n (second_of t n)))

  shares_same : {u v : ℕ} (S : Shares t m u v) (n : ℕ) → S.row < n → leader t m n u ≡ leader t m n v
  shares_same S zero l = absurd (not-suc-le-zero l)
  shares_same {u} {v} S (suc n) l =
      ⊎_elim
      (λ (e : S.row ≡ n).
      let h = subst (λ (k : ℕ). marked m k ≡ true) e S.in_set in
      let a = subst (λ (k : ℕ). (first_of t k ≡ u) ⊎ (second_of t k ≡ u)) e S.has_u in
      let b = subst (λ (k : ℕ). (first_of t k ≡ v) ⊎ (second_of t k ≡ v)) e S.has_v in
      after_row n u h a ∙ sym (after_row n v h b))
      (λ k. later (shares_same S n k))
      (eq-or-lt_of_le (le_of_suc-le-suc l))
    where
      later : leader t m n u ≡ leader t m n v → leader t m (suc n) u ≡ leader t m (suc n) v
      later e =
          ⊎_elim
          (λ h. leader_yes t m n u h
          ∙ (ap (joined (leader t m n (first_of t n)) (leader t m n (second_of t n))) e ∙ sym (leader_yes t m n v h)))
          (λ h. leader_no t m n u h ∙ (e ∙ sym (leader_no t m n v h)))
          (true_or_false (marked m n))

  pub leader_same : {u v : ℕ} → Connected t m u v → leader t m (size t) u ≡ leader t m (size t) v
  leader_same itself = refl
  leader_same (through C S) = leader_same C ∙ shares_same S (size t) S.in_table

  pub leader_least : {u v : ℕ} → Connected t m u v → leader t m (size t) u ≤ v
  leader_least {u} {v} C = let e = leader_same C in let l = leader_below (size t) v in omega arith

  -- ---- labels and groups

  module _ (P : Proper t m) where
    pub row_leader : (j u : ℕ) → marked m j ≡ true → touches t j u ≡ true
        → leader t m (size t) (first_of t j) ≡ leader t m (size t) u
    row_leader j u h k = leader_same (row_linked P j (first_of t j) u h (touch_first t j) k)

    pub label_is : (j : ℕ) → marked m j ≡ true → IsLabel t m j (leader t m (size t) (first_of t j))
    label_is j h =
        record {
          reached = record {
            account = first_of t j;
            has = touch_first t j;
            connected = connected_symm (leader_connected P (size t) (first_of t j));
          };
          smallest = λ v R.
              let e = row_leader j R.account h R.has in
              let l = leader_least R.connected in
              omega arith;
        }

    pub group_e : (a j : ℕ) → marked (group t m a) j ≡ true → (marked m j ≡ true) × Reaches t m j a
    unfolding group
    group_e a j h =
        let x =
        (marked_tabulate_e (λ i. marked m i and eqb (leader t m (size t) (first_of t i)) (leader t m (size t) a)) (size
        t) j h).1 in
        let b = eqb (leader t m (size t) (first_of t j)) (leader t m (size t) a) in
        let e = eqb-true (leader t m (size t) (first_of t j)) (leader t m (size t) a) (and_r (marked m j) b x) in (
          and_l (marked m j) b x,
          record {
            account = first_of t j;
            has = touch_first t j;
            connected = connected_trans (connected_symm (leader_connected P (size t) (first_of t j)))
                (subst (λ (y : ℕ). Connected t m y a) (sym e) (leader_connected P (size t) a));
          },
        )

    pub group_i : (a j : ℕ) → marked m j ≡ true → Reaches t m j a → marked (group t m a) j ≡ true
    unfolding group
    group_i a j h R =
        marked_tabulate_i (λ i. marked m i and eqb (leader t m (size t) (first_of t i)) (leader t m (size t) a))
        (size t) j
        (P.in_table j h)
        (and_i h (eq-eqb (leader t m (size t) (first_of t j)) (leader t m (size t) a)
        (row_leader j R.account h R.has ∙ leader_same R.connected)))

pub label_only : (t : Table) (m : List Bool) (j l l' : ℕ) → IsLabel t m j l → IsLabel t m j l' → l ≡ l'
label_only t m j l l' A B = le_antisymm (A.smallest l' B.reached) (B.smallest l A.reached)
