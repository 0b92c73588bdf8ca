-- "At least k distinct other accounts": what `degree` counts in an accepted table.
--     DistinctOthers t m u     a neighbour of u is another account; `degree` is the number of the accounts that share
--                              a row of m with u, each counted once
--     distinct_others          so it is in every accepted table, for every row set and every account
--     accounts_rise            the first account of a row of an accepted table is below the second, and both are
--                              below 4,096
--     touch_named, neighbour_named     every account of a row has a number that `degree` looks at
--     count_list               how many numbers have p: the length of every list that holds these, each once
-- Assumes nothing.
use Prim.Native.Nat.{ℕ, zero, suc, ◌≤◌, ◌<◌, zero-le}
use native.Mathlib.Nat.{not-suc-le-zero, le_of_suc-le-suc, eq-or-lt_of_le}
use native.Mathlib.Omega.{arith}
use mathlib.Core.Path.{◌≡◌, refl, sym, ◌∙◌, ap, subst}
use mathlib.Core.Logic.{◌⊎◌, ⊎_elim}
use mathlib.Core.Bool.{Bool, true, false}
use mathlib.Core.List.Memᴰ.{head as here}
use mathlib.Core.List.Memᴰ.{tail as there}
use mathlib.Core.List.{List, [], ◌∷◌, Memᴰ as Mem}
use mathlib.Core.List.Memᴰ.{cases_cons}
use mathlib.Core.List.Memᴰ.{not-nil}
use lib.ListN.{length, get_or}
use lib.Dec.{eqb}
use borrow.Author.Tests.{eq-eqb, ne_eqb}
use Rattle.std.specs.Prelude.{Ok}
use Rattle.rings.specs.Words.{◌and◌, no, at, suc_if, count, tabulate, filter_by, Pairwise}
use Rattle.rings.specs.Words.Pairwise.{more}
use Rattle.rings.specs.Table.{Table, size, first_of, second_of}
use Rattle.rings.specs.Ring.{joins, neighbour, greatest, names, degree, touches, Shares, Others}
use Rattle.rings.specs.TableCheck.{table_check}
use Rattle.rings.proofs.WordLaws.{true_or_false, clash, and_i, and_l, and_r, no_i, no_e, same_truth, suc_if_yes}
use Rattle.rings.proofs.WordLaws.{suc_if_no, count_same, count_none}
use Rattle.rings.proofs.ListLaws.{mem_tabulate, mem_filter_by, filter_by_mem, pair_tabulate, pair_filter_by}
use Rattle.rings.proofs.RingLaws.{touch_cases, joins_cases, joins_touch, neighbour_i, neighbour_e}
use Rattle.rings.proofs.TableLaws.{table_sound}
use Rattle.rings.proofs.PairLaws.{joins_i}

pub record DistinctOthers (t : Table) (m : List Bool) (u : ℕ) : Type 0 where
  -- a neighbour of u is another account than u
  pub not_itself : (v : ℕ) → neighbour t m u v ≡ true → v ≡ u → ⊥
  -- a list that holds exactly the other accounts that share a row of m with u, each once
  pub list : List ℕ
  pub are_others : Others t m u list
  -- and the degree is the length of every such list
  pub counted_so : (ns : List ℕ) → Others t m u ns → degree t m u ≡ length ns

-- ---- counting by a list

-- one number less has p
count_without : (p r : ℕ → Bool) (n x : ℕ) → x < n → p x ≡ true → r x ≡ false
    → ((v : ℕ) → (v ≡ x → ⊥) → p v ≡ r v) → count p n ≡ suc (count r n)
unfolding count
count_without p r zero x l a b f = absurd (not-suc-le-zero l)
count_without p r (suc n) x l a b f =
    ⊎_elim (λ e.
    let yes : p n ≡ true = rw e at a in
    let none : r n ≡ false = rw e at b in
    suc_if_yes (count p n) yes
    ∙ (ap suc (count_same p r n (λ i k. f i (λ o. omega arith))) ∙ ap suc (sym (suc_if_no (count r n) none))))
    (λ k. let same : p n ≡ r n = f n (λ o. omega arith) in
    ap (suc_if (p n)) (count_without p r n x k a b f)
    ∙ (ap (λ (c : Bool). suc_if c (suc (count r n))) same ∙ past (r n)))
    (eq-or-lt_of_le (le_of_suc-le-suc l))
  where
    past : (c : Bool) → suc_if c (suc (count r n)) ≡ suc (suc_if c (count r n))
    past c =
        ⊎_elim (λ y. suc_if_yes (suc (count r n)) y ∙ ap suc (sym (suc_if_yes (count r n) y)))
        (λ y. suc_if_no (suc (count r n)) y ∙ ap suc (sym (suc_if_no (count r n) y))) (true_or_false c)

pub count_list : (p : ℕ → Bool) (n : ℕ) (xs : List ℕ) → Pairwise (λ v w. v ≡ w → ⊥) xs
    → ((v : ℕ) → Mem v xs → (v < n) × (p v ≡ true)) → ((v : ℕ) → v < n → p v ≡ true → Mem v xs) → count p n ≡ length xs
count_list p n [] a f g =
    count_none p n (λ i l. ⊎_elim (λ h. absurd (not-nil (g i l h))) (λ h. h) (true_or_false (p i)))
count_list p n (x ∷ xs) (more d a) f g =
    count_without p rest n x (f x (here refl)).0 (f x (here refl)).1 gone others
    ∙ ap suc (count_list rest n xs a to back)
  where
    rest : ℕ → Bool
    rest v = p v and no (eqb v x)

    gone : rest x ≡ false
    gone =
        ⊎_elim (λ h. clash (eq-eqb x x refl) (no_e (eqb x x) (and_r (p x) (no (eqb x x)) h))) (λ h. h)
        (true_or_false (rest x))

    others : (v : ℕ) → (v ≡ x → ⊥) → p v ≡ rest v
    others v o = same_truth (p v) (rest v) (λ h. and_i h (no_i (ne_eqb v x o))) (λ h. and_l (p v) (no (eqb v x)) h)

    to : (v : ℕ) → Mem v xs → (v < n) × (rest v ≡ true)
    to v m = ((f v (there m)).0, and_i (f v (there m)).1 (no_i (ne_eqb v x (λ e. d v m (sym e)))))

    back : (v : ℕ) → v < n → rest v ≡ true → Mem v xs
    back v l h =
        ⊎_elim (λ e. clash (eq-eqb v x e) (no_e (eqb v x) (and_r (p v) (no (eqb v x)) h))) (λ m. m)
        (cases_cons (g v l (and_l (p v) (no (eqb v x)) h)))

-- ---- the numbers that `degree` looks at

at_greatest : (xs : List ℕ) (j : ℕ) → get_or xs j 0 ≤ greatest xs
unfolding greatest
at_greatest [] j = zero-le
at_greatest (y ∷ xs) zero = omega arith
at_greatest (y ∷ xs) (suc j) = let l : get_or xs j 0 ≤ greatest xs = at_greatest xs j in omega arith

first_named : (t : Table) (j : ℕ) → first_of t j < names t
unfolding first_of names at
first_named t j = let l : get_or t.first j 0 ≤ greatest t.first = at_greatest t.first j in omega arith

second_named : (t : Table) (j : ℕ) → second_of t j < names t
unfolding second_of names at
second_named t j = let l : get_or t.second j 0 ≤ greatest t.second = at_greatest t.second j in omega arith

pub touch_named : (t : Table) (j u : ℕ) → touches t j u ≡ true → u < names t
touch_named t j u h =
    ⊎_elim (λ e. subst (λ (a : ℕ). a < names t) e (first_named t j))
    (λ e. subst (λ (a : ℕ). a < names t) e (second_named t j)) (touch_cases t j u h)

pub neighbour_named : (t : Table) (m : List Bool) (u v : ℕ) → neighbour t m u v ≡ true → v < names t
neighbour_named t m u v h =
    let x = neighbour_e t m u v h in touch_named t x.row v (joins_touch t x.row u v x.join).1

-- ---- an accepted table

module _ (t : Table) (accepted : table_check t ≡ Ok tt) where
  pub accounts_rise : (j : ℕ) → j < size t → (first_of t j < second_of t j) × (second_of t j < 4096)
  unfolding first_of second_of at
  accounts_rise j l =
      let r = (table_sound t.days t.first t.second accepted).rows j l in
      let b = r.account_to in (r.accounts, omega arith)

  module _ (m : List Bool) (u : ℕ) where
    not_itself : (v : ℕ) → neighbour t m u v ≡ true → v ≡ u → ⊥
    not_itself v h e =
        let x = neighbour_e t m u v h in
        let l = (accounts_rise x.row x.below).0 in
        ⊎_elim (λ a. let b = a.0 in let c = a.1 in omega arith)
        (λ a. let b = a.0 in let c = a.1 in omega arith) (joins_cases t x.row u v x.join)

    shares : (v : ℕ) → neighbour t m u v ≡ true → Shares t m u v
    shares v h =
        let x = neighbour_e t m u v h in
        let c = joins_cases t x.row u v x.join in
        record {
          other = not_itself v h;
          row = x.row;
          in_table = x.below;
          in_set = x.has;
          has_u = ⊎_elim (λ a. ◌⊎◌.inl a.0) (λ a. ◌⊎◌.inr a.1) c;
          has_v = ⊎_elim (λ a. ◌⊎◌.inr a.1) (λ a. ◌⊎◌.inl a.0) c;
        }

    -- a row that has u and another account is a payment between the two
    between : (v : ℕ) (w : Shares t m u v) → joins t w.row u v ≡ true
    between v w =
        joins_i t w.row u v
        (⊎_elim (λ a. ⊎_elim (λ b. absurd (w.other (sym b ∙ a))) (λ b. ◌⊎◌.inl (a, b)) w.has_v)
        (λ a. ⊎_elim (λ b. ◌⊎◌.inr (b, a)) (λ b. absurd (w.other (sym b ∙ a))) w.has_v) w.has_u)

    neighbour_of : (v : ℕ) → Shares t m u v → neighbour t m u v ≡ true
    neighbour_of v w = neighbour_i t m w.row u v w.in_table w.in_set (between v w)

    counted_so : (ns : List ℕ) → Others t m u ns → degree t m u ≡ length ns
    unfolding degree
    counted_so ns o =
        count_list (neighbour t m u) (names t) ns o.once
        (λ v h. let n = neighbour_of v (o.each v h) in (neighbour_named t m u v n, n))
        (λ v l h. o.whole v (shares v h))

    abbrev found : List ℕ
    found = filter_by (neighbour t m u) (tabulate (λ v. v) 0 (names t))

    are_others : Others t m u found
    are_others =
        record {
          each = λ v h. shares v (filter_by_mem (neighbour t m u) (tabulate (λ v. v) 0 (names t)) h).1;
          whole = λ v w.
              let n = neighbour_of v w in
              let l = neighbour_named t m u v n in
              mem_filter_by (neighbour t m u) (tabulate (λ v. v) 0 (names t))
              (mem_tabulate (λ v. v) 0 (names t) v (omega arith) (omega arith)) n;
          once = pair_filter_by (λ v w. v ≡ w → ⊥) (neighbour t m u) (tabulate (λ v. v) 0 (names t))
              (pair_tabulate (λ v w. v ≡ w → ⊥) (λ v. v) 0 (names t) (λ a b l k o e. omega arith));
        }

    pub distinct_others : DistinctOthers t m u
    distinct_others = record { not_itself = not_itself; list = found; are_others = are_others; counted_so = counted_so }
