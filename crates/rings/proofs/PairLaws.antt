-- Pairs of accounts, the earlier row of a pair, and counting neighbours by rows. Which rows count is in LeadLaws.
--     count_inject             where each number with p has a partner with r, no two the same, p's are at most as many
--     count_drop               one number fewer
--     other_first, other_second, other_apart                 the other account of a row
--     joins_i, joins_ends, joins_other, joins_same, joins_swap    who is joined by a row
--     joins_pair, pair_joins   rows of one pair join the same accounts
--     before_yes, before_no    the last row of a pair among the first n
--     Partner     a number with r for a number with p
-- Assumes nothing.
use Prim.Native.Nat.{ℕ, zero, suc, ◌≤◌, ◌<◌, zero-le}
use native.Mathlib.Nat.{le_refl, eq-or-lt_of_le, not-suc-le-zero}
use native.Mathlib.Omega.{arith}
use mathlib.Core.Path.{◌≡◌, refl, sym, ◌∙◌, ap, subst}
use mathlib.Core.Logic.{◌⊎◌, ⊎_elim}
use mathlib.Core.Bool.{Bool, true, false}
use lib.Dec.{eqb}
use borrow.Author.Tests.{eq-eqb, ne_eqb}
use Rattle.rings.specs.Words.{◌and◌, no, count}
use Rattle.rings.specs.Table.{Table, first_of, second_of}
use Rattle.rings.specs.Ring.{joins, touches}
use Rattle.rings.specs.Inner.Adjacency.{pick_other, other_of, pair_before}
use Rattle.rings.proofs.WordLaws.{true_or_false, clash, and_i, and_l, and_r, or_l, or_r, no_i, no_e, suc_if_yes}
use Rattle.rings.proofs.WordLaws.{suc_if_no, count_less, count_same}
use Rattle.rings.proofs.RingLaws.{joins_cases, touch_cases}

-- ---- counting by partners

pub record Partner (r : ℕ → Bool) (R : ℕ → ℕ → Type 0) (m i : ℕ) : Type 0 where
  pub it : ℕ
  pub below : it < m
  pub has : r it ≡ true
  pub to : R i it

pub count_inject : (p : ℕ → Bool) (n : ℕ) (r : ℕ → Bool) (m : ℕ) (R : ℕ → ℕ → Type 0)
    → ((i : ℕ) → i < n → p i ≡ true → Partner r R m i)
    → ((i i' j : ℕ) → R i j → R i' j → i ≡ i')
    → count p n ≤ count r m
unfolding count
count_inject p zero r m R f one = zero-le
count_inject p (suc n) r m R f one =
    ⊎_elim (λ a.
    let w = f n (le_refl (suc n)) a in
    let left : ℕ → Bool = λ j. r j and no (eqb j w.it) in
    let less : count left m < count r m =
    count_less left r m w.it (λ j l h. and_l (r j) (no (eqb j w.it)) h) w.below (off w.it) w.has in
    let most : count p n ≤ count left m = count_inject p n left m R
    (λ i l h. let v = f i (omega arith) h in
    record {
      it = v.it;
      below = v.below;
      has =
          and_i v.has
          (no_i (ne_eqb v.it w.it
          (λ e. let q : i ≡ n = one i n w.it (subst (R i) e v.to) w.to in omega arith)));
      to = v.to;
    })
    one in
    rw (suc_if_yes (count p n) a) (omega arith))
    (λ a. rw (suc_if_no (count p n) a) (count_inject p n r m R (λ i l h. f i (omega arith) h) one)) (true_or_false (p n))
  where
    off : (j : ℕ) → r j and no (eqb j j) ≡ false
    off j =
        ⊎_elim (λ h. clash (eq-eqb j j refl) (no_e (eqb j j) (and_r (r j) (no (eqb j j)) h))) (λ h. h)
        (true_or_false (r j and no (eqb j j)))

pub count_drop : (p p' : ℕ → Bool) (n j : ℕ) → j < n → p j ≡ true → p' j ≡ false
    → ((i : ℕ) → (i ≡ j → ⊥) → p' i ≡ p i) → count p n ≡ suc (count p' n)
unfolding count
count_drop p p' zero j l a b f = absurd (not-suc-le-zero l)
count_drop p p' (suc n) j l a b f =
    ⊎_elim (λ e.
    let s : count p n ≡ count p' n = count_same p p' n (λ i o. sym (f i (λ x. omega arith))) in
    suc_if_yes (count p n) (rw e at a) ∙ ap suc (s ∙ sym (suc_if_no (count p' n) (rw e at b))))
    (λ k.
    let s : count p n ≡ suc (count p' n) = count_drop p p' n j k a b f in
    let g : p' n ≡ p n = f n (λ x. omega arith) in
    ⊎_elim (λ y. suc_if_yes (count p n) y ∙ ap suc (s ∙ sym (suc_if_yes (count p' n) (g ∙ y))))
    (λ y. suc_if_no (count p n) y ∙ (s ∙ ap suc (sym (suc_if_no (count p' n) (g ∙ y))))) (true_or_false (p n)))
    (eq-or-lt_of_le (native.Mathlib.Nat.le_of_suc-le-suc l))

-- ---- the other account of a row

pub other_first : (t : Table) (j : ℕ) → other_of t j (first_of t j) ≡ second_of t j
unfolding other_of pick_other
other_first t j = ap (λ (b : Bool). pick_other b (first_of t j) (second_of t j)) (eq-eqb (first_of t j) (first_of t j) refl)

pub other_second : (t : Table) (j : ℕ) → first_of t j < second_of t j → other_of t j (second_of t j) ≡ first_of t j
unfolding other_of pick_other
other_second t j h =
    ap (λ (b : Bool). pick_other b (first_of t j) (second_of t j))
    (ne_eqb (first_of t j) (second_of t j) (λ e. omega arith))

pub joins_i : (t : Table) (j u v : ℕ)
    → ((first_of t j ≡ u) × (second_of t j ≡ v)) ⊎ ((first_of t j ≡ v) × (second_of t j ≡ u)) → joins t j u v ≡ true
unfolding joins
joins_i t j u v (◌⊎◌.inl e) =
    or_l (eqb (first_of t j) u and eqb (second_of t j) v) (eqb (first_of t j) v and eqb (second_of t j) u)
    (and_i (eq-eqb (first_of t j) u e.0) (eq-eqb (second_of t j) v e.1))
joins_i t j u v (◌⊎◌.inr e) =
    or_r (eqb (first_of t j) u and eqb (second_of t j) v) (eqb (first_of t j) v and eqb (second_of t j) u)
    (and_i (eq-eqb (first_of t j) v e.0) (eq-eqb (second_of t j) u e.1))

pub other_apart : (t : Table) (j u : ℕ) → first_of t j < second_of t j → touches t j u ≡ true → other_of t j u ≡ u → ⊥
other_apart t j u apart h e =
    ⊎_elim (λ o. let v : other_of t j u
    ≡ second_of t j = subst (λ (c : ℕ). other_of t j c ≡ second_of t j) o (other_first t j) in
    omega arith)
    (λ o. let v : other_of t j u
    ≡ first_of t j = subst (λ (c : ℕ). other_of t j c ≡ first_of t j) o (other_second t j apart) in
    omega arith)
    (touch_cases t j u h)

pub joins_swap : (t : Table) (j u v : ℕ) → joins t j u v ≡ true → joins t j v u ≡ true
joins_swap t j u v h = joins_i t j v u (⊎_elim ◌⊎◌.inr ◌⊎◌.inl (joins_cases t j u v h))

pub joins_ends : (t : Table) (j : ℕ) → joins t j (first_of t j) (second_of t j) ≡ true
joins_ends t j = joins_i t j (first_of t j) (second_of t j) (◌⊎◌.inl (refl, refl))

pub joins_same : (t : Table) (j u v v' : ℕ) → joins t j u v ≡ true → joins t j u v' ≡ true → v ≡ v'
joins_same t j u v v' h k =
    ⊎_elim (λ a. ⊎_elim (λ b. sym a.1 ∙ b.1) (λ b. sym a.1 ∙ (b.1 ∙ (sym a.0 ∙ b.0)))
    (joins_cases t j u v' k))
    (λ a. ⊎_elim (λ b. sym a.0 ∙ (b.0 ∙ (sym a.1 ∙ b.1))) (λ b. sym a.0 ∙ b.0) (joins_cases t j u v' k))
    (joins_cases t j u v h)

-- rows of one pair join the same accounts
pub joins_pair : (t : Table) (i j u v : ℕ) → joins t j u v ≡ true → joins t i (first_of t j) (second_of t j) ≡ true
    → joins t i u v ≡ true
joins_pair t i j u v h k =
    ⊎_elim (λ a. subst (λ (x : ℕ). joins t i u x ≡ true) a.1
    (subst (λ (x : ℕ). joins t i x (second_of t j) ≡ true) a.0 k))
    (λ a. joins_swap t i v u
    (subst (λ (x : ℕ). joins t i v x ≡ true) a.1
    (subst (λ (x : ℕ). joins t i x (second_of t j) ≡ true) a.0 k)))
    (joins_cases t j u v h)

pub pair_joins : (t : Table) (i j u v : ℕ) → joins t j u v ≡ true → joins t i u v ≡ true
    → joins t i (first_of t j) (second_of t j) ≡ true
pair_joins t i j u v h k =
    ⊎_elim (λ a. subst (λ (x : ℕ). joins t i (first_of t j) x ≡ true) (sym a.1)
    (subst (λ (x : ℕ). joins t i x v ≡ true) (sym a.0) k))
    (λ a. subst (λ (x : ℕ). joins t i (first_of t j) x ≡ true) (sym a.1)
    (subst (λ (x : ℕ). joins t i x u ≡ true) (sym a.0) (joins_swap t i u v k)))
    (joins_cases t j u v h)

-- a row with the account u joins it with the row's other account
pub joins_other : (t : Table) (j u : ℕ) → first_of t j < second_of t j → touches t j u ≡ true
    → joins t j u (other_of t j u) ≡ true
joins_other t j u l h =
    ⊎_elim (λ e. subst (λ (x : ℕ). joins t j x (other_of t j x) ≡ true) e
    (subst (λ (x : ℕ). joins t j (first_of t j) x ≡ true) (sym (other_first t j)) (joins_ends t j)))
    (λ e. subst (λ (x : ℕ). joins t j x (other_of t j x) ≡ true) e
    (subst (λ (x : ℕ). joins t j (second_of t j) x ≡ true) (sym (other_second t j l))
    (joins_swap t j (first_of t j) (second_of t j) (joins_ends t j))))
    (touch_cases t j u h)

-- ---- earlier rows of a pair

pub before_yes : (t : Table) (a b n : ℕ) → joins t n a b ≡ true → pair_before t a b (suc n) ≡ suc n
unfolding pair_before
before_yes t a b n h = ap (λ (x : Bool). elim x as (λ _. ℕ) [ true ↦ suc n | false ↦ pair_before t a b n ]) h

pub before_no : (t : Table) (a b n : ℕ) → joins t n a b ≡ false → pair_before t a b (suc n) ≡ pair_before t a b n
unfolding pair_before
before_no t a b n h = ap (λ (x : Bool). elim x as (λ _. ℕ) [ true ↦ suc n | false ↦ pair_before t a b n ]) h
