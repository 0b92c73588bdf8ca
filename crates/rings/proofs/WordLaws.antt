-- Laws of the words of specs/Words.antt. Everything above uses these and opens no word itself.
--     true_or_false, same_or, clash     a truth value is one or the other; equal or not; not both
--     and_i, and_l, and_r, or_l, or_r, or_e, no_i, not_no, no_e, same_truth     truth values
--     all_two, all_three, all_four     tests that code joins by &
--     some_i, some_e, some_none, Witness, every_i, every_e     a number that has p; each number has it
--     suc_if_yes, suc_if_no     the definition, by cases
--     count_le, count_mono, count_less, count_same, count_none, count_pos, count_some     how many numbers have p
--     length_tabulate, get_d_tabulate, marked_tabulate, marked_tabulate_e, marked_tabulate_i     a list made by
--     `tabulate`
--     marked_below, same_marks     row sets
-- Assumes nothing.
use Prim.Native.Nat.{ℕ, zero, suc, ◌+◌, ◌≤◌, ◌<◌, zero-le}
use native.Mathlib.Nat.{le_refl, not-suc-le-zero, le_of_suc-le-suc, eq-or-lt_of_le, add-zero, add-suc, suc-add}
use native.Mathlib.Nat.{zero-add}
use native.Mathlib.Omega.{arith}
use mathlib.Core.Path.{◌≡◌, refl, sym, ◌∙◌, ap, subst}
use mathlib.Core.Logic.{◌⊎◌, ⊎_elim}
use mathlib.Core.Bool.{Bool, true, false, true≢false, ◌&&◌}
use mathlib.Core.List.{List}
use lib.ListN.{length, get_or, get_or-eq_default}
use lib.Seq.{ext_get_or}
use borrow.Author.Tests.{leb-true, leb-false, eqb-true, eqb-false}
use lib.Dec.{leb, eqb}
use Rattle.rings.specs.Words.{◌and◌, ◌or◌, no, marked, some, every, suc_if, count, tabulate}

-- ---- truth values

pub true_or_false : (b : Bool) → (b ≡ true) ⊎ (b ≡ false)
true_or_false true = ◌⊎◌.inl refl
true_or_false false = ◌⊎◌.inr refl

pub same_or : (u v : ℕ) → (u ≡ v) ⊎ (u ≡ v → ⊥)
same_or u v = ⊎_elim (λ h. ◌⊎◌.inl (eqb-true u v h)) (λ h. ◌⊎◌.inr (eqb-false u v h)) (true_or_false (eqb u v))

pub clash : {C : Type 0} {b : Bool} → b ≡ true → b ≡ false → C
clash p q = absurd (true≢false (sym p ∙ q))

pub and_i : {a b : Bool} → a ≡ true → b ≡ true → a and b ≡ true
unfolding ◌and◌
and_i {a} {b} p q = rw (p, q)

pub and_l : (a b : Bool) → a and b ≡ true → a ≡ true
unfolding ◌and◌
and_l true b h = refl
and_l false b h = h

pub and_r : (a b : Bool) → a and b ≡ true → b ≡ true
unfolding ◌and◌
and_r true b h = h
and_r false b h = clash refl (sym h)

pub all_two : (a b : Bool) → (a && b) ≡ (a and b)
unfolding ◌and◌
all_two true b = refl
all_two false b = refl

pub all_three : (a b c : Bool) → ((a && b) && c) ≡ (a and b and c)
unfolding ◌and◌
all_three true b c = all_two b c
all_three false b c = refl

pub all_four : (a b c d : Bool) → (((a && b) && c) && d) ≡ (a and b and c and d)
unfolding ◌and◌
all_four true b c d = all_three b c d
all_four false b c d = refl

pub or_l : (a b : Bool) → a ≡ true → a or b ≡ true
unfolding ◌or◌
or_l a b h = rw h

pub or_r : (a b : Bool) → b ≡ true → a or b ≡ true
unfolding ◌or◌
or_r true b h = refl
or_r false b h = h

pub or_e : (a b : Bool) → a or b ≡ true → (a ≡ true) ⊎ (b ≡ true)
unfolding ◌or◌
or_e true b h = ◌⊎◌.inl refl
or_e false b h = ◌⊎◌.inr h

pub no_i : {b : Bool} → b ≡ false → no b ≡ true
unfolding no
no_i h = rw h

pub not_no : (b : Bool) → no b ≡ false → b ≡ true
unfolding no
not_no true h = refl
not_no false h = sym h

pub no_e : (b : Bool) → no b ≡ true → b ≡ false
unfolding no
no_e true h = sym h
no_e false h = refl

-- two truth values that hold together are one
pub same_truth : (a b : Bool) → (a ≡ true → b ≡ true) → (b ≡ true → a ≡ true) → a ≡ b
same_truth true b f g = sym (f refl)
same_truth false true f g = g refl
same_truth false false f g = refl

-- ---- some, every, count

pub some_i : (p : ℕ → Bool) (n j : ℕ) → j < n → p j ≡ true → some p n ≡ true
unfolding some
some_i p zero j h e = absurd (not-suc-le-zero h)
some_i p (suc n) j h e =
    ⊎_elim (λ q. or_l (p n) (some p n) (rw q at e)) (λ l. or_r (p n) (some p n) (some_i p n j l e))
    (eq-or-lt_of_le (le_of_suc-le-suc h))

pub record Witness (p : ℕ → Bool) (n : ℕ) : Type 0 where
  pub it : ℕ
  pub below : it < n
  pub has : p it ≡ true

pub some_e : (p : ℕ → Bool) (n : ℕ) → some p n ≡ true → Witness p n
unfolding some
some_e p zero h = clash refl (sym h)
some_e p (suc n) h =
    ⊎_elim (λ q. record { it = n; below = le_refl (suc n); has = q })
    (λ q. let w = some_e p n q in record { it = w.it; below = omega (arith, w.below); has = w.has })
    (or_e (p n) (some p n) h)

pub some_none : (p : ℕ → Bool) (n : ℕ) → some p n ≡ false → (j : ℕ) → j < n → p j ≡ false
some_none p n h j l = ⊎_elim (λ e. clash (some_i p n j l e) h) (λ e. e) (true_or_false (p j))

pub every_i : (p : ℕ → Bool) (n : ℕ) → ((j : ℕ) → j < n → p j ≡ true) → every p n ≡ true
unfolding every
every_i p zero h = refl
every_i p (suc n) h = and_i (h n (le_refl (suc n))) (every_i p n (λ j l. h j (omega (arith, l))))

pub every_e : (p : ℕ → Bool) (n : ℕ) → every p n ≡ true → (j : ℕ) → j < n → p j ≡ true
unfolding every
every_e p zero h j l = absurd (not-suc-le-zero l)
every_e p (suc n) h j l =
    ⊎_elim (λ q. rw q (and_l (p n) (every p n) h)) (λ q. every_e p n (and_r (p n) (every p n) h) j q)
    (eq-or-lt_of_le (le_of_suc-le-suc l))

pub suc_if_yes : {b : Bool} (n : ℕ) → b ≡ true → suc_if b n ≡ suc n
unfolding suc_if
suc_if_yes n h = rw h

pub suc_if_no : {b : Bool} (n : ℕ) → b ≡ false → suc_if b n ≡ n
unfolding suc_if
suc_if_no n h = rw h

suc_if_le : (a b : Bool) (m n : ℕ) → (a ≡ true → b ≡ true) → m ≤ n → suc_if a m ≤ suc_if b n
suc_if_le a b m n f h =
    ⊎_elim (λ p. rw (suc_if_yes m p, suc_if_yes n (f p)) (omega arith))
    (λ p. ⊎_elim (λ q. rw (suc_if_no m p, suc_if_yes n q) (omega arith)) (λ q. rw (suc_if_no m p, suc_if_no n q) h)
    (true_or_false b))
    (true_or_false a)

pub count_le : (p : ℕ → Bool) (n : ℕ) → count p n ≤ n
unfolding count
count_le p zero = le_refl 0
count_le p (suc n) =
    let h : count p n ≤ n = count_le p n in
    ⊎_elim (λ e. rw (suc_if_yes (count p n) e) (omega arith)) (λ e. rw (suc_if_no (count p n) e) (omega arith))
    (true_or_false (p n))

-- more pass a weaker test
pub count_mono : (p r : ℕ → Bool) (n : ℕ) → ((i : ℕ) → i < n → p i ≡ true → r i ≡ true) → count p n ≤ count r n
unfolding count
count_mono p r zero h = zero-le
count_mono p r (suc n) h =
    suc_if_le (p n) (r n) (count p n) (count r n) (h n (le_refl (suc n)))
    (count_mono p r n (λ i l. h i (omega (arith, l))))

-- and one more where one number passes the weaker test alone
pub count_less : (p r : ℕ → Bool) (n j : ℕ) → ((i : ℕ) → i < n → p i ≡ true → r i ≡ true) → j < n → p j ≡ false
    → r j ≡ true → count p n < count r n
unfolding count
count_less p r zero j h l f g = absurd (not-suc-le-zero l)
count_less p r (suc n) j h l f g =
    ⊎_elim (λ q. rw (suc_if_no (count p n) (rw q at f), suc_if_yes (count r n) (rw q at g))
    (let m : count p n ≤ count r n = count_mono p r n (λ i k. h i (omega (arith, k))) in omega arith))
    (λ k. let m : count p n < count r n = count_less p r n j (λ i o. h i (omega (arith, o))) k f g in suc_if_less m)
    (eq-or-lt_of_le (le_of_suc-le-suc l))
  where
    suc_if_less : count p n < count r n → suc_if (p n) (count p n) < suc_if (r n) (count r n)
    suc_if_less m =
        ⊎_elim (λ a. rw (suc_if_yes (count p n) a, suc_if_yes (count r n) (h n (le_refl (suc n)) a)) (omega arith))
        (λ a. ⊎_elim (λ b. rw (suc_if_no (count p n) a, suc_if_yes (count r n) b) (omega arith))
        (λ b. rw (suc_if_no (count p n) a, suc_if_no (count r n) b) m) (true_or_false (r n)))
        (true_or_false (p n))

pub count_same : (p r : ℕ → Bool) (n : ℕ) → ((i : ℕ) → i < n → p i ≡ r i) → count p n ≡ count r n
unfolding count
count_same p r zero h = refl
count_same p r (suc n) h = rw (h n (le_refl (suc n)), count_same p r n (λ i l. h i (omega (arith, l))))

pub count_none : (p : ℕ → Bool) (n : ℕ) → ((i : ℕ) → i < n → p i ≡ false) → count p n ≡ 0
unfolding count
count_none p zero h = refl
count_none p (suc n) h = suc_if_no (count p n) (h n (le_refl (suc n))) ∙ count_none p n (λ i l. h i (omega (arith, l)))

-- where some number passes, the count is not 0, and the other way round
pub count_pos : (p : ℕ → Bool) (n j : ℕ) → j < n → p j ≡ true → 0 < count p n
count_pos p n j l h =
    subst (λ (k : ℕ). k < count p n) (count_none (λ i. false) n (λ i o. refl))
    (count_less (λ i. false) p n j (λ i o e. clash refl (sym e)) l refl h)

pub count_some : (p : ℕ → Bool) (n : ℕ) → 0 < count p n → Witness p n
count_some p n h =
    ⊎_elim (λ e. some_e p n e)
    (λ e. let z : count p n ≡ 0 = count_none p n (some_none p n e) in absurd (omega arith))
    (true_or_false (some p n))

-- ---- lists by their entries

pub length_tabulate : {A : Type 0} (f : ℕ → A) (i n : ℕ) → length (tabulate f i n) ≡ n
unfolding tabulate
length_tabulate f i zero = refl
length_tabulate f i (suc n) = ap suc (length_tabulate f (suc i) n)

pub get_d_tabulate : {A : Type 0} (f : ℕ → A) (i n j : ℕ) (d : A) → j < n → get_or (tabulate f i n) j d ≡ f (i + j)
unfolding tabulate
get_d_tabulate f i zero j d h = absurd (not-suc-le-zero h)
get_d_tabulate f i (suc n) zero d h = rw add-zero
get_d_tabulate f i (suc n) (suc j) d h =
    get_d_tabulate f (suc i) n j d (le_of_suc-le-suc h) ∙ ap f (suc-add i j ∙ sym (add-suc i j))

pub marked_tabulate : (f : ℕ → Bool) (n j : ℕ) → j < n → marked (tabulate f 0 n) j ≡ f j
unfolding marked
marked_tabulate f n j h = get_d_tabulate f 0 n j false h ∙ ap f (zero-add j)

pub marked_below : (m : List Bool) (j : ℕ) → marked m j ≡ true → j < length m
unfolding marked
marked_below m j h =
    ⊎_elim (λ e. clash h (get_or-eq_default m false (leb-true (length m) j e))) (λ e. leb-false (length m) j e)
    (true_or_false (leb (length m) j))

-- a mark of a list made by `tabulate`
pub marked_tabulate_e : (f : ℕ → Bool) (n j : ℕ) → marked (tabulate f 0 n) j ≡ true → (j < n) × (f j ≡ true)
marked_tabulate_e f n j h =
    let l : j < n = subst (λ (k : ℕ). j < k) (length_tabulate f 0 n) (marked_below (tabulate f 0 n) j h) in
    (l, sym (marked_tabulate f n j l) ∙ h)

pub marked_tabulate_i : (f : ℕ → Bool) (n j : ℕ) → j < n → f j ≡ true → marked (tabulate f 0 n) j ≡ true
marked_tabulate_i f n j l h = marked_tabulate f n j l ∙ h

-- row sets with the same rows are one
pub same_marks : (m m' : List Bool)
    → length m ≡ length m'
    → ((j : ℕ) → marked m j ≡ true → marked m' j ≡ true)
    → ((j : ℕ) → marked m' j ≡ true → marked m j ≡ true)
    → m ≡ m'
unfolding marked
same_marks m m' e f g = ext_get_or false m m' e (λ i l. same_truth (get_or m i false) (get_or m' i false) (f i) (g i))
