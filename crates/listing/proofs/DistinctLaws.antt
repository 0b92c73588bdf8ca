-- Lists of different members, and distinct row sets.
--     Apart, total, Same       two members differ; a sum over a list; two lists of different members have the same members
--     same_length, same_total  such lists have one length and one sum
--     same_rows_e, same_rows_i same_rows says that two row sets are equal
--     distinct_mem, mem_distinct, distinct_apart    `distinct` holds the members of a list, each once
-- Assumes nothing.
use Prim.Native.Nat.{ℕ, ◌+◌, ◌≤◌, zero-le}
use native.Mathlib.Nat.{le_antisymm}
use native.Mathlib.Omega.{arith}
use mathlib.Core.Path.{◌≡◌, refl, sym, ◌∙◌, ap, subst}
use mathlib.Core.Logic.{⊎_elim}
use mathlib.Core.Bool.{Bool, true, false}
use mathlib.Core.List.Memᴰ.{head as here}
use mathlib.Core.List.Memᴰ.{tail as there}
use mathlib.Core.List.{List, [], ◌∷◌, Memᴰ as Mem}
use mathlib.Core.List.Memᴰ.{cases_cons}
use mathlib.Core.List.Memᴰ.{cast as mem-cast}
use mathlib.Core.List.Memᴰ.{not-nil}
use lib.ListN.{length}
use Rattle.rings.specs.Words.{no, cons_if, any, Pairwise}
use Rattle.rings.specs.Words.Pairwise.{none, more}
use Rattle.rings.proofs.WordLaws.{true_or_false, clash, and_i, and_l, and_r}
use Rattle.rings.proofs.ListLaws.{any_i, any_e}
use Rattle.listing.specs.Distinct.{same_mark, same_rows, distinct}

-- ---- lists of different members

abbrev pub Apart : {A : Type 0} → A → A → Type 0
Apart x y = x ≡ y → ⊥

abbrev pub total : {A : Type 0} → (A → ℕ) → List A → ℕ
total f [] = 0
total f (x ∷ xs) = f x + total f xs

module _ {A : Type 0} where
  -- a list with one place of x taken out
  record Without (x : A) (ys : List A) : Type 0 where
    rest : List A
    less : (f : A → ℕ) → total f ys ≡ f x + total f rest
    others : (z : A) → Mem z ys → Apart z x → Mem z rest

  without : (x : A) (ys : List A) → Mem x ys → Without x ys
  without x [] m = absurd (not-nil m)
  without x (y ∷ ys) m =
      ⊎_elim (λ e. record {
        rest = ys;
        less = λ f. ap (λ (z : A). f z + total f ys) (sym e);
        others = λ z n a. ⊎_elim (λ r. absurd (a (r ∙ sym e))) (λ r. r) (cases_cons n);
      })
      (λ h.
      let w = without x ys h in
      record {
        rest = y ∷ w.rest;
        less = λ f. let e : total f ys ≡ f x + total f w.rest = w.less f in omega arith;
        others = λ z n a. ⊎_elim (λ r. here r) (λ r. there (w.others z r a)) (cases_cons n);
      })
      (cases_cons m)

  -- different members sum up to no more than a list that has them all
  no_more : (f : A → ℕ) (xs ys : List A) → Pairwise Apart xs → ((x : A) → Mem x xs → Mem x ys) → total f xs ≤ total f ys
  no_more f [] ys p h = zero-le
  no_more f (x ∷ xs) ys (more g p) h =
      let w = without x ys (h x (here refl)) in
      let l : total f xs ≤ total f w.rest = no_more f xs w.rest p (λ z m. w.others z (h z (there m)) (λ e. g z m (sym e))) in
      let e : total f ys ≡ f x + total f w.rest = w.less f in omega arith

  -- two lists of different members with the same members
  pub record Same (xs ys : List A) : Type 0 where
    pub left_apart : Pairwise Apart xs
    pub right_apart : Pairwise Apart ys
    pub to : (x : A) → Mem x xs → Mem x ys
    pub back : (x : A) → Mem x ys → Mem x xs

  pub same_total : (f : A → ℕ) (xs ys : List A) → Same xs ys → total f xs ≡ total f ys
  same_total f xs ys s = le_antisymm (no_more f xs ys s.left_apart s.to) (no_more f ys xs s.right_apart s.back)

  length_total : (xs : List A) → length xs ≡ total (λ x. 1) xs
  length_total [] = refl
  length_total (x ∷ xs) = let e : length xs ≡ total (λ x. 1) xs = length_total xs in omega arith

  pub same_length : (xs ys : List A) → Same xs ys → length xs ≡ length ys
  same_length xs ys s = length_total xs ∙ (same_total (λ x. 1) xs ys s ∙ sym (length_total ys))

-- ---- distinct row sets

pub same_rows_e : (m m' : List Bool) → same_rows m m' ≡ true → m ≡ m'
unfolding same_rows same_mark no
same_rows_e [] [] h = refl
same_rows_e [] (b ∷ m') h = clash refl (sym h)
same_rows_e (a ∷ m) [] h = clash refl (sym h)
same_rows_e (a ∷ m) (b ∷ m') h =
    let e : m ≡ m' = same_rows_e m m' (and_r (same_mark a b) (same_rows m m') h) in
    let f : a ≡ b = marks_e a b (and_l (same_mark a b) (same_rows m m') h) in
    cc
  where
    marks_e : (x y : Bool) → same_mark x y ≡ true → x ≡ y
    marks_e true y k = sym k
    marks_e false true k = k
    marks_e false false k = refl

pub same_rows_i : (m : List Bool) → same_rows m m ≡ true
unfolding same_rows same_mark no
same_rows_i [] = refl
same_rows_i (true ∷ m) = and_i refl (same_rows_i m)
same_rows_i (false ∷ m) = and_i refl (same_rows_i m)

distinct_again : (m : List Bool) (ms : List (List Bool)) → any (same_rows m) ms ≡ true → distinct (m ∷ ms) ≡ distinct ms
unfolding distinct cons_if no
distinct_again m ms h = ap (λ (b : Bool). cons_if (no b) m (distinct ms)) h

distinct_new : (m : List Bool) (ms : List (List Bool)) → any (same_rows m) ms ≡ false → distinct (m ∷ ms) ≡ m ∷ distinct ms
unfolding distinct cons_if no
distinct_new m ms h = ap (λ (b : Bool). cons_if (no b) m (distinct ms)) h

distinct_nil : distinct [] ≡ []
unfolding distinct
distinct_nil = refl

pub distinct_mem : (ms : List (List Bool)) {z : List Bool} → Mem z (distinct ms) → Mem z ms
distinct_mem [] {z} h = subst (Mem z) distinct_nil h
distinct_mem (m ∷ ms) {z} h =
    ⊎_elim (λ a. there (distinct_mem ms (subst (Mem z) (distinct_again m ms a) h)))
    (λ a. ⊎_elim (λ e. here e) (λ r. there (distinct_mem ms r)) (cases_cons (subst (Mem z) (distinct_new m ms a) h))) (true_or_false (any (same_rows m) ms))

pub mem_distinct : (ms : List (List Bool)) {z : List Bool} → Mem z ms → Mem z (distinct ms)
mem_distinct [] h = absurd (not-nil h)
mem_distinct (m ∷ ms) {z} h =
    ⊎_elim (λ a. subst (Mem z) (sym (distinct_again m ms a)) (mem_distinct ms (later a)))
    (λ a. subst (Mem z) (sym (distinct_new m ms a)) (⊎_elim (λ e. here e) (λ r. there (mem_distinct ms r)) (cases_cons h)))
    (true_or_false (any (same_rows m) ms))
  where
    -- a row set that comes again stands at a later place too
    later : any (same_rows m) ms ≡ true → Mem z ms
    later a = let w = any_e (same_rows m) ms a in ⊎_elim (λ e. mem-cast (e ∙ same_rows_e m w.it w.has) w.member) (λ r. r) (cases_cons h)

pub distinct_apart : (ms : List (List Bool)) → Pairwise Apart (distinct ms)
distinct_apart [] = subst (Pairwise Apart) (sym distinct_nil) none
distinct_apart (m ∷ ms) =
    ⊎_elim (λ a. subst (Pairwise Apart) (sym (distinct_again m ms a)) (distinct_apart ms))
    (λ a. subst (Pairwise Apart) (sym (distinct_new m ms a))
    (more (λ y h e. clash (any_i (same_rows m) ms y (distinct_mem ms h) (subst (λ (z : List Bool). same_rows m z ≡ true) e (same_rows_i m))) a)
    (distinct_apart ms)))
    (true_or_false (any (same_rows m) ms))
