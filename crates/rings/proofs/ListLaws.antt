-- Members and order of the lists that `tabulate`, `flatten`, `filter_by` and `map` make.
--     mem_tabulate, tabulate_mem, mem_flatten, flatten_mem, mem_filter_by, filter_by_mem, mem_map, map_mem     who is a
--     member
--     any_i, any_e              a test on the members
--     pair_tabulate, pair_flatten, pair_filter_by, pair_map, pair_weaken     each entry stands in R to every later one
--     pair_unique                   two lists in the same strict order with the same members are one
--     FromTabulate, FromFlatten, FromMap, One     where a member comes from
--     cons_if_yes, filter_by_yes, filter_by_no     the definitions, by cases
-- Assumes nothing.
use Prim.Native.Nat.{ℕ, zero, suc, ◌+◌, ◌≤◌, ◌<◌}
use native.Mathlib.Nat.{le_refl, eq-or-lt_of_le}
use native.Mathlib.Omega.{arith}
use mathlib.Core.Path.{◌≡◌, refl, sym, ◌∙◌, ap, subst}
use mathlib.Core.Logic.{◌⊎◌, ⊎_elim}
use mathlib.Core.Bool.{Bool, true, false}
use mathlib.Core.List.Memᴰ.{head as here}
use mathlib.Core.List.Memᴰ.{tail as there}
use mathlib.Core.List.{List, [], ◌∷◌, ◌++◌, map, Memᴰ as Mem}
use mathlib.Core.List.Memᴰ.{cases_cons}
use mathlib.Core.List.Memᴰ.{not-nil}
use mathlib.Core.List.Memᴰ.{append_cases}
use mathlib.Core.List.Memᴰ.{append_left}
use mathlib.Core.List.Memᴰ.{append_right}
use mathlib.Core.List.{flatten}
use Rattle.rings.specs.Words.{tabulate, cons_if, filter_by, any, Pairwise}
use Rattle.rings.specs.Words.Pairwise.{none, more}
use Rattle.rings.proofs.WordLaws.{true_or_false, clash, or_l, or_r, or_e}

module _ {A : Type 0} where
  -- ---- members

  pub mem_tabulate : (f : ℕ → A) (i n j : ℕ) → i ≤ j → j < i + n → Mem (f j) (tabulate f i n)
  unfolding tabulate
  mem_tabulate f i zero j h l = absurd (omega arith)
  mem_tabulate f i (suc n) j h l =
      ⊎_elim (λ e. here (ap f (sym e))) (λ k. there (mem_tabulate f (suc i) n j k (omega arith))) (eq-or-lt_of_le h)

  pub record FromTabulate (f : ℕ → A) (i n : ℕ) (x : A) : Type 0 where
    pub it : ℕ
    pub from : i ≤ it
    pub below : it < i + n
    pub is : x ≡ f it

  pub tabulate_mem : (f : ℕ → A) (i n : ℕ) {x : A} → Mem x (tabulate f i n) → FromTabulate f i n x
  unfolding tabulate
  tabulate_mem f i zero m = absurd (not-nil m)
  tabulate_mem f i (suc n) m =
      ⊎_elim (λ e. record { it = i; from = le_refl i; below = omega arith; is = e })
      (λ r.
      let w = tabulate_mem f (suc i) n r in
      let a = w.from in
      let b = w.below in
      record { it = w.it; from = omega arith; below = omega arith; is = w.is })
      (cases_cons m)

  pub mem_flatten : {xs : List A} {xss : List (List A)} {x : A} → Mem xs xss → Mem x xs → Mem x (flatten xss)
  unfolding flatten
  mem_flatten {xss = []} h m = absurd (not-nil h)
  mem_flatten {xss = ys ∷ yss} {x = x} h m =
      ⊎_elim (λ e. append_left (flatten yss) (subst (Mem x) e m)) (λ r. append_right ys (mem_flatten {xss = yss} r m))
      (cases_cons h)

  pub record FromFlatten (xss : List (List A)) (x : A) : Type 0 where
    pub part : List A
    pub is_part : Mem part xss
    pub has : Mem x part

  pub flatten_mem : (xss : List (List A)) {x : A} → Mem x (flatten xss) → FromFlatten xss x
  unfolding flatten
  flatten_mem [] m = absurd (not-nil m)
  flatten_mem (ys ∷ yss) m =
      ⊎_elim (λ a. record { part = ys; is_part = here refl; has = a })
      (λ b. let w = flatten_mem yss b in record { part = w.part; is_part = there w.is_part; has = w.has })
      (append_cases ys m)

  pub cons_if_yes : {b : Bool} (x : A) (xs : List A) → b ≡ true → cons_if b x xs ≡ x ∷ xs
  unfolding cons_if
  cons_if_yes x xs h = rw h

  cons_if_no : {b : Bool} (x : A) (xs : List A) → b ≡ false → cons_if b x xs ≡ xs
  unfolding cons_if
  cons_if_no x xs h = rw h

  filter_by_nil : (p : A → Bool) → filter_by p [] ≡ []
  unfolding filter_by
  filter_by_nil p = refl

  pub filter_by_yes : (p : A → Bool) (x : A) (xs : List A) → p x ≡ true → filter_by p (x ∷ xs) ≡ x ∷ filter_by p xs
  unfolding filter_by
  filter_by_yes p x xs h = cons_if_yes x (filter_by p xs) h

  pub filter_by_no : (p : A → Bool) (x : A) (xs : List A) → p x ≡ false → filter_by p (x ∷ xs) ≡ filter_by p xs
  unfolding filter_by
  filter_by_no p x xs h = cons_if_no x (filter_by p xs) h

  pub mem_filter_by : (p : A → Bool) (xs : List A) {x : A} → Mem x xs → p x ≡ true → Mem x (filter_by p xs)
  mem_filter_by p [] m h = absurd (not-nil m)
  mem_filter_by p (y ∷ ys) {x} m h =
      ⊎_elim (λ e. subst (Mem x) (sym (filter_by_yes p y ys (subst (λ (z : A). p z ≡ true) e h))) (here e))
      (λ r. ⊎_elim (λ a. subst (Mem x) (sym (filter_by_yes p y ys a)) (there (mem_filter_by p ys r h)))
      (λ a. subst (Mem x) (sym (filter_by_no p y ys a)) (mem_filter_by p ys r h)) (true_or_false (p y)))
      (cases_cons m)

  pub filter_by_mem : (p : A → Bool) (xs : List A) {x : A} → Mem x (filter_by p xs) → Mem x xs × (p x ≡ true)
  unfolding filter_by
  filter_by_mem p [] m = absurd (not-nil m)
  filter_by_mem p (y ∷ ys) {x} m =
      ⊎_elim (λ a. ⊎_elim (λ e. (here e, subst (λ (z : A). p z ≡ true) (sym e) a))
      (λ r. let w = filter_by_mem p ys r in (there w.0, w.1))
      (cases_cons (subst (Mem x) (cons_if_yes y (filter_by p ys) a) m)))
      (λ a. let w = filter_by_mem p ys (subst (Mem x) (cons_if_no y (filter_by p ys) a) m) in (there w.0, w.1))
      (true_or_false (p y))

  pub any_i : (p : A → Bool) (xs : List A) (x : A) → Mem x xs → p x ≡ true → any p xs ≡ true
  unfolding any
  any_i p [] x m h = absurd (not-nil m)
  any_i p (y ∷ ys) x m h =
      ⊎_elim (λ e. or_l (p y) (any p ys) (subst (λ (z : A). p z ≡ true) e h))
      (λ r. or_r (p y) (any p ys) (any_i p ys x r h)) (cases_cons m)

  pub record One (p : A → Bool) (xs : List A) : Type 0 where
    pub it : A
    pub member : Mem it xs
    pub has : p it ≡ true

  pub any_e : (p : A → Bool) (xs : List A) → any p xs ≡ true → One p xs
  unfolding any
  any_e p [] h = clash refl (sym h)
  any_e p (y ∷ ys) h =
      ⊎_elim (λ a. record { it = y; member = here refl; has = a })
      (λ a. let w = any_e p ys a in record { it = w.it; member = there w.member; has = w.has })
      (or_e (p y) (any p ys) h)

  -- ---- order

  module _ (R : A → A → Type 0) where
    pub pair_tabulate : (f : ℕ → A) (i n : ℕ) → ((a b : ℕ) → i ≤ a → a < b → b < i + n → R (f a) (f b))
        → Pairwise R (tabulate f i n)
    unfolding tabulate
    pair_tabulate f i zero h = none
    pair_tabulate f i (suc n) h =
        more (λ y m.
        let w = tabulate_mem f (suc i) n m in
        let a = w.from in
        let b = w.below in
        subst (R (f i)) (sym w.is) (h i w.it (le_refl i) a (omega arith)))
        (pair_tabulate f (suc i) n (λ a b l k o. h a b (omega arith) k (omega arith)))

    pair_append : (xs ys : List A) → Pairwise R xs → Pairwise R ys → ((x y : A) → Mem x xs → Mem y ys → R x y)
        → Pairwise R (xs ++ ys)
    pair_append [] ys p q h = q
    pair_append (x ∷ xs) ys (more f p) q h =
        more (λ y m. ⊎_elim (f y) (λ b. h x y (here refl) b) (append_cases xs m))
        (pair_append xs ys p q (λ a b m n. h a b (there m) n))

    pub pair_flatten : (xss : List (List A))
        → ((xs : List A) → Mem xs xss → Pairwise R xs)
        → Pairwise (λ xs ys. (x y : A) → Mem x xs → Mem y ys → R x y) xss
        → Pairwise R (flatten xss)
    unfolding flatten
    pair_flatten [] h p = none
    pair_flatten (xs ∷ xss) h (more f p) =
        pair_append xs (flatten xss) (h xs (here refl)) (pair_flatten xss (λ ys m. h ys (there m)) p)
        (λ x y m n. let w = flatten_mem xss n in f w.part w.is_part x y m w.has)

    pub pair_filter_by : (p : A → Bool) (xs : List A) → Pairwise R xs → Pairwise R (filter_by p xs)
    pair_filter_by p [] q = subst (Pairwise R) (sym (filter_by_nil p)) none
    pair_filter_by p (x ∷ xs) (more f q) =
        ⊎_elim (λ a. subst (Pairwise R) (sym (filter_by_yes p x xs a))
        (more (λ y m. f y (filter_by_mem p xs m).0) (pair_filter_by p xs q)))
        (λ a. subst (Pairwise R) (sym (filter_by_no p x xs a)) (pair_filter_by p xs q)) (true_or_false (p x))

    -- two lists in one strict order with the same members are one
    pub pair_unique : ((x y : A) → R x y → R y x → ⊥)
        → (xs ys : List A) → Pairwise R xs
        → Pairwise R ys
        → ((x : A) → Mem x xs → Mem x ys)
        → ((x : A) → Mem x ys → Mem x xs)
        → xs ≡ ys
    pair_unique strict [] [] p q f g = refl
    pair_unique strict [] (y ∷ ys) p q f g = absurd (not-nil (g y (here refl)))
    pair_unique strict (x ∷ xs) [] p q f g = absurd (not-nil (f x (here refl)))
    pair_unique strict (x ∷ xs) (y ∷ ys) (more a p) (more b q) f g =
        let e : x ≡ y = heads (cases_cons (f x (here refl))) (cases_cons (g y (here refl))) in
        cons e
        (pair_unique strict xs ys p q
        (λ z m. ⊎_elim (λ r. absurd (self z (a z m) (r ∙ sym e))) (λ r. r) (cases_cons (f z (there m))))
        (λ z m. ⊎_elim (λ r. absurd (self' z (b z m) (r ∙ e))) (λ r. r) (cases_cons (g z (there m)))))
      where
        heads : (x ≡ y) ⊎ Mem x ys → (y ≡ x) ⊎ Mem y xs → x ≡ y
        heads (◌⊎◌.inl e) h = e
        heads (◌⊎◌.inr m) (◌⊎◌.inl e) = sym e
        heads (◌⊎◌.inr m) (◌⊎◌.inr n) = absurd (strict y x (b x m) (a y n))

        self : (z : A) → R x z → z ≡ x → ⊥
        self z r e = let s : R x x = subst (R x) e r in strict x x s s

        self' : (z : A) → R y z → z ≡ y → ⊥
        self' z r e = let s : R y y = subst (R y) e r in strict y y s s

        cons : x ≡ y → xs ≡ ys → x ∷ xs ≡ y ∷ ys
        cons e r = cc

  -- a stronger order on the members
  pub pair_weaken : (R S : A → A → Type 0) (xs : List A) → Pairwise R xs
      → ((x y : A) → Mem x xs → Mem y xs → R x y → S x y) → Pairwise S xs
  pair_weaken R S [] p h = none
  pair_weaken R S (x ∷ xs) (more f p) h =
      more (λ y m. h x y (here refl) (there m) (f y m)) (pair_weaken R S xs p (λ a b m n. h a b (there m) (there n)))

module _ {A B : Type 0} (g : A → B) where
  pub mem_map : (xs : List A) {x : A} → Mem x xs → Mem (g x) (map g xs)
  mem_map [] m = absurd (not-nil m)
  mem_map (y ∷ ys) m = ⊎_elim (λ e. here (ap g e)) (λ r. there (mem_map ys r)) (cases_cons m)

  pub record FromMap (xs : List A) (y : B) : Type 0 where
    pub it : A
    pub member : Mem it xs
    pub is : y ≡ g it

  pub map_mem : (xs : List A) {y : B} → Mem y (map g xs) → FromMap xs y
  map_mem [] m = absurd (not-nil m)
  map_mem (x ∷ xs) m =
      ⊎_elim (λ e. record { it = x; member = here refl; is = e })
      (λ r. let w = map_mem xs r in record { it = w.it; member = there w.member; is = w.is })
      (cases_cons m)

  pub pair_map : (R : B → B → Type 0) (xs : List A) → Pairwise (λ a b. R (g a) (g b)) xs → Pairwise R (map g xs)
  pair_map R [] p = none
  pair_map R (x ∷ xs) (more f p) =
      more (λ y m. let w = map_mem xs m in subst (R (g x)) (sym w.is) (f w.it w.member)) (pair_map R xs p)
