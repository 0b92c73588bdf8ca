-- Words on truth values, lists and counts that the definitions share. Each computes, and each stays shut until a proof opens it.
--     _and_, _or_, no  both; one or the other; not
--     at xs i          the number at place i of a list, 0 past its end
--     marked m j       row j belongs to the row set m: a row set is a list of marks, one for each row
--     some p n         p holds of a number below n
--     every p n        p holds of each number below n
--     suc_if b n        n, or one more where b holds
--     count p n        how many numbers below n have p
--     tabulate f i n   the list f i, f (i + 1), .., n entries long
--     cons_if b x xs    xs, with x before it where b holds
--     filter_by p xs    the entries of a list that have p, in their order
--     any p xs         an entry of a list has p
--     Pairwise R xs    each entry of a list stands in R to every later one
use Rattle.std.specs.Prelude.{ℕ, zero, suc, Bool, true, false, get_or}
use mathlib.Core.List.{List, [], ◌∷◌, Memᴰ as Mem}

infixr 40 ◌and◌
infixr 35 ◌or◌
unfoldable pub ◌and◌ : Bool → Bool → Bool
true and b = b
false and b = false

unfoldable pub ◌or◌ : Bool → Bool → Bool
true or b = true
false or b = b

unfoldable pub no : Bool → Bool
no true = false
no false = true

unfoldable pub at : List ℕ → ℕ → ℕ
at xs i = get_or xs i 0

unfoldable pub marked : List Bool → ℕ → Bool
marked m j = get_or m j false

unfoldable pub some : (ℕ → Bool) → ℕ → Bool
some p zero = false
some p (suc n) = p n or some p n

unfoldable pub every : (ℕ → Bool) → ℕ → Bool
every p zero = true
every p (suc n) = p n and every p n

unfoldable pub suc_if : Bool → ℕ → ℕ
suc_if true n = suc n
suc_if false n = n

unfoldable pub count : (ℕ → Bool) → ℕ → ℕ
count p zero = 0
count p (suc n) = suc_if (p n) (count p n)

unfoldable pub tabulate : {A : Type 0} → (ℕ → A) → ℕ → ℕ → List A
tabulate f i zero = []
tabulate f i (suc n) = f i ∷ tabulate f (suc i) n

unfoldable pub cons_if : {A : Type 0} → Bool → A → List A → List A
cons_if true x xs = x ∷ xs
cons_if false x xs = xs

unfoldable pub filter_by : {A : Type 0} → (A → Bool) → List A → List A
filter_by p [] = []
filter_by p (x ∷ xs) = cons_if (p x) x (filter_by p xs)

unfoldable pub any : {A : Type 0} → (A → Bool) → List A → Bool
any p [] = false
any p (x ∷ xs) = p x or any p xs

pub data Pairwise {A : Type 0} (R : A → A → Type 0) : List A → Type 0 where
  none : Pairwise R []
  more : {x : A} {xs : List A} → ((y : A) → Mem y xs → R x y) → Pairwise R xs → Pairwise R (x ∷ xs)
