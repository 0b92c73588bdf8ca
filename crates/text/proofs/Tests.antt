-- Cases of a test, and of two tests joined.
--
--   true_or_false   a test is true or false
--   lt_or_le        one number is below another, or not
--   same_or_not     two numbers are the same, or not
--   and_left        of a conjunction that is true, the first test
--   and_right       the second
--   and_false       a conjunction whose second test is false
--   both_true       two tests that are true, joined
--   pick_true       a choice whose test is true
--   pick_false      a choice whose test is false
--   zero_not_one    0 is not 1, so anything follows
-- Assumes nothing.
use Prim.Native.Nat.{ℕ, ◌<◌, ◌≤◌}
use mathlib.Core.Path.{◌≡◌, refl}
use mathlib.Core.Bool.{Bool, true, false, cond, ◌&&◌, true≢false, false≢true}
use mathlib.Core.Logic.{◌⊎◌, inl, inr, ⊎_elim}
use native.Mathlib.Omega.{arith}
use lib.Dec.{ltb, eqb}
use borrow.Author.Tests.{ltb-true, ltb-false, eqb-true, eqb-false}

pub true_or_false : (b : Bool) → (b ≡ true) ⊎ (b ≡ false)
true_or_false true = inl refl
true_or_false false = inr refl

pub lt_or_le : (a b : ℕ) → (a < b) ⊎ (b ≤ a)
lt_or_le a b = ⊎_elim (λ t. inl (ltb-true a b t)) (λ t. inr (ltb-false a b t)) (true_or_false (ltb a b))

pub same_or_not : (a b : ℕ) → (a ≡ b) ⊎ (a ≡ b → ⊥)
same_or_not a b = ⊎_elim (λ t. inl (eqb-true a b t)) (λ t. inr (eqb-false a b t)) (true_or_false (eqb a b))

pub and_left : (a b : Bool) → (a && b) ≡ true → a ≡ true
and_left true b e = refl
and_left false b e = e

pub and_right : (a b : Bool) → (a && b) ≡ true → b ≡ true
and_right true b e = e
and_right false true e = refl
and_right false false e = e

pub and_false : (a : Bool) → (a && false) ≡ false
and_false true = refl
and_false false = refl

pub both_true : (a b : Bool) → a ≡ true → b ≡ true → (a && b) ≡ true
both_true a b p q = rw (p, q)

module _ {A : Type 0} where
  pub pick_true : (b : Bool) (x y : A) → b ≡ true → cond b x y ≡ x
  pick_true true x y e = refl
  pick_true false x y e = absurd (false≢true e)

  pub pick_false : (b : Bool) (x y : A) → b ≡ false → cond b x y ≡ y
  pick_false true x y e = absurd (true≢false e)
  pick_false false x y e = refl

-- what two different constructors made equal give
pub zero_not_one {ℓ} : {A : Type ℓ} → ◌≡◌ {A = ℕ} 0 1 → A
zero_not_one e = let f : ⊥ = omega arith in absurd f
