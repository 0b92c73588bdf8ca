-- A choice without a branch (src/choice.rt), and a choice by a const parameter.
--     picked_most     one or none is at most one
--     picked_as       the same of a number that is equal
--     flag_set, flag_clear    a const parameter that is a Bool, by its test
-- Assumes nothing.
use Prim.Native.Nat.{ℕ, ◌≤◌}
use native.Mathlib.Omega.{arith}
use mathlib.Core.Path.{◌≡◌, ◌∙◌, ap}
use mathlib.Core.Logic.{⊎_elim}
use mathlib.Core.Bool.{Bool, true, false, not}
use lib.Dec.{eqb}
use borrow.Author.Tests.{eq-eqb, ne_eqb}
use Rattle.rings.specs.Choice.{Picked}
use Rattle.rings.proofs.WordLaws.{true_or_false}

pub picked_most : {test : Bool} {r : ℕ} → Picked test 1 0 r → r ≤ 1
picked_most {test} A =
    ⊎_elim (λ h. let e = A.yes h in omega arith) (λ h. let e = A.no h in omega arith) (true_or_false test)

pub picked_as : {test : Bool} {x y r r' : ℕ} → r' ≡ r → Picked test x y r → Picked test x y r'
picked_as e A = record { yes = λ h. e ∙ A.yes h; no = λ h. e ∙ A.no h }

pub flag_set : {n : ℕ} → (n ≡ 0 → ⊥) → not (eqb n 0) ≡ true
flag_set {n} h = ap not (ne_eqb n 0 h)

pub flag_clear : {n : ℕ} → n ≡ 0 → not (eqb n 0) ≡ false
flag_clear {n} h = ap not (eq-eqb n 0 h)
