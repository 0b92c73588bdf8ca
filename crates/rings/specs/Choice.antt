-- A choice without a branch (src/choice.rt).
--     Picked test x y r     r is x where the test holds, else y
use Rattle.std.specs.Prelude.{ℕ, ◌≡◌, Bool, true, false}

pub record Picked (test : Bool) (x y r : ℕ) : Type 0 where
  pub yes : test ≡ true → r ≡ x
  pub no : test ≡ false → r ≡ y
