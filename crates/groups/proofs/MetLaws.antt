-- The search for a row of the ring that has the named account (src/mark.rt).
--     tested, tested_is        what is tested of a row
--     none_in                  what no number of a range has
--     met_is                   the rows of the window have such a row where the ring has one
-- Assumes nothing.
use Prim.Native.Nat.{ℕ, zero, suc, ◌+◌, ◌-◌, ◌≤◌, ◌<◌}
use native.Mathlib.Nat.{le_refl}
use native.Mathlib.Omega.{arith}
use mathlib.Core.Path.{◌≡◌, refl, sym, ◌∙◌, ap}
use mathlib.Core.Logic.{⊎_elim}
use mathlib.Core.Bool.{Bool, false}
use mathlib.Core.List.{List}
use lib.ListN.{get_or}
use lib.Dec.{eqb}
use Rattle.std.specs.List.{list_any, range_with_len}
use Rattle.std.proofs.lemmas.List.Folds.{list_any_at}
use Rattle.std.proofs.lemmas.List.FromFn.{length-range_with_len, get_or-range_with_len}
use Rattle.rings.specs.Words.{◌and◌, ◌or◌, no, at, marked, some}
use Rattle.rings.specs.Table.{Table, table_of, size, first_of, second_of}
use Rattle.rings.specs.Ring.{touches, met}
use Rattle.rings.proofs.WordLaws.{true_or_false, and_l, some_e, some_none}
use Rattle.groups.specs.Inner.{Lent, rows_of}
use Rattle.groups.specs.declared.rows.Rows.{Rows}
use Rattle.groups.proofs.LeaderLaws.{rows_marked}

abbrev meets : Table → List Bool → ℕ → ℕ → Bool
meets t m a j = marked m j and touches t j a

abbrev pub tested : List ℕ → List ℕ → List ℕ → ℕ → ℕ → Bool
tested bytes f g a j = no (eqb (get_or bytes j 0) 0) and (eqb (get_or f j 0) a or eqb (get_or g j 0) a)

tested_is : (d f g bytes : List ℕ) (a j : ℕ) → tested bytes f g a j ≡ meets (table_of d f g) (rows_of bytes) a j
unfolding touches first_of second_of at
tested_is d f g bytes a j =
    ap (λ (b : Bool). b and (eqb (get_or f j 0) a or eqb (get_or g j 0) a)) (sym (rows_marked bytes j))

none_in : (p : ℕ → Bool) (lo n : ℕ) → ((j : ℕ) → lo ≤ j → j < lo + n → p j ≡ false)
    → list_any p (range_with_len lo n) ≡ false
none_in p lo zero h = refl
none_in p lo (suc n) h =
    rw (h lo (le_refl lo) (omega arith)) (none_in p (lo + 1) n (λ j l k. h j (omega arith) (omega arith)))

pub met_is : {d f g bytes : List ℕ} {r : Rows} → Lent d f g bytes r → (a : ℕ)
    → list_any (tested bytes f g a) (range_with_len r.lo (r.end - r.lo)) ≡ met (table_of d f g) (rows_of bytes) a
unfolding met
met_is {d} {f} {g} {bytes} {r} L a =
    ⊎_elim
    (λ h. let w = some_e has (size t) h in
    let inside = L.among w.it (and_l (marked m w.it) (touches t w.it a) w.has) in
    let here : w.it - r.lo < r.end - r.lo = omega (arith, inside.0, inside.1) in
    let it : get_or range (w.it - r.lo) 0 ≡ w.it =
    get_or-range_with_len r.lo (r.end - r.lo) (w.it - r.lo) 0 here ∙ (omega (arith, inside.0)) in
    list_any_at (tested bytes f g a) range (w.it - r.lo) 0
    (omega (arith, here, length-range_with_len r.lo (r.end - r.lo)))
    (ap (tested bytes f g a) it ∙ (tested_is d f g bytes a w.it ∙ w.has))
    ∙ sym h)
    (λ h. none_in (tested bytes f g a) r.lo (r.end - r.lo)
    (λ j l k. tested_is d f g bytes a j ∙ some_none has (size t) h j (omega (arith, k, L.ordered, L.last)))
    ∙ sym h)
    (true_or_false (some has (size t)))
  where
    t : Table
    t = table_of d f g

    m : List Bool
    m = rows_of bytes

    has : ℕ → Bool
    has = meets t m a

    range : List ℕ
    range = range_with_len r.lo (r.end - r.lo)
