-- Entries that are counted, summed up and written, one after the other (specs/Inner.antt, Progress).
--     progress_start, progress_next                  no entry yet; one more
--     progress_as, progress_so                       the rest, or the numbers, said in another way
--     Whole, progress_end                            none is left
-- Assumes nothing.
use Prim.Native.Nat.{ℕ, ◌+◌, ◌<◌}
use native.Mathlib.Omega.{arith}
use mathlib.Core.Path.{◌≡◌, refl, sym, ◌∙◌, ap, subst}
use mathlib.Core.Bool.{Bool, true, false}
use mathlib.Core.List.{List, [], ◌∷◌, ◌++◌, append_assoc, append-nil}
use lib.ListN.{length, length-append}
use Rattle.listing.specs.Listing.{ListedRing, row_sum}
use Rattle.listing.specs.ListingCall.{Columns, OneLength, with_entries}
use Rattle.listing.specs.Inner.{written_of, Progress}
use Rattle.listing.proofs.ColumnLaws.{Putting, written_none, written_next}

sum_append : (ls : List ListedRing) (x : ListedRing) → row_sum (ls ++ x ∷ []) ≡ row_sum ls + x.rows
unfolding row_sum
sum_append [] x = omega arith
sum_append (l ∷ ls) x = let h = sum_append ls x in omega arith

nothing : (writes : Bool) → written_of writes [] ≡ []
unfolding written_of
nothing true = refl
nothing false = refl

pub progress_start : (f : ListedRing → ℕ) (writes : Bool) (goal : List ListedRing) (lent : Columns (List ℕ)) → Progress f writes goal goal 0 0 lent lent
unfolding row_sum
progress_start f writes goal lent =
    record {
      done = [];
      split = refl;
      counted = refl;
      summed_up = refl;
      columns = sym (ap (λ (ls : List ListedRing). with_entries f ls lent) (nothing writes) ∙ written_none f lent);
    }

module _ {f : ListedRing → ℕ} {writes : Bool} {goal rest : List ListedRing} {n sum : ℕ} {lent now : Columns (List ℕ)} where
  pub progress_next : (x : ListedRing) {w : ℕ} {now' : Columns (List ℕ)}
      → f x ≡ w
      → OneLength now
      → (writes ≡ true → n < length now.starts)
      → Progress f writes goal (x ∷ rest) n sum lent now
      → Putting writes n x w now now'
      → Progress f writes goal rest (n + 1) (sum + x.rows) lent now'
  progress_next x {w} {now'} ew alike room P E =
      record {
        done = P.done ++ x ∷ [];
        split = append_assoc P.done (x ∷ []) rest ∙ P.split;
        counted = omega (arith, P.counted, length-append P.done (x ∷ []));
        summed_up = omega (arith, P.summed_up, sum_append P.done x);
        columns =
            written_next f P.done lent x alike (λ h. let r = room h in omega (arith, P.counted)) P.columns
            (subst (λ (m : ℕ). Putting writes m x (f x) now now') P.counted (subst (λ (v : ℕ). Putting writes n x v now now') (sym ew) E));
      }

  pub progress_as : {rest' : List ListedRing} → rest ≡ rest' → Progress f writes goal rest n sum lent now → Progress f writes goal rest' n sum lent now
  progress_as e P = subst (λ (r : List ListedRing). Progress f writes goal r n sum lent now) e P

  pub progress_so : {n' sum' : ℕ} → n' ≡ n → sum' ≡ sum → Progress f writes goal rest n sum lent now → Progress f writes goal rest n' sum' lent now
  progress_so a b P = record { done = P.done; split = P.split; counted = a ∙ P.counted; summed_up = b ∙ P.summed_up; columns = P.columns }

-- ---- none is left

pub record Whole (f : ListedRing → ℕ) (writes : Bool) (goal : List ListedRing) (n sum : ℕ) (lent now : Columns (List ℕ)) : Type 0 where
  pub counted : n ≡ length goal
  pub summed_up : sum ≡ row_sum goal
  pub columns : now ≡ with_entries f (written_of writes goal) lent

pub progress_end : {f : ListedRing → ℕ} {writes : Bool} {goal : List ListedRing} {n sum : ℕ} {lent now : Columns (List ℕ)}
    → Progress f writes goal [] n sum lent now
    → Whole f writes goal n sum lent now
progress_end {f} {writes} {goal} {n} {sum} {lent} {now} P =
    subst (λ (ls : List ListedRing). Whole f writes ls n sum lent now) (sym (append-nil P.done) ∙ P.split)
    (record { counted = P.counted; summed_up = P.summed_up; columns = P.columns })
