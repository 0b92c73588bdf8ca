-- The starts of a range, one after the other (src/list.rt: pass).
--     rest_first, rest_next, rest_end     the entries of the starts from s on
--     TimesFrom, from_start, from_counted, from_uncounted, from_next     no row has a core time before low
--     rest_quiet         where no row has a core time, no start from s on has an entry
-- Assumes nothing.
use Prim.Native.Nat.{ℕ, zero, suc, ◌+◌, ◌-◌, ◌≤◌, ◌<◌}
use native.Mathlib.Nat.{le_trans}
use native.Mathlib.Omega.{arith}
use mathlib.Core.Path.{◌≡◌, refl, sym, ◌∙◌, ap}
use mathlib.Core.Logic.{◌⊎◌, ⊎_elim}
use mathlib.Core.Bool.{Bool, true, false}
use mathlib.Core.List.{List, [], ◌∷◌, ◌++◌, map, flatten}
use lib.ListN.{get_or, replicate, length-replicate, get_or-replicate}
use lib.Dec.{leb, eqb}
use borrow.Author.Tests.{leb-true, leb-false, ne_eqb}
use Rattle.rings.specs.Words.{tabulate, cons_if, filter_by}
use Rattle.rings.specs.Table.{Table, size}
use Rattle.rings.specs.CoreTimes.{never, row_time}
use Rattle.rings.specs.Windows.{Window, windows_from, windows}
use Rattle.rings.specs.Starts.{CountsAt, Earliest}
use Rattle.rings.specs.declared.Query.{Query}
use Rattle.rings.proofs.WordLaws.{true_or_false, count_none}
use Rattle.rings.proofs.CoreTimeLaws.{row_time_lem, row_later}
use Rattle.listing.specs.Tight.{tight}
use Rattle.listing.specs.Listing.{ListedRing, entry_of, listing}
use Rattle.listing.specs.Inner.{start_entries, rest_from, Uncounted, FirstCounted}
use Rattle.listing.proofs.StartLaws.{entries_are}
use Rattle.listing.proofs.RunLaws.{starts_next, time_counted}
use Rattle.listing.proofs.ColumnLaws.{map_append}
use Rattle.listing.proofs.EndsLaws.{none_listed}

-- ---- the starts of a range

cons_if_append : {A : Type 0} (b : Bool) (x : A) (us vs : List A) → cons_if b x (us ++ vs) ≡ cons_if b x us ++ vs
unfolding cons_if
cons_if_append true x us vs = refl
cons_if_append false x us vs = refl

module _ {A : Type 0} (p : A → Bool) where
  filter_by_append : (xs ys : List A) → filter_by p (xs ++ ys) ≡ filter_by p xs ++ filter_by p ys
  unfolding filter_by
  filter_by_append [] ys = refl
  filter_by_append (x ∷ xs) ys = ap (cons_if (p x) x) (filter_by_append xs ys) ∙ cons_if_append (p x) x (filter_by p xs) (filter_by p ys)

module _ (t : Table) (q : Query) where
  abbrev test : Window → Bool
  test w = tight t q w.start w.end

  starts_from : (hi n i : ℕ) → map (entry_of t q) (filter_by test (flatten (tabulate (windows_from hi) i n))) ≡ flatten (tabulate (start_entries t q hi) i n)
  unfolding flatten tabulate filter_by start_entries
  starts_from hi zero i = refl
  starts_from hi (suc n) i =
      ap (map (entry_of t q)) (filter_by_append test (windows_from hi i) (flatten (tabulate (windows_from hi) (suc i) n)))
      ∙ (map_append (entry_of t q) (filter_by test (windows_from hi i)) (filter_by test (flatten (tabulate (windows_from hi) (suc i) n)))
      ∙ ap (λ (r : List ListedRing). start_entries t q hi i ++ r) (starts_from hi n (suc i)))

  pub rest_first : (lo hi : ℕ) → listing t q lo hi ≡ rest_from t q hi lo
  unfolding listing rest_from windows
  rest_first lo hi = starts_from hi (suc hi - lo) lo

  pub rest_next : (hi s : ℕ) → s ≤ hi → rest_from t q hi s ≡ start_entries t q hi s ++ rest_from t q hi (s + 1)
  unfolding rest_from
  rest_next hi s h = starts_next (start_entries t q hi) hi s h

  pub rest_end : (hi s : ℕ) → hi < s → rest_from t q hi s ≡ []
  unfolding rest_from flatten tabulate
  rest_end hi s h = let m : suc hi - s ≡ 0 = omega arith in ap (λ (n : ℕ). flatten (tabulate (start_entries t q hi) s n)) m

  -- ---- no row has a core time at s before low

  pub record TimesFrom (hi s low : ℕ) : Type 0 where
    pub each : (j : ℕ) → low ≤ row_time t q hi s j

  pub from_start : (hi s : ℕ) → hi ≤ 1024 → s ≤ hi → TimesFrom hi s s
  from_start hi s top o = record { each = λ j. ⊎_elim (λ n. omega arith) (λ r. r.0) (row_time_lem t q hi s j) }

  -- core times never fall
  pub from_next : {hi s low : ℕ} → hi ≤ 1024 → TimesFrom hi s low → TimesFrom hi (s + 1) low
  from_next top F = record { each = λ j. le_trans (F.each j) (row_later t q _ (omega arith) (omega arith) j) }

  module _ (hi s : ℕ) (top : hi ≤ 1024) {xs : List ℕ} (T : CountsAt t q hi s xs) where
    no_time : (e : ℕ) → e < 1025 → ((j : ℕ) → row_time t q hi s j ≡ e → ⊥) → get_or xs e 0 ≡ 0
    no_time e l h = T.each e l ∙ count_none (λ j. eqb (row_time t q hi s j) e) (size t) (λ j k. ne_eqb (row_time t q hi s j) e (h j))

    module _ {low r : ℕ} (F : TimesFrom hi s low) (C : FirstCounted xs low hi r) where
      -- nor before the first counted day from low on
      pub from_counted : TimesFrom hi s r
      from_counted =
          record {
            each =
                λ j. ⊎_elim (λ y. leb-true r (row_time t q hi s j) y)
                (λ y. let l = leb-false r (row_time t q hi s j) y in
                let o = C.to in
                absurd (time_counted t q hi top T j (omega arith) (C.before.none (row_time t q hi s j) (F.each j) l)))
                (true_or_false (leb r (row_time t q hi s j)));
          }

      -- which is not before s, where core times begin
      pub from_uncounted : s ≤ hi → r ≤ hi → Uncounted xs s r
      from_uncounted h o =
          record {
            order =
                ⊎_elim (λ y. leb-true s r y)
                (λ y. let l = leb-false s r y in
                absurd (C.counted o (no_time r (omega arith) (λ j e. let a = (from_start hi s top h).each j in omega arith))))
                (true_or_false (leb s r));
            none = λ e a b. no_time e (omega arith) (λ j y. let c = from_counted.each j in omega arith);
          }

  -- no row has a core time at s
  module _ {hi s low : ℕ} (top : hi ≤ 1024) (past : hi < low) (F : TimesFrom hi s low) where
    quiet : (j : ℕ) → row_time t q hi s j ≡ never
    quiet j = ⊎_elim (λ n. n) (λ r. let a = F.each j in let b = r.1 in absurd (omega arith)) (row_time_lem t q hi s j)

    quiet_start : s ≤ hi → start_entries t q hi s ≡ []
    quiet_start o = sym (entries_are t q hi s top counts least o) ∙ none_listed (replicate 1025 0) never s s 0 (hi + 1 - s) (omega arith)
      where
        counts : CountsAt t q hi s (replicate 1025 0)
        counts =
            record {
              long = length-replicate {A = ℕ} 1025 0;
              each =
                  λ e h. get_or-replicate {A = ℕ} 1025 e 0 0 h
                  ∙ sym (count_none (λ j. eqb (row_time t q hi s j) e) (size t)
                  (λ j l. ne_eqb (row_time t q hi s j) e (λ y. let n = quiet j in omega arith)));
            }

        least : Earliest t q hi s never
        least = record { lower = λ j h. let n = quiet j in omega arith; reached = ◌⊎◌.inl refl }

  rest_none : (m : ℕ) {hi s low : ℕ} → hi ≤ 1024 → hi < low → suc hi - s ≡ m → TimesFrom hi s low → rest_from t q hi s ≡ []
  rest_none zero {hi} {s} top past e F = rest_end hi s (omega arith)
  rest_none (suc m) {hi} {s} top past e F =
      rest_next hi s (omega arith)
      ∙ (ap (λ (ls : List ListedRing). ls ++ rest_from t q hi (s + 1)) (quiet_start top past F (omega arith))
      ∙ rest_none m top past (omega arith) (from_next top F))

  -- where no row has a core time, no start from s on has an entry
  pub rest_quiet : {hi s low : ℕ} → hi ≤ 1024 → hi < low → TimesFrom hi s low → rest_from t q hi s ≡ []
  rest_quiet {hi} {s} top past F = rest_none (suc hi - s) top past refl F
