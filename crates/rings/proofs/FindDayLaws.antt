-- From day to day: the first day with k supporters (src/scan.rt, `find_day`).
--     few_start, find_day_next, find_day_found, find_day_never, find_day_near, short_start, short_next     a scan
--         rises from day to day, and stops at the first with k supporters
--     Few, find_day_then     every day before this one has too few; a day that has enough
-- Assumes nothing.
use Prim.Native.Nat.{ℕ, ◌+◌, ◌-◌, ◌≤◌, ◌<◌}
use native.Mathlib.Nat.{le_refl}
use native.Mathlib.Omega.{arith}
use mathlib.Core.Path.{◌≡◌}
use mathlib.Core.Logic.{◌⊎◌, ⊎_elim}
use lib.Dec.{leb}
use borrow.Author.Tests.{leb-true, leb-false}
use Rattle.rings.specs.Words.{count}
use Rattle.rings.specs.Table.{Table, size}
use Rattle.rings.specs.CoreTimes.{never}
use Rattle.rings.specs.Inner.Support.{supporters}
use Rattle.rings.specs.Inner.Peeling.{Setting}
use Rattle.rings.specs.Inner.Settling.{value, backing, backers, RowsScanned, DayScanned, Short, SlackAbove}
use Rattle.rings.specs.Inner.Settling.{DayFound}
use Rattle.rings.specs.declared.Query.{Query}
use Rattle.rings.proofs.WordLaws.{true_or_false, count_mono}
use Rattle.rings.proofs.FixpointLaws.{enough}
use Rattle.rings.proofs.BackerLaws.{backing_e, backing_i, backers_are}

module _ (t : Table) (q : Query) (s hi lo : ℕ) (S : Setting t q s hi lo) (x : ℕ → ℕ) where
  -- ---- from day to day

  -- no row comes in between c and above
  same_between : {c u n above more : ℕ} → RowsScanned t x lo hi c u (size t) n above more → (a : ℕ) → c ≤ a
      → a < above → a ≤ hi → supporters t x s a u ≤ n
  unfolding backers value
  same_between {c} {u} {n} {above} {more} W a l h top =
      let e = W.counted in
      let m : count (backing t x lo a u) (size t) ≤ count (backing t x lo c u) (size t) =
      count_mono (backing t x lo a u) (backing t x lo c u) (size t)
      (λ j k y.
      let b = backing_e t q s hi lo S x a u j y in
      let o = b.by in
      backing_i t q s hi lo S x c u j
      (record {
        is_lead = b.is_lead;
        touch = b.touch;
        by = ⊎_elim (λ z. z) (λ z. absurd (omega arith))
            (W.none_between j k b.is_lead b.touch (omega arith));
      })) in
      let g = backers_are t q s hi lo S x a u in omega arith

  -- every day of the range from c₀ on and below c has too few
  abbrev pub Few : ℕ → ℕ → ℕ → Type 0
  Few c₀ c u = (a : ℕ) → c₀ ≤ a → a < c → a ≤ hi → supporters t x s a u < q.k

  pub few_start : (c u : ℕ) → Few c c u
  few_start c u a h l = absurd (omega arith)

  few_next : {c₀ c u n above more : ℕ} → Few c₀ c u → RowsScanned t x lo hi c u (size t) n above more → n < q.k
      → Few c₀ above u
  few_next {c₀} {c} {u} {n} {above} {more} F W h a l k top =
      ⊎_elim (λ y. let g = same_between W a (leb-true c a y) k top in omega arith) (λ y. F a l (leb-false c a y) top)
      (true_or_false (leb c a))

  -- the walk on day c found too few, and names a later day
  pub find_day_next : {c₀ c u n above more : ℕ}
      → Few c₀ c u
      → DayScanned t x lo hi c u (size t) q.k n above more
      → n < q.k
      → Few c₀ above u × (c < above) × ((above ≤ hi) ⊎ (above ≡ never))
  find_day_next F (DayScanned.full h k) m = absurd (omega arith)
  find_day_next F (DayScanned.scanned W) m = (few_next F W m, W.rises, W.day)

  -- on which it has enough
  pub find_day_then : {c₀ c u n above more m : ℕ}
      → Few c₀ c u
      → c₀ ≤ c
      → DayScanned t x lo hi c u (size t) q.k n above more
      → n < q.k
      → (above ≡ never → ⊥)
      → q.k ≤ n + more
      → m ≡ n + more + 1 - q.k
      → DayFound t x s q.k hi c₀ u above m
  find_day_then F o (DayScanned.full h k) few some enough e = absurd (omega arith)
  find_day_then {c₀} {c} {u} {n} {above} F o (DayScanned.scanned W) few some enough e =
      let g = backers_are t q s hi lo S x above u in
      let r = W.rises in
      ⊎_elim (λ w. absurd (some w)) (λ w.
      record {
        least =
            record {
              from = omega arith;
              fewer = few_next F W few;
              enough = ◌⊎◌.inr (⊎_elim (λ y. y) (λ y. absurd (some y)) W.day, omega arith);
            };
        known = omega arith;
        enough = ◌⊎◌.inr (omega arith);
      })
      W.then

  -- or it found enough at once
  pub find_day_found : {c₀ c u n above more m : ℕ}
      → Few c₀ c u
      → c₀ ≤ c
      → DayScanned t x lo hi c u (size t) q.k n above more
      → q.k ≤ n
      → c ≤ hi
      → m ≡ n + 1 - q.k
      → DayFound t x s q.k hi c₀ u c m
  find_day_found {c₀} {c} {u} {n} {m = m} F o G h top e =
      let g = backers_are t q s hi lo S x c u in
      let b : n ≤ backers t x lo c u (size t) = counted G in
      record {
        least = record { from = o; fewer = F; enough = ◌⊎◌.inr (top, omega arith) };
        known = omega arith;
        enough = ◌⊎◌.inr (omega arith);
      }
    where
      counted : {above more : ℕ} → DayScanned t x lo hi c u (size t) q.k n above more
          → n ≤ backers t x lo c u (size t)
      counted (DayScanned.full a b) = b
      counted (DayScanned.scanned W) = let z = W.counted in omega arith

  pub find_day_never : {c₀ c u m : ℕ} → Few c₀ c u → c₀ ≤ c → c ≡ never → m ≡ 1 → DayFound t x s q.k hi c₀ u c m
  find_day_never F o e g =
      record { least = record { from = o; fewer = F; enough = ◌⊎◌.inl e }; known = omega arith; enough = ◌⊎◌.inl e }

  -- the same in the words of the contracts
  pub short_start : (c u : ℕ) → (c ≤ hi) ⊎ (c ≡ never) → Short t x s q.k hi c u c
  short_start c u h = record { from = le_refl c; day = h; fewer = few_start c u }

  pub short_next : {c₀ c u n above more : ℕ}
      → Short t x s q.k hi c₀ u c
      → DayScanned t x lo hi c u (size t) q.k n above more
      → n < q.k
      → Short t x s q.k hi c₀ u above
  short_next H G m =
      let L = find_day_next H.fewer G m in
      record { from = let a = L.1 in let b = H.from in omega arith; day = L.2; fewer = L.0 }

  -- one walk, and it has enough on the day above
  pub find_day_near : {c u n above more both m : ℕ}
      → DayScanned t x lo hi c u (size t) q.k n above more
      → n < q.k
      → both ≡ n + more
      → SlackAbove above both q.k m
      → (m ≡ 0 → ⊥)
      → DayFound t x s q.k hi c u above m
  find_day_near {c} {u} G few e (SlackAbove.none h k) o =
      let L = find_day_next (few_start c u) G few in find_day_never L.0 (let a = L.1 in omega arith) h k
  find_day_near {c} {u} G few e (SlackAbove.some h k i) o =
      find_day_then (few_start c u) (le_refl c) G few h (omega arith) (omega arith)
  find_day_near G few e (SlackAbove.few h k i) o = absurd (o i)
