-- The windows behind the rings of a range (02, S-1).
--     adds_up                  the numbers of the entries and that of the windows with no ring add up to n(n+1)/2
--     behind_fits, empty_fits  each of them fits 32 bits
--     empty_next               of the windows that start on s, those that end before the first core time have no ring
--     empty_quiet              from a start with no core time on no window has a ring
--     empty_end                behind the range there is no window
-- Assumes nothing.
use Prim.Native.Nat.{ℕ, zero, suc, ◌+◌, ◌-◌, ◌≤◌, ◌<◌}
use native.Mathlib.Nat.{le_refl}
use native.Mathlib.Omega.{arith}
use mathlib.Core.Path.{◌≡◌, refl, sym, ◌∙◌, ap, subst}
use mathlib.Core.Logic.{◌⊎◌, ⊎_elim}
use mathlib.Core.Bool.{Bool, true, false}
use mathlib.Core.List.Memᴰ.{head as here}
use mathlib.Core.List.Memᴰ.{tail as there}
use mathlib.Core.List.{List, [], ◌∷◌, map, Memᴰ as Mem}
use mathlib.Core.List.{flatten}
use lib.ListN.{length, get_or}
use lib.Dec.{leb, eqb}
use borrow.Author.Tests.{leb-true, leb-false}
use Rattle.rings.specs.Words.{◌and◌, no, tabulate, filter_by}
use Rattle.rings.specs.Table.{Table}
use Rattle.rings.specs.Ring.{ring}
use Rattle.rings.specs.CoreTimes.{never}
use Rattle.rings.specs.Windows.{Window, windows_from, windows}
use Rattle.rings.specs.Starts.{CountsAt}
use Rattle.rings.specs.declared.Query.{Query}
use Rattle.rings.proofs.WordLaws.{true_or_false, clash, and_l, no_i}
use Rattle.rings.proofs.ListLaws.{filter_by_yes, filter_by_no, map_mem}
use Rattle.rings.proofs.RingLaws.{in_grows}
use Rattle.rings.proofs.CoreTimeLaws.{row_reach_i, row_reach_e}
use Rattle.rings.proofs.RangeLaws.{windows_e}
use Rattle.listing.specs.Tight.{nonempty, first_day, last_day, tightest}
use Rattle.listing.specs.Listing.{ListedRing, listing}
use Rattle.listing.specs.Distinct.{same_rows, rings_of}
use Rattle.listing.specs.WindowCounts.{showing, empty_windows, windows_behind, sum}
use Rattle.listing.specs.EachRing.{of_ring}
use Rattle.listing.specs.LongestList.{longest, days_of}
use Rattle.listing.proofs.TightLaws.{nonempty_e, nonempty_i}
use Rattle.listing.proofs.DistinctLaws.{same_rows_e}
use Rattle.listing.proofs.CountLaws.{rings_length, passing_most, listing_is, ring_listed}
use Rattle.listing.proofs.RunLaws.{filter_by_none, passing_next, longest_small, showing_most, counted_time}
use Rattle.listing.proofs.RangeLaws.{TimesFrom}

-- ---- how many entries of a list have p

abbrev tally : {A : Type 0} → (A → Bool) → List A → ℕ
tally p xs = length (filter_by p xs)

module _ {A : Type 0} (p : A → Bool) where
  tally_yes : (x : A) (xs : List A) → p x ≡ true → tally p (x ∷ xs) ≡ suc (tally p xs)
  tally_yes x xs h = ap length (filter_by_yes p x xs h)

  tally_no : (x : A) (xs : List A) → p x ≡ false → tally p (x ∷ xs) ≡ tally p xs
  tally_no x xs h = ap length (filter_by_no p x xs h)

  tally_all : (xs : List A) → ((x : A) → Mem x xs → p x ≡ true) → tally p xs ≡ length xs
  unfolding filter_by
  tally_all [] h = refl
  tally_all (x ∷ xs) h = tally_yes x xs (h x (here refl)) ∙ ap suc (tally_all xs (λ y m. h y (there m)))

-- of n numbers from i on those below low have p
tally_below : {A B : Type 0} (p : B → Bool) (g : A → B) (f : ℕ → A) (low n i : ℕ)
    → low ≤ i + n
    → ((e : ℕ) → i ≤ e → e < low → p (g (f e)) ≡ true)
    → ((e : ℕ) → low ≤ e → e < i + n → p (g (f e)) ≡ false)
    → tally p (map g (tabulate f i n)) ≡ low - i
unfolding tabulate filter_by
tally_below p g f low zero i b has lacks = omega arith
tally_below p g f low (suc n) i b has lacks =
    let d : tally p (map g (tabulate f (suc i) n)) ≡ low - suc i =
    tally_below p g f low n (suc i) (omega arith) (λ e j k. has e (omega arith) k) (λ e j k. lacks e j (omega arith)) in
    ⊎_elim (λ y.
    let l = leb-true low i y in
    let c : tally p (map g (tabulate f i (suc n))) ≡ tally p (map g (tabulate f (suc i) n)) =
    tally_no p (g (f i)) (map g (tabulate f (suc i) n)) (lacks i l (omega arith)) in
    omega arith)
    (λ y.
    let l = leb-false low i y in
    let c : tally p (map g (tabulate f i (suc n))) ≡ suc (tally p (map g (tabulate f (suc i) n))) =
    tally_yes p (g (f i)) (map g (tabulate f (suc i) n)) (has i (le_refl i) l) in
    omega arith)
    (true_or_false (leb low i))

-- ---- each counted once

-- each of ms is empty and belongs to none of xs, or it is not empty and belongs to one of them
module _ {X M : Type 0} (r : X → M → Bool) (empty : M → Bool) (xs : List X) where
  sum_none : (ys : List X) → sum (map (λ x. tally (r x) []) ys) ≡ 0
  unfolding sum filter_by
  sum_none [] = refl
  sum_none (y ∷ ys) = let h : sum (map (λ x. tally (r x) []) ys) ≡ 0 = sum_none ys in omega arith

  sum_more : (m : M) (ms : List M) (ys : List X)
      → sum (map (λ x. tally (r x) (m ∷ ms)) ys) ≡ tally (λ y. r y m) ys + sum (map (λ x. tally (r x) ms) ys)
  unfolding sum filter_by
  sum_more m ms [] = refl
  sum_more m ms (y ∷ ys) =
      let h : sum (map (λ x. tally (r x) (m ∷ ms)) ys) ≡ tally (λ y. r y m) ys + sum (map (λ x. tally (r x) ms) ys) = sum_more m ms ys in
      ⊎_elim (λ e.
      let a : tally (r y) (m ∷ ms) ≡ suc (tally (r y) ms) = tally_yes (r y) m ms e in
      let b : tally (λ y. r y m) (y ∷ ys) ≡ suc (tally (λ y. r y m) ys) = tally_yes (λ y. r y m) y ys e in
      omega arith)
      (λ e.
      let a : tally (r y) (m ∷ ms) ≡ tally (r y) ms = tally_no (r y) m ms e in
      let b : tally (λ y. r y m) (y ∷ ys) ≡ tally (λ y. r y m) ys = tally_no (λ y. r y m) y ys e in
      omega arith)
      (true_or_false (r y m))

  abbrev Once : M → Type 0
  Once m = ((empty m ≡ true) × (tally (λ x. r x m) xs ≡ 0)) ⊎ ((empty m ≡ false) × (tally (λ x. r x m) xs ≡ 1))

  each_once : (ms : List M) → ((m : M) → Mem m ms → Once m) → sum (map (λ x. tally (r x) ms) xs) + tally empty ms ≡ length ms
  unfolding filter_by
  each_once [] h = ap (λ (n : ℕ). n + 0) (sum_none xs)
  each_once (m ∷ ms) h =
      let i : sum (map (λ x. tally (r x) ms) xs) + tally empty ms ≡ length ms = each_once ms (λ y k. h y (there k)) in
      let s : sum (map (λ x. tally (r x) (m ∷ ms)) xs) ≡ tally (λ x. r x m) xs + sum (map (λ x. tally (r x) ms) xs) = sum_more m ms xs in
      ⊎_elim (λ o.
      let a : tally empty (m ∷ ms) ≡ suc (tally empty ms) = tally_yes empty m ms o.0 in
      let z = o.1 in
      omega arith)
      (λ o.
      let a : tally empty (m ∷ ms) ≡ tally empty ms = tally_no empty m ms o.0 in
      let z = o.1 in
      omega arith)
      (h m (here refl))

-- ---- the numbers of a range

module _ (t : Table) (q : Query) where
  abbrev empty : List Bool → Bool
  empty m = no (nonempty m)

  abbrev shown : Window → List Bool
  shown w = ring t q w.start w.end

  -- the ring of entry x is m
  abbrev same : ListedRing → List Bool → Bool
  same x m = same_rows (ring t q x.start x.end) m

  module _ (lo hi : ℕ) where
    -- an entry's ring is not empty
    entry_has : (x : ListedRing) → Mem x (listing t q lo hi) → nonempty (ring t q x.start x.end) ≡ true
    unfolding tightest
    entry_has x m =
        let r = ring t q x.start x.end in
        and_l (nonempty r) (eqb (first_day t r) x.start and eqb (last_day t r) x.end) ((listing_is t q lo hi).each x m).is_tightest

    ring_once : hi < never → (m : List Bool) → Mem m (map shown (windows lo hi)) → Once same empty (listing t q lo hi) m
    unfolding of_ring no
    ring_once fits m h =
        let b = map_mem shown (windows lo hi) h in
        let o = windows_e lo hi b.it b.member in
        subst (Once same empty (listing t q lo hi)) (sym b.is)
        (⊎_elim (λ y. ◌⊎◌.inr
        (ap no y, ap length (ring_listed t q lo hi fits b.it.start b.it.end o.from o.to y).once))
        (λ y. ◌⊎◌.inl (
          ap no y,
          filter_by_none (of_ring t q (shown b.it)) (listing t q lo hi)
              (λ x k. ⊎_elim (λ z. clash (entry_has x k)
              (ap nonempty (same_rows_e (ring t q x.start x.end) (shown b.it) z) ∙ y))
              (λ z. z)
              (true_or_false (of_ring t q (shown b.it) x))),
        ))
        (true_or_false (nonempty (shown b.it))))

    -- 02: "The counts and the empty ones add up to n(n+1)/2"
    pub adds_up : hi < never → sum (map (windows_behind t q lo hi) (listing t q lo hi)) + empty_windows t q lo hi ≡ longest (days_of lo hi)
    unfolding windows_behind showing empty_windows rings_of
    adds_up fits =
        each_once same empty (listing t q lo hi) (rings_of t q lo hi) (ring_once fits) ∙ rings_length t q lo hi

    pub behind_fits : 1 ≤ lo → hi ≤ 1024 → (x : ListedRing) → windows_behind t q lo hi x < 4294967296
    unfolding windows_behind
    behind_fits f l x =
        let a : windows_behind t q lo hi x ≤ longest (days_of lo hi) = showing_most t q lo hi (ring t q x.start x.end) in
        let b = longest_small lo hi f l in
        omega arith

    pub empty_fits : 1 ≤ lo → hi ≤ 1024 → empty_windows t q lo hi < 4294967296
    unfolding empty_windows
    empty_fits f l =
        let a : empty_windows t q lo hi ≤ longest (days_of lo hi) = passing_most t q lo hi empty in
        let b = longest_small lo hi f l in
        omega arith

  -- ---- the windows with no ring, start by start

  -- a window that ends before every core time has no ring
  early : {hi s low : ℕ} (e : ℕ) → TimesFrom t q hi s low → s ≤ e → e ≤ hi → e < low → nonempty (ring t q s e) ≡ false
  early {hi} {s} {low} e F f l b =
      ⊎_elim (λ y.
      let j = nonempty_e t q s e y in
      let a = row_reach_i t q hi s j.0 e f l j.1 in
      let c = F.each j.0 in
      absurd (omega arith))
      (λ y. y)
      (true_or_false (nonempty (ring t q s e)))

  pub empty_next : {hi s low : ℕ} {xs : List ℕ} → hi ≤ 1024
      → s ≤ hi
      → CountsAt t q hi s xs
      → TimesFrom t q hi s low
      → low ≤ hi
      → (get_or xs low 0 ≡ 0 → ⊥)
      → empty_windows t q s hi ≡ (low - s) + empty_windows t q (s + 1) hi
  unfolding empty_windows windows_from no
  empty_next {hi} {s} {low} {xs} top o C F l counted =
      passing_next t q empty hi s o ∙ ap (λ (n : ℕ). n + empty_windows t q (s + 1) hi)
      (tally_below empty shown (λ e. record { start = s; end = e }) low (suc hi - s) s (omega arith)
      (λ e a b. no_i (early e F a (omega arith) b)) reached)
    where
      reached : (e : ℕ) → low ≤ e → e < s + (suc hi - s) → empty (ring t q s e) ≡ false
      reached e a b =
          let w = counted_time t q hi top C l counted in
          let c = w.1 in
          ap no (nonempty_i t q s e w.0 (row_reach_e t q hi s (omega arith) w.0 e (omega arith) (omega arith)))

  pub empty_end : (hi s : ℕ) → hi < s → empty_windows t q s hi ≡ 0
  unfolding empty_windows rings_of windows flatten tabulate filter_by
  empty_end hi s h =
      let m : suc hi - s ≡ 0 = omega arith in
      ap (λ (n : ℕ). tally empty (map shown (flatten (tabulate (windows_from hi) s n)))) m

  pub empty_quiet : {hi s low : ℕ} → hi < low → TimesFrom t q hi s low → empty_windows t q s hi ≡ longest (hi + 1 - s)
  unfolding empty_windows rings_of days_of
  empty_quiet {hi} {s} {low} past F =
      tally_all empty (map shown (windows s hi)) each ∙ (rings_length t q s hi ∙ ap longest (omega arith))
    where
      each : (m : List Bool) → Mem m (map shown (windows s hi)) → empty m ≡ true
      each m h =
          let b = map_mem shown (windows s hi) h in
          let o = windows_e s hi b.it b.member in
          let f = o.from in let r = o.order in let l = o.to in
          ap empty b.is ∙ no_i
          (⊎_elim (λ y.
          let j = nonempty_e t q b.it.start b.it.end y in
          clash (nonempty_i t q s b.it.end j.0 (in_grows t q j.0 f (omega arith) j.1))
          (early b.it.end F (omega arith) l (omega arith)))
          (λ y. y)
          (true_or_false (nonempty (shown b.it))))
