-- The ring of a window: it is the ring in 01's words, and nothing else is. Everything above goes through these laws
-- and never opens the peeling.
--     ring_is, ring_only       `ring` is the ring of the window, the only one
--     in_window_lem                a row of the ring lies in the table, and in the window
--     ring_grows               rings grow with the window
--     ring_shrinks             and shrink with k
--     met_i, met_e, met_first, met_second    accounts met in a row set, and in the ring
--     joins_cases, touch_cases     what `joins` and `touches` say
--     ring_degree              an account met in the ring has at least k neighbours there
--     two_met                  a row of the window between two accounts of the ring is in the ring
--     ring_holds               a good set of the window's rows is within the ring
--     Inside, window_e, window_i, window_sized, window_grows     the rows of a window
--     touch_first, touch_second, joins_touch     the accounts of a row
--     Meets, met_mono     an account that is met, by a row
--     Joined, neighbour_i, neighbour_e, degree_mono     a neighbour, by a row
--     ring_sized, ring_within, ring_good, in_marked, marked_in, in_grows     a ring as a row set, and as a test of rows
-- Assumes nothing.
use Prim.Native.Nat.{ℕ, ◌≤◌, ◌<◌}
use native.Mathlib.Nat.{le_trans}
use mathlib.Core.Path.{◌≡◌, refl, sym, ◌∙◌, ap, subst}
use mathlib.Core.Logic.{◌⊎◌, ⊎_elim}
use mathlib.Core.Bool.{Bool, true}
use mathlib.Core.List.{List}
use lib.ListN.{length}
use lib.Dec.{leb, eqb}
use borrow.Author.Tests.{leb-true, le-leb, eqb-true, eq-eqb}
use Rattle.rings.specs.Words.{◌and◌, ◌or◌, marked, tabulate}
use Rattle.rings.specs.Table.{Table, size, day_of, first_of, second_of, in_window, window_rows}
use Rattle.rings.specs.Ring.{joins, neighbour, names, degree, touches, met, Good, Within, IsRing, keep, ring}
use Rattle.rings.specs.Ring.{in_ring}
use Rattle.rings.specs.declared.Query.{Query}
use Rattle.rings.proofs.WordLaws.{and_i, and_l, and_r, or_l, or_r, or_e, some_i, some_e, count_mono}
use Rattle.rings.proofs.WordLaws.{length_tabulate, marked_tabulate_e, marked_tabulate_i, same_marks}
use Rattle.rings.proofs.PeelLaws.{Stable, Monotone, within_trans, peel_sized, peel_within, peel_stable}
use Rattle.rings.proofs.PeelLaws.{peel_greatest}

-- ---- windows

pub record Inside (t : Table) (s e j : ℕ) : Type 0 where
  pub row : j < size t
  pub from : s ≤ day_of t j
  pub to : day_of t j ≤ e

pub window_e : (t : Table) (s e j : ℕ) → marked (window_rows t s e) j ≡ true → Inside t s e j
unfolding window_rows in_window
window_e t s e j h =
    let w = marked_tabulate_e (λ i. in_window s e (day_of t i)) (size t) j h in
    record {
      row = w.0;
      from = leb-true s (day_of t j) (and_l (leb s (day_of t j)) (leb (day_of t j) e) w.1);
      to = leb-true (day_of t j) e (and_r (leb s (day_of t j)) (leb (day_of t j) e) w.1);
    }

pub window_i : (t : Table) (s e j : ℕ) → Inside t s e j → marked (window_rows t s e) j ≡ true
unfolding window_rows in_window
window_i t s e j i =
    marked_tabulate_i (λ n. in_window s e (day_of t n)) (size t) j i.row
    (and_i (le-leb s (day_of t j) i.from) (le-leb (day_of t j) e i.to))

pub window_sized : (t : Table) (s e : ℕ) → length (window_rows t s e) ≡ size t
unfolding window_rows
window_sized t s e = length_tabulate (λ j. in_window s e (day_of t j)) 0 (size t)

pub window_grows : (t : Table) {s s' e e' : ℕ} → s' ≤ s → e ≤ e' → Within (window_rows t s e) (window_rows t s' e')
window_grows t {s} {s'} {e} {e'} p r =
    record {
      all = λ j h. let i = window_e t s e j h in
          window_i t s' e' j (record { row = i.row; from = le_trans p i.from; to = le_trans i.to r });
    }

-- ---- accounts met, neighbours, degrees

pub touch_cases : (t : Table) (j u : ℕ) → touches t j u ≡ true → (first_of t j ≡ u) ⊎ (second_of t j ≡ u)
unfolding touches
touch_cases t j u h =
    ⊎_elim (λ a. ◌⊎◌.inl (eqb-true (first_of t j) u a)) (λ a. ◌⊎◌.inr (eqb-true (second_of t j) u a))
    (or_e (eqb (first_of t j) u) (eqb (second_of t j) u) h)

pub touch_first : (t : Table) (j : ℕ) → touches t j (first_of t j) ≡ true
unfolding touches
touch_first t j =
    or_l (eqb (first_of t j) (first_of t j)) (eqb (second_of t j) (first_of t j))
    (eq-eqb (first_of t j) (first_of t j) refl)

pub touch_second : (t : Table) (j : ℕ) → touches t j (second_of t j) ≡ true
unfolding touches
touch_second t j =
    or_r (eqb (first_of t j) (second_of t j)) (eqb (second_of t j) (second_of t j))
    (eq-eqb (second_of t j) (second_of t j) refl)

pub joins_cases : (t : Table) (j u v : ℕ) → joins t j u v ≡ true
    → ((first_of t j ≡ u) × (second_of t j ≡ v)) ⊎ ((first_of t j ≡ v) × (second_of t j ≡ u))
unfolding joins
joins_cases t j u v h =
    ⊎_elim (λ a. ◌⊎◌.inl (
      eqb-true (first_of t j) u (and_l (eqb (first_of t j) u) (eqb (second_of t j) v) a),
      eqb-true (second_of t j) v (and_r (eqb (first_of t j) u) (eqb (second_of t j) v) a),
    ))
    (λ a. ◌⊎◌.inr (
      eqb-true (first_of t j) v (and_l (eqb (first_of t j) v) (eqb (second_of t j) u) a),
      eqb-true (second_of t j) u (and_r (eqb (first_of t j) v) (eqb (second_of t j) u) a),
    ))
    (or_e (eqb (first_of t j) u and eqb (second_of t j) v) (eqb (first_of t j) v and eqb (second_of t j) u) h)

-- a payment between u and v has both
pub joins_touch : (t : Table) (j u v : ℕ) → joins t j u v ≡ true → (touches t j u ≡ true) × (touches t j v ≡ true)
joins_touch t j u v h =
    ⊎_elim (λ e. (
      subst (λ (a : ℕ). touches t j a ≡ true) e.0 (touch_first t j),
      subst (λ (a : ℕ). touches t j a ≡ true) e.1 (touch_second t j),
    ))
    (λ e. (
      subst (λ (a : ℕ). touches t j a ≡ true) e.1 (touch_second t j),
      subst (λ (a : ℕ). touches t j a ≡ true) e.0 (touch_first t j),
    ))
    (joins_cases t j u v h)

pub met_i : (t : Table) (m : List Bool) (j u : ℕ) → j < size t → marked m j ≡ true → touches t j u ≡ true
    → met t m u ≡ true
unfolding met
met_i t m j u l h k = some_i (λ i. marked m i and touches t i u) (size t) j l (and_i h k)

pub record Meets (t : Table) (m : List Bool) (u : ℕ) : Type 0 where
  pub row : ℕ
  pub below : row < size t
  pub has : marked m row ≡ true
  pub touch : touches t row u ≡ true

pub met_e : (t : Table) (m : List Bool) (u : ℕ) → met t m u ≡ true → Meets t m u
unfolding met
met_e t m u h =
    let w = some_e (λ i. marked m i and touches t i u) (size t) h in
    record {
      row = w.it;
      below = w.below;
      has = and_l (marked m w.it) (touches t w.it u) w.has;
      touch = and_r (marked m w.it) (touches t w.it u) w.has;
    }

pub met_mono : (t : Table) {m m' : List Bool} (u : ℕ) → Within m m' → met t m u ≡ true → met t m' u ≡ true
met_mono t {m} {m'} u w h =
    let x = met_e t m u h in met_i t m' x.row u x.below (w.all x.row x.has) x.touch

pub neighbour_i : (t : Table) (m : List Bool) (j u v : ℕ) → j < size t → marked m j ≡ true → joins t j u v ≡ true
    → neighbour t m u v ≡ true
unfolding neighbour
neighbour_i t m j u v l h k = some_i (λ i. marked m i and joins t i u v) (size t) j l (and_i h k)

pub record Joined (t : Table) (m : List Bool) (u v : ℕ) : Type 0 where
  pub row : ℕ
  pub below : row < size t
  pub has : marked m row ≡ true
  pub join : joins t row u v ≡ true

pub neighbour_e : (t : Table) (m : List Bool) (u v : ℕ) → neighbour t m u v ≡ true → Joined t m u v
unfolding neighbour
neighbour_e t m u v h =
    let w = some_e (λ i. marked m i and joins t i u v) (size t) h in
    record {
      row = w.it;
      below = w.below;
      has = and_l (marked m w.it) (joins t w.it u v) w.has;
      join = and_r (marked m w.it) (joins t w.it u v) w.has;
    }

pub degree_mono : (t : Table) {m m' : List Bool} (u : ℕ) → Within m m' → degree t m u ≤ degree t m' u
unfolding degree
degree_mono t {m} {m'} u w =
    count_mono (neighbour t m u) (neighbour t m' u) (names t)
    (λ v l h. let x = neighbour_e t m u v h in
    neighbour_i t m' x.row u v x.below (w.all x.row x.has) x.join)

-- ---- the test of a ring, and good sets

module _ (t : Table) (q : Query) where
  keep_e : (m : List Bool) (j : ℕ) → keep t q m j ≡ true
      → (q.k ≤ degree t m (first_of t j)) × (q.k ≤ degree t m (second_of t j))
  unfolding keep
  keep_e m j h =
      let a = leb q.k (degree t m (first_of t j)) in
      let b = leb q.k (degree t m (second_of t j)) in (
        leb-true q.k (degree t m (first_of t j)) (and_l a b h),
        leb-true q.k (degree t m (second_of t j)) (and_r a b h),
      )

  keep_i : (m : List Bool) (j : ℕ) → q.k ≤ degree t m (first_of t j) → q.k ≤ degree t m (second_of t j)
      → keep t q m j ≡ true
  unfolding keep
  keep_i m j h k = and_i (le-leb q.k (degree t m (first_of t j)) h) (le-leb q.k (degree t m (second_of t j)) k)

  keep_monotone : Monotone (keep t q)
  keep_monotone =
      record {
        raises = λ m m' w j h. let x = keep_e m j h in
            keep_i m' j (le_trans x.0 (degree_mono t (first_of t j) w))
            (le_trans x.1 (degree_mono t (second_of t j) w));
      }

  good_of_stable : (m : List Bool) → Stable (keep t q) m → Good t q m
  good_of_stable m s =
      record {
        neighbours = λ u h.
            let x = met_e t m u h in
            let y = keep_e m x.row (s.passes x.row x.has) in
            ⊎_elim (λ e. subst (λ (a : ℕ). q.k ≤ degree t m a) e y.0)
            (λ e. subst (λ (a : ℕ). q.k ≤ degree t m a) e y.1) (touch_cases t x.row u x.touch);
      }

  stable_of_good : (m : List Bool) → ((j : ℕ) → marked m j ≡ true → j < size t) → Good t q m → Stable (keep t q) m
  stable_of_good m b g =
      record {
        passes = λ j h.
            keep_i m j
            (g.neighbours (first_of t j) (met_i t m j (first_of t j) (b j h) h (touch_first t j)))
            (g.neighbours (second_of t j) (met_i t m j (second_of t j) (b j h) h (touch_second t j)));
      }

  -- ---- the ring

  module _ (s e : ℕ) where
    pub ring_sized : length (ring t q s e) ≡ size t
    unfolding ring
    ring_sized = peel_sized (keep t q) (window_rows t s e) ∙ window_sized t s e

    pub ring_within : Within (ring t q s e) (window_rows t s e)
    unfolding ring
    ring_within = peel_within (keep t q) (window_rows t s e)

    pub ring_good : Good t q (ring t q s e)
    unfolding ring
    ring_good = good_of_stable (ring t q s e) (peel_stable (keep t q) (window_rows t s e))

    pub ring_holds : (m : List Bool) → Within m (window_rows t s e) → Good t q m → Within m (ring t q s e)
    unfolding ring
    ring_holds m w g =
        peel_greatest (keep t q) keep_monotone m (window_rows t s e) w
        (stable_of_good m (λ j h. (window_e t s e j (w.all j h)).row) g)

    -- 01's words hold of the ring
    pub ring_is : IsRing t q s e (ring t q s e)
    ring_is = record { sized = ring_sized; within = ring_within; good = ring_good; greatest_one = ring_holds }

    -- and of nothing else
    pub ring_only : (m : List Bool) → IsRing t q s e m → m ≡ ring t q s e
    ring_only m r =
        same_marks m (ring t q s e) (r.sized ∙ sym ring_sized) (ring_holds m r.within r.good).all
        (r.greatest_one (ring t q s e) ring_within ring_good).all

    pub in_marked : (j : ℕ) → marked (ring t q s e) j ≡ true → in_ring t q s e j ≡ true
    unfolding in_ring
    in_marked j h = h

    pub marked_in : (j : ℕ) → in_ring t q s e j ≡ true → marked (ring t q s e) j ≡ true
    unfolding in_ring
    marked_in j h = h

    pub in_window_lem : (j : ℕ) → in_ring t q s e j ≡ true → Inside t s e j
    unfolding in_ring
    in_window_lem j h = window_e t s e j (ring_within.all j h)

    pub ring_degree : (u : ℕ) → met t (ring t q s e) u ≡ true → q.k ≤ degree t (ring t q s e) u
    ring_degree u h = ring_good.neighbours u h

    -- a row of the window between two accounts of the ring is in the ring: with it the set is still good
    pub two_met : (j : ℕ) → Inside t s e j → met t (ring t q s e) (first_of t j) ≡ true
        → met t (ring t q s e) (second_of t j) ≡ true → in_ring t q s e j ≡ true
    unfolding in_ring
    two_met j i a b =
        (ring_holds more more_within (record { neighbours = more_good })).all j
        (marked_tabulate_i also (size t) j i.row (or_r (marked (ring t q s e) j) (eqb j j) (eq-eqb j j refl)))
      where
        also : ℕ → Bool
        also n = marked (ring t q s e) n or eqb n j

        more : List Bool
        more = tabulate also 0 (size t)

        more_within : Within more (window_rows t s e)
        more_within =
            record {
              all = λ n h. ⊎_elim (ring_within.all n)
                  (λ p. window_i t s e n (subst (Inside t s e) (sym (eqb-true n j p)) i))
                  (or_e (marked (ring t q s e) n) (eqb n j) (marked_tabulate_e also (size t) n h).1);
            }

        fewer : Within (ring t q s e) more
        fewer =
            record {
              all = λ n h. marked_tabulate_i also (size t) n (window_e t s e n (ring_within.all n h)).row
                  (or_l (marked (ring t q s e) n) (eqb n j) h);
            }

        old : (u : ℕ) → met t (ring t q s e) u ≡ true → q.k ≤ degree t more u
        old u h = le_trans (ring_degree u h) (degree_mono t u fewer)

        more_good : (u : ℕ) → met t more u ≡ true → q.k ≤ degree t more u
        more_good u h =
            let x = met_e t more u h in
            ⊎_elim (λ p. old u (met_i t (ring t q s e) x.row u x.below p x.touch))
            (λ p. ⊎_elim
            (λ f. subst (λ (v : ℕ). q.k ≤ degree t more v) (ap (first_of t) (sym (eqb-true x.row j p)) ∙ f)
            (old (first_of t j) a))
            (λ f. subst (λ (v : ℕ). q.k ≤ degree t more v) (ap (second_of t) (sym (eqb-true x.row j p)) ∙ f)
            (old (second_of t j) b))
            (touch_cases t x.row u x.touch))
            (or_e (marked (ring t q s e) x.row) (eqb x.row j)
            (marked_tabulate_e also (size t) x.row x.has).1)

    -- the accounts of a row of the ring are met in it
    pub met_first : (j : ℕ) → in_ring t q s e j ≡ true → met t (ring t q s e) (first_of t j) ≡ true
    unfolding in_ring
    met_first j h = met_i t (ring t q s e) j (first_of t j) (in_window_lem j h).row h (touch_first t j)

    pub met_second : (j : ℕ) → in_ring t q s e j ≡ true → met t (ring t q s e) (second_of t j) ≡ true
    unfolding in_ring
    met_second j h = met_i t (ring t q s e) j (second_of t j) (in_window_lem j h).row h (touch_second t j)

  -- rings grow with the window
  pub ring_grows : {s s' e e' : ℕ} → s' ≤ s → e ≤ e' → Within (ring t q s e) (ring t q s' e')
  ring_grows {s} {s'} {e} {e'} p r =
      ring_holds s' e' (ring t q s e) (within_trans (ring_within s e) (window_grows t p r)) (ring_good s e)

  pub in_grows : {s s' e e' : ℕ} (j : ℕ) → s' ≤ s → e ≤ e' → in_ring t q s e j ≡ true → in_ring t q s' e' j ≡ true
  unfolding in_ring
  in_grows j p r h = (ring_grows p r).all j h

-- and shrink as k rises
pub ring_shrinks : (t : Table) (q q' : Query) (s e : ℕ) → q.k ≤ q'.k → Within (ring t q' s e) (ring t q s e)
ring_shrinks t q q' s e h =
    ring_holds t q s e (ring t q' s e) (ring_within t q' s e)
    (record { neighbours = λ u m. le_trans h ((ring_good t q' s e).neighbours u m) })
