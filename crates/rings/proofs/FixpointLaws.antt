-- The fixpoint on which the engine rests. An estimate x gives each account a day or never.
--     Lower t q hi s x         x is at most each account's core time: x u ≤ c wherever u is met in the ring of [s, c]
--     Closed t q s x u         x u is never, or u has at least k supporters at x u
--     enough                   where x is lower, an account met in the ring of [s, c] has at least k supporters at c.
--                              So an account that has fewer at x u is not met in the ring of [s, x u], and x u may
--                              rise and stay lower
--     closed_met               where x is closed everywhere, an account with x u ≤ hi is met in the ring of [s, x u]
--     fixpoint                 lower and closed everywhere: x is the core times
--     times_lower, times_closed, lower_next    the core times at s are lower and closed, and are lower at a later start
--     Backs, supports_e, supports_i     a supporter, by the row that makes it one
-- Assumes nothing.
use Prim.Native.Nat.{ℕ, ◌≤◌, ◌<◌}
use native.Mathlib.Nat.{le_refl, le_trans, le_antisymm}
use native.Mathlib.Omega.{arith}
use mathlib.Core.Path.{◌≡◌, sym, ◌∙◌, subst}
use mathlib.Core.Logic.{◌⊎◌, ⊎_elim}
use mathlib.Core.Bool.{Bool, true}
use mathlib.Core.List.{List}
use lib.Dec.{leb}
use borrow.Author.Tests.{leb-true, le-leb}
use Rattle.rings.specs.Words.{◌and◌, marked, tabulate}
use Rattle.rings.specs.Table.{Table, size, first_of, second_of, window_rows}
use Rattle.rings.specs.Ring.{joins, neighbour, names, degree, met, Good, Within, ring}
use Rattle.rings.specs.CoreTimes.{never, account_time}
use Rattle.rings.specs.Inner.Adjacency.{opens_by}
use Rattle.rings.specs.Inner.Support.{backs, supports, supporters}
use Rattle.rings.specs.declared.Query.{Query}
use Rattle.rings.proofs.WordLaws.{and_i, and_l, and_r, some_i, some_e, count_mono, count_some}
use Rattle.rings.proofs.WordLaws.{marked_tabulate_e, marked_tabulate_i}
use Rattle.rings.proofs.RingLaws.{window_i, touch_cases, joins_cases, joins_touch, met_i, met_e, met_mono}
use Rattle.rings.proofs.RingLaws.{neighbour_i, neighbour_e, ring_degree, ring_holds, ring_grows, in_marked}
use Rattle.rings.proofs.LeadLaws.{Opens, opens_e, opens_i, ring_opens, open_own}
use Rattle.rings.proofs.CoreTimeLaws.{Time, account_time_lem, account_reach_i, account_reach_e, time_day}

pub record Lower (t : Table) (q : Query) (hi s : ℕ) (x : ℕ → ℕ) : Type 0 where
  pub under : (u c : ℕ) → s ≤ c → c ≤ hi → met t (ring t q s c) u ≡ true → x u ≤ c

pub record Closed (t : Table) (q : Query) (s : ℕ) (x : ℕ → ℕ) (u : ℕ) : Type 0 where
  pub enough_or_never : (x u ≡ never) ⊎ (q.k ≤ supporters t x s (x u) u)

-- what a supporting row says
pub record Backs (t : Table) (x : ℕ → ℕ) (s c u v : ℕ) : Type 0 where
  pub row : ℕ
  pub below : row < size t
  pub join : joins t row u v ≡ true
  pub opens : Opens t s c row
  pub other : x v ≤ c

pub supports_e : (t : Table) (x : ℕ → ℕ) (s c u v : ℕ) → supports t x s c u v ≡ true → Backs t x s c u v
unfolding supports backs
supports_e t x s c u v h =
    let w = some_e (backs t x s c u v) (size t) h in
    let j = w.it in
    let r = and_r (joins t j u v) (opens_by t s c j and leb (x v) c) w.has in
    record {
      row = j;
      below = w.below;
      join = and_l (joins t j u v) (opens_by t s c j and leb (x v) c) w.has;
      opens = opens_e t s c j (and_l (opens_by t s c j) (leb (x v) c) r);
      other = leb-true (x v) c (and_r (opens_by t s c j) (leb (x v) c) r);
    }

pub supports_i : (t : Table) (x : ℕ → ℕ) (s c u v : ℕ) → Backs t x s c u v → supports t x s c u v ≡ true
unfolding supports backs
supports_i t x s c u v b =
    some_i (backs t x s c u v) (size t) b.row b.below
    (and_i b.join (and_i (opens_i t s c b.row b.opens) (le-leb (x v) c b.other)))

module _ (t : Table) (q : Query) (hi s : ℕ) (x : ℕ → ℕ) where
  -- (A)
  pub enough : Lower t q hi s x → (u c : ℕ) → s ≤ c → c ≤ hi → met t (ring t q s c) u ≡ true
      → q.k ≤ supporters t x s c u
  unfolding supporters degree
  enough low u c l h m =
      le_trans (ring_degree t q s c u m)
      (count_mono (neighbour t (ring t q s c) u) (supports t x s c u) (names t)
      (λ v o n.
      let y = neighbour_e t (ring t q s c) u v n in
      supports_i t x s c u v (record {
        row = y.row;
        below = y.below;
        join = y.join;
        opens = ring_opens t q s c y.row (in_marked t q s c y.row y.has);
        other =
            low.under v c l h
            (met_i t (ring t q s c) y.row v y.below y.has (joins_touch t y.row u v y.join).1);
      })))

  module _ (fits : hi < never) (closed : (u : ℕ) → Closed t q s x u) where
    -- below never, closed means supporters
    closed_enough : (u : ℕ) → x u ≤ hi → q.k ≤ supporters t x s (x u) u
    closed_enough u h = ⊎_elim (λ n. absurd (omega arith)) (λ e. e) (closed u).enough_or_never

    -- the payments that open by c, between accounts whose x is at most c
    held : ℕ → ℕ → Bool
    held c j = opens_by t s c j and leb (x (first_of t j)) c and leb (x (second_of t j)) c

    record Held (c j : ℕ) : Type 0 where
      opens : Opens t s c j
      one : x (first_of t j) ≤ c
      two : x (second_of t j) ≤ c

    held_e : (c j : ℕ) → held c j ≡ true → Held c j
    unfolding held
    held_e c j h =
        let d = opens_by t s c j in
        let a = leb (x (first_of t j)) c in
        let b = leb (x (second_of t j)) c in
        let r = and_r d (a and b) h in
        record {
          opens = opens_e t s c j (and_l d (a and b) h);
          one = leb-true (x (first_of t j)) c (and_l a b r);
          two = leb-true (x (second_of t j)) c (and_r a b r);
        }

    held_i : (c j : ℕ) → Held c j → held c j ≡ true
    unfolding held
    held_i c j h =
        and_i (opens_i t s c j h.opens)
        (and_i (le-leb (x (first_of t j)) c h.one) (le-leb (x (second_of t j)) c h.two))

    core : ℕ → List Bool
    core c = tabulate (held c) 0 (size t)

    -- a supporter of an account with x u ≤ c is a neighbour among these payments
    core_row : (c u v : ℕ) → x u ≤ c → (b : Backs t x s (x u) u v) → marked (core c) b.row ≡ true
    unfolding core
    core_row c u v l b =
        let p = b.other in
        let d = b.opens.to in
        let o : Opens t s c b.row = record { from = b.opens.from; to = omega arith } in
        marked_tabulate_i (held c) (size t) b.row b.below
        (held_i c b.row
        (⊎_elim (λ e. record {
          opens = o;
          one = subst (λ (a : ℕ). x a ≤ c) (sym e.0) l;
          two = subst (λ (a : ℕ). x a ≤ c) (sym e.1) (omega arith);
        })
        (λ e. record {
          opens = o;
          one = subst (λ (a : ℕ). x a ≤ c) (sym e.0) (omega arith);
          two = subst (λ (a : ℕ). x a ≤ c) (sym e.1) l;
        })
        (joins_cases t b.row u v b.join)))

    core_degree : (c u : ℕ) → c ≤ hi → x u ≤ c → q.k ≤ degree t (core c) u
    unfolding supporters degree
    core_degree c u h l =
        le_trans (closed_enough u (le_trans l h))
        (count_mono (supports t x s (x u) u) (neighbour t (core c) u) (names t)
        (λ v o n. let b = supports_e t x s (x u) u v n in
        neighbour_i t (core c) b.row u v b.below (core_row c u v l b) b.join))

    core_within : (c : ℕ) → Within (core c) (window_rows t s c)
    unfolding core
    core_within c =
        record {
          all = λ j h.
              let w = marked_tabulate_e (held c) (size t) j h in
              let y = held_e c j w.1 in
              window_i t s c j
              (record { row = w.0; from = y.opens.from; to = le_trans (open_own t s j) y.opens.to });
        }

    core_good : (c : ℕ) → c ≤ hi → Good t q (core c)
    unfolding core
    core_good c h =
        record {
          neighbours = λ u m.
              let y = met_e t (core c) u m in
              let z = held_e c y.row (marked_tabulate_e (held c) (size t) y.row y.has).1 in
              core_degree c u h
              (⊎_elim (λ e. subst (λ (a : ℕ). x a ≤ c) e z.one) (λ e. subst (λ (a : ℕ). x a ≤ c) e z.two)
              (touch_cases t y.row u y.touch));
        }

    -- (B)
    pub closed_met : 1 ≤ q.k → (u : ℕ) → x u ≤ hi → met t (ring t q s (x u)) u ≡ true
    unfolding supporters
    closed_met k u h =
        let w = count_some (supports t x s (x u) u) (names t) (le_trans k (closed_enough u h)) in
        let b = supports_e t x s (x u) u w.it w.has in
        met_i t (ring t q s (x u)) b.row u b.below
        ((ring_holds t q s (x u) (core (x u)) (core_within (x u)) (core_good (x u) h)).all b.row
        (core_row (x u) u w.it (le_refl (x u)) b))
        (joins_touch t b.row u w.it b.join).0

    -- the supporting payment shows that x u is a day of the range
    closed_from : 1 ≤ q.k → (u : ℕ) → x u ≤ hi → s ≤ x u
    unfolding supporters
    closed_from k u h =
        let w = count_some (supports t x s (x u) u) (names t) (le_trans k (closed_enough u h)) in
        let b = supports_e t x s (x u) u w.it w.has in
        le_trans b.opens.from (le_trans (open_own t s b.row) b.opens.to)

    -- lower and closed everywhere: the core times
    pub fixpoint : 1 ≤ q.k → ((u : ℕ) → (x u ≤ hi) ⊎ (x u ≡ never)) → Lower t q hi s x → (u : ℕ)
        → x u ≡ account_time t q hi s u
    fixpoint k days low u = go (days u) (account_time_lem t q hi s u)
      where
        a : ℕ
        a = account_time t q hi s u

        go : (x u ≤ hi) ⊎ (x u ≡ never) → Time s hi a → x u ≡ a
        go (◌⊎◌.inl h) y =
            let r : a ≤ x u = account_reach_i t q hi s u (x u) (closed_from k u h) h (closed_met k u h) in
            let d = time_day {s = s} {hi = hi} fits y (omega arith) in
            le_antisymm (low.under u a d.0 d.1 (account_reach_e t q hi s fits u a d.1 (le_refl a))) r
        go (◌⊎◌.inr n) (◌⊎◌.inl m) = n ∙ sym m
        go (◌⊎◌.inr n) (◌⊎◌.inr d) =
            let r : x u ≤ a = low.under u a d.0 d.1 (account_reach_e t q hi s fits u a d.1 (le_refl a)) in
            let e = d.1 in absurd (omega arith)

module _ (t : Table) (q : Query) (hi s : ℕ) (fits : hi < never) where
  pub times_lower : Lower t q hi s (account_time t q hi s)
  times_lower = record { under = λ u c l h m. account_reach_i t q hi s u c l h m }

  pub times_closed : (u : ℕ) → Closed t q s (account_time t q hi s) u
  times_closed u =
      record {
        enough_or_never =
            ⊎_elim ◌⊎◌.inl
            (λ d. ◌⊎◌.inr
            (enough t q hi s (account_time t q hi s) times_lower u (account_time t q hi s u) d.0 d.1
            (account_reach_e t q hi s fits u (account_time t q hi s u) d.1 (le_refl (account_time t q hi s u)))))
            (account_time_lem t q hi s u);
      }

  -- the core times at s are lower at a later start
  pub lower_next : (s' : ℕ) → s ≤ s' → Lower t q hi s' (account_time t q hi s)
  lower_next s' l =
      record {
        under = λ u c o h m. account_reach_i t q hi s u c (le_trans l o) h
            (met_mono t u (ring_grows t q l (le_refl c)) m);
      }
