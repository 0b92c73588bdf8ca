-- Core times by the days that reach them. A time is a day of [s, hi] or never; a day e of [s, hi] reaches it if the
-- time is at most e.
--     Time s hi x              x is such a time
--     same_time                two times that the same days reach are equal
--     account_reach_i, -e      e reaches an account's core time exactly if the account is met in the ring of [s, e]
--     row_reach_i, -e          e reaches a row's core time exactly if the row is in the ring of [s, e]
--     row_max                  a row's core time is the greatest of its accounts' and its own day (001, Lemma 1 and
--                              Algorithm 2)
--     row_before, row_after, row_past     a row before s, after hi or outside the table has never
--     ring_size                a ring has as many rows as have a core time of at most its end
--     account_later, row_later            core times rise with the start
--     account_never, row_never            so what has none has none later
--     rows_untimed               where no account has a core time no row has one
--     account_absent, times_absent        an account that no row has has never; so has each of a column, from one
--                                         more than the greatest account on
--     time_le, time_day     a time is at most never, and below never a day of the range
--     account_time_lem, row_time_lem     core times are such times
--     row_outside, row_day     a row outside the range has never, any other its own day or a later one
-- Assumes nothing.
use Prim.Native.Nat.{ℕ, zero, suc, ◌+◌, ◌-◌, max, ◌≤◌, ◌<◌}
use native.Mathlib.Nat.{le_refl, le_trans, le_antisymm, eq-or-lt_of_le}
use native.Mathlib.Omega.{arith}
use mathlib.Core.Path.{◌≡◌, refl, sym, ◌∙◌, ap, subst}
use mathlib.Core.Logic.{◌⊎◌, ⊎_elim}
use mathlib.Core.Bool.{Bool, true, false}
use mathlib.Core.List.{◌∷◌}
use lib.ListN.{replicate}
use lib.Dec.{leb}
use borrow.Author.Tests.{leb-true, le-leb}
use Rattle.rings.specs.Words.{marked, count, tabulate}
use Rattle.rings.specs.Table.{Table, size, day_of, first_of, second_of}
use Rattle.rings.specs.Ring.{names, met, ring, in_ring, members}
use Rattle.rings.specs.CoreTimes.{never, least, account_time, row_time}
use Rattle.rings.specs.declared.Query.{Query}
use Rattle.rings.proofs.WordLaws.{true_or_false, clash, same_truth, count_same}
use Rattle.rings.proofs.RingLaws.{Inside, met_e, met_mono, in_window_lem, two_met, met_first, met_second}
use Rattle.rings.proofs.RingLaws.{ring_grows, in_grows, ring_sized, in_marked, marked_in}
use Rattle.rings.proofs.OthersLaws.{touch_named}

-- ---- the least day that has a property

least_yes : (p : ℕ → Bool) (s n : ℕ) → p s ≡ true → least p s (suc n) ≡ s
unfolding least
least_yes p s n h = ap (λ (b : Bool). elim b as (λ _. ℕ) [ true ↦ s | false ↦ least p (suc s) n ]) h

least_no : (p : ℕ → Bool) (s n : ℕ) → p s ≡ false → least p s (suc n) ≡ least p (suc s) n
unfolding least
least_no p s n h = ap (λ (b : Bool). elim b as (λ _. ℕ) [ true ↦ s | false ↦ least p (suc s) n ]) h

-- the least is one of the n numbers from s on, has p, and no lower one has; or it is never
record Least (p : ℕ → Bool) (s n x : ℕ) : Type 0 where
  from : s ≤ x
  below : x < s + n
  has : p x ≡ true

least_cases : (p : ℕ → Bool) (s n : ℕ) → (least p s n ≡ never) ⊎ Least p s n (least p s n)
unfolding least
least_cases p s zero = ◌⊎◌.inl refl
least_cases p s (suc n) =
    ⊎_elim (λ h. ◌⊎◌.inr
    (subst (Least p s (suc n)) (sym (least_yes p s n h))
    (record { from = le_refl s; below = omega arith; has = h })))
    (λ h. subst (λ (x : ℕ). (x ≡ never) ⊎ Least p s (suc n) x) (sym (least_no p s n h))
    (⊎_elim ◌⊎◌.inl
    (λ l. ◌⊎◌.inr (record { from = omega (arith, l.from); below = omega (arith, l.below); has = l.has }))
    (least_cases p (suc s) n)))
    (true_or_false (p s))

least_le : (p : ℕ → Bool) (s n e : ℕ) → s ≤ e → e < s + n → p e ≡ true → least p s n ≤ e
least_le p s zero e h l k = absurd (omega arith)
least_le p s (suc n) e h l k =
    ⊎_elim (λ a. subst (λ (x : ℕ). x ≤ e) (sym (least_yes p s n a)) h)
    (λ a. subst (λ (x : ℕ). x ≤ e) (sym (least_no p s n a)) (least_le p (suc s) n e (later a) (omega arith) k))
    (true_or_false (p s))
  where
    later : p s ≡ false → suc s ≤ e
    later a = ⊎_elim (λ q. clash k (subst (λ (x : ℕ). p x ≡ false) q a)) (λ q. q) (eq-or-lt_of_le h)

-- ---- times

abbrev pub Time : ℕ → ℕ → ℕ → Type 0
Time s hi x = (x ≡ never) ⊎ ((s ≤ x) × (x ≤ hi))

module _ {s hi : ℕ} (fits : hi < never) where
  pub time_le : {x : ℕ} → Time s hi x → x ≤ never
  time_le (◌⊎◌.inl e) = omega (arith, e)
  time_le (◌⊎◌.inr r) = omega (arith, r.1)

  -- below never a time is a day of the range
  pub time_day : {x : ℕ} → Time s hi x → x < never → (s ≤ x) × (x ≤ hi)
  time_day (◌⊎◌.inl e) l = absurd (omega arith)
  time_day (◌⊎◌.inr r) l = r

  pub same_time : {x y : ℕ} → Time s hi x → Time s hi y → ((e : ℕ) → s ≤ e → e ≤ hi → x ≤ e → y ≤ e)
      → ((e : ℕ) → s ≤ e → e ≤ hi → y ≤ e → x ≤ e) → x ≡ y
  same_time (◌⊎◌.inl a) (◌⊎◌.inl b) f g = a ∙ sym b
  same_time {x} {y} (◌⊎◌.inl a) (◌⊎◌.inr b) f g =
      let h : x ≤ y = g y b.0 b.1 (le_refl y) in absurd (omega (arith, b.1))
  same_time {x} {y} (◌⊎◌.inr a) (◌⊎◌.inl b) f g =
      let h : y ≤ x = f x a.0 a.1 (le_refl x) in absurd (omega (arith, a.1))
  same_time {x} {y} (◌⊎◌.inr a) (◌⊎◌.inr b) f g =
      le_antisymm (g y b.0 b.1 (le_refl y)) (f x a.0 a.1 (le_refl x))

  -- the greatest of two times and a day of the range is a time
  time_max : {x y d : ℕ} → Time s hi x → Time s hi y → s ≤ d → d ≤ hi → Time s hi (max (max x y) d)
  time_max {x} {y} {d} (◌⊎◌.inl a) b l h = let c : y ≤ never = time_le b in ◌⊎◌.inl (omega arith)
  time_max {x} {y} {d} (◌⊎◌.inr a) (◌⊎◌.inl b) l h = ◌⊎◌.inl (omega (arith, a.1))
  time_max {x} {y} {d} (◌⊎◌.inr a) (◌⊎◌.inr b) l h = ◌⊎◌.inr (omega (arith, a.0), omega (arith, a.1, b.1))

-- the candidates for a time: the days from s to hi
range_end : (s hi x : ℕ) → x < s + (suc hi - s) → s ≤ x → x ≤ hi
range_end s hi x h l = omega arith

in_range : (s hi e : ℕ) → s ≤ e → e ≤ hi → e < s + (suc hi - s)
in_range s hi e h l = omega arith

module _ (p : ℕ → Bool) (s hi : ℕ) where
  least_time : Time s hi (least p s (suc hi - s))
  least_time =
      ⊎_elim ◌⊎◌.inl (λ l. ◌⊎◌.inr (l.from, range_end s hi (least p s (suc hi - s)) l.below l.from))
      (least_cases p s (suc hi - s))

  reach_i : (e : ℕ) → s ≤ e → e ≤ hi → p e ≡ true → least p s (suc hi - s) ≤ e
  reach_i e l h k = least_le p s (suc hi - s) e l (in_range s hi e l h) k

  reach_e : hi < never → ((a b : ℕ) → a ≤ b → p a ≡ true → p b ≡ true) → (e : ℕ) → e ≤ hi
      → least p s (suc hi - s) ≤ e → p e ≡ true
  reach_e fits up e h l =
      ⊎_elim (λ n. absurd (omega arith)) (λ x. up (least p s (suc hi - s)) e l x.has) (least_cases p s (suc hi - s))

  -- where no day of the range has p, the time is never
  none_never : ((e : ℕ) → s ≤ e → e ≤ hi → p e ≡ false) → least p s (suc hi - s) ≡ never
  none_never f =
      ⊎_elim (λ n. n)
      (λ x. clash x.has
      (f (least p s (suc hi - s)) x.from (range_end s hi (least p s (suc hi - s)) x.below x.from)))
      (least_cases p s (suc hi - s))

module _ (t : Table) (q : Query) (hi : ℕ) where
  module _ (s : ℕ) where
    pub account_time_lem : (u : ℕ) → Time s hi (account_time t q hi s u)
    unfolding account_time
    account_time_lem u = least_time (λ e. met t (ring t q s e) u) s hi

    pub account_reach_i : (u e : ℕ) → s ≤ e → e ≤ hi → met t (ring t q s e) u ≡ true → account_time t q hi s u ≤ e
    unfolding account_time
    account_reach_i u e = reach_i (λ e. met t (ring t q s e) u) s hi e

    pub account_reach_e : hi < never → (u e : ℕ) → e ≤ hi → account_time t q hi s u ≤ e → met t (ring t q s e) u ≡ true
    unfolding account_time
    account_reach_e fits u =
        reach_e (λ e. met t (ring t q s e) u) s hi fits (λ a b l. met_mono t u (ring_grows t q (le_refl s) l))

    pub row_time_lem : (j : ℕ) → Time s hi (row_time t q hi s j)
    unfolding row_time
    row_time_lem j = least_time (λ e. in_ring t q s e j) s hi

    pub row_reach_i : (j e : ℕ) → s ≤ e → e ≤ hi → in_ring t q s e j ≡ true → row_time t q hi s j ≤ e
    unfolding row_time
    row_reach_i j e = reach_i (λ e. in_ring t q s e j) s hi e

    pub row_reach_e : hi < never → (j e : ℕ) → e ≤ hi → row_time t q hi s j ≤ e → in_ring t q s e j ≡ true
    unfolding row_time
    row_reach_e fits j = reach_e (λ e. in_ring t q s e j) s hi fits (λ a b l. in_grows t q j (le_refl s) l)

    -- 01: "it is the greatest of its two accounts' core times and its own day"
    pub row_max : hi < never
        → (j : ℕ) → Inside t s hi j
        → row_time t q hi s j
        ≡ max (max (account_time t q hi s (first_of t j)) (account_time t q hi s (second_of t j))) (day_of t j)
    row_max fits j i =
        same_time {s = s} {hi = hi} fits (row_time_lem j)
        (time_max {s = s} {hi = hi} fits (account_time_lem (first_of t j)) (account_time_lem (second_of t j)) i.from
        i.to)
        (λ e l h r. let k = row_reach_e fits j e h r in
        let a : account_time t q hi s (first_of t j) ≤ e = account_reach_i (first_of t j) e l h (met_first t q s e j k) in
        let b : account_time t q hi s (second_of t j) ≤ e =
        account_reach_i (second_of t j) e l h (met_second t q s e j k) in
        let d : day_of t j ≤ e = (in_window_lem t q s e j k).to in omega arith)
        (λ e l h r. row_reach_i j e l h
        (two_met t q s e j (record { row = i.row; from = i.from; to = omega arith })
        (account_reach_e fits (first_of t j) e h (omega arith))
        (account_reach_e fits (second_of t j) e h (omega arith))))

    -- 01: "A row before s or after Te has never"
    pub row_outside : (j : ℕ) → (Inside t s hi j → ⊥) → row_time t q hi s j ≡ never
    unfolding row_time
    row_outside j f =
        none_never (λ e. in_ring t q s e j) s hi
        (λ e l h. ⊎_elim
        (λ k. let w = in_window_lem t q s e j k in
        absurd (f (record { row = w.row; from = w.from; to = le_trans w.to h })))
        (λ k. k) (true_or_false (in_ring t q s e j)))

    pub row_before : (j : ℕ) → day_of t j < s → row_time t q hi s j ≡ never
    row_before j h = row_outside j (λ i. let f = i.from in omega arith)

    pub row_after : (j : ℕ) → hi < day_of t j → row_time t q hi s j ≡ never
    row_after j h = row_outside j (λ i. let f = i.to in omega arith)

    pub row_past : (j : ℕ) → size t ≤ j → row_time t q hi s j ≡ never
    row_past j h = row_outside j (λ i. let f = i.row in omega arith)

    -- a time that is a day of the range is the row's day or later
    pub row_day : hi < never → (j : ℕ) → row_time t q hi s j ≤ hi → day_of t j ≤ row_time t q hi s j
    row_day fits j h =
        (in_window_lem t q s (row_time t q hi s j) j
        (row_reach_e fits j (row_time t q hi s j) h (le_refl (row_time t q hi s j)))).to

    -- the rows of the ring of [s, e] are those that e reaches
    pub ring_size : hi < never → (e : ℕ) → s ≤ e → e ≤ hi
        → members (ring t q s e) ≡ count (λ j. leb (row_time t q hi s j) e) (size t)
    unfolding members
    ring_size fits e l h =
        ap (count (marked (ring t q s e))) (ring_sized t q s e)
        ∙ count_same (marked (ring t q s e)) (λ j. leb (row_time t q hi s j) e) (size t)
        (λ j o. same_truth (marked (ring t q s e) j) (leb (row_time t q hi s j) e) (in_row j) (row_in j))
      where
        in_row : (j : ℕ) → marked (ring t q s e) j ≡ true → leb (row_time t q hi s j) e ≡ true
        in_row j k = le-leb (row_time t q hi s j) e (row_reach_i j e l h (in_marked t q s e j k))

        row_in : (j : ℕ) → leb (row_time t q hi s j) e ≡ true → marked (ring t q s e) j ≡ true
        row_in j k = marked_in t q s e j (row_reach_e fits j e h (leb-true (row_time t q hi s j) e k))

  -- core times rise with the start: those at s are lower bounds at a later start
  module _ (fits : hi < never) {s s' : ℕ} (later : s ≤ s') where
    pub account_later : (u : ℕ) → account_time t q hi s u ≤ account_time t q hi s' u
    account_later u = go (account_time_lem s' u)
      where
        go : Time s' hi (account_time t q hi s' u) → account_time t q hi s u ≤ account_time t q hi s' u
        go (◌⊎◌.inl n) =
            subst (λ (x : ℕ). account_time t q hi s u ≤ x) (sym n) (time_le {s = s} {hi = hi} fits (account_time_lem s u))
        go (◌⊎◌.inr r) =
            account_reach_i s u (account_time t q hi s' u) (le_trans later r.0) r.1
            (met_mono t u (ring_grows t q later (le_refl (account_time t q hi s' u)))
            (account_reach_e s' fits u (account_time t q hi s' u) r.1 (le_refl (account_time t q hi s' u))))

    pub row_later : (j : ℕ) → row_time t q hi s j ≤ row_time t q hi s' j
    row_later j = go (row_time_lem s' j)
      where
        go : Time s' hi (row_time t q hi s' j) → row_time t q hi s j ≤ row_time t q hi s' j
        go (◌⊎◌.inl n) =
            subst (λ (x : ℕ). row_time t q hi s j ≤ x) (sym n) (time_le {s = s} {hi = hi} fits (row_time_lem s j))
        go (◌⊎◌.inr r) =
            row_reach_i s j (row_time t q hi s' j) (le_trans later r.0) r.1
            (in_grows t q j later (le_refl (row_time t q hi s' j))
            (row_reach_e s' fits j (row_time t q hi s' j) r.1 (le_refl (row_time t q hi s' j))))

    pub account_never : (u : ℕ) → account_time t q hi s u ≡ never → account_time t q hi s' u ≡ never
    account_never u e =
        let a = account_later u in let b = time_le {s = s'} {hi = hi} fits (account_time_lem s' u) in omega arith

    pub row_never : (j : ℕ) → row_time t q hi s j ≡ never → row_time t q hi s' j ≡ never
    row_never j e = let a = row_later j in let b = time_le {s = s'} {hi = hi} fits (row_time_lem s' j) in omega arith

  pub rows_untimed : hi < never → (s : ℕ) → ((u : ℕ) → u < 4096 → account_time t q hi s u ≡ never) → (j : ℕ)
      → first_of t j < 4096 → row_time t q hi s j ≡ never
  rows_untimed fits s untimed j l =
      ⊎_elim (λ n. n)
      (λ r.
      let h = r.1 in
      let k = row_reach_e s fits j (row_time t q hi s j) h (le_refl (row_time t q hi s j)) in
      let a =
      account_reach_i s (first_of t j) (row_time t q hi s j) r.0 h (met_first t q s (row_time t q hi s j) j k) in
      let e = untimed (first_of t j) l in
      absurd (omega arith))
      (row_time_lem s j)

-- ---- accounts that no row has

module _ (t : Table) (q : Query) (hi s : ℕ) (fits : hi < never) where
  pub account_absent : (u : ℕ) → names t ≤ u → account_time t q hi s u ≡ never
  account_absent u h =
      let x = account_time t q hi s u in
      ⊎_elim (λ n. n)
      (λ d.
      let m = met_e t (ring t q s x) u (account_reach_e t q hi s fits u x d.1 (le_refl x)) in
      let l = touch_named t m.row u m.touch in absurd (omega arith)) (account_time_lem t q hi s u)

  pub times_absent : (i n : ℕ) → names t ≤ i → tabulate (account_time t q hi s) i n ≡ replicate n never
  unfolding tabulate
  times_absent i zero h = refl
  times_absent i (suc n) h =
      let a : account_time t q hi s i ≡ never = account_absent i h in
      let b : tabulate (account_time t q hi s) (suc i) n ≡ replicate n never = times_absent (suc i) n (omega arith) in
      λ k. a k ∷ b k
