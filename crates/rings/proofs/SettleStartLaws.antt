-- The first and the last state of a start that is settled (src/settle.rt).
--     split_rises, core_days, settle_start, settle_end from the core times at s, with those waiting who lost a
--         supporter, to the core times at the next start, with nobody waiting
--     core_never                                       who has no core time keeps none
--     slack_ones, all_raised                            after a peel nobody is known to have a supporter to spare,
--                                                       and any time may be another
--     Filled, filled_start, filled_next                a list that is written from the front
-- Assumes nothing.
use Prim.Native.Nat.{ℕ, ◌+◌, ◌≤◌, ◌<◌}
use native.Mathlib.Nat.{le_refl, le_trans, eq-or-lt_of_le, not-suc-le-zero}
use native.Mathlib.Omega.{arith}
use mathlib.Core.Path.{◌≡◌, refl, sym, ◌∙◌, ap, subst}
use mathlib.Core.Logic.{◌⊎◌, ⊎_elim}
use mathlib.Core.Bool.{true}
use mathlib.Core.List.{List}
use lib.ListN.{length, get_or, set, length-set}
use lib.Seq.{get_or-set_same, get_or-set_other}
use lib.Dec.{leb}
use borrow.Author.Tests.{leb-true, leb-false}
use Rattle.rings.specs.Table.{Table, table_of, Split}
use Rattle.rings.specs.Ring.{names, ring}
use Rattle.rings.specs.CoreTimes.{never, account_time}
use Rattle.rings.specs.Inner.Support.{supports, supporters}
use Rattle.rings.specs.Inner.Peeling.{Setting, frame_of, estimate, CoreTimesAre}
use Rattle.rings.specs.Inner.Settling.{backing, backers, Days, Settling, Leaving, Queued, Raised, Rising, Slack}
use Rattle.rings.specs.declared.Query.{Query}
use Rattle.rings.proofs.WordLaws.{true_or_false, count_mono}
use Rattle.rings.proofs.RingLaws.{joins_touch, met_e}
use Rattle.rings.proofs.LeadLaws.{counts_here, lead_on}
use Rattle.rings.proofs.FixpointLaws.{supports_e, supports_i, Closed, fixpoint, times_closed, lower_next}
use Rattle.rings.proofs.CoreTimeLaws.{account_time_lem}
use Rattle.rings.proofs.CoreTimeLaws as core_time
use Rattle.rings.proofs.PeelStateLaws.{estimate_at, estimate_far, touch_small}
use Rattle.rings.proofs.BackerLaws.{backing_e, backing_i, backers_are}
use Rattle.rings.proofs.SettleLaws.{count_split}

-- ---- the first and the last of a start

-- no row leaves twice
pub split_rises : {d : List ℕ} {s lo next : ℕ} → Split d s lo → Split d (s + 1) next → lo ≤ next
split_rises {d} {s} {lo} {next} a b =
    ⊎_elim (λ y. leb-true lo next y)
    (λ y.
    let k = leb-false lo next y in
    let x = a.before next k in
    let w = a.within in
    let z = b.after next (le_refl next) (omega arith) in
    absurd (omega arith))
    (true_or_false (leb lo next))

module _ (d f g : List ℕ) (q : Query) (s te lo : ℕ) (S : Setting (table_of d f g) q s te lo) where
  abbrev ts : Table
  ts = table_of d f g

  at_core : {xs : List ℕ} → CoreTimesAre (table_of d f g) (frame_of q s te lo) xs → (u : ℕ) → u < 4096
      → estimate xs u ≡ account_time ts q te s u
  at_core {xs} C u l = estimate_at xs u C.long l ∙ C.times u l

  pub core_days : {xs : List ℕ} → CoreTimesAre (table_of d f g) (frame_of q s te lo) xs → Days te xs
  core_days {xs} C v l =
      subst (λ (c : ℕ). (c ≤ te) ⊎ (c ≡ never)) (sym (C.times v l))
      (⊎_elim ◌⊎◌.inr (λ w. ◌⊎◌.inl w.1) (account_time_lem ts q te s v))

  same_supporters : {xs : List ℕ}
      → CoreTimesAre (table_of d f g) (frame_of q s te lo) xs
      → (c u : ℕ) → supporters ts (account_time ts q te s) s c u ≤ supporters ts (estimate xs) s c u
  unfolding supporters
  same_supporters {xs} C c u =
      count_mono (supports ts (account_time ts q te s) s c u) (supports ts (estimate xs) s c u) (names ts)
      (λ v l h.
      let b = supports_e ts (account_time ts q te s) s c u v h in
      supports_i ts (estimate xs) s c u v
      (record {
        row = b.row;
        below = b.below;
        join = b.join;
        opens = b.opens;
        other = subst (λ (a : ℕ). a ≤ c)
            (sym (at_core C v
            (touch_small ts q s te lo S b.row v b.below (joins_touch ts b.row u v b.join).1)))
            b.other;
      }))

  -- after a peel nobody is known to have a supporter to spare
  pub slack_ones : {xs sp : List ℕ} → CoreTimesAre (table_of d f g) (frame_of q s te lo) xs → length sp ≡ 4096
      → ((u : ℕ) → u < 4096 → get_or sp u 0 ≡ 1) → Slack ts q s xs sp
  slack_ones {xs} {sp} C l ones =
      record {
        long = l;
        known = λ u h. let e = ones u h in omega arith;
        enough = λ u h.
            ⊎_elim ◌⊎◌.inl (λ m. let e = ones u h in ◌⊎◌.inr (omega arith))
            (subst (λ (c : ℕ). (c ≡ never) ⊎ (q.k ≤ supporters ts (estimate xs) s c u)) (sym (C.times u h))
            (⊎_elim ◌⊎◌.inl (λ m. ◌⊎◌.inr (le_trans m (same_supporters C (account_time ts q te s u) u)))
            (times_closed ts q te s S.fits u).enough_or_never));
      }

  -- the rows dated s have left
  module _ {next : ℕ} (S' : Setting (table_of d f g) q (s + 1) te next) (up : lo ≤ next) (within : next ≤ length d)
      {xs sp₀ sp ws₀ ws : List ℕ} {r : ℕ} (C : CoreTimesAre (table_of d f g) (frame_of q s te lo) xs)
      (P : Slack ts q s xs sp₀) (F : Leaving ts (estimate xs) lo next sp₀ sp) (Q : Queued 0 sp₀ ws₀ r sp ws) where
    backing_on : (c u j : ℕ) → next ≤ j → backing ts (estimate xs) lo c u j ≡ true
        → backing ts (estimate xs) next c u j ≡ true
    backing_on c u j h b =
        let e = backing_e ts q s te lo S (estimate xs) c u j b in
        backing_i ts q (s + 1) te next S' (estimate xs) c u j
        (record { is_lead = lead_on ts up j (counts_here ts next j h) e.is_lead; touch = e.touch; by = e.by })

    fewer : (c u : ℕ)
        → supporters ts (estimate xs) s c u
        ≤ backers ts (estimate xs) lo c u next + supporters ts (estimate xs) (s + 1) c u
    unfolding backers
    fewer c u =
        let a = backers_are ts q s te lo S (estimate xs) c u in
        let b = backers_are ts q (s + 1) te next S' (estimate xs) c u in
        let m = count_split (backing ts (estimate xs) lo c u) (backing ts (estimate xs) next c u) next
        (length d) within (λ i h l o. backing_on c u i h o) in
        omega arith

    pub settle_start : r ≤ 4352 → Rising ts q te (s + 1) xs xs sp ws 0 r 0
    settle_start top =
        record {
          settling =
              record {
                long = C.long;
                long_slack = F.long;
                days = core_days C;
                lower = λ u c h o m.
                    let row = met_e ts (ring ts q (s + 1) c) u m in
                    let l : u < 4096 = touch_small ts q s te lo S row.row u row.below row.touch in
                    subst (λ (a : ℕ). a ≤ c) (sym (at_core C u l))
                    ((lower_next ts q te s S.fits (s + 1) (omega arith)).under u c h o m);
                enough = λ u l h. ⊎_elim ◌⊎◌.inl (λ m. ⊎_elim (λ e. ◌⊎◌.inl (sym (estimate_at xs u C.long l) ∙ e))
                    (λ b. let e = estimate_at xs u C.long l in
                    let p = ap (λ (c : ℕ). supporters ts (estimate xs) s c u) e in
                    let v = ap (λ (c : ℕ). supporters ts (estimate xs) (s + 1) c u) e in
                    let w = fewer (estimate xs u) u in ◌⊎◌.inr (omega arith)) (F.less u l)) (P.enough u l);
              };
          waiting =
              record {
                long = Q.long;
                ordered = omega arith;
                waits = λ u l z.
                    ⊎_elim (λ o. let a = P.known u l in absurd (omega arith)) (λ p. p) (Q.waits top u l z);
                small = λ i a b. Q.small i a b (omega arith);
              };
          behind = le_refl 0;
          raised =
              record {
                long = Q.long;
                within = omega arith;
                small = λ i a. absurd (not-suc-le-zero a);
                listed = λ u l n. absurd (n refl);
              };
        }

  pub settle_end : {xs₀ xs sp ws : List ℕ} {head tail r : ℕ}
      → Rising ts q te s xs₀ xs sp ws head tail r
      → tail ≤ head
      → CoreTimesAre (table_of d f g) (frame_of q s te lo) xs × Slack ts q s xs sp × Raised xs₀ xs ws r
  settle_end {xs₀} {xs} {sp} {ws} {head} {tail} {r} Z out = (
    record {
      long = T.long;
      times = λ u l. sym (estimate_at xs u T.long l)
          ∙ fixpoint ts q te s (estimate xs) S.fits closed S.some_k days (record { under = T.lower }) u;
    },
    record { long = T.long_slack; known = some; enough = λ u l. T.enough u l (some u l) },
    Z.raised,
  )
    where
      T : Settling ts q te s xs sp
      T = Z.settling

      some : (u : ℕ) → u < 4096 → 1 ≤ get_or sp u 0
      some u l =
          ⊎_elim (λ y. leb-true 1 (get_or sp u 0) y)
          (λ y.
          let a = leb-false 1 (get_or sp u 0) y in
          let p = Z.waiting.waits u l (omega arith) in
          let b = p.from in
          let c = p.below in
          absurd (omega arith))
          (true_or_false (leb 1 (get_or sp u 0)))

      split : (v : ℕ) → (v < 4096) ⊎ (4096 ≤ v)
      split v =
          ⊎_elim (λ y. ◌⊎◌.inr (leb-true 4096 v y)) (λ y. ◌⊎◌.inl (leb-false 4096 v y)) (true_or_false (leb 4096 v))

      closed : (v : ℕ) → Closed ts q s (estimate xs) v
      closed v =
          record {
            enough_or_never = ⊎_elim
                (λ l. subst (λ (c : ℕ). (c ≡ never) ⊎ (q.k ≤ supporters ts (estimate xs) s c v))
                (sym (estimate_at xs v T.long l))
                (⊎_elim ◌⊎◌.inl (λ m. let a = some v l in ◌⊎◌.inr (omega arith)) (T.enough v l (some v l))))
                (λ l. ◌⊎◌.inl (estimate_far xs v T.long l)) (split v);
          }

      days : (v : ℕ) → (estimate xs v ≤ te) ⊎ (estimate xs v ≡ never)
      days v =
          ⊎_elim
          (λ l. subst (λ (c : ℕ). (c ≤ te) ⊎ (c ≡ never)) (sym (estimate_at xs v T.long l)) (T.days v l))
          (λ l. ◌⊎◌.inr (estimate_far xs v T.long l)) (split v)

-- ---- lists written from the front

pub record Filled (g : ℕ → ℕ) (m n : ℕ) (xs : List ℕ) : Type 0 where
  pub long : length xs ≡ m
  pub filled : (i : ℕ) → i < n → get_or xs i 0 ≡ g i

pub filled_start : (g : ℕ → ℕ) {m : ℕ} (xs : List ℕ) → length xs ≡ m → Filled g m 0 xs
filled_start g xs l = record { long = l; filled = λ i h. absurd (not-suc-le-zero h) }

pub filled_next : {g : ℕ → ℕ} {m n z : ℕ} {xs ys : List ℕ} → Filled g m n xs → n < m → z ≡ g n → ys ≡ set xs n z
    → Filled g m (n + 1) ys
filled_next {g} {m} {n} {z} {xs} F l e h =
    subst (Filled g m (n + 1)) (sym h)
    (record {
      long = length-set xs n z ∙ F.long;
      filled = λ i k.
          ⊎_elim
          (λ y. ap (λ (a : ℕ). get_or (set xs n z) a 0) y
          ∙ (get_or-set_same xs n z 0 (let o = F.long in omega arith) ∙ (e ∙ ap g (sym y))))
          (λ y. get_or-set_other xs n i z 0 (λ o. let w : i ≡ n = o in absurd (omega arith)) ∙ F.filled i y)
          (eq-or-lt_of_le (omega arith));
    })

pub all_raised : {xs ys ws : List ℕ} → length ws ≡ 4352 → ((u : ℕ) → u < 4096 → get_or ws u 0 ≡ u) → Raised xs ys ws 4096
all_raised l h =
    record {
      long = l;
      within = omega arith;
      small = λ i k. let e = h i k in omega arith;
      listed = λ u k n. record { place = u; from = omega arith; below = k; is = h u k };
    }

-- who has no core time at s has none at the day after it
pub core_never : {d f g : List ℕ} {q : Query} {s te lo next : ℕ} {xs ys : List ℕ}
    → te < never
    → CoreTimesAre (table_of d f g) (frame_of q s te lo) xs
    → CoreTimesAre (table_of d f g) (frame_of q (s + 1) te next) ys
    → (v : ℕ) → estimate xs v ≡ never
    → estimate ys v ≡ never
core_never {d} {f} {g} {q} {s} {te} {xs = xs} {ys = ys} fits C D v e =
    ⊎_elim (λ y. estimate_far ys v D.long (leb-true 4096 v y))
    (λ y. let l = leb-false 4096 v y in
    estimate_at ys v D.long l
    ∙ (D.times v l
    ∙ core_time.account_never (table_of d f g) q te fits (omega arith) v
    (sym (C.times v l) ∙ (sym (estimate_at xs v C.long l) ∙ e))))
    (true_or_false (leb 4096 v))
