-- The starts of a range (specs/Starts.antt): what a part above knows of a state that stays shut, and the loop of
-- `first_time`.
--     start_sound, start_prepared, start_times, start_counts    what a start has: an accepted table, a scratch that
--         is ready, the accounts' times, the rows' day counts
--     times_long, slack_long                        how long its arrays are
--     first_framed                                  what a start from nothing works on
--     Least, least_start, least_next, least_end     the least core time of the rows dated s
-- Assumes nothing.
use Prim.Native.Nat.{ℕ, min, ◌+◌, ◌≤◌, ◌<◌}
use native.Mathlib.Nat.{le_refl, eq-or-lt_of_le}
use native.Mathlib.Omega.{arith}
use mathlib.Core.Path.{◌≡◌, refl, sym, ◌∙◌, ap}
use mathlib.Core.Logic.{◌⊎◌, ⊎_elim}
use mathlib.Core.Bool.{true, false}
use mathlib.Core.List.{List}
use lib.ListN.{length, get_or}
use lib.Dec.{leb, ltb}
use borrow.Author.Tests.{ltb-true, ltb-false, leb-true, leb-false}
use Rattle.rings.specs.Words.{at}
use Rattle.rings.specs.Table.{Table, table_of, day_of, Split}
use Rattle.rings.specs.Sound.{Sound}
use Rattle.rings.specs.CoreTimes.{never, row_time}
use Rattle.rings.specs.Inner.Peeling.{Framed}
use Rattle.rings.specs.declared.frame.Frame.{Frame}
use Rattle.rings.specs.Starts.{CountsAt, DatedTime, Earliest, FirstAsks, Prepared, TimesAt, AtStart}
use Rattle.rings.specs.declared.Query.{Query}
use Rattle.rings.proofs.WordLaws.{true_or_false}
use Rattle.rings.proofs.CoreTimeLaws.{row_past}
use Rattle.rings.proofs.DayLaws.{framed_of, ready_pruned_framed, pruned_paired}

-- ---- the state at a start

module _ {t : Table} {q : Query} {hi s lo : ℕ} {sc times slack counts : List ℕ}
    (A : AtStart t q hi s lo sc times slack counts) where
  pub start_sound : Sound t.days t.first t.second
  start_sound = A.inside.opened.sound

  pub start_prepared : Prepared t sc
  start_prepared = record { inside = pruned_paired A.inside.opened.pruned }

  pub start_times : TimesAt t q hi s lo times
  start_times = record { inside = (ready_pruned_framed A.inside.opened, A.inside.times_are) }

  pub start_counts : CountsAt t q hi s counts
  start_counts = record { long = A.inside.timed.long; each = A.inside.timed.each }

  pub times_long : length times ≡ 4096
  times_long = A.inside.times_are.long

  pub slack_long : length slack ≡ 4096
  slack_long = A.inside.slacks.long

pub first_framed : {d f g : List ℕ} {p : Frame} {end : ℕ} → Sound d f g → FirstAsks d p end → Framed (table_of d f g) p
first_framed S A = framed_of S A.some_k A.in_days A.starts

-- ---- the least core time of the rows dated s

pub record Least (f : ℕ → ℕ) (lo j r : ℕ) : Type 0 where
  pub top : r ≤ never
  pub lower : (i : ℕ) → lo ≤ i → i < j → r ≤ f i
  pub reached : (r ≡ never) ⊎ ((i : ℕ) × (lo ≤ i) × (i < j) × (f i ≡ r))

pub least_start : (f : ℕ → ℕ) (lo : ℕ) → Least f lo lo never
least_start f lo = record { top = le_refl never; lower = λ i a b. absurd (omega arith); reached = ◌⊎◌.inl refl }

pub least_next : {f : ℕ → ℕ} {lo j r time r' : ℕ} → lo ≤ j → Least f lo j r → time ≡ f j → r' ≡ min r time
    → Least f lo (j + 1) r'
least_next {f} {lo} {j} {r} {time} {r'} o L et er =
    record {
      top = let a = L.top in omega arith;
      lower = λ i a b.
          ⊎_elim (λ y. let z : f i ≡ f j = ap f y in omega arith) (λ l. let z = L.lower i a l in omega arith)
          (eq-or-lt_of_le (omega arith));
      reached = which (true_or_false (leb r time));
    }
  where
    old : r' ≡ r → (r ≡ never) ⊎ ((i : ℕ) × (lo ≤ i) × (i < j) × (f i ≡ r))
        → (r' ≡ never) ⊎ ((i : ℕ) × (lo ≤ i) × (i < j + 1) × (f i ≡ r'))
    old e (◌⊎◌.inl n) = ◌⊎◌.inl (e ∙ n)
    old e (◌⊎◌.inr w) = let a = w.2 in ◌⊎◌.inr (w.0, w.1, omega arith, w.3 ∙ sym e)

    which : (leb r time ≡ true) ⊎ (leb r time ≡ false) → (r' ≡ never) ⊎ ((i : ℕ) × (lo ≤ i) × (i < j + 1) × (f i ≡ r'))
    which (◌⊎◌.inl y) = let a = leb-true r time y in old (omega arith) L.reached
    which (◌⊎◌.inr y) = let a = leb-false r time y in ◌⊎◌.inr (j, o, omega arith, omega arith)

pub least_end : {d f s : List ℕ} {p : Frame} {j next r : ℕ}
    → Framed (table_of d f s) p
    → Split d (p.start + 1) next
    → j ≤ next
    → next ≤ j
    → Least (row_time (table_of d f s) p.query p.stop p.start) p.lo j r
    → Earliest (table_of d f s) p.query p.stop p.start r
unfolding day_of at
least_end {d} {f} {s} {p} {j} {next} {r} R N a b L = record { lower = lower; reached = reach L.reached }
  where
    lower : (i : ℕ) → get_or d i 0 ≡ p.start → r ≤ row_time (table_of d f s) p.query p.stop p.start i
    lower i e =
        ⊎_elim (λ y.
        let z = row_past (table_of d f s) p.query p.stop p.start i (leb-true (length d) i y) in
        let w = L.top in omega arith)
        (λ y.
        let k = leb-false (length d) i y in
        ⊎_elim (λ x. let z = R.setting.before_lo i (ltb-true i p.lo x) in absurd (omega arith))
        (λ x. ⊎_elim (λ v. let z = N.after i (leb-true next i v) k in absurd (omega arith))
        (λ v. let g = leb-false next i v in L.lower i (ltb-false i p.lo x) (omega arith))
        (true_or_false (leb next i)))
        (true_or_false (ltb i p.lo)))
        (true_or_false (leb (length d) i))

    reach : (r ≡ never)
        ⊎ ((i : ℕ) × (p.lo ≤ i) × (i < j) × (row_time (table_of d f s) p.query p.stop p.start i ≡ r))
        → (r ≡ never) ⊎ DatedTime (table_of d f s) p.query p.stop p.start r
    reach (◌⊎◌.inl n) = ◌⊎◌.inl n
    reach (◌⊎◌.inr w) =
        let l : w.0 < next = let y = w.2 in omega arith in
        let z = N.before w.0 l in
        let v = R.setting.from_lo w.0 (let g = N.within in omega arith) w.1 in
        let e : get_or d w.0 0 ≡ p.start = omega arith in
        ◌⊎◌.inr (record { row = w.0; dated = e; time_is = w.3 })
