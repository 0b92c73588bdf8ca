-- Core times as columns (src/times.rt).
--     row_early, row_late, row_mid       what `row_time` returns
--     Filled, fill_start, fill_next, fill_end      a column filled from the front
--     accounts_are       the account column
--     row_reads     what the code reads of a row
-- Assumes nothing.
use Prim.Native.Nat.{ℕ, ◌+◌, max, ◌≤◌, ◌<◌}
use native.Mathlib.Nat.{eq-or-lt_of_le, not-suc-le-zero, zero-add}
use native.Mathlib.Omega.{arith}
use mathlib.Core.Path.{◌≡◌, refl, sym, ◌∙◌, ap}
use mathlib.Core.Logic.{⊎_elim}
use mathlib.Core.List.{List}
use lib.ListN.{length, get_or, set, length-set}
use lib.Seq.{ext_get_or, get_or-set_same, get_or-set_other}
use Rattle.rings.specs.Words.{at, tabulate}
use Rattle.rings.specs.Table.{table_of, day_of, first_of, second_of}
use Rattle.rings.specs.CoreTimes.{never, account_time, row_time}
use Rattle.rings.specs.Inner.Adjacency.{open_day}
use Rattle.rings.specs.Inner.Peeling.{Framed, Span, CoreTimesAre, TimesKnown}
use Rattle.rings.specs.declared.frame.Frame.{Frame}
use Rattle.rings.proofs.WordLaws.{length_tabulate, get_d_tabulate}
use Rattle.rings.proofs.RankLaws.{first_small, second_small}
use Rattle.rings.proofs.LeadLaws.{counts_here, open_is, day_opens, row_opens}
use Rattle.rings.proofs.CoreTimeLaws.{row_before, row_after}

module _ (d f s : List ℕ) (q : Frame) {end : ℕ} {x : List ℕ} (K : TimesKnown (table_of d f s) q end x) {j : ℕ}
    (b : j < length d) where
  R : Framed (table_of d f s) q
  R = K.framed

  Sp : Span d q.stop q.lo end
  Sp = K.span

  C : CoreTimesAre (table_of d f s) q x
  C = K.times_are

  a_small : get_or f j 0 < 4096
  a_small = first_small R.sound b refl

  b_small : get_or s j 0 < 4096
  b_small = second_small R.sound b refl

  pub row_early : j < q.lo → never ≡ row_time (table_of d f s) q.query q.stop q.start j
  row_early h = sym (row_before (table_of d f s) q.query q.stop q.start j (R.setting.before_lo j h))

  pub row_late : end ≤ j → never ≡ row_time (table_of d f s) q.query q.stop q.start j
  unfolding day_of at
  row_late h = sym (row_after (table_of d f s) q.query q.stop q.start j (Sp.later j h b))

  pub row_reads : {a c : ℕ} → a ≡ get_or f j 0 → c ≡ get_or s j 0
      → (a < 4096) × (c < 4096) × (a < length x) × (c < length x)
  row_reads ea ec =
      let y = a_small in let z = b_small in let n = C.long in (omega arith, omega arith, omega arith, omega arith)

  pub row_mid : q.lo ≤ j → j < end → {a c g g' : ℕ} → a ≡ get_or f j 0 → c ≡ get_or s j 0
      → g ≡ max (get_or x a 0) (get_or x c 0) → g' ≡ max g (get_or d j 0)
      → g' ≡ row_time (table_of d f s) q.query q.stop q.start j
  unfolding first_of second_of day_of at
  row_mid h k {a} {c} {g} {g'} ea ec eg eg' =
      eg'
      ∙ (ap (λ (y : ℕ). max y (get_or d j 0))
      (eg
      ∙ (ap (λ (y : ℕ). max y (get_or x c 0)) one
      ∙ ap (max (account_time (table_of d f s) q.query q.stop q.start (get_or f j 0))) two))
      ∙ (ap (max (max (account_time (table_of d f s) q.query q.stop q.start (get_or f j 0))
      (account_time (table_of d f s) q.query q.stop q.start (get_or s j 0)))) (sym own_day)
      ∙ sym (row_opens (table_of d f s) q.query q.stop q.start R.setting.fits j b
      (day_opens (table_of d f s) q.start q.stop j (R.setting.from_lo j b h) (Sp.inside j k)))))
    where
      own_day : open_day (table_of d f s) q.start j ≡ day_of (table_of d f s) j
      own_day =
          open_is (table_of d f s) q.query q.start q.stop q.lo R.setting j b
          (counts_here (table_of d f s) q.lo j h)

      one : get_or x a 0 ≡ account_time (table_of d f s) q.query q.stop q.start (get_or f j 0)
      one = ap (λ (y : ℕ). get_or x y 0) ea ∙ C.times (get_or f j 0) a_small

      two : get_or x c 0 ≡ account_time (table_of d f s) q.query q.stop q.start (get_or s j 0)
      two = ap (λ (y : ℕ). get_or x y 0) ec ∙ C.times (get_or s j 0) b_small

-- ---- a column filled from the front

pub record Filled (g : ℕ → ℕ) (j : ℕ) (m₀ m : List ℕ) : Type 0 where
  pub long : length m ≡ length m₀
  pub done : (i : ℕ) → i < j → get_or m i 0 ≡ g i

pub fill_start : (g : ℕ → ℕ) (m : List ℕ) → Filled g 0 m m
fill_start g m = record { long = refl; done = λ i h. absurd (not-suc-le-zero h) }

pub fill_next : {g : ℕ → ℕ} {j : ℕ} {m₀ m : List ℕ} {v : ℕ} → Filled g j m₀ m → j < length m → v ≡ g j
    → Filled g (j + 1) m₀ (set m j v)
fill_next {g} {j} {m₀} {m} {v} F l e =
    record {
      long = length-set m j v ∙ F.long;
      done =
          λ i h. ⊎_elim (λ y. ap (λ (c : ℕ). get_or (set m j v) c 0) y ∙ (get_or-set_same m j v 0 l ∙ (e ∙ ap g (sym y))))
          (λ o. get_or-set_other m j i v 0 (λ y. omega arith) ∙ F.done i o) (eq-or-lt_of_le (omega arith));
    }

pub fill_end : (g : ℕ → ℕ) {j n : ℕ} {m₀ m : List ℕ} → Filled g j m₀ m → length m₀ ≡ n → n ≤ j → m ≡ tabulate g 0 n
fill_end g {j} {n} {m₀} {m} F e h =
    ext_get_or 0 m (tabulate g 0 n) (F.long ∙ (e ∙ sym (length_tabulate g 0 n)))
    (λ i l. let a = F.long in
    F.done i (omega arith) ∙ sym (get_d_tabulate g 0 n i 0 (omega arith) ∙ ap g (zero-add i)))

pub accounts_are : {d f s : List ℕ} {q : Frame} {x : List ℕ} → CoreTimesAre (table_of d f s) q x
    → x ≡ tabulate (account_time (table_of d f s) q.query q.stop q.start) 0 4096
accounts_are {d} {f} {s} {q} {x} C =
    fill_end (account_time (table_of d f s) q.query q.stop q.start) {j = 4096} {m₀ = x}
    (record { long = refl; done = C.times }) C.long (omega arith)
