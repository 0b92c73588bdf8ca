-- The answers of the calls, from what the checks and the work return.
--     ring_refused, ring_done      Window ring
--     times_refused, times_done    Core times
--     windows_full, windows_found, windows_refused, windows_done    Minimal windows
-- Assumes nothing.
use Prim.Native.Nat.{ℕ, ◌≤◌, ◌<◌}
use mathlib.Core.Path.{◌≡◌, refl, sym, ◌∙◌, ap, subst}
use mathlib.Core.Bool.{Bool}
use mathlib.Core.List.{List}
use lib.ListN.{length, replicate}
use lib.Dec.{leb, ltb, eqb}
use borrow.Author.Tests.{lt-ltb, le-ltb}
use Rattle.std.specs.Prelude.{Ok, Err}
use Rattle.rings.specs.Words.{◌and◌}
use Rattle.rings.specs.Table.{Table}
use Rattle.rings.specs.Ring.{ring, members}
use Rattle.rings.specs.Checks.{◌when◌, ◌then◌, counted, range_check}
use Rattle.rings.specs.Refusals.{behind_scratch, Verdict, Counted}
use Rattle.rings.specs.Buffers.{cleared, cleared_if, scratch_on, counted_scratch, verdict_scratch}
use Rattle.rings.specs.CoreTimes.{never}
use Rattle.rings.specs.CoreTimesCall.{times_answer, account_column, row_column}
use Rattle.rings.specs.Windows.{Entry, minimal_windows}
use Rattle.rings.specs.MinimalWindowsCall.{minimal_checks, minimal_answer, entry_column, minimal_rows}
use Rattle.rings.specs.MinimalWindowsCall.{minimal_starts, minimal_ends}
use Rattle.rings.specs.RecallCall.{Columns}
use Rattle.rings.specs.Inner.Answers.{RingFound, TimesFound}
use Rattle.rings.specs.Inner.Closing.{first_place, WindowsFound}
use Rattle.rings.specs.WindowRingCall.{ring_checks, ring_answer, ring_marks}
use Rattle.rings.specs.declared.Query.{Query}
use Rattle.rings.specs.declared.refusal.Refusal.{Refusal}
use Rattle.rings.specs.declared.refusal.Refusal.TheVariants.{NoRoom}
use Rattle.rings.proofs.CheckLaws.{then_refused, then_accepted, counted_yes, counted_no}
use Rattle.rings.proofs.AcceptedLaws.{shared, scratch_kept, then_room}
use Rattle.rings.proofs.PlaceLaws.{list_length}
use Rattle.rings.proofs.ColumnLaws.{ListWritten}

-- ---- Window ring

module _ (t : Table) (q : Query) (s e : ℕ) (m sc : List ℕ) {window : Bool}
    (ew : window ≡ (leb 1 s and leb s e and leb e 1024)) where
  ring_checks_lem : ring_checks t q s e (length m) (length sc)
      ≡ shared t q window (eqb (length m) (length t.days)) (length sc)
  unfolding ring_checks range_check
  ring_checks_lem = rw ew

  pub ring_refused : {r : Refusal} → shared t q window (eqb (length m) (length t.days)) (length sc) ≡ Err r
      → (Err r ≡ ring_answer t q s e (length m) (length sc)) ×
      ((m ≡ ring_marks (Err r) t q s e m) × (sc ≡ counted_scratch (Err r) sc))
  unfolding ring_answer ring_marks counted_scratch
  ring_refused {r} h = (
    sym (counted_no (members (ring t q s e)) (ring_checks_lem ∙ h)),
    (refl, scratch_kept t q window (eqb (length m) (length t.days)) (length sc) sc h),
  )

  pub ring_done : {n : ℕ} {m' sc' : List ℕ}
      → shared t q window (eqb (length m) (length t.days)) (length sc) ≡ Ok tt → RingFound t q s e n m' sc sc'
      → (Ok n ≡ ring_answer t q s e (length m) (length sc)) ×
      ((m' ≡ ring_marks (Ok n) t q s e m) × (sc' ≡ counted_scratch (Ok n) sc))
  unfolding ring_answer ring_marks counted_scratch cleared
  ring_done {n} h F = (
    ap Ok F.marked.number ∙ sym (counted_yes (members (ring t q s e)) (ring_checks_lem ∙ h)),
    (F.marked.marks, F.cleared),
  )

-- ---- Core times

module _ (t : Table) (q : Query) (lo hi s : ℕ) (a r sc : List ℕ) {window lengths : Bool}
    (ew : window ≡ (leb 1 lo and leb lo s and leb s hi and leb hi 1024))
    (el : lengths ≡ (eqb (length a) 4096 and eqb (length r) (length t.days))) where
  times_checks : times_answer t q lo hi s (length a) (length r) (length sc) ≡ shared t q window lengths (length sc)
  unfolding times_answer
  times_checks = rw (ew, el)

  pub times_refused : {f : Refusal} → shared t q window lengths (length sc) ≡ Err f
      → (Err f ≡ times_answer t q lo hi s (length a) (length r) (length sc)) ×
      ((a ≡ account_column (Err f) t q hi s a)
      × ((r ≡ row_column (Err f) t q hi s r) × (sc ≡ verdict_scratch (Err f) sc)))
  unfolding account_column row_column verdict_scratch
  times_refused {f} h = (sym (times_checks ∙ h), (refl, (refl, scratch_kept t q window lengths (length sc) sc h)))

  pub times_done : {a' r' sc' : List ℕ} → shared t q window lengths (length sc) ≡ Ok tt
      → TimesFound t q s hi a' r' sc sc'
      → (Ok tt ≡ times_answer t q lo hi s (length a) (length r) (length sc)) ×
      ((a' ≡ account_column (Ok tt) t q hi s a)
      × ((r' ≡ row_column (Ok tt) t q hi s r) × (sc' ≡ verdict_scratch (Ok tt) sc)))
  unfolding account_column row_column verdict_scratch cleared
  times_done h F = (sym (times_checks ∙ h), (F.accounts, (F.rows, F.cleared)))

-- ---- Minimal windows

module _ (t : Table) (q : Query) (lo hi : ℕ) (fits : hi < never) (c : Columns) (sc : List ℕ) {total : ℕ}
    (et : total ≡ first_place t q lo hi (length t.days)) where
  abbrev list : List Entry
  list = minimal_windows t q lo hi

  is_length : total ≡ length list
  is_length = et ∙ sym (list_length t q lo hi fits)

  pub windows_full : {sc' : List ℕ} {c' : Columns} → length c'.rows < total → c' ≡ c → sc' ≡ replicate (length sc) 0
      → WindowsFound t q lo hi (Err NoRoom) c sc c' sc'
  unfolding ◌when◌ minimal_rows minimal_starts minimal_ends entry_column counted_scratch scratch_on cleared_if cleared
      behind_scratch
  windows_full h w es =
      let l : length c.rows < total = subst (λ (b : Columns). length b.rows < total) w h in
      let m = subst (λ (n : ℕ). length c.rows < n) is_length l in
      record {
        answer =
            sym (counted_no (length list)
            (ap (λ (b : Bool). NoRoom when b) (lt-ltb (length c.rows) (length list) m)));
        in_rows = ap (λ (b : Columns). b.rows) w;
        in_starts = ap (λ (b : Columns). b.starts) w;
        in_ends = ap (λ (b : Columns). b.ends) w;
        scratch = es;
      }

  pub windows_found : {sc' : List ℕ} {c' : Columns} → total ≤ length c.rows → ListWritten t q lo hi c c'
      → sc' ≡ replicate (length sc) 0
      → WindowsFound t q lo hi (Ok total) c sc c' sc'
  unfolding ◌when◌ minimal_rows minimal_starts minimal_ends entry_column counted_scratch cleared
  windows_found h w es =
      let m = subst (λ (n : ℕ). n ≤ length c.rows) is_length h in
      record {
        answer =
            ap Ok is_length
            ∙ sym (counted_yes (length list)
            (ap (λ (b : Bool). NoRoom when b) (le-ltb (length c.rows) (length list) m)));
        in_rows = w.in_rows;
        in_starts = w.in_starts;
        in_ends = w.in_ends;
        scratch = es;
      }

module _ (t : Table) (q : Query) (lo hi : ℕ) (rows starts ends sc : List ℕ) {window lengths : Bool}
    (ew : window ≡ (leb 1 lo and leb lo hi and leb hi 1024))
    (el : lengths ≡ (eqb (length starts) (length rows) and eqb (length ends) (length rows))) where
  abbrev room : Verdict
  room = NoRoom when ltb (length rows) (length (minimal_windows t q lo hi))

  windows_checks : minimal_checks t q lo hi (length rows) (length starts) (length ends) (length sc)
      ≡ shared t q window lengths (length sc) then room
  unfolding minimal_checks range_check
  windows_checks = sym (then_room t q window lengths (length sc) room ∙ rw (ew, el) refl)

  pub windows_refused : {r : Refusal} → shared t q window lengths (length sc) ≡ Err r
      → (Err r ≡ minimal_answer t q lo hi (length rows) (length starts) (length ends) (length sc)) ×
      ((rows ≡ minimal_rows (Err r) t q lo hi rows) ×
      ((starts ≡ minimal_starts (Err r) t q lo hi starts) ×
      ((ends ≡ minimal_ends (Err r) t q lo hi ends) × (sc ≡ counted_scratch (Err r) sc))))
  unfolding minimal_answer minimal_rows minimal_starts minimal_ends entry_column counted_scratch
  windows_refused h = (
    sym (counted_no (length (minimal_windows t q lo hi)) (windows_checks ∙ then_refused room h)),
    (refl, (refl, (refl, scratch_kept t q window lengths (length sc) sc h))),
  )

  pub windows_done : {a : Counted} → shared t q window lengths (length sc) ≡ Ok tt
      → a ≡ counted room (length (minimal_windows t q lo hi))
      → a ≡ minimal_answer t q lo hi (length rows) (length starts) (length ends) (length sc)
  unfolding minimal_answer
  windows_done h e =
      e
      ∙ ap (λ (v : Verdict). counted v (length (minimal_windows t q lo hi)))
      (sym (windows_checks ∙ then_accepted room h))
