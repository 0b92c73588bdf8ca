-- The walk of `scan_on_day` (src/scan.rt) in the adjacency, and what it notes of a row without a branch.
--     row_noted                   what `note_row` computes without a branch
--     both, not_first, not_second, bit_is         two tests at once
--     DayScanning, day_scan_start, day_scan_out, day_scan_over, day_scan_mark, day_scan_few, day_scan_most     the
--         walk of `scan_on_day` in the adjacency
-- Assumes nothing.
use Prim.Native.Nat.{ℕ, max, ◌+◌, ◌≤◌, ◌<◌}
use native.Mathlib.Nat.{le_refl}
use native.Mathlib.Omega.{arith}
use mathlib.Core.Path.{◌≡◌, refl, sym, ◌∙◌, ap, subst}
use mathlib.Core.Logic.{◌⊎◌, ⊎_elim}
use mathlib.Core.Bool.{Bool, true, false, not, ◌&&◌}
use mathlib.Core.List.{List}
use lib.ListN.{length, get_or}
use lib.Dec.{leb, ltb, eqb}
use borrow.Author.Tests.{leb-true, leb-false, ltb-true, ltb-false, eqb-true}
use Rattle.rings.specs.Words.{suc_if}
use Rattle.rings.specs.Table.{Table, table_of, day_of}
use Rattle.rings.specs.Ring.{touches}
use Rattle.rings.specs.CoreTimes.{never}
use Rattle.rings.specs.Choice.{Picked}
use Rattle.rings.specs.Inner.Adjacency.{other_of, Reading, Every}
use Rattle.rings.specs.Inner.Incident.{RowRead}
use Rattle.rings.specs.Inner.Peeling.{ReadyPruned, estimate}
use Rattle.rings.specs.declared.frame.Frame.{Frame}
use Rattle.rings.specs.declared.incident.Incident.{Incident}
use Rattle.rings.specs.Inner.Settling.{value, backers, Days, RowsScanned, RowNoted, DayScanned}
use Rattle.rings.proofs.WordLaws.{true_or_false, suc_if_yes, suc_if_no}
use Rattle.rings.proofs.PeelStateLaws.{estimate_at}
use Rattle.rings.proofs.PrunedLaws.{reading_out, reading_from, reading_gap, reading_next}
use Rattle.rings.proofs.ScanLaws.{scanned_start, scanned_out, scanned_stop, scanned_count, scanned_not_lead}
use Rattle.rings.proofs.ScanLaws.{scanned_note}

-- ---- one row more, without a branch

pub both : {p q : Bool} → p ≡ true → q ≡ true → (p && q) ≡ true
both {p} {q} h k = ap (λ (w : Bool). w && q) h ∙ k

pub not_first : {p : Bool} (q : Bool) → p ≡ false → (p && q) ≡ false
not_first q h = ap (λ (w : Bool). w && q) h

pub not_second : {p q : Bool} → p ≡ true → q ≡ false → (p && q) ≡ false
not_second {p} {q} h k = ap (λ (w : Bool). w && q) h ∙ k

-- the sum with a bit that is 1 where y says so, if p holds
pub bit_is : (p y : Bool) {a : ℕ} (n : ℕ) → p ≡ true → Picked (p && y) 1 0 a → n + a ≡ suc_if y n
bit_is p y n h A =
    ⊎_elim (λ k. let e = A.yes (both h k) in let v = suc_if_yes n k in omega arith)
    (λ k. let e = A.no (not_second h k) in let v = suc_if_no n k in omega arith) (true_or_false y)

pub row_noted : (y : Bool) (z c n above more : ℕ) {a b e i m : ℕ}
    → c < above
    → Picked (leb z c && y) 1 0 a
    → Picked (not (leb z c) && ltb z above) z above b
    → Picked y 1 0 i
    → Picked (eqb z above && y) 1 0 e
    → Picked (not (leb z c) && ltb z above) i (more + e) m
    → RowNoted y z c n above more (n + a) b m
row_noted y z c n above more {a} {b} {e} {i} {m} up A B I E M =
    ⊎_elim (λ g. soon (leb-true z c g) g) (λ g. late (leb-false z c g) g) (true_or_false (leb z c))
  where
    soon : z ≤ c → leb z c ≡ true → RowNoted y z c n above more (n + a) b m
    soon l g =
        let none : e ≡ 0 = E.no (not_first y
        (⊎_elim (λ h. let k = eqb-true z above h in absurd (omega arith)) (λ h. h)
        (true_or_false (eqb z above)))) in
        let past : (not (leb z c) && ltb z above) ≡ false = not_first (ltb z above) (ap not g) in
        RowNoted.back l (bit_is (leb z c) y n g A) (B.no past) (let k = M.no past in omega arith)

    late : c < z → leb z c ≡ false → RowNoted y z c n above more (n + a) b m
    late l g =
        let none : a ≡ 0 = A.no (not_first y g) in
        let ahead : not (leb z c) ≡ true = ap not g in
        ⊎_elim (λ h. RowNoted.nearer l (ltb-true z above h) (omega arith) (B.yes (both ahead h))
        (let o = M.yes (both ahead h) in let v = bit_is true y 0 refl I in omega arith))
        (λ h.
        ⊎_elim (λ k. RowNoted.level l (eqb-true z above k) (omega arith) (B.no (not_second ahead h))
        (M.no (not_second ahead h) ∙ bit_is (eqb z above) y more k E))
        (λ k. RowNoted.farther l (ltb-false z above h) (omega arith) (B.no (not_second ahead h))
        (let o = E.no (not_first y k) in let i = M.no (not_second ahead h) in omega arith))
        (true_or_false (eqb z above)))
        (true_or_false (ltb z above))

-- ---- a scan of u, in the adjacency

-- the rows of u before place p have been seen
pub record DayScanning (d f g scratch : List ℕ) (r : Frame) (xs : List ℕ) (u c p n above more : ℕ) : Type 0 where
  pub b : ℕ
  pub within : b ≤ length d
  pub late : r.lo ≤ b
  pub reading : Reading scratch u b p
  pub scanned : RowsScanned (table_of d f g) (estimate xs) r.lo r.stop c u b n above more

module _ (d f g scratch : List ℕ) (r : Frame) (R : ReadyPruned (table_of d f g) scratch r) (xs : List ℕ)
    (len : length xs ≡ 4096) (D : Days r.stop xs) {u c : ℕ} (small : u < 4096) (top : c ≤ r.stop)
    (E : Every (table_of d f g) (estimate xs) r.lo u scratch) where
  abbrev tt : Table
  tt = table_of d f g

  pub day_scan_start : {p : ℕ} → Reading scratch u r.lo p → DayScanning d f g scratch r xs u c p 0 never 0
  day_scan_start A =
      record {
        b = r.lo;
        within = R.within;
        late = le_refl r.lo;
        reading = A;
        scanned = scanned_start tt r.query r.start r.stop r.lo R.setting (estimate xs) c u
            (let h = R.setting.fits in omega arith);
      }

  module _ {p n above more end : ℕ} (G : DayScanning d f g scratch r xs u c p n above more)
      (ee : end ≡ get_or scratch u 0) where
    day_scan_count : n + more ≤ G.b
    day_scan_count = G.scanned.few

    pub day_scan_most : n + more ≤ 16384
    day_scan_most = let a = day_scan_count in let b = G.within in let h = R.sound.most in omega arith

    pub day_scan_out : end ≤ p → DayScanned tt (estimate xs) r.lo r.stop c u (length d) r.query.k n above more
    day_scan_out h =
        DayScanned.scanned (scanned_out tt r.query r.start r.stop r.lo R.setting (estimate xs)
        G.scanned G.within (reading_out d f g scratch R.sound R.pruned small G.reading ee E h))

    module _ (here : p < end) {it : Incident} (I : RowRead tt scratch r.lo u p it) where
      from : G.b ≤ it.row
      from = reading_from d f g scratch R.sound R.pruned small G.reading ee here I.row

      gap : (i : ℕ) → G.b ≤ i → i < it.row → touches tt i u ≡ true
          → (i < r.lo) ⊎ (estimate xs (other_of tt i u) ≡ never)
      gap = reading_gap d f g scratch R.sound R.pruned small G.reading ee here I.row E

      pub day_scan_few : (n < 16384) × (more < 16384) × (c < above)
      day_scan_few =
          let a = day_scan_count in
          let b = I.below in let c = from in let h = R.sound.most in (omega arith, omega arith, G.scanned.rises)

      -- the walk began at lo
      day_scan_late : r.lo ≤ it.row
      day_scan_late = let a = G.late in let b = from in omega arith

      stop_here : ((i : ℕ) → it.row ≤ i → i < length d → (r.stop < day_of tt i) ⊎ (above ≤ day_of tt i))
          → RowsScanned tt (estimate xs) r.lo r.stop c u (length d) n above more
      stop_here late =
          scanned_stop tt r.query r.start r.stop r.lo R.setting (estimate xs) G.scanned
          it.row from gap top late (let b = I.below in omega arith)

      pub day_scan_over : (c < it.day) × ((r.query.k ≤ n) ⊎ ((r.stop < it.day) ⊎ (above < it.day)))
          → DayScanned tt (estimate xs) r.lo r.stop c u (length d) r.query.k n above more
      day_scan_over o =
          ⊎_elim (λ h. DayScanned.full h (let z = all in omega arith))
          (λ h.
          DayScanned.scanned
          (stop_here (λ i a k.
          let e = I.day in
          let y = R.setting.rising it.row i a k in
          ⊎_elim (λ z. ◌⊎◌.inl (omega arith)) (λ z. ◌⊎◌.inr (omega arith)) h)))
          o.1
        where
          all : n ≡ backers tt (estimate xs) r.lo c u (length d)
          all =
              scanned_count tt r.query r.start r.stop r.lo R.setting (estimate xs) G.scanned
              it.row from gap
              (λ i a k. let e = I.day in let y = R.setting.rising it.row i a k in let z = o.0 in omega arith)
              (let b = I.below in omega arith)

      -- the walk goes on behind this row
      day_scan_on : {n' above' more' : ℕ}
          → RowsScanned tt (estimate xs) r.lo r.stop c u (it.row + 1) n' above' more'
          → DayScanning d f g scratch r xs u c (p + 1) n' above' more'
      day_scan_on N =
          record {
            b = it.row + 1;
            within = let b = I.below in omega arith;
            late = let b = day_scan_late in omega arith;
            reading = reading_next d f g scratch R.sound R.pruned small G.reading ee here I.row;
            scanned = N;
          }

      day_scan_skip : {n' above' more' : ℕ} → it.leads ≡ false → RowNoted true never c n above more n' above' more'
          → DayScanning d f g scratch r xs u c (p + 1) n' above' more'
      day_scan_skip h N =
          day_scan_on
          (scanned_not_lead tt r.query r.start r.stop r.lo R.setting (estimate xs) G.scanned
          it.row from gap (sym (I.leads day_scan_late) ∙ h) N)

      day_scan_note : {z n' above' more' : ℕ} → it.leads ≡ true → it.day ≤ r.stop
          → z ≡ max (get_or xs it.other 0) it.day
          → RowNoted true z c n above more n' above' more' → DayScanning d f g scratch r xs u c (p + 1) n' above' more'
      unfolding value
      day_scan_note {z} h l ez N =
          day_scan_on
          (scanned_note tt r.query r.start r.stop r.lo R.setting (estimate xs) G.scanned
          it.row from gap (sym (I.leads day_scan_late) ∙ h) I.touch is_value in_range N)
        where
          is_value : z ≡ max (estimate xs (other_of tt it.row u)) (day_of tt it.row)
          is_value =
              let e : estimate xs (other_of tt it.row u) ≡ get_or xs it.other 0 =
              ap (estimate xs) (sym I.other) ∙ estimate_at xs it.other len I.small in
              let o = I.day in omega arith

          in_range : (z ≤ r.stop) ⊎ (z ≡ never)
          in_range =
              let o = R.setting.fits in
              ⊎_elim (λ k. ◌⊎◌.inl (omega arith)) (λ k. ◌⊎◌.inr (omega arith)) (D it.other I.small)

      pub day_scan_mark : {z w n' above' more' : ℕ} → it.day ≤ r.stop
          → z ≡ max (get_or xs it.other 0) it.day → Picked it.leads z never w
          → RowNoted true w c n above more n' above' more' → DayScanning d f g scratch r xs u c (p + 1) n' above' more'
      day_scan_mark {n' = n'} {above' = above'} {more' = more'} l ez B N =
          ⊎_elim (λ h. day_scan_note h l ez
          (subst (λ (i : ℕ). RowNoted true i c n above more n' above' more') (B.yes h) N))
          (λ h. day_scan_skip h (subst (λ (i : ℕ). RowNoted true i c n above more n' above' more') (B.no h) N))
          (true_or_false it.leads)
