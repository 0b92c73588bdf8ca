-- The loop of drop_supported (src/supporters.rt): the rows of an account that rises. Who loses a supporter by it
-- waits (SupporterLaws.DroppingSupported), and the day counts go along (ShiftLaws.Shift).
--     CountedDropping, counted_dropping_start, counted_dropping_out, counted_dropping_stop, counted_dropping_asks,
--     counted_dropping_next    the state of the loop, and its ways
--     StillPending, counted_dropping_adds     what is still to be counted at the end
-- Assumes nothing.
use Prim.Native.Nat.{ℕ, max, min, ◌+◌, ◌≤◌, ◌<◌}
use native.Mathlib.Nat.{le_refl}
use native.Mathlib.Omega.{arith}
use mathlib.Core.Path.{◌≡◌, refl, sym, ◌∙◌, ap}
use mathlib.Core.Logic.{◌⊎◌, ⊎_elim}
use mathlib.Core.Bool.{Bool, true, false, ◌&&◌}
use mathlib.Core.List.{List}
use lib.ListN.{length, get_or}
use lib.Dec.{leb, ltb}
use borrow.Author.Tests.{ltb-true, ltb-false}
use Rattle.rings.specs.Table.{Table, table_of}
use Rattle.rings.specs.CoreTimes.{never}
use Rattle.rings.specs.Inner.Adjacency.{other_of, Reading, Every}
use Rattle.rings.specs.Inner.Incident.{RowRead}
use Rattle.rings.specs.Ring.{touches}
use Rattle.rings.specs.Inner.Peeling.{ReadyPruned, estimate}
use Rattle.rings.specs.declared.frame.Frame.{Frame}
use Rattle.rings.specs.declared.incident.Incident.{Incident}
use Rattle.rings.specs.Inner.Settling.{Days, DroppedSupporter, DroppedSupported, Queued}
use Rattle.rings.specs.Inner.Counting.{time_by, WhereCounted, PendingHistogram, Taking, CountsBeforeRise}
use Rattle.rings.specs.Inner.Counting.{AddAsks, TakeAsks}
use Rattle.rings.specs.declared.Query.{Query}
use Rattle.rings.proofs.PeelStateLaws.{estimate_at}
use Rattle.rings.proofs.PrunedLaws.{reading_out, reading_from, reading_gap}
use Rattle.rings.proofs.CountingLaws.{counted_so, counted_then, pending_room}
use Rattle.rings.proofs.SupporterLaws.{DroppingSupported, new_most, dropping_start, dropping_out}
use Rattle.rings.proofs.SupporterLaws.{dropping_stop, dropping_late, dropping_next}
use Rattle.rings.proofs.ShiftLaws.{Shift, rise_start, rise_all, rise_asks, rise_row}

pub record CountedDropping (d f g scratch : List ℕ) (r : Frame) (xs : List ℕ) (u old new tail : ℕ)
    (sp₀ ws₀ : List ℕ) (counting : Bool) (counts₀ : List ℕ) (p end m : ℕ) (sp ws counts : List ℕ) : Type 0 where
  pub b : ℕ
  pub late : r.lo ≤ b
  pub dropping : DroppingSupported d f g scratch r xs u old new tail sp₀ ws₀ b p end sp ws
  pub shift : WhereCounted counting (Shift (table_of d f g) r.start r.stop u old new xs b m counts) counts₀ counts

-- the rows of u are all seen: the counts but for those that moved
abbrev pub StillPending : List ℕ → List ℕ → List ℕ → Frame → List ℕ → ℕ → ℕ → List ℕ → Type 0
StillPending d f g r xs new m counts =
    PendingHistogram (time_by (table_of d f g) (estimate xs) r.start r.stop) (length d) new m counts

module _ (d f g scratch : List ℕ) (r : Frame) (R : ReadyPruned (table_of d f g) scratch r) (xs : List ℕ)
    (len : length xs ≡ 4096) {u : ℕ} (small : u < 4096)
    (E : Every (table_of d f g) (estimate xs) r.lo u scratch) (D : Days r.stop xs) (old new : ℕ)
    (en : new ≡ get_or xs u 0) (tail : ℕ) (sp₀ ws₀ : List ℕ) (counting : Bool) where
  abbrev tt : Table
  tt = table_of d f g

  abbrev q : Query
  q = r.query

  new_day : new ≤ never
  new_day = new_most d f g scratch r R xs len small E D old new en tail sp₀ ws₀

  -- a row of u that the walk passed over keeps its time
  over : {i : ℕ} → (i < r.lo) ⊎ (estimate xs (other_of tt i u) ≡ never)
      → (i < r.lo) ⊎ (new ≤ estimate xs (other_of tt i u))
  over o = let m = new_day in ⊎_elim ◌⊎◌.inl (λ z. ◌⊎◌.inr (omega arith)) o

  keeps : {A : Type 0} {i : ℕ} → (i < r.lo) ⊎ (estimate xs (other_of tt i u) ≡ never)
      → (i < r.lo) ⊎ ((new ≤ estimate xs (other_of tt i u)) ⊎ A)
  keeps o = ⊎_elim ◌⊎◌.inl (λ z. ◌⊎◌.inr (◌⊎◌.inl z)) (over o)

  pub counted_dropping_start : {p : ℕ} {counts₀ : List ℕ}
      → length sp₀ ≡ 4096
      → length ws₀ ≡ 4352
      → Reading scratch u r.lo p
      → (counting ≡ true → CountsBeforeRise tt r.start r.stop u old new xs counts₀)
      → CountedDropping d f g scratch r xs u old new tail sp₀ ws₀ counting counts₀ p tail 0 sp₀ ws₀ counts₀
  counted_dropping_start l m A C =
      record {
        b = r.lo;
        late = le_refl r.lo;
        dropping = dropping_start d f g scratch r R xs len small E D old new en tail sp₀ ws₀ l m A;
        shift = record {
          counted = λ h. rise_start tt q r.start r.stop r.lo R.setting u old new xs small (C h);
          same = λ h. refl;
        };
      }

  module _ {p end m last : ℕ} {counts₀ sp ws counts : List ℕ}
      (Z : CountedDropping d f g scratch r xs u old new tail sp₀ ws₀ counting counts₀ p end m sp ws counts)
      (ee : last ≡ get_or scratch u 0) where
    pub counted_dropping_out : last ≤ p
        → (DroppedSupported tt (estimate xs) r.lo u (length d) old new sp₀ sp × Queued tail sp₀ ws₀ end sp ws)
        × WhereCounted counting (StillPending d f g r xs new m counts) counts₀ counts
    counted_dropping_out h = (
      dropping_out d f g scratch r R xs len small E D old new en tail sp₀ ws₀ Z.dropping ee h,
      counted_so
          (λ y. rise_all tt q r.start r.stop r.lo R.setting u old new xs small y
          (λ i a k o. keeps
          (reading_out d f g scratch R.sound R.pruned small Z.dropping.reading ee E h i a k o)))
          Z.shift,
    )

    module _ (more : p < last) {it : Incident} (I : RowRead tt scratch r.lo u p it) {until : ℕ}
        (eu : until ≡ min new (r.stop + 1)) where
      pub counted_dropping_stop : until ≤ it.day
          → (DroppedSupported tt (estimate xs) r.lo u (length d) old new sp₀ sp × Queued tail sp₀ ws₀ end sp ws)
          × WhereCounted counting (StillPending d f g r xs new m counts) counts₀ counts
      counted_dropping_stop h = (
        dropping_stop d f g scratch r R xs len small E D old new en tail sp₀ ws₀ Z.dropping ee more I eu h,
        counted_so
            (λ y. rise_all tt q r.start r.stop r.lo R.setting u old new xs small y
            (λ i a k o. ⊎_elim keeps (λ z. ◌⊎◌.inr (◌⊎◌.inr z))
            (dropping_late d f g scratch r R xs len small E D old new en tail sp₀ ws₀
            Z.dropping ee more I eu h i a k o)))
            Z.shift,
      )

      module _ (before : it.day < until) {z : ℕ} (ez : z ≡ get_or xs it.other 0) {own time : ℕ}
          (eo : own ≡ max old it.day) (et : time ≡ max own z) where
        z_is : z ≡ estimate xs (other_of tt it.row u)
        z_is = ez ∙ (sym (estimate_at xs it.other len I.small) ∙ ap (estimate xs) I.other)

        z_day : (z ≤ r.stop) ⊎ (z ≡ never)
        z_day = ⊎_elim (λ y. ◌⊎◌.inl (omega arith)) (λ y. ◌⊎◌.inr (ez ∙ y)) (D it.other I.small)

        from : Z.b ≤ it.row
        from = reading_from d f g scratch R.sound R.pruned small Z.dropping.reading ee more I.row

        gap : (i : ℕ) → Z.b ≤ i → i < it.row → touches tt i u ≡ true
            → (i < r.lo) ⊎ (new ≤ estimate xs (other_of tt i u))
        gap i a k o =
            over (reading_gap d f g scratch R.sound R.pruned small Z.dropping.reading ee more
            I.row E i a k o)

        module _ {test : Bool} (y : test ≡ ltb z new) where
          yes : test ≡ true → (r.lo ≤ it.row) × (z < new)
          yes h = let a = Z.late in let c = from in (omega arith, ltb-true z new (sym y ∙ h))

          not : test ≡ false → (it.row < r.lo) ⊎ (new ≤ z)
          not h = ◌⊎◌.inr (ltb-false z new (sym y ∙ h))

          pub counted_dropping_asks : counting ≡ true → TakeAsks test time m counts
          counted_dropping_asks h =
              let dd = I.day in
              rise_asks tt q r.start r.stop r.lo R.setting u old new xs small
              (Z.shift.counted h) from I.below
              I.touch gap (omega arith) (omega arith) z_is (omega arith) yes not z_day new_day R.sound.most

          pub counted_dropping_next : {dropped : Bool} {end' m' : ℕ} {sp' ws' counts' : List ℕ}
              → end < 4352
              → dropped ≡ (leb own z && ltb z new)
              → DroppedSupporter (it.leads && dropped) it.other end sp ws sp' ws' end'
              → WhereCounted counting (Taking test time m counts counts' m') counts counts'
              → CountedDropping d f g scratch r xs u old new tail sp₀ ws₀ counting counts₀
              (p + 1) end' m' sp' ws' counts'
          counted_dropping_next room el L T =
              let dd = I.day in
              record {
                b = it.row + 1;
                late = let a = Z.late in let c = from in omega arith;
                dropping =
                    dropping_next d f g scratch r R xs len small E D old new en tail sp₀ ws₀
                    Z.dropping ee more I room ez eo el L;
                shift = counted_then Z.shift (record {
                  counted = λ h.
                      rise_row tt q r.start r.stop r.lo R.setting u old new xs small
                      (Z.shift.counted h) from I.below
                      I.touch gap (omega arith) (omega arith) z_is (omega arith) yes not z_day new_day
                      (T.counted h);
                  same = T.same;
                });
              }

-- what is still to be counted
pub counted_dropping_adds : {d f g scratch : List ℕ} (xs : List ℕ) {r : Frame} {u new m : ℕ} {counts : List ℕ}
    → ReadyPruned (table_of d f g) scratch r
    → u < 4096
    → Days r.stop xs
    → new ≡ get_or xs u 0
    → r.stop ≤ 1024
    → StillPending d f g r xs new m counts
    → AddAsks m new counts
counted_dropping_adds xs {u = u} R small D en top O =
    pending_room O R.sound.most (⊎_elim (λ y. ◌⊎◌.inl (omega arith)) (λ y. ◌⊎◌.inr (en ∙ y)) (D u small))
