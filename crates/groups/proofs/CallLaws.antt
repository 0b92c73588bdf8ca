-- From what Window ring answers to the answers of the two calls (src/label.rt, src/mark.rt).
--     few_most, few_long       the marks that are lent for the ring
--     places_of, ring_bytes    lengths and marks of an accepted call
--     label_refused, label_done     Label groups
--     group_refused, group_absent, group_done     Mark group
--     account_small            an account that is met is below 4,096
-- Assumes nothing.
use Prim.Native.Nat.{ℕ, zero, suc, ◌≤◌, ◌<◌}
use native.Mathlib.Nat.{not-suc-le-zero, le_of_suc-le-suc}
use native.Mathlib.Omega.{arith}
use mathlib.Core.Path.{◌≡◌, refl, sym, ◌∙◌, ap}
use mathlib.Core.Logic.{⊎_elim}
use mathlib.Core.Bool.{Bool, true, false}
use mathlib.Core.List.{List, ◌∷◌, ◌++◌}
use lib.ListN.{length, get_or, take, drop, replicate}
use lib.Seq.{length-take-le}
use Rattle.std.specs.Prelude.{Ok, Err}
use Rattle.rings.specs.Refusals.{Verdict, Counted}
use Rattle.rings.specs.Words.{no, at}
use Rattle.rings.specs.Table.{Table, table_of, first_of, second_of}
use Rattle.rings.specs.Ring.{met, ring, members}
use Rattle.rings.specs.Sound.{Sound}
use Rattle.rings.specs.Checks.{◌when◌, counted}
use Rattle.rings.specs.Refusals.{behind_scratch}
use Rattle.rings.specs.Buffers.{marks, cleared, cleared_if, scratch_on, counted_scratch}
use Rattle.rings.specs.WindowRingCall.{ring_checks, ring_answer, ring_marks}
use Rattle.rings.specs.declared.Query.{Query}
use Rattle.rings.specs.declared.refusal.Refusal.{Refusal}
use Rattle.rings.specs.declared.refusal.Refusal.TheVariants.{NotInRing}
use Rattle.rings.proofs.RingLaws.{met_e, touch_cases}
use Rattle.rings.proofs.CheckLaws.{then_refused, then_accepted, passes, counted_yes, counted_no, counted_e}
use Rattle.groups.specs.Groups.{labels_of, group}
use Rattle.groups.specs.GroupCalls.{label_answer, label_column, group_checks, group_answer, group_marks}
use Rattle.groups.specs.Inner.{rows_of, GroupMarked, at_most}
use Rattle.groups.proofs.RingCallLaws.{rows_back, RingCall, ring_call, checks_places, ring_places}

-- ---- Label groups

-- the front of a scratch of zeros, cleared again
zeros_front : (n m : ℕ) → n ≤ m → replicate n 0 ++ drop n (replicate m 0) ≡ replicate {A = ℕ} m 0
zeros_front zero m h = refl
zeros_front (suc n) zero h = absurd (not-suc-le-zero h)
zeros_front (suc n) (suc m) h = ap (λ (xs : List ℕ). 0 ∷ xs) (zeros_front n m (le_of_suc-le-suc h))

front_cleared : {p sc : List ℕ} {m : ℕ} → sc ≡ replicate m 0 → 4096 ≤ m → p ≡ replicate 4096 0
    → p ++ drop 4096 sc ≡ replicate m 0
front_cleared {p} {sc} {m} e h k =
    ap (λ (x : List ℕ). x ++ drop 4096 sc) k
    ∙ (ap (λ (x : List ℕ). replicate 4096 0 ++ drop 4096 x) e ∙ zeros_front 4096 m h)

pub places_of : {d f g : List ℕ} {q : Query} {s e p sc n l : ℕ} → RingCall d f g q s e p sc n → p ≡ at_most l → l ≡
    length d
unfolding at_most
places_of C h = let a = C.places in let b = C.sound.most in omega arith

module _ (d f g : List ℕ) (q : Query) (s e : ℕ) where
  abbrev table : Table
  table = table_of d f g

  pub ring_bytes : (old : List ℕ) {n : ℕ} {bytes : List ℕ} {v : Counted} → v ≡ Ok n
      → bytes ≡ ring_marks v table q s e old → bytes ≡ marks (ring table q s e)
  unfolding ring_marks
  ring_bytes old h k = k ∙ ap (λ (v : Counted). ring_marks v table q s e old) h

  -- what window ring leaves of the scratch it was lent, by its answer
  left_of : (sc : List ℕ) {sc' : List ℕ} {v w : Counted} → sc' ≡ counted_scratch v sc → v ≡ w → sc' ≡ counted_scratch w sc
  left_of sc h k = h ∙ ap (λ (v : Counted). counted_scratch v sc) k

  module _ (labels sc : List ℕ) {p : ℕ} {sc' : List ℕ} {v : Counted} (few : p ≡ at_most (length labels))
      (answer : v ≡ ring_answer table q s e p (length sc)) (left : sc' ≡ counted_scratch v sc) where
    told : v ≡ label_answer table q s e (length labels) (length sc)
    unfolding label_answer
    told =
        answer ∙ (ap (λ (n : ℕ). ring_answer table q s e n (length sc)) few ∙ ring_places d f g q s e (length
        labels) (length sc))

    pub label_refused : {r : Refusal} → v ≡ Err r
        → (Err r ≡ label_answer table q s e (length labels) (length sc))
        × ((labels ≡ label_column (Err r) table q s e labels) × (sc' ≡ counted_scratch (Err r) sc))
    unfolding label_column
    label_refused h = (sym h ∙ told, (refl, left_of sc left h))

    pub label_done : (old : List ℕ) {n : ℕ} {bytes labels' parents : List ℕ} → v ≡ Ok n
        → bytes ≡ ring_marks v table q s e old
        → labels' ≡ labels_of table (rows_of bytes)
        → parents ≡ replicate 4096 0
        → (Ok n ≡ label_answer table q s e (length labels) (length sc))
        × ((labels' ≡ label_column (Ok n) table q s e labels)
        × (parents ++ drop 4096 sc' ≡ counted_scratch (Ok n) sc))
    unfolding label_column counted_scratch cleared
    label_done old h b l k = (
      sym h ∙ told,
      (
        l ∙ ap (labels_of table) (ap rows_of (ring_bytes old h b) ∙ rows_back (ring table q s e)),
        front_cleared {m = length sc} (left_of sc left h) (let w = (ring_call answer h).scratch in omega arith) k,
      ),
    )

-- ---- the marks that are lent for the ring

pub few_most : (n : ℕ) {p : ℕ} → p ≡ at_most n → p ≤ 16385
unfolding at_most
few_most n h = omega arith

pub few_long : (n : ℕ) (xs : List ℕ) {p : ℕ} → p ≡ at_most n → length xs ≡ 16385 → length (take p xs) ≡ p
few_long n xs {p} h l = length-take-le p xs (let w = few_most n h in omega arith)

-- ---- Mark group

counted_refused : (v : Verdict) (n : ℕ) {r : Refusal} → counted v n ≡ Err r → v ≡ Err r
unfolding counted
counted_refused (Ok _) n h = cc
counted_refused (Err x) n {r} h = let e : x ≡ r = cc in ap Err e

absent : {b : Bool} → b ≡ false → NotInRing when no b ≡ Err NotInRing
unfolding ◌when◌ no
absent h = rw h

-- an account that is met is below 4,096
pub account_small : {d f g : List ℕ} (m : List Bool) (a : ℕ) → Sound d f g → met (table_of d f g) m a ≡ true → a < 4096
unfolding first_of second_of at
account_small {d} {f} {g} m a S h =
    let w = met_e (table_of d f g) m a h in
    let r = S.rows w.row w.below in
    let x = r.accounts in
    let y = r.account_to in
    ⊎_elim (λ (e : get_or f w.row 0 ≡ a). omega arith) (λ (e : get_or g w.row 0 ≡ a). omega arith)
    (touch_cases (table_of d f g) w.row a w.touch)

module _ (d f g : List ℕ) (q : Query) (s e a : ℕ) (bs sc : List ℕ) {p : ℕ} {sc' : List ℕ} {v : Counted}
    (few : p ≡ at_most (length bs)) (answer : v ≡ ring_answer (table_of d f g) q s e p (length sc))
    (left : sc' ≡ counted_scratch v sc) where
  abbrev here : Table
  here = table_of d f g

  abbrev asked : Verdict
  asked = ring_checks here q s e (length bs) (length sc)

  abbrev its : List Bool
  its = group here (ring here q s e) a

  checked : ring_answer here q s e p (length sc) ≡ counted asked (members (ring here q s e))
  unfolding ring_answer
  checked =
      ap (λ (n : ℕ). counted (ring_checks here q s e n (length sc)) (members (ring here q s e))) few
      ∙ ap (λ (w : Verdict). counted w (members (ring here q s e))) (checks_places d f g q s e (length bs) (length sc))

  pub group_refused : {r : Refusal} → v ≡ Err r
      → (Err r ≡ group_answer here q s e a (length bs) (length sc))
      × ((bs ≡ group_marks (Err r) here q s e a bs) × (sc' ≡ counted_scratch (Err r) sc))
  unfolding group_answer group_checks group_marks
  group_refused {r} h = (
    sym (counted_no (members its) (then_refused (NotInRing when no (met here (ring here q s e) a))
        (counted_refused asked (members (ring here q s e)) (sym checked ∙ (sym answer ∙ h))))),
    (refl, left_of d f g q s e sc left h),
  )

  module _ {n : ℕ} (old : List ℕ) {bytes : List ℕ} (h : v ≡ Ok n) (b : bytes ≡ ring_marks v here q s e
      old) where
    is_ring : rows_of bytes ≡ ring here q s e
    is_ring = ap rows_of (ring_bytes d f g q s e old h b) ∙ rows_back (ring here q s e)

    passed_all : asked ≡ Ok tt
    passed_all = (counted_e asked (members (ring here q s e)) n (sym checked ∙ (sym answer ∙ h))).0

    is_met : {c : Bool} → c ≡ met here (rows_of bytes) a → met here (ring here q s e) a ≡ c
    is_met k = ap (λ (m : List Bool). met here m a) (sym is_ring) ∙ sym k

    pub group_absent : {c : Bool} → c ≡ met here (rows_of bytes) a → c ≡ false
        → (Err NotInRing ≡ group_answer here q s e a (length bs) (length sc))
        × ((bs ≡ group_marks (Err NotInRing) here q s e a bs)
        × (sc' ≡ counted_scratch (Err NotInRing) sc))
    unfolding group_answer group_checks group_marks counted_scratch scratch_on cleared_if behind_scratch
    group_absent k no_one = (
      sym (counted_no (members its)
          (then_accepted (NotInRing when no (met here (ring here q s e) a)) passed_all ∙ absent (is_met k ∙ no_one))),
      (refl, left_of d f g q s e sc left h),
    )

    pub group_done : {c : Bool} {k : ℕ} {now parents : List ℕ} → c ≡ met here (rows_of bytes) a → c ≡ true
        → GroupMarked here (rows_of bytes) a k now
        → parents ≡ replicate 4096 0
        → (Ok k ≡ group_answer here q s e a (length bs) (length sc))
        × ((now ≡ group_marks (Ok k) here q s e a bs)
        × (parents ++ drop 4096 sc' ≡ counted_scratch (Ok k) sc))
    unfolding group_answer group_checks group_marks counted_scratch cleared
    group_done {c} {k} i y M z = (
      ap Ok (M.number ∙ ap (λ (m : List Bool). members (group here m a)) is_ring)
          ∙ sym (counted_yes (members its)
          (then_accepted (NotInRing when no (met here (ring here q s e) a)) passed_all ∙ passes NotInRing (is_met i
          ∙ y))),
      (
        M.marks ∙ ap (λ (m : List Bool). marks (group here m a)) is_ring,
        front_cleared {m = length sc} (left_of d f g q s e sc left h) (let w = (ring_call answer h).scratch in omega
            arith) z,
      ),
    )
