-- The earlier row of each row's pair, found by chains of rows whose pairs have the same slot (src/pairs.rt).
--     slot_is                                  what `slot_of` returns
--     emptied_part     what `clear_slots` leaves
--     slot_hit, slot_gap                       the last row with a slot, and that no later one has it
--     chain_start, chain_last, chain_next, chain_end       the loop of `chain_rows`
--     pairing_start, Seeking, seek_start, seek_row, seek_place, seek_less, seek_found, seek_next, seek_none,
--     pairing_end     the search of `find_pairs`
--     row_slot     what the code reads of a row
-- Assumes nothing.
use Prim.Native.Nat.{ℕ, zero, suc, ◌+◌, ◌-◌, ◌*◌, ◌%◌, ◌≤◌, ◌<◌}
use native.Mathlib.Nat.{le_refl, le_antisymm, mod-lt, eq-or-lt_of_le, not-suc-le-zero, le_of_suc-le-suc}
use native.Mathlib.Numerals.{add-one}
use native.Mathlib.Omega.{arith}
use mathlib.Core.Path.{◌≡◌, refl, sym, ◌∙◌, ap, subst}
use mathlib.Core.Logic.{◌⊎◌, ⊎_elim}
use mathlib.Core.Bool.{Bool, true, false, ◌&&◌}
use mathlib.Core.List.{List}
use lib.ListN.{length, get_or, set, length-set, take, drop, replicate, length-replicate, get_or-replicate, get_or-append}
use mathlib.Core.List.{◌++◌}
use Rattle.std.proofs.lemmas.List.{length-take-le, length-drop, length-append, get_or-drop, get_or-append_right}
use lib.Seq.{get_or-set_same, get_or-set_other}
use lib.Dec.{leb, eqb}
use borrow.Author.Tests.{leb-true, leb-false, eqb-true, eq-eqb, ne_eqb}
use Rattle.rings.specs.Words.{at}
use Rattle.rings.specs.Table.{Table, table_of, first_of, second_of}
use Rattle.rings.specs.Ring.{joins}
use Rattle.rings.specs.Sound.{Sound}
use Rattle.rings.specs.Inner.Adjacency.{pair_before, earlier, slot, slot_of, slot_before, Emptied, Chained}
use Rattle.rings.specs.Inner.Adjacency.{Pairing, SlotFound}
use Rattle.rings.proofs.WordLaws.{true_or_false, clash, same_or}
use Rattle.rings.proofs.RingLaws.{joins_cases}
use Rattle.rings.proofs.PairLaws.{joins_ends, before_yes, before_no}

-- ---- clear_slots

-- the first places are filled with 0
pub emptied_part : {sc zeros : List ℕ} → 8192 ≤ length sc → zeros ≡ replicate (length (take 8192 sc)) 0
    → Emptied sc (zeros ++ drop 8192 sc)
emptied_part {sc} {zeros} many e =
    let full : length (take 8192 sc) ≡ 8192 = length-take-le 8192 sc many in
    let long : length zeros ≡ 8192 = ap length e ∙ (length-replicate _ 0 ∙ full) in
    record {
      long = length-append zeros (drop 8192 sc) ∙ (let n = length-drop 8192 sc in omega arith);
      low = λ p l. get_or-append zeros (drop 8192 sc) 0 p (omega arith)
          ∙ (ap (λ (x : List ℕ). get_or x p 0) e ∙ get_or-replicate (length (take 8192 sc)) p 0 0 (omega arith));
      high = λ p l. get_or-append_right zeros (drop 8192 sc) 8192 p 0 long l
          ∙ (get_or-drop 8192 sc (p - 8192) 0 ∙ ap (λ (i : ℕ). get_or sc i 0) (omega arith));
    }

-- ---- the last row with a slot

slot_yes : (t : Table) (h n : ℕ) → slot_of t n ≡ h → slot_before t h (suc n) ≡ suc n
unfolding slot_before
slot_yes t h n e =
    ap (λ (x : Bool). elim x as (λ _. ℕ) [ true ↦ suc n | false ↦ slot_before t h n ]) (eq-eqb (slot_of t n) h e)

slot_no : (t : Table) (h n : ℕ) → (slot_of t n ≡ h → ⊥) → slot_before t h (suc n) ≡ slot_before t h n
unfolding slot_before
slot_no t h n e =
    ap (λ (x : Bool). elim x as (λ _. ℕ) [ true ↦ suc n | false ↦ slot_before t h n ]) (ne_eqb (slot_of t n) h e)

slot_le : (t : Table) (h n : ℕ) → slot_before t h n ≤ n
unfolding slot_before
slot_le t h zero = le_refl 0
slot_le t h (suc n) =
    ⊎_elim (λ y. let e = slot_yes t h n y in omega arith)
    (λ y. let e = slot_no t h n y in let k = slot_le t h n in omega arith)
    (same_or (slot_of t n) h)

slot_hit : (t : Table) (h n m : ℕ) → slot_before t h n ≡ suc m → slot_of t m ≡ h
unfolding slot_before
slot_hit t h zero m e = absurd (let k : 0 ≡ suc m = e in omega arith)
slot_hit t h (suc n) m e =
    ⊎_elim (λ y. let k = slot_yes t h n y in let g : m ≡ n = omega arith in ap (slot_of t) g ∙ y)
    (λ y. slot_hit t h n m (sym (slot_no t h n y) ∙ e)) (same_or (slot_of t n) h)

slot_gap : (t : Table) (h n i : ℕ) → slot_before t h n ≤ i → i < n → slot_of t i ≡ h → ⊥
slot_gap t h zero i a l e = absurd (not-suc-le-zero l)
slot_gap t h (suc n) i a l e =
    ⊎_elim (λ y. let k = slot_yes t h n y in omega arith)
    (λ y.
    ⊎_elim (λ z. y (ap (slot_of t) (sym z) ∙ e)) (λ z. slot_gap t h n i (let k = slot_no t h n y in omega arith) z e)
    (eq-or-lt_of_le (le_of_suc-le-suc l)))
    (same_or (slot_of t n) h)

-- the rows of row j's pair that lie before it lie below p, which is 0 or one past a row with its slot
pub record Seeking (d f s : List ℕ) (j p : ℕ) (sc : List ℕ) : Type 0 where
  pub made : Pairing (table_of d f s) (suc j) sc
  pub row : j < length d
  pub low : p ≤ j
  pub hit : (i : ℕ) → p ≡ suc i → slot_of (table_of d f s) i ≡ slot_of (table_of d f s) j
  pub none : (i : ℕ) → p ≤ i → i < j
      → joins (table_of d f s) i (first_of (table_of d f s) j) (second_of (table_of d f s) j) ≡ false

pub slot_is : (a b : ℕ) → SlotFound a b ((a * 1301 + b) % 8192)
unfolding slot
slot_is a b = record { is = refl; below = mod-lt (a * 1301 + b) (omega arith) }

-- ---- chain_rows

module _ (d f s : List ℕ) (S : Sound d f s) where
  abbrev t : Table
  t = table_of d f s

  pub row_slot : (j : ℕ) {a b h : ℕ} → a ≡ get_or f j 0 → b ≡ get_or s j 0 → h ≡ slot a b → h ≡ slot_of t j
  unfolding slot_of first_of second_of at
  row_slot j {a} {b} ea eb e = e ∙ (ap (λ (x : ℕ). slot x b) ea ∙ ap (slot (get_or f j 0)) eb)

  pub chain_start : {sc₀ sc : List ℕ} → 8192 + 4 * length d ≤ length sc₀ → Emptied sc₀ sc → Chained t 0 sc
  unfolding slot_before
  chain_start n E =
      record {
        long = subst (λ (m : ℕ). 8192 + 4 * length d ≤ m) (sym E.long) n;
        lasts = λ h l. E.low h l;
        chain = λ r l. absurd (not-suc-le-zero l);
      }

  pub chain_next : {j h last : ℕ} {sc sc₁ sc₂ : List ℕ} → Chained t j sc → j < length d → h < 8192
      → h ≡ slot_of t j → last ≡ get_or sc h 0
      → sc₁ ≡ set sc (8192 + 2 * length d + j) last → sc₂ ≡ set sc₁ h (j + 1) → Chained t (j + 1) sc₂
  chain_next {j} {h} {last} {sc} {sc₁} {sc₂} C l small eh el e₁ e₂ =
      record {
        long =
            subst (λ (m : ℕ). 8192 + 4 * length d ≤ m) (sym (ap length e₂ ∙ (length-set sc₁ h (j + 1) ∙ len₁)))
            C.long;
        lasts = λ g k.
            rw (add-one j)
            (⊎_elim (λ y. here g y)
            (λ n. off₂ g n
            ∙ (off₁ g (λ z. omega arith) ∙ (C.lasts g k ∙ sym (slot_no t g j (λ z. n (sym z ∙ sym eh))))))
            (same_or g h));
        chain = λ r k.
            off₂ (8192 + 2 * length d + r) (λ z. omega arith) ∙ ⊎_elim (λ y. new r y)
            (λ y. off₁ (8192 + 2 * length d + r) (λ z. omega arith) ∙ C.chain r y) (eq-or-lt_of_le (omega arith));
      }
    where
      len₁ : length sc₁ ≡ length sc
      len₁ = ap length e₁ ∙ length-set sc (8192 + 2 * length d + j) last

      off₁ : (k : ℕ) → (k ≡ 8192 + 2 * length d + j → ⊥) → get_or sc₁ k 0 ≡ get_or sc k 0
      off₁ k n = ap (λ (x : List ℕ). get_or x k 0) e₁ ∙ get_or-set_other sc (8192 + 2 * length d + j) k last 0 n

      off₂ : (k : ℕ) → (k ≡ h → ⊥) → get_or sc₂ k 0 ≡ get_or sc₁ k 0
      off₂ k n = ap (λ (x : List ℕ). get_or x k 0) e₂ ∙ get_or-set_other sc₁ h k (j + 1) 0 n

      here : (g : ℕ) → g ≡ h → get_or sc₂ g 0 ≡ slot_before t g (suc j)
      here g y =
          ap (λ (c : ℕ). get_or sc₂ c 0) y
          ∙ (ap (λ (x : List ℕ). get_or x h 0) e₂
          ∙ (get_or-set_same sc₁ h (j + 1) 0 (let m = len₁ in let o = C.long in omega arith)
          ∙ (add-one j ∙ sym (slot_yes t g j (sym eh ∙ sym y)))))

      new : (r : ℕ) → r ≡ j → get_or sc₁ (8192 + 2 * length d + r) 0 ≡ slot_before t (slot_of t r) r
      new r y =
          ap (λ (c : ℕ). get_or sc₁ (8192 + 2 * length d + c) 0) y
          ∙ (ap (λ (x : List ℕ). get_or x (8192 + 2 * length d + j) 0) e₁
          ∙ (get_or-set_same sc (8192 + 2 * length d + j) last 0 (let o = C.long in omega arith)
          ∙ (el
          ∙ (C.lasts h small
          ∙ (ap (λ (c : ℕ). slot_before t c j) eh ∙ ap (λ (c : ℕ). slot_before t (slot_of t c) c) (sym y))))))

  pub chain_last : {j h last : ℕ} {sc : List ℕ} → Chained t j sc → h < 8192 → last ≡ get_or sc h 0 → last ≤ j
  chain_last {j} {h} C l e = let a = C.lasts h l in let b = slot_le t h j in omega arith

  pub chain_end : {j : ℕ} {sc : List ℕ} → Chained t j sc → j ≤ length d → length d ≤ j → Chained t (length d) sc
  chain_end {j} {sc} C a b = subst (λ (c : ℕ). Chained t c sc) (le_antisymm a b) C

  -- ---- find_pairs

  pub pairing_start : {sc : List ℕ} → Chained t (length d) sc → Pairing t (length d) sc
  pairing_start C = record { long = C.long; chain = C.chain; pairs = λ r a l. absurd (omega arith) }

  -- the last row below n that joins a pair
  before_last : (a b n i : ℕ) → i < n → joins t i a b ≡ true → ((m : ℕ) → i < m → m < n → joins t m a b ≡ false)
      → pair_before t a b n ≡ suc i
  before_last a b zero i l h g = absurd (not-suc-le-zero l)
  before_last a b (suc n) i l h g =
      ⊎_elim (λ y. before_yes t a b n (subst (λ (c : ℕ). joins t c a b ≡ true) y h) ∙ ap suc (sym y))
      (λ y. before_no t a b n (g n y (le_refl (suc n))) ∙ before_last a b n i y h (λ m o k. g m o (omega arith)))
      (eq-or-lt_of_le (le_of_suc-le-suc l))

  before_none : (a b n : ℕ) → ((m : ℕ) → m < n → joins t m a b ≡ false) → pair_before t a b n ≡ 0
  unfolding pair_before
  before_none a b zero g = refl
  before_none a b (suc n) g = before_no t a b n (g n (le_refl (suc n))) ∙ before_none a b n (λ m o. g m (omega arith))

  -- rows of one pair have its accounts in the same order, and one slot
  joined : (i j : ℕ) → i < length d → j < length d → joins t i (first_of t j) (second_of t j) ≡ true
      → (first_of t i ≡ first_of t j) × (second_of t i ≡ second_of t j)
  unfolding first_of second_of at
  joined i j k l h =
      ⊎_elim (λ e. e)
      (λ e. let x = (S.rows i k).accounts in let y = (S.rows j l).accounts in let a = e.0 in let b = e.1 in
      absurd (omega arith))
      (joins_cases t i (first_of t j) (second_of t j) h)

  joined_slot : (i j : ℕ) → i < length d → j < length d → joins t i (first_of t j) (second_of t j) ≡ true
      → slot_of t i ≡ slot_of t j
  unfolding slot_of
  joined_slot i j k l h =
      let e = joined i j k l h in ap (λ (x : ℕ). slot x (second_of t i)) e.0 ∙ ap (slot (first_of t j)) e.1

  pair_first : (i j : ℕ) → j < length d → i < length d → joins t i (first_of t j) (second_of t j) ≡ true
      → get_or f i 0 ≡ get_or f j 0
  unfolding first_of at
  pair_first i j l k h = (joined i j k l h).0

  pair_second : (i j : ℕ) → j < length d → i < length d → joins t i (first_of t j) (second_of t j) ≡ true
      → get_or s i 0 ≡ get_or s j 0
  unfolding second_of at
  pair_second i j l k h = (joined i j k l h).1

  same_pair : (i j : ℕ) → get_or f i 0 ≡ get_or f j 0 → get_or s i 0 ≡ get_or s j 0
      → joins t i (first_of t j) (second_of t j) ≡ true
  unfolding first_of second_of at
  same_pair i j e g =
      subst (λ (a : ℕ). joins t i a (get_or s j 0) ≡ true) e
      (subst (λ (b : ℕ). joins t i (get_or f i 0) b ≡ true) g (joins_ends t i))

  pub seek_start : {left j p : ℕ} {sc : List ℕ} → Pairing t left sc → 0 < left → left ≤ length d → j ≡ left - 1
      → p ≡ get_or sc (8192 + 2 * length d + j) 0 → Seeking d f s j p sc
  seek_start {left} {j} {p} {sc} P h k e ep =
      let is : left ≡ suc j = omega arith in
      let at_j : p ≡ slot_before t (slot_of t j) j = ep ∙ P.chain j (omega arith) in
      record {
        made = subst (λ (c : ℕ). Pairing t c sc) is P;
        row = omega arith;
        low = let m = slot_le t (slot_of t j) j in omega arith;
        hit = λ i y. slot_hit t (slot_of t j) j i (sym at_j ∙ y);
        none = λ i a b.
            ⊎_elim
            (λ y. absurd
            (slot_gap t (slot_of t j) j i (omega arith) b (joined_slot i j (omega arith) (omega arith) y)))
            (λ y. y)
            (true_or_false (joins t i (first_of t j) (second_of t j)));
      }

  -- the earlier row of row j is stored
  stored : {j p e : ℕ} {sc sc' : List ℕ} → Seeking d f s j p sc → earlier t j ≡ e
      → sc' ≡ set sc (8192 + 2 * length d + j) e → Pairing t j sc'
  stored {j} {p} {e} {sc} {sc'} X is es =
      record {
        long =
            subst (λ (m : ℕ). 8192 + 4 * length d ≤ m)
            (sym (ap length es ∙ length-set sc (8192 + 2 * length d + j) e)) X.made.long;
        chain = λ r l. off (8192 + 2 * length d + r) (λ z. omega arith) ∙ X.made.chain r (omega arith);
        pairs = λ r a l.
            ⊎_elim
            (λ y.
            ap (λ (c : ℕ). get_or sc' (8192 + 2 * length d + c) 0) (sym y)
            ∙ (ap (λ (x : List ℕ). get_or x (8192 + 2 * length d + j) 0) es
            ∙ (get_or-set_same sc (8192 + 2 * length d + j) e 0 (let m = X.made.long in let o = X.row in omega arith)
            ∙ (sym is ∙ ap (earlier t) y))))
            (λ y. off (8192 + 2 * length d + r) (λ z. omega arith) ∙ X.made.pairs r y l) (eq-or-lt_of_le a);
      }
    where
      off : (k : ℕ) → (k ≡ 8192 + 2 * length d + j → ⊥) → get_or sc' k 0 ≡ get_or sc k 0
      off k n = ap (λ (x : List ℕ). get_or x k 0) es ∙ get_or-set_other sc (8192 + 2 * length d + j) k e 0 n

  module _ {j p i : ℕ} {sc : List ℕ} (X : Seeking d f s j p sc) (more : 0 < p) (ei : i ≡ p - 1) where
    is_suc : p ≡ suc i
    is_suc = omega arith

    pub seek_row : i < length d
    seek_row = let a = X.low in let b = X.row in omega arith

    pub seek_place : 8192 + 2 * length d + i < length sc
    seek_place = let a = seek_row in let b = X.made.long in omega arith

    pub seek_less : {p' : ℕ} → p' ≡ get_or sc (8192 + 2 * length d + i) 0 → p' < p
    seek_less ep =
        let a = X.made.chain i (let m = X.low in omega arith) in let b = slot_le t (slot_of t i) i in omega arith

    module _ {a b : ℕ} {y : Bool} (ea : a ≡ get_or f j 0) (eb : b ≡ get_or s j 0)
        (ey : y ≡ (eqb (get_or f i 0) a && eqb (get_or s i 0) b)) where
      pub seek_found : {sc' : List ℕ} → y ≡ true → sc' ≡ set sc (8192 + 2 * length d + j) p → Pairing t j sc'
      unfolding earlier
      seek_found {sc'} h es =
          stored X
          (before_last (first_of t j) (second_of t j) j i (let m = X.low in omega arith) same
          (λ m k o. X.none m (omega arith) o)
          ∙ sym
          is_suc)
          es
        where
          both : (q r : Bool) → (q && r) ≡ true → (q ≡ true) × (r ≡ true)
          both true r e = (refl, e)
          both false r e = clash refl (sym e)

          same : joins t i (first_of t j) (second_of t j) ≡ true
          same =
              same_pair i j
              (eqb-true (get_or f i 0) a (both (eqb (get_or f i 0) a) (eqb (get_or s i 0) b) (sym ey ∙ h)).0 ∙ ea)
              (eqb-true (get_or s i 0) b (both (eqb (get_or f i 0) a) (eqb (get_or s i 0) b) (sym ey ∙ h)).1 ∙ eb)

      pub seek_next : {p' : ℕ} → y ≡ false → p' ≡ get_or sc (8192 + 2 * length d + i) 0 → Seeking d f s j p' sc
      seek_next {p'} h ep =
          let at_i : p' ≡ slot_before t (slot_of t i) i = ep ∙ X.made.chain i (let m = X.low in omega arith) in
          let m = slot_le t (slot_of t i) i in
          let low = X.low in
          record {
            made = X.made;
            row = X.row;
            low = omega arith;
            hit = λ k e. slot_hit t (slot_of t i) i k (sym at_i ∙ e) ∙ X.hit i is_suc;
            none = λ k l o.
                ⊎_elim
                (λ z.
                ⊎_elim (λ w. clash (subst (λ (c : ℕ). joins t c (first_of t j) (second_of t j) ≡ true) w z) other)
                (λ w.
                ⊎_elim
                (λ v.
                absurd
                (slot_gap t (slot_of t i) i k (omega arith) v
                (joined_slot k j (let r = X.row in omega arith) X.row z ∙ sym (X.hit i is_suc))))
                (λ v. clash z (X.none k (omega arith) o)) (apart k w))
                (same_or k i))
                (λ z. z) (true_or_false (joins t k (first_of t j) (second_of t j)));
          }
        where
          apart : (k : ℕ) → (k ≡ i → ⊥) → (k < i) ⊎ (i < k)
          apart k n =
              ⊎_elim (λ z. ⊎_elim (λ w. absurd (n w)) ◌⊎◌.inl (eq-or-lt_of_le (leb-true k i z)))
              (λ z. ◌⊎◌.inr (leb-false k i z)) (true_or_false (leb k i))

          both : (q r : Bool) → q ≡ true → r ≡ true → (q && r) ≡ true
          both q r e g = ap (λ (w : Bool). w && r) e ∙ g

          other : joins t i (first_of t j) (second_of t j) ≡ false
          other =
              ⊎_elim
              (λ z.
              clash
              (ey
              ∙ both (eqb (get_or f i 0) a) (eqb (get_or s i 0) b)
              (eq-eqb (get_or f i 0) a (pair_first i j X.row seek_row z ∙ sym ea))
              (eq-eqb (get_or s i 0) b (pair_second i j X.row seek_row z ∙ sym eb)))
              h)
              (λ z. z) (true_or_false (joins t i (first_of t j) (second_of t j)))

  pub seek_none : {j p : ℕ} {sc sc' : List ℕ} → Seeking d f s j p sc → p ≤ 0
      → sc' ≡ set sc (8192 + 2 * length d + j) 0 → Pairing t j sc'
  unfolding earlier
  seek_none {j} X h es = stored X (before_none (first_of t j) (second_of t j) j (λ m o. X.none m (omega arith) o)) es

  pub pairing_end : {left : ℕ} {sc : List ℕ} → Pairing t left sc → left ≤ 0 → Pairing t 0 sc
  pairing_end {left} {sc} P h = subst (λ (c : ℕ). Pairing t c sc) (le_antisymm h (omega arith)) P
