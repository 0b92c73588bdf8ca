-- Who loses a supporter by a row that leaves (src/settle.rt, drop_leaving_rows).
--     leaving_start, leaving_row, leaving_last               the rows that leave, one after the other
--     first_is, second_is, day_of_lem, first_small, second_small  what the code reads of a row
-- Assumes nothing.
use Prim.Native.Nat.{ℕ, suc, ◌+◌, ◌-◌, ◌≤◌, ◌<◌}
use native.Mathlib.Nat.{le_refl, le_trans, le_antisymm}
use native.Mathlib.Numerals.{add-one}
use native.Mathlib.Omega.{arith}
use mathlib.Core.Path.{◌≡◌, sym, ◌∙◌, ap, subst}
use mathlib.Core.Logic.{◌⊎◌, ⊎_elim}
use mathlib.Core.Bool.{Bool, true, false, ◌&&◌}
use mathlib.Core.List.{List}
use lib.ListN.{length, get_or}
use lib.Dec.{leb, ltb}
use Rattle.rings.specs.Words.{◌and◌, at}
use Rattle.rings.specs.Table.{Table, table_of, size, day_of, first_of, second_of}
use Rattle.rings.specs.Ring.{touches}
use Rattle.rings.specs.CoreTimes.{never}
use Rattle.rings.specs.Sound.{Sound}
use Rattle.rings.specs.Inner.Adjacency.{other_of, leads}
use Rattle.rings.specs.Inner.Peeling.{Setting, estimate}
use Rattle.rings.specs.Inner.Settling.{value, backing, backers, Days, DroppedSupporter, Leaving}
use Rattle.rings.specs.declared.Query.{Query}
use Rattle.rings.proofs.WordLaws.{true_or_false, clash, and_l, count_none}
use Rattle.rings.proofs.RingLaws.{touch_cases}
use Rattle.rings.proofs.PairLaws.{other_first, other_second}
use Rattle.rings.proofs.LeadLaws.{lead_from}
use Rattle.rings.proofs.PeelStateLaws.{estimate_at}
use Rattle.rings.proofs.DayScanLaws.{both}
use Rattle.rings.proofs.ScanLaws.{backers_yes, backers_no}
use Rattle.rings.proofs.BackerLaws.{backing_e}
use Rattle.rings.proofs.SupporterLaws.{dropped_i, OneLess, dropped_supporter_less}

backed_lead : (t : Table) (x : ℕ → ℕ) (lo c u i : ℕ) → backing t x lo c u i ≡ true → leads t lo i ≡ true
unfolding backing
backed_lead t x lo c u i h = and_l (leads t lo i) (touches t i u and leb (value t x i u) c) h

backers_below : (t : Table) (x : ℕ → ℕ) (lo c u m : ℕ) → m ≤ lo → backers t x lo c u m ≡ 0
unfolding backers
backers_below t x lo c u m l =
    count_none (backing t x lo c u) m
    (λ i h. ⊎_elim (λ y. let b = lead_from t lo i (backed_lead t x lo c u i y) in absurd (omega arith)) (λ y. y)
    (true_or_false (backing t x lo c u i)))

module _ (t : Table) (q : Query) (s hi lo : ℕ) (S : Setting t q s hi lo) (xs : List ℕ) (len : length xs ≡ 4096)
    (D : Days hi xs) where
  abbrev x : ℕ → ℕ
  x = estimate xs

  pub leaving_start : (sp : List ℕ) → length sp ≡ 4096 → Leaving t x lo lo sp sp
  leaving_start sp l =
      record { long = l; less = λ u h. let b = backers_below t x lo (x u) u lo (le_refl lo) in ◌⊎◌.inr (omega arith) }

  module _ {j : ℕ} {sp₀ sp : List ℕ} (F : Leaving t x lo j sp₀ sp) where
    -- a row that backs nobody takes nothing
    rest : (sp' : List ℕ) (u : ℕ)
        → u < 4096
        → get_or sp' u 0 ≤ get_or sp u 0
        → backing t x lo (x u) u j ≡ false
        → (x u ≡ never) ⊎ (get_or sp' u 0 ≤ get_or sp₀ u 0 - backers t x lo (x u) u (j + 1))
    rest sp' u l h nb =
        ⊎_elim ◌⊎◌.inl
        (λ m. let b : backers t x lo (x u) u (j + 1)
        ≡ backers t x lo (x u) u j = ap (backers t x lo (x u) u) (add-one j)
        ∙ backers_no t q s hi lo S x (x u) u j nb in
        ◌⊎◌.inr (omega arith))
        (F.less u l)

    -- one that backs u takes one at most
    taken : (sp' : List ℕ) (u : ℕ) → u < 4096 → get_or sp' u 0 ≤ get_or sp u 0 - 1
        → (x u ≡ never) ⊎ (get_or sp' u 0 ≤ get_or sp₀ u 0 - backers t x lo (x u) u (j + 1))
    taken sp' u l h =
        ⊎_elim (λ y. ⊎_elim ◌⊎◌.inl
        (λ m. let b : backers t x lo (x u) u (j + 1)
        ≡ suc (backers t x lo (x u) u j) = ap (backers t x lo (x u) u) (add-one j)
        ∙ backers_yes t q s hi lo S x (x u) u j y in
        ◌⊎◌.inr (omega arith))
        (F.less u l))
        (λ y. rest sp' u l (omega arith) y) (true_or_false (backing t x lo (x u) u j))

    -- u, whose other account is v: it loses v by row j if it had it
    gate : {y : Bool} {u v tail r : ℕ} {spa wsa spb wsb : List ℕ} (sp' : List ℕ)
        → u < 4096
        → other_of t j u ≡ v
        → (leads t lo j ≡ true → x v ≤ x u → day_of t j ≤ x u → x u < never → y ≡ true)
        → length spa ≡ 4096
        → get_or spa u 0 ≤ get_or sp u 0
        → get_or sp' u 0 ≤ get_or spb u 0
        → DroppedSupporter y u tail spa wsa spb wsb r
        → (x u ≡ never) ⊎ (get_or sp' u 0 ≤ get_or sp₀ u 0 - backers t x lo (x u) u (j + 1))
    unfolding value
    gate {y} {u} {v} sp' l ev dropped la ha hb L =
        ⊎_elim (λ h. taken sp' u l (let m = (dropped_supporter_less l la L).one h in omega arith))
        (λ h. ⊎_elim
        (λ k. rest sp' u l (let m = (dropped_supporter_less l la L).down u in omega arith)
        (⊎_elim
        (λ z.
        let w = backing_e t q s hi lo S x (x u) u j z in
        let b = w.by in
        let c : x (other_of t j u) ≡ x v = ap x ev in
        let o = S.fits in
        clash (dropped w.is_lead (omega arith) (omega arith) (omega arith)) h)
        (λ z. z) (true_or_false (backing t x lo (x u) u j))))
        ◌⊎◌.inl day_or)
        (true_or_false y)
      where
        day_or : (x u ≤ hi) ⊎ (x u ≡ never)
        day_or = subst (λ (c : ℕ). (c ≤ hi) ⊎ (c ≡ never)) (sym (estimate_at xs u len l)) (D u l)

    pub leaving_row : {y wa wb : Bool} {a b day xa xb tail mid r : ℕ} {ws sp₁ ws₁ sp₂ ws₂ : List ℕ}
        → j < size t
        → y ≡ leads t lo j
        → a ≡ first_of t j
        → b ≡ second_of t j
        → day ≡ day_of t j
        → xa ≡ get_or xs a 0
        → xb ≡ get_or xs b 0
        → wa ≡ ((leb xb xa && leb day xa) && ltb xa never)
        → wb ≡ ((leb xa xb && leb day xb) && ltb xb never)
        → DroppedSupporter (y && wa) a tail sp ws sp₁ ws₁ mid → DroppedSupporter (y && wb) b mid sp₁ ws₁ sp₂ ws₂ r
        → Leaving t x lo (j + 1) sp₀ sp₂
    leaving_row {y} {wa} {wb} {a} {b} {day} {xa} {xb} {sp₁ = sp₁} {sp₂ = sp₂} l ey ea eb ed exa exb ewa ewb A B =
        record {
          long = lessb.long;
          less = λ u h.
              ⊎_elim (λ k. ⊎_elim (λ e. at_a u (sym e)) (λ e. at_b u (sym e)) (touch_cases t j u k))
              (λ k. rest sp₂ u h (le_trans (lessb.down u) (lessa.down u))
              (⊎_elim (λ z. clash (backing_e t q s hi lo S x (x u) u j z).touch k) (λ z. z)
              (true_or_false (backing t x lo (x u) u j))))
              (true_or_false (touches t j u));
        }
      where
        apart : first_of t j < second_of t j
        apart = S.accounts j l

        la : a < 4096
        la = let m = S.small j l in let n = apart in omega arith

        lb : b < 4096
        lb = let m = S.small j l in omega arith

        lessa : OneLess (y && wa) a sp sp₁
        lessa = dropped_supporter_less la F.long A

        lessb : OneLess (y && wb) b sp₁ sp₂
        lessb = dropped_supporter_less lb lessa.long B

        ta : xa ≡ x a
        ta = exa ∙ sym (estimate_at xs a len la)

        tb : xb ≡ x b
        tb = exb ∙ sym (estimate_at xs b len lb)

        at_a : (u : ℕ) → u ≡ first_of t j
            → (x u ≡ never) ⊎ (get_or sp₂ u 0 ≤ get_or sp₀ u 0 - backers t x lo (x u) u (j + 1))
        at_a u e =
            subst
            (λ (c : ℕ). (x c ≡ never) ⊎ (get_or sp₂ c 0 ≤ get_or sp₀ c 0 - backers t x lo (x c) c (j + 1)))
            (sym (e ∙ sym ea))
            (gate sp₂ la (ap (other_of t j) ea ∙ (other_first t j ∙ sym eb))
            (λ f h k o.
            let m = ta in
            let n = tb in
            both (ey ∙ f) (ewa ∙ dropped_i xb xa day never (omega arith) (omega arith) (omega arith)))
            F.long (le_refl (get_or sp a 0)) (lessb.down a) A)

        at_b : (u : ℕ) → u ≡ second_of t j
            → (x u ≡ never) ⊎ (get_or sp₂ u 0 ≤ get_or sp₀ u 0 - backers t x lo (x u) u (j + 1))
        at_b u e =
            subst
            (λ (c : ℕ). (x c ≡ never) ⊎ (get_or sp₂ c 0 ≤ get_or sp₀ c 0 - backers t x lo (x c) c (j + 1)))
            (sym (e ∙ sym eb))
            (gate sp₂ lb (ap (other_of t j) eb ∙ (other_second t j apart ∙ sym ea))
            (λ f h k o.
            let m = ta in
            let n = tb in
            both (ey ∙ f) (ewb ∙ dropped_i xa xb day never (omega arith) (omega arith) (omega arith)))
            lessa.long (lessa.down b) (le_refl (get_or sp₂ b 0)) B)

pub leaving_last : {t : Table} {x : ℕ → ℕ} {lo j next : ℕ} {sp₀ sp : List ℕ} → Leaving t x lo j sp₀ sp → j ≤ next
    → next ≤ j → Leaving t x lo next sp₀ sp
leaving_last {t} {x} {lo} {sp₀ = sp₀} {sp = sp} F a b = subst (λ (m : ℕ). Leaving t x lo m sp₀ sp) (le_antisymm a b) F

-- what the code reads of row j
module _ (d f g : List ℕ) {j : ℕ} (S : Sound d f g) (l : j < length d) where
  abbrev tr : Table
  tr = table_of d f g

  pub first_is : {a : ℕ} → a ≡ get_or f j 0 → a ≡ first_of tr j
  unfolding first_of at
  first_is e = e

  pub second_is : {a : ℕ} → a ≡ get_or g j 0 → a ≡ second_of tr j
  unfolding second_of at
  second_is e = e

  pub day_of_lem : {a : ℕ} → a ≡ get_or d j 0 → a ≡ day_of tr j
  unfolding day_of at
  day_of_lem e = e

  pub first_small : {a : ℕ} → a ≡ get_or f j 0 → a < 4096
  first_small e = let x = (S.rows j l).accounts in let y = (S.rows j l).account_to in omega arith

  pub second_small : {a : ℕ} → a ≡ get_or g j 0 → a < 4096
  second_small e = let y = (S.rows j l).account_to in omega arith
