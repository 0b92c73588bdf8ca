-- A row as the code reads it, and one step of a walk over the rows of an account (src/incident.rt).
--     lead_reads, row_ends, row_small, row_other     what the code reads of a row
--     stands_place, stands_ends, row_read     what `day_at` and `row_at` read and answer
--     row_known, same_day     a row of which the day alone was read, and that its day is the one that `row_at` reads
--     row_leads      whether a row leads its pair, for a walk that begins before lo
--     other_sum      what `other` returns
-- Assumes nothing.
use Prim.Native.Nat.{ℕ, ◌+◌, ◌-◌, ◌*◌, ◌<◌}
use native.Mathlib.Omega.{arith}
use mathlib.Core.Path.{◌≡◌, refl, sym, ◌∙◌, ap, subst}
use mathlib.Core.Logic.{◌⊎◌, ⊎_elim}
use mathlib.Core.Bool.{Bool, true, false, ◌&&◌}
use mathlib.Core.List.{List}
use lib.ListN.{length, get_or}
use lib.Dec.{leb, eqb}
use borrow.Author.Tests.{leb-true, leb-false, eqb-true, eqb-false}
use Rattle.rings.specs.Words.{◌and◌, at}
use Rattle.rings.specs.Table.{Table, table_of, day_of, first_of, second_of}
use Rattle.rings.specs.Ring.{touches}
use Rattle.rings.specs.Sound.{Sound}
use Rattle.rings.specs.Inner.Adjacency.{AccountEnds, pick_other, other_of, leads, Pairs}
use Rattle.rings.specs.Inner.Incident.{PlaceStands, RowStands, RowRead}
use Rattle.rings.specs.declared.incident.Incident.{Incident}
use Rattle.rings.proofs.WordLaws.{true_or_false}
use Rattle.rings.proofs.RingLaws.{touch_cases}
use Rattle.rings.proofs.RankLaws.{first_small, second_small}
use Rattle.rings.proofs.LeadLaws.{lead_from, lead_test, lead_alone}

-- row j, as the code reads it
module _ (d f s : List ℕ) (S : Sound d f s) {j : ℕ} (l : j < length d) where
  pub lead_reads : (lo : ℕ) (scratch : List ℕ) {y : Bool} → Pairs (table_of d f s) scratch
      → y ≡ (leb lo j and leb (get_or scratch (8192 + 2 * length d + j) 0) lo) → y ≡ leads (table_of d f s) lo j
  lead_reads lo scratch P h = lead_test (table_of d f s) lo j (P j l) h

  module _ (u : ℕ) (h : touches (table_of d f s) j u ≡ true) {a c : ℕ} (ea : a ≡ get_or f j 0) (ec : c ≡ get_or s j 0) where
    -- u is one of its accounts
    pub row_ends : AccountEnds a c u
    unfolding first_of second_of at
    row_ends =
        record {
          first = first_small S l ea;
          second = second_small S l ec;
          one = ⊎_elim (λ e. ◌⊎◌.inl (ea ∙ e)) (λ e. ◌⊎◌.inr (ec ∙ e)) (touch_cases (table_of d f s) j u h);
        }

    pub row_small : {v : ℕ} → v ≡ pick_other (eqb a u) a c → v < 4096
    unfolding pick_other
    row_small {v} ev =
        ⊎_elim (λ y. let z : v ≡ c = ev ∙ ap (λ (w : Bool). pick_other w a c) y in let k = row_ends.second in
        omega arith)
        (λ y. let z : v ≡ a = ev ∙ ap (λ (w : Bool). pick_other w a c) y in let k = row_ends.first in omega arith)
        (true_or_false (eqb a u))

    -- the other
    pub row_other : {v : ℕ} → v ≡ pick_other (eqb a u) a c → v ≡ other_of (table_of d f s) j u
    unfolding other_of first_of second_of at
    row_other ev =
        ev
        ∙ (ap (λ (y : ℕ). pick_other (eqb y u) y c) ea
        ∙ ap (λ (y : ℕ). pick_other (eqb (get_or f j 0) u) (get_or f j 0) y) ec)

-- `row_at`: j is the row that stands at p, a and c are its accounts
module _ {d f s scratch : List ℕ} {u p : ℕ} (R : RowStands (table_of d f s) scratch u p) {j : ℕ}
    (ej : j ≡ get_or scratch (8192 + p) 0) where
  at_below : j < length d
  at_below = let a = R.row in omega arith

  at_touch : touches (table_of d f s) j u ≡ true
  at_touch = subst (λ (i : ℕ). touches (table_of d f s) i u ≡ true) (sym ej) R.touch

  module _ {a c : ℕ} (ea : a ≡ get_or f j 0) (ec : c ≡ get_or s j 0) where
    -- what `other` asks
    pub stands_ends : AccountEnds a c u
    stands_ends = row_ends d f s R.sound at_below u at_touch ea ec

    -- v is the account that is not u, e the earlier row
    pub row_read : (lo : ℕ) {day v e : ℕ} → day ≡ get_or d j 0 → v ≡ pick_other (eqb a u) a c
        → e ≡ get_or scratch (8192 + 2 * length d + j) 0
        → RowRead (table_of d f s) scratch lo u p (record { row = j; day = day; other = v; leads = leb e lo })
    unfolding day_of at
    row_read lo ed ev ee =
        record {
          row = ej;
          below = at_below;
          touch = at_touch;
          day = ed;
          other = row_other d f s R.sound at_below u at_touch ea ec ev;
          small = row_small d f s R.sound at_below u at_touch ea ec ev;
          leads = λ h. lead_alone (table_of d f s) lo j h (ee ∙ R.pairs j at_below);
        }

-- what `day_at` asks
pub stands_place : {d f s scratch : List ℕ} {u p : ℕ} → RowStands (table_of d f s) scratch u p → PlaceStands d scratch p
stands_place R = record { place = let a = R.long in let b = R.place in omega arith; row = R.row }

-- the day alone was read
pub row_known : {d f s scratch : List ℕ} {u p : ℕ} → RowStands (table_of d f s) scratch u p → (lo : ℕ) {day : ℕ}
    → day ≡ get_or d (get_or scratch (8192 + p) 0) 0
    → let j = get_or scratch (8192 + p) 0 in
    RowRead (table_of d f s) scratch lo u p
    (record {
      row = j;
      day = day;
      other = pick_other (eqb (get_or f j 0) u) (get_or f j 0) (get_or s j 0);
      leads = leb (get_or scratch (8192 + 2 * length d + j) 0) lo;
    })
row_known R lo ed = row_read R refl refl refl lo ed refl refl

pub same_day : {d f s scratch : List ℕ} {lo u p day : ℕ} {it : Incident} → RowRead (table_of d f s) scratch lo u p it
    → day ≡ get_or d (get_or scratch (8192 + p) 0) 0 → day ≡ it.day
unfolding day_of at
same_day {d = d} I e = e ∙ (ap (λ (j : ℕ). get_or d j 0) (sym I.row) ∙ sym I.day)

-- a walk that begins before lo asks for that too
pub row_leads : {t : Table} {scratch : List ℕ} {lo u p : ℕ} {r : Incident} → RowRead t scratch lo u p r
    → (leb lo r.row && r.leads) ≡ leads t lo r.row
row_leads {t} {lo = lo} {r = r} R =
    ⊎_elim (λ y. ap (λ (b : Bool). b && r.leads) y ∙ R.leads (leb-true lo r.row y))
    (λ y. ap (λ (b : Bool). b && r.leads) y ∙ sym (not_before y)) (true_or_false (leb lo r.row))
  where
    not_before : leb lo r.row ≡ false → leads t lo r.row ≡ false
    not_before y =
        ⊎_elim
        (λ h. let a = lead_from t lo r.row h in let b = leb-false lo r.row y in absurd (omega arith))
        (λ h. h)
        (true_or_false (leads t lo r.row))

-- what `other` returns
pub other_sum : {a b u r : ℕ} → (a ≡ u) ⊎ (b ≡ u) → r ≡ a + b - u → r ≡ pick_other (eqb a u) a b
unfolding pick_other
other_sum {a} {b} {u} {r} h e =
    ⊎_elim (λ y. let g : r ≡ b = let z = eqb-true a u y in omega arith in
    g ∙ ap (λ (c : Bool). pick_other c a b) (sym y))
    (λ y. let g : r ≡ a = ⊎_elim (λ z. absurd (eqb-false a u y z)) (λ z. omega arith) h in
    g ∙ ap (λ (c : Bool). pick_other c a b) (sym y))
    (true_or_false (eqb a u))
