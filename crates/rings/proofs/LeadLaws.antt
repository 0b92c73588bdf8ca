-- Which rows count, and from which day on: the laws of `pair_counts`, `leads`, `open_day` and `opens_by`
-- (specs/Inner/Adjacency.antt), which no other file opens.
--     counts_from, counts_here     a row by which its pair counts is at lo or later; each row at lo or later is one
--     lead_counts, lead_from     by a leading row its pair counts, so it is at lo or later
--     lead_one                    a pair has one leading row at most
--     lead_on                     as lo moves on, a leading row stays one while its pair counts by it
--     lead_test, lead_alone      what the test on the earlier row of the pair says
--     open_own                     a row opens on its own day or later
--     open_day_lem, day_opens          it opens on its own day, so each row of a window opens in it
--     Opens, opens_e, opens_i, opens_not     what `opens_by` says
--     ring_opens, opens_ring       a row of a ring opens by its end; one that does, between two accounts of the ring,
--                                  is in it
--     row_opens, row_shut          its core time is the greatest of its accounts' and the day on which it opens;
--                                  never if it does not open in the range
--     open_is                      a row by which its pair counts opens on its own day
--     lead_opens                   a leading row dated by day c opens by c
--     LeadBy, open_lead            the pair of a row that opens by c has a leading row dated by c
-- Here one row is enough for a pair to count. Where h rows are asked for (02, S-7), the definitions change and these
-- laws are proved anew, in the same words; so are two_met (RingLaws) and row_max (CoreTimeLaws), on which opens_ring
-- and row_opens rest.
-- Four of them hold for one row alone, counts_here, lead_alone, open_day_lem and day_opens: who cites these needs another
-- argument then.
-- Assumes nothing.
use Prim.Native.Nat.{ℕ, zero, suc, max, ◌≤◌, ◌<◌, zero-le}
use native.Mathlib.Nat.{le_refl, le_trans, eq-or-lt_of_le, not-suc-le-zero}
use native.Mathlib.Omega.{arith}
use mathlib.Core.Path.{◌≡◌, refl, sym, ◌∙◌, ap, subst}
use mathlib.Core.Logic.{⊎_elim}
use mathlib.Core.Bool.{Bool, true, false}
use lib.Dec.{leb}
use borrow.Author.Tests.{leb-true, leb-false, le-leb}
use Rattle.rings.specs.Words.{◌and◌, some}
use Rattle.rings.specs.Table.{Table, size, day_of, first_of, second_of}
use Rattle.rings.specs.Ring.{joins, met, ring, in_ring}
use Rattle.rings.specs.CoreTimes.{never, account_time, row_time}
use Rattle.rings.specs.Inner.Adjacency.{pair_before, earlier, pair_counts, leads, open_day, opens_by}
use Rattle.rings.specs.Inner.Peeling.{Setting}
use Rattle.rings.specs.declared.Query.{Query}
use Rattle.rings.proofs.WordLaws.{true_or_false, clash, and_i, and_l, and_r, some_e, some_none}
use Rattle.rings.proofs.RingLaws.{in_window_lem, two_met}
use Rattle.rings.proofs.PairLaws.{joins_pair, pair_joins, before_yes, before_no}
use Rattle.rings.proofs.CoreTimeLaws.{row_max, row_outside}

-- ---- the row by which a pair counts

pub counts_from : (t : Table) (lo j : ℕ) → pair_counts t lo j ≡ true → lo ≤ j
unfolding pair_counts
counts_from t lo j h = leb-true lo j h

pub counts_here : (t : Table) (lo j : ℕ) → lo ≤ j → pair_counts t lo j ≡ true
unfolding pair_counts
counts_here t lo j h = le-leb lo j h

pub lead_counts : (t : Table) (lo j : ℕ) → leads t lo j ≡ true → pair_counts t lo j ≡ true
unfolding leads
lead_counts t lo j h = and_l (pair_counts t lo j) (leb (earlier t j) lo) h

pub lead_from : (t : Table) (lo j : ℕ) → leads t lo j ≡ true → lo ≤ j
lead_from t lo j h = counts_from t lo j (lead_counts t lo j h)

-- e is the earlier row, as the scratch has it
pub lead_test : (t : Table) (lo j : ℕ) {e : ℕ} {y : Bool} → e ≡ earlier t j → y ≡ (leb lo j and leb e lo)
    → y ≡ leads t lo j
unfolding leads pair_counts
lead_test t lo j h k = k ∙ ap (λ (c : ℕ). leb lo j and leb c lo) h

-- of a row at lo or later it says all
pub lead_alone : (t : Table) (lo j : ℕ) {e : ℕ} → lo ≤ j → e ≡ earlier t j → leb e lo ≡ leads t lo j
unfolding leads pair_counts ◌and◌
lead_alone t lo j h k = ap (λ (c : ℕ). leb c lo) k ∙ ap (λ (y : Bool). y and leb (earlier t j) lo) (sym (le-leb lo j h))

pub lead_on : (t : Table) {lo next : ℕ} → lo ≤ next → (j : ℕ) → pair_counts t next j ≡ true → leads t lo j ≡ true
    → leads t next j ≡ true
unfolding leads
lead_on t {lo} {next} up j h k =
    and_i h
    (le-leb (earlier t j) next
    (le_trans (leb-true (earlier t j) lo (and_r (pair_counts t lo j) (leb (earlier t j) lo) k)) up))

-- no row from lo on joins the pair
before_e : (t : Table) (a b lo n : ℕ) → pair_before t a b n ≤ lo → (i : ℕ) → lo ≤ i → i < n → joins t i a b ≡ false
before_e t a b lo zero h i l k = absurd (not-suc-le-zero k)
before_e t a b lo (suc n) h i l k =
    ⊎_elim (λ y. let e = before_yes t a b n y in absurd (omega arith))
    (λ y. ⊎_elim (λ e. subst (λ (x : ℕ). joins t x a b ≡ false) (sym e) y)
    (λ o. before_e t a b lo n (rw (before_no t a b n y) at h) i l o)
    (eq-or-lt_of_le (native.Mathlib.Nat.le_of_suc-le-suc k)))
    (true_or_false (joins t n a b))

before_i : (t : Table) (a b lo n : ℕ) → ((i : ℕ) → lo ≤ i → i < n → joins t i a b ≡ false) → pair_before t a b n ≤ lo
unfolding pair_before
before_i t a b lo zero f = zero-le
before_i t a b lo (suc n) f =
    ⊎_elim (λ y. rw (before_yes t a b n y)
    (⊎_elim (λ l. clash y (f n (leb-true lo n l) (le_refl (suc n))))
    (λ l. let k = leb-false lo n l in omega arith) (true_or_false (leb lo n))))
    (λ y. rw (before_no t a b n y) (before_i t a b lo n (λ i l k. f i l (omega arith)))) (true_or_false (joins t n a b))

record Lead (t : Table) (lo j : ℕ) : Type 0 where
  from : lo ≤ j
  none_before : (i : ℕ) → lo ≤ i → i < j → joins t i (first_of t j) (second_of t j) ≡ false

lead_e : (t : Table) (lo j : ℕ) → leads t lo j ≡ true → Lead t lo j
unfolding leads earlier
lead_e t lo j h =
    let e = pair_before t (first_of t j) (second_of t j) j in
    record {
      from = lead_from t lo j h;
      none_before = before_e t (first_of t j) (second_of t j) lo j
          (leb-true e lo (and_r (pair_counts t lo j) (leb e lo) h));
    }

lead_i : (t : Table) (lo j : ℕ) → Lead t lo j → leads t lo j ≡ true
unfolding leads earlier
lead_i t lo j f =
    and_i (counts_here t lo j f.from)
    (le-leb (pair_before t (first_of t j) (second_of t j) j) lo
    (before_i t (first_of t j) (second_of t j) lo j f.none_before))

-- of two leading rows that join the same accounts neither is earlier
pub lead_one : (t : Table) (lo i j u v : ℕ) → leads t lo i ≡ true → leads t lo j ≡ true → joins t i u v ≡ true
    → joins t j u v ≡ true → i ≡ j
lead_one t lo i j u v f g h k =
    ⊎_elim (λ l. ⊎_elim (λ e. e)
    (λ o. clash (pair_joins t i j u v k h) ((lead_e t lo j g).none_before i (lead_e t lo i f).from o))
    (eq-or-lt_of_le (leb-true i j l)))
    (λ l. clash (pair_joins t j i u v h k) ((lead_e t lo i f).none_before j (lead_e t lo j g).from (leb-false i j l)))
    (true_or_false (leb i j))

record LeadRow (t : Table) (lo i u v : ℕ) : Type 0 where
  row : ℕ
  at_most : row ≤ i
  is_lead : leads t lo row ≡ true
  join : joins t row u v ≡ true

-- the pair of a row from lo on has a leading row, which is no later
first_lead : (t : Table) (lo i u v : ℕ) → lo ≤ i → joins t i u v ≡ true → LeadRow t lo i u v
first_lead t lo i u v l h = go i i (le_refl i) l h
  where
    lead_here : (i : ℕ) → lo ≤ i → joins t i u v ≡ true → ((n : ℕ) → lo ≤ n → n < i → joins t n u v ≡ false)
        → LeadRow t lo i u v
    lead_here i l h f =
        record {
          row = i;
          at_most = le_refl i;
          is_lead =
              lead_i t lo i
              (record {
                from = l;
                none_before = λ n a b. ⊎_elim (λ y. clash (joins_pair t n i u v h y) (f n a b)) (λ y. y)
                    (true_or_false (joins t n (first_of t i) (second_of t i)));
              });
          join = h;
        }

    weaker : {m n : ℕ} → m ≤ n → LeadRow t lo m u v → LeadRow t lo n u v
    weaker {m} {n} o w =
        record { row = w.row; at_most = le_trans w.at_most o; is_lead = w.is_lead; join = w.join }

    go : (n i : ℕ) → i ≤ n → lo ≤ i → joins t i u v ≡ true → LeadRow t lo i u v
    go zero i o l h = lead_here i l h (λ m a b. absurd (omega arith))
    go (suc n) i o l h =
        ⊎_elim (λ y.
        let w = some_e earlier_row i y in
        let lw : lo ≤ w.it = leb-true lo w.it (and_l (leb lo w.it) (joins t w.it u v) w.has) in
        let b = w.below in
        weaker (omega arith) (go n w.it (omega arith) lw (and_r (leb lo w.it) (joins t w.it u v) w.has)))
        (λ y. lead_here i l h
        (λ m a b. ⊎_elim (λ z. clash (and_i (le-leb lo m a) z) (some_none earlier_row i y m b)) (λ z. z)
        (true_or_false (joins t m u v))))
        (true_or_false (some earlier_row i))
      where
        earlier_row : ℕ → Bool
        earlier_row m = leb lo m and joins t m u v

-- ---- the day from which a row can be in a ring

pub open_day_lem : (t : Table) (s j : ℕ) → open_day t s j ≡ day_of t j
unfolding open_day
open_day_lem t s j = refl

pub open_own : (t : Table) (s j : ℕ) → day_of t j ≤ open_day t s j
open_own t s j = let e = open_day_lem t s j in omega arith

pub record Opens (t : Table) (s e j : ℕ) : Type 0 where
  pub from : s ≤ day_of t j
  pub to : open_day t s j ≤ e

pub opens_e : (t : Table) (s e j : ℕ) → opens_by t s e j ≡ true → Opens t s e j
unfolding opens_by
opens_e t s e j h =
    record {
      from = leb-true s (day_of t j) (and_l (leb s (day_of t j)) (leb (open_day t s j) e) h);
      to = leb-true (open_day t s j) e (and_r (leb s (day_of t j)) (leb (open_day t s j) e) h);
    }

pub day_opens : (t : Table) (s e j : ℕ) → s ≤ day_of t j → day_of t j ≤ e → Opens t s e j
day_opens t s e j a b = let d = open_day_lem t s j in record { from = a; to = omega arith }

pub opens_i : (t : Table) (s e j : ℕ) → Opens t s e j → opens_by t s e j ≡ true
unfolding opens_by
opens_i t s e j o = and_i (le-leb s (day_of t j) o.from) (le-leb (open_day t s j) e o.to)

pub opens_not : (t : Table) (s e j : ℕ) → opens_by t s e j ≡ false → Opens t s e j → ⊥
opens_not t s e j h o = clash (opens_i t s e j o) h

module _ (t : Table) (q : Query) (s e j : ℕ) where
  pub ring_opens : in_ring t q s e j ≡ true → Opens t s e j
  ring_opens h =
      let w = in_window_lem t q s e j h in
      let a = w.to in let b = open_day_lem t s j in record { from = w.from; to = omega arith }

  pub opens_ring : j < size t → Opens t s e j → met t (ring t q s e) (first_of t j) ≡ true
      → met t (ring t q s e) (second_of t j) ≡ true → in_ring t q s e j ≡ true
  opens_ring l o a b =
      two_met t q s e j (record { row = l; from = o.from; to = le_trans (open_own t s j) o.to }) a b

-- a row's core time is the greatest of its accounts' and the day on which it opens
module _ (t : Table) (q : Query) (hi s : ℕ) where
  pub row_opens : hi < never
      → (j : ℕ) → j < size t
      → Opens t s hi j
      → row_time t q hi s j
      ≡ max (max (account_time t q hi s (first_of t j)) (account_time t q hi s (second_of t j))) (open_day t s j)
  row_opens fits j l o =
      let d = open_day_lem t s j in
      let e = o.to in
      let m = row_max t q hi s fits j (record { row = l; from = o.from; to = omega arith }) in omega arith

  pub row_shut : (j : ℕ) → (Opens t s hi j → ⊥) → row_time t q hi s j ≡ never
  row_shut j f = row_outside t q hi s j (λ i. f (day_opens t s hi j i.from i.to))

-- ---- both, in a window from day s on, whose first row is lo

pub record LeadBy (t : Table) (lo c u v : ℕ) : Type 0 where
  pub row : ℕ
  pub below : row < size t
  pub is_lead : leads t lo row ≡ true
  pub join : joins t row u v ≡ true
  pub by : day_of t row ≤ c

module _ (t : Table) (q : Query) (s hi lo : ℕ) (S : Setting t q s hi lo) where
  pub open_is : (j : ℕ) → j < size t → pair_counts t lo j ≡ true → open_day t s j ≡ day_of t j
  open_is j l h = open_day_lem t s j

  pub lead_opens : (j c : ℕ) → j < size t → leads t lo j ≡ true → day_of t j ≤ c → Opens t s c j
  lead_opens j c l h d =
      let e = open_is j l (lead_counts t lo j h) in
      record { from = S.from_lo j l (lead_from t lo j h); to = omega arith }

  pub open_lead : (i u v c : ℕ) → i < size t → joins t i u v ≡ true → Opens t s c i → LeadBy t lo c u v
  open_lead i u v c l h o =
      let f = first_lead t lo i u v from h in
      let m = f.at_most in
      let a = S.rising f.row i m l in
      let b = open_own t s i in
      let d = o.to in
      record { row = f.row; below = omega arith; is_lead = f.is_lead; join = f.join; by = omega arith }
    where
      from : lo ≤ i
      from =
          ⊎_elim (λ y. leb-true lo i y)
          (λ y. let k = S.before_lo i (leb-false lo i y) in let a = o.from in absurd (omega arith))
          (true_or_false (leb lo i))
