-- Checks in order.
--     then_refused, then_accepted   the first check that refuses decides
--     accepted_left, accepted_right, when_accepted, passed      what an accepted list of checks says
--     passes, fails                 a check that is met; one that is not
--     order_accepted, order_refused     a run of checks that all pass; one that refuses at i
--     all_accepted                  and what an accepted run says of each
--     Front, front_when, front_then, front_order, front_table, front_call     checks that stand before 9 or are it:
--         their refusals keep the scratch
--     counted_yes, counted_no       the answer of a call that counts
--     counted_e                     what it says where it is a count
--     handed_on                     a `?` that returns hands on the refusal
-- Assumes nothing.
use Prim.Native.Nat.{ℕ, zero, suc, ◌+◌, ◌*◌, ◌≤◌, ◌<◌}
use native.Mathlib.Nat.{le_refl, eq-or-lt_of_le}
use native.Mathlib.Omega.{arith}
use mathlib.Core.Path.{◌≡◌, refl, sym, ◌∙◌, ap, subst}
use mathlib.Core.Logic.{⊎_elim}
use mathlib.Core.Bool.{Bool, true, false}
use lib.Dec.{leb, ltb, eqb}
use lib.ListN.{length}
use Rattle.std.specs.Prelude.{Result, Ok, Err}
use Rattle.std.specs.Result.{IsErrAnd}
use Rattle.rings.specs.Words.{◌and◌, ◌or◌, no, tabulate}
use Rattle.rings.specs.Table.{Table, day_of, first_of, second_of}
use Rattle.rings.specs.Checks.{◌when◌, ◌then◌, in_order, counted, query_check, scratch_check}
use Rattle.rings.specs.Refusals.{behind_scratch, Counted, Verdict}
use Rattle.rings.specs.TableCheck.{day_before, row_faults, row_check, table_check}
use Rattle.rings.specs.declared.Query.{Query}
use Rattle.rings.specs.declared.refusal.Refusal.{Refusal}
use Rattle.rings.specs.declared.refusal.Refusal.TheVariants.{ColumnsDiffer, TooLarge, BadDay, BadAccounts}
use Rattle.rings.specs.declared.refusal.Refusal.TheVariants.{DayFalls, BadK, BadRange, BadLength, Scratch}
use Rattle.rings.proofs.WordLaws.{not_no}

pub then_refused : {v : Verdict} (w : Verdict) {r : Refusal} → v ≡ Err r → v then w ≡ Err r
unfolding ◌then◌
then_refused w e = rw e

pub then_accepted : {v : Verdict} (w : Verdict) → v ≡ Ok tt → v then w ≡ w
unfolding ◌then◌
then_accepted w e = rw e

pub accepted_left : (v w : Verdict) → v then w ≡ Ok tt → v ≡ Ok tt
unfolding ◌then◌
accepted_left (Ok _) w e = refl
accepted_left (Err r) w e = e

pub accepted_right : (v w : Verdict) → v then w ≡ Ok tt → w ≡ Ok tt
unfolding ◌then◌
accepted_right (Ok _) w e = e
accepted_right (Err r) w e = cc

pub when_accepted : (r : Refusal) (b : Bool) → r when b ≡ Ok tt → b ≡ false
unfolding ◌when◌
when_accepted r true e = cc
when_accepted r false e = refl

pub passed : (r : Refusal) (b : Bool) → r when no b ≡ Ok tt → b ≡ true
passed r b e = not_no b (when_accepted r (no b) e)

pub passes : (r : Refusal) {b : Bool} → b ≡ true → r when no b ≡ Ok tt
unfolding ◌when◌ no
passes r h = rw h refl

pub fails : (r : Refusal) {b : Bool} → b ≡ false → r when no b ≡ Err r
unfolding ◌when◌ no
fails r h = rw h refl

pub order_accepted : (f : ℕ → Verdict) (i n : ℕ) → ((j : ℕ) → i ≤ j → j < i + n → f j ≡ Ok tt)
    → in_order (tabulate f i n) ≡ Ok tt
unfolding in_order tabulate
order_accepted f i zero h = refl
order_accepted f i (suc n) h =
    then_accepted (in_order (tabulate f (suc i) n)) (h i (le_refl i) (omega arith))
    ∙ order_accepted f (suc i) n (λ j a b. h j (omega arith) (omega arith))

pub order_refused : (f : ℕ → Verdict) (i n j : ℕ) {r : Refusal}
    → i ≤ j
    → j < i + n
    → ((l : ℕ) → i ≤ l → l < j → f l ≡ Ok tt)
    → f j ≡ Err r
    → in_order (tabulate f i n) ≡ Err r
unfolding in_order tabulate
order_refused f i zero j a b h e = absurd (omega arith)
order_refused f i (suc n) j {r} a b h e =
    ⊎_elim (λ q. then_refused (in_order (tabulate f (suc i) n)) (subst (λ (x : ℕ). f x ≡ Err r) (sym q) e))
    (λ q. then_accepted (in_order (tabulate f (suc i) n)) (h i (le_refl i) q)
    ∙ order_refused f (suc i) n j q (omega arith) (λ l c d. h l (omega arith) d) e)
    (eq-or-lt_of_le a)

pub all_accepted : (f : ℕ → Verdict) (i n : ℕ) → in_order (tabulate f i n) ≡ Ok tt → (j : ℕ) → i ≤ j → j < i + n
    → f j ≡ Ok tt
unfolding in_order tabulate
all_accepted f i zero h j a b = absurd (omega arith)
all_accepted f i (suc n) h j a b =
    ⊎_elim
    (λ q. subst (λ (x : ℕ). f x ≡ Ok tt) q (accepted_left (f i) (in_order (tabulate f (suc i) n)) h))
    (λ q. all_accepted f (suc i) n (accepted_right (f i) (in_order (tabulate f (suc i) n)) h) j q (omega arith))
    (eq-or-lt_of_le a)

-- ---- refusals that keep the scratch

pub record Front (v : Verdict) : Type 0 where
  pub keeps : (r : Refusal) → v ≡ Err r → behind_scratch r ≡ false

front_accepted : Front (Ok tt)
front_accepted = record { keeps = λ r e. cc }

pub front_when : (r : Refusal) (b : Bool) → behind_scratch r ≡ false → Front (r when b)
unfolding ◌when◌
front_when r true h =
    record { keeps = λ r' e. let g : r ≡ r' = cc in subst (λ (x : Refusal). behind_scratch x ≡ false) g h }
front_when r false h = front_accepted

pub front_then : (v w : Verdict) → Front v → Front w → Front (v then w)
unfolding ◌then◌
front_then (Ok _) w f g = g
front_then (Err r) w f g = f

pub front_order : (f : ℕ → Verdict) (i n : ℕ) → ((j : ℕ) → Front (f j)) → Front (in_order (tabulate f i n))
unfolding in_order tabulate
front_order f i zero h = front_accepted
front_order f i (suc n) h = front_then (f i) (in_order (tabulate f (suc i) n)) (h i) (front_order f (suc i) n h)

front_row : (t : Table) (j : ℕ) → Front (row_check t j)
unfolding row_check row_faults behind_scratch
front_row t j =
    front_then (BadDay j when no (leb 1 (day_of t j) and leb (day_of t j) 1024))
    (BadAccounts j when ltb 4095 (second_of t j) or no (ltb (first_of t j) (second_of t j)) then DayFalls j
    when ltb (day_of t j) (day_before t j))
    (front_when (BadDay j) (no (leb 1 (day_of t j) and leb (day_of t j) 1024)) refl)
    (front_then (BadAccounts j when ltb 4095 (second_of t j) or no (ltb (first_of t j) (second_of t j)))
    (DayFalls j when ltb (day_of t j) (day_before t j))
    (front_when (BadAccounts j) (ltb 4095 (second_of t j) or no (ltb (first_of t j) (second_of t j))) refl)
    (front_when (DayFalls j) (ltb (day_of t j) (day_before t j)) refl))

pub front_table : (t : Table) → Front (table_check t)
unfolding table_check behind_scratch
front_table t =
    front_then
    (ColumnsDiffer
    when no (eqb (length t.first) (length t.days) and eqb (length t.second) (length t.days)))
    (TooLarge when ltb 16384 (length t.days) then in_order (tabulate (row_check t) 0 (length t.days)))
    (front_when ColumnsDiffer
    (no (eqb (length t.first) (length t.days) and eqb (length t.second) (length t.days)))
    refl)
    (front_then (TooLarge when ltb 16384 (length t.days))
    (in_order (tabulate (row_check t) 0 (length t.days)))
    (front_when TooLarge (ltb 16384 (length t.days)) refl)
    (front_order (row_check t) 0 (length t.days) (front_row t)))

pub front_call : (t : Table) (q : Query) (window lengths : Bool) (rows scratch : ℕ)
    → Front (table_check t then query_check q then BadRange when no window then BadLength when no lengths
    then scratch_check rows scratch)
unfolding query_check scratch_check behind_scratch
front_call t q window lengths rows scratch =
    front_then (table_check t)
    (query_check q then BadRange when no window then BadLength when no lengths then scratch_check rows scratch)
    (front_table t)
    (front_then (query_check q)
    (BadRange when no window then BadLength when no lengths then scratch_check rows scratch)
    (front_when BadK (no (leb 1 q.k and leb q.k 4095)) refl)
    (front_then (BadRange when no window) (BadLength when no lengths then scratch_check rows scratch)
    (front_when BadRange (no window) refl)
    (front_then (BadLength when no lengths) (scratch_check rows scratch) (front_when BadLength (no lengths) refl)
    (front_when Scratch (ltb scratch (8192 + 4 * rows)) refl))))

-- ---- the answer of a call that counts

pub counted_yes : {v : Verdict} (n : ℕ) → v ≡ Ok tt → counted v n ≡ Ok n
unfolding counted
counted_yes n e = rw e

pub counted_no : {v : Verdict} {r : Refusal} (n : ℕ) → v ≡ Err r → counted v n ≡ Err r
unfolding counted
counted_no n e = rw e

count_of : Counted → ℕ
count_of (Ok n) = n
count_of (Err r) = 0

is_count : Counted → Type 0
is_count (Ok n) = Unit {0}
is_count (Err r) = ⊥

pub counted_e : (v : Verdict) (n m : ℕ) → counted v n ≡ Ok m → (v ≡ Ok tt) × (n ≡ m)
unfolding counted count_of is_count
counted_e (Ok _) n m h = (refl, ap count_of h)
counted_e (Err r) n m h = absurd (subst is_count (sym h) tt)

-- ---- what a `?` returns

pub handed_on : {T : Type 0} {a : Result T Refusal} {r : Refusal} → IsErrAnd a (λ x. x ≡ r) → a ≡ Err r
handed_on {a = Ok x} h = absurd h
handed_on {a = Err x} h = ap Err h
