-- The checks that calls on a query share, and what they say of an accepted call.
--     shared                   the table, then 6, 7, 8, 9
--     scratch_kept             their refusals keep the scratch
--     then_room                a check behind them
--     call_sound, call_k, call_window, call_lengths, call_scratch     an accepted call: each check has passed
--     window_e, range_e, start_e, lengths_e     a window or a range, a start in its range, two pairs of lengths that
--                                               passed
-- Assumes nothing.
use Prim.Native.Nat.{ℕ, ◌+◌, ◌*◌, ◌≤◌}
use mathlib.Core.Path.{◌≡◌, refl, sym, ◌∙◌, ap}
use mathlib.Core.Bool.{Bool, true, false}
use mathlib.Core.List.{List}
use lib.ListN.{length}
use lib.Dec.{leb, ltb, eqb}
use borrow.Author.Tests.{leb-true, ltb-false, eqb-true}
use Rattle.std.specs.Prelude.{Ok, Err}
use Rattle.rings.specs.Words.{◌and◌, no}
use Rattle.rings.specs.Table.{Table, table_of}
use Rattle.rings.specs.TableCheck.{table_check}
use Rattle.rings.specs.Sound.{Sound}
use Rattle.rings.specs.Checks.{◌when◌, ◌then◌, query_check, range_check, scratch_check}
use Rattle.rings.specs.Refusals.{behind_scratch, Verdict}
use Rattle.rings.specs.Buffers.{cleared_if, scratch_on}
use Rattle.rings.specs.declared.Query.{Query}
use Rattle.rings.specs.declared.refusal.Refusal.{Refusal}
use Rattle.rings.specs.declared.refusal.Refusal.TheVariants.{BadK, BadRange, BadLength, Scratch}
use Rattle.rings.proofs.WordLaws.{and_l, and_r}
use Rattle.rings.proofs.CheckLaws.{accepted_left, accepted_right, when_accepted, passed, front_call}
use Rattle.rings.proofs.TableLaws.{table_sound}

-- the shared checks
abbrev pub shared : Table → Query → Bool → Bool → ℕ → Verdict
shared t q window lengths scratch =
    table_check t then query_check q then BadRange when no window then BadLength when no lengths
    then scratch_check (length t.days) scratch

scratch_on_lem : (r : Refusal) (sc : List ℕ) → behind_scratch r ≡ false → sc ≡ scratch_on r sc
unfolding scratch_on cleared_if
scratch_on_lem r sc h = rw h

pub scratch_kept : (t : Table) (q : Query) (window lengths : Bool) (n : ℕ) {r : Refusal} (sc : List ℕ)
    → shared t q window lengths n ≡ Err r
    → sc ≡ scratch_on r sc
scratch_kept t q window lengths n {r} sc e =
    scratch_on_lem r sc ((front_call t q window lengths (length t.days) n).keeps r e)

-- ---- a check behind the shared ones

then_assoc : (v w x : Verdict) → (v then w) then x ≡ v then (w then x)
unfolding ◌then◌
then_assoc (Ok _) w x = refl
then_assoc (Err r) w x = refl

pub then_room : (t : Table) (q : Query) (window lengths : Bool) (n : ℕ) (w : Verdict)
    → shared t q window lengths n then w
    ≡ (table_check t then query_check q then BadRange when no window then BadLength when no lengths
    then scratch_check (length t.days) n then w)
then_room t q window lengths n w =
    then_assoc (table_check t) (query_check q then b then c then d) w
    ∙ ap (λ (v : Verdict). table_check t then v)
    (then_assoc (query_check q) (b then c then d) w
    ∙ ap (λ (v : Verdict). query_check q then v)
    (then_assoc b (c then d) w ∙ ap (λ (v : Verdict). b then v) (then_assoc c d w)))
  where
    b : Verdict
    b = BadRange when no window

    c : Verdict
    c = BadLength when no lengths

    d : Verdict
    d = scratch_check (length t.days) n

-- ---- what an accepted call says

module _ (d f s : List ℕ) (q : Query) (window lengths : Bool) (scratch : ℕ)
    (e : table_check (table_of d f s) then query_check q then BadRange when no window then BadLength when no lengths
    then scratch_check (length d) scratch
    ≡ Ok tt)
  where
    rest₁ : Verdict
    rest₁ = BadRange when no window then BadLength when no lengths then scratch_check (length d) scratch

    rest₂ : Verdict
    rest₂ = BadLength when no lengths then scratch_check (length d) scratch

    abbrev after₁ : Verdict
    after₁ =
        query_check q then BadRange when no window then BadLength when no lengths then scratch_check (length d) scratch

    pub call_sound : Sound d f s
    call_sound = table_sound d f s (accepted_left (table_check (table_of d f s)) after₁ e)

    e₁ : after₁ ≡ Ok tt
    e₁ = accepted_right (table_check (table_of d f s)) after₁ e

    pub call_k : (1 ≤ q.k) × (q.k ≤ 4095)
    unfolding query_check rest₁
    call_k =
        let h = passed BadK (leb 1 q.k and leb q.k 4095) (accepted_left (query_check q) rest₁ e₁) in (
          leb-true 1 q.k (and_l (leb 1 q.k) (leb q.k 4095) h),
          leb-true q.k 4095 (and_r (leb 1 q.k) (leb q.k 4095) h),
        )

    e₂ : BadRange when no window then BadLength when no lengths then scratch_check (length d) scratch ≡ Ok tt
    unfolding rest₁
    e₂ = accepted_right (query_check q) rest₁ e₁

    pub call_window : window ≡ true
    unfolding rest₂
    call_window = passed BadRange window (accepted_left (BadRange when no window) rest₂ e₂)

    e₃ : BadLength when no lengths then scratch_check (length d) scratch ≡ Ok tt
    unfolding rest₂
    e₃ = accepted_right (BadRange when no window) rest₂ e₂

    pub call_lengths : lengths ≡ true
    call_lengths =
        passed BadLength lengths (accepted_left (BadLength when no lengths) (scratch_check (length d) scratch) e₃)

    pub call_scratch : 8192 + 4 * length d ≤ scratch
    unfolding scratch_check
    call_scratch =
        ltb-false scratch (8192 + 4 * length d)
        (when_accepted Scratch (ltb scratch (8192 + 4 * length d))
        (accepted_right (BadLength when no lengths) (scratch_check (length d) scratch) e₃))

-- a window that passed
pub window_e : (s e : ℕ) {b : Bool} → b ≡ (leb 1 s and leb s e and leb e 1024) → b ≡ true
    → (1 ≤ s) × (s ≤ e) × (e ≤ 1024)
window_e s e h y =
    let g = sym h ∙ y in
    let g₂ = and_r (leb 1 s) (leb s e and leb e 1024) g in (
      leb-true 1 s (and_l (leb 1 s) (leb s e and leb e 1024) g),
      leb-true s e (and_l (leb s e) (leb e 1024) g₂),
      leb-true e 1024 (and_r (leb s e) (leb e 1024) g₂),
    )

pub range_e : (s e : ℕ) → range_check s e ≡ Ok tt → (1 ≤ s) × (s ≤ e) × (e ≤ 1024)
unfolding range_check
range_e s e h = window_e s e refl (passed BadRange (leb 1 s and leb s e and leb e 1024) h)

-- a start in its range
pub start_e : (lo s hi : ℕ) {b : Bool} → b ≡ (leb 1 lo and leb lo s and leb s hi and leb hi 1024) → b ≡ true
    → (s ≤ hi) × (hi ≤ 1024)
start_e lo s hi h y =
    let g = sym h ∙ y in
    let g₂ = and_r (leb 1 lo) (leb lo s and leb s hi and leb hi 1024) g in
    let g₃ = and_r (leb lo s) (leb s hi and leb hi 1024) g₂ in
    (leb-true s hi (and_l (leb s hi) (leb hi 1024) g₃), leb-true hi 1024 (and_r (leb s hi) (leb hi 1024) g₃))

-- two pairs of equal lengths
pub lengths_e : (a b c d : ℕ) {y : Bool} → y ≡ (eqb a b and eqb c d) → y ≡ true → (a ≡ b) × (c ≡ d)
lengths_e a b c d h y =
    let g = sym h ∙ y in (eqb-true a b (and_l (eqb a b) (eqb c d) g), eqb-true c d (and_r (eqb a b) (eqb c d) g))
