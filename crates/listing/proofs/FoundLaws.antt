-- What `has_room`, `find_rings` and `list_rings` return and leave (src/list.rt).
--     room_most, room_counted     `has_room`: the columns hold the longest list; else the count decides
--     find_refused, find_done     `find_rings`: 10; the listing
--     lengths_differ, lengths_alike     `one_length`
--     Answers, list_checked, list_refused, list_done     `list_rings`: what the checks leave; a check refuses; else what `find_rings` does
-- Assumes nothing.
use Prim.Native.Nat.{ℕ, suc, ◌+◌, ◌-◌, ◌≤◌}
use native.Mathlib.Numerals.{add-one}
use native.Mathlib.Omega.{arith}
use mathlib.Core.Path.{◌≡◌, refl, sym, ◌∙◌, ap}
use mathlib.Core.Bool.{Bool, true, false}
use mathlib.Core.List.{List}
use lib.ListN.{length}
use lib.Dec.{leb, ltb, eqb}
use borrow.Author.Tests.{leb-true, leb-false, eqb-true, le-leb, lt-ltb, le-ltb}
use Rattle.rings.specs.Words.{◌and◌}
use Rattle.rings.specs.Table.{Table}
use Rattle.rings.specs.Refusals.{Verdict, behind_scratch}
use Rattle.rings.specs.Starts.{Prepared}
use Rattle.rings.specs.Buffers.{cleared, cleared_if, scratch_on}
use Rattle.rings.specs.Checks.{◌when◌, ◌then◌, range_check}
use Rattle.rings.specs.declared.Query.{Query}
use Rattle.rings.specs.declared.refusal.Refusal.{Refusal}
use Rattle.rings.specs.declared.refusal.Refusal.TheVariants.{NoRoom}
use Rattle.rings.proofs.WordLaws.{clash, and_l, and_r}
use Rattle.rings.proofs.AcceptedLaws.{shared, scratch_kept, then_room, call_sound, call_k, call_window, call_lengths, call_scratch, window_e}
use Rattle.listing.specs.Listing.{ListedRing, listing}
use Rattle.listing.specs.WindowCounts.{empty_windows, windows_behind}
use Rattle.listing.specs.ListingCall.{Columns, places_of, listing_checks, in_all, summed, listing_answer, listing_columns, listing_scratch}
use Rattle.listing.specs.LongestList.{longest, days_of}
use Rattle.listing.specs.Inner.{written_of, Passing, RoomFound, Checked, Found}
use Rattle.listing.specs.declared.Listed.{Listed}
use Rattle.std.specs.Prelude.{Result, Ok, Err}
use Rattle.listing.specs.declared.list.Passed.{Passed}
use Rattle.listing.proofs.CountLaws.{listing_most}
use Rattle.listing.proofs.ColumnLaws.{written_none}
use Rattle.listing.proofs.ProgressLaws.{progress_end}

module _ (t : Table) (q : Query) (lo hi : ℕ) where
  abbrev ls : List ListedRing
  ls = listing t q lo hi

  -- ---- room

  -- no listing is longer than the longest
  pub room_most : {m : ℕ} {sc : List ℕ} (c : Columns (List ℕ))
      → Prepared t sc
      → m ≡ longest (hi + 1 - lo)
      → m ≤ length c.starts
      → RoomFound t q lo hi true c c sc
  unfolding days_of
  room_most c prepared e h =
      let d : longest (hi + 1 - lo) ≡ longest (suc hi - lo) = ap (λ (n : ℕ). longest (n - lo)) (add-one hi) in
      record { answer = sym (le-leb (length ls) (length c.starts) (omega (arith, listing_most t q lo hi))); unwritten = refl; prepared = prepared }

  -- where nothing is written, the count tells
  pub room_counted : {p : Passed} {old new : Columns (List ℕ)} {sc : List ℕ}
      → Passing t q lo hi false p old new sc
      → RoomFound t q lo hi (leb p.count (length new.starts)) old new sc
  unfolding written_of
  room_counted {p} {old} {new} P =
      let W = progress_end P.whole in
      let kept : new ≡ old = W.columns ∙ written_none (windows_behind t q lo hi) old in
      record {
        answer = ap (λ (m : ℕ). leb m (length new.starts)) W.counted ∙ ap (λ (c : Columns (List ℕ)). leb (length ls) (length c.starts)) kept;
        unwritten = kept;
        prepared = P.prepared;
      }

  -- ---- the list

  module _ {room : Bool} {old mid : Columns (List ℕ)} {before sc sc₁ : List ℕ} (R : RoomFound t q lo hi room old mid sc₁) (clear : sc ≡ cleared before) where
    pub find_refused : room ≡ false → Found t q lo hi (Err NoRoom) old mid before sc
    unfolding listing_columns summed ◌when◌
    find_refused f =
        let l = leb-false (length ls) (length old.starts) (sym R.answer ∙ f) in
        record {
          answer = sym (ap (λ (x : Bool). summed (NoRoom when x) ls (empty_windows t q lo hi)) (lt-ltb (length old.starts) (length ls) l));
          columns = R.unwritten;
          clear = clear;
        }

    pub find_done : room ≡ true
        → {p : Passed} {new : Columns (List ℕ)} {sc₂ : List ℕ}
        → Passing t q lo hi true p mid new sc₂
        → Found t q lo hi (Ok (in_all p.count p.sum p.empty)) old new before sc
    unfolding listing_columns summed ◌when◌ written_of
    find_done f {p} P =
        let W = progress_end P.whole in
        record {
          answer =
              three W.counted W.summed_up P.empty_so
              ∙ sym (ap (λ (x : Bool). summed (NoRoom when x) ls (empty_windows t q lo hi)) (le-ltb (length old.starts) (length ls) fits));
          columns =
              W.columns ∙ ap (λ (c : Columns (List ℕ)). listing_columns (Ok (in_all p.count p.sum p.empty)) t q lo hi c) R.unwritten;
          clear = clear;
        }
      where
        fits : length ls ≤ length old.starts
        fits = leb-true (length ls) (length old.starts) (sym R.answer ∙ f)

        three : {x x' y y' z z' : ℕ} → x ≡ x' → y ≡ y' → z ≡ z' → ◌≡◌ {A = Result Listed Refusal} (Ok (in_all x y z)) (Ok (in_all x' y' z'))
        three p r s = λ i. Ok (in_all (p i) (r i) (s i))

-- ---- the call

-- three lengths, then the fourth
pub lengths_differ : (a b c : Bool) → a and b ≡ false → false ≡ (a and b and c)
unfolding ◌and◌
lengths_differ true b c h = sym (ap (λ (d : Bool). d and c) h)
lengths_differ false b c h = refl

pub lengths_alike : (a b c : Bool) → a and b ≡ true → c ≡ (a and b and c)
unfolding ◌and◌
lengths_alike true b c h = sym (ap (λ (d : Bool). d and c) h)
lengths_alike false b c h = clash h refl

-- on success and on 10 the scratch is all 0
zeros : (ls : List ListedRing) (n : ℕ) (sc : List ℕ) (x : Bool) → listing_scratch (summed (NoRoom when x) ls n) sc ≡ cleared sc
unfolding listing_scratch summed ◌when◌ scratch_on behind_scratch cleared_if
zeros ls n sc true = refl
zeros ls n sc false = refl

module _ (t : Table) (q : Query) (lo hi : ℕ) (old : Columns (List ℕ)) (sc : List ℕ) where
  abbrev pub Answers : Result Listed Refusal → Columns (List ℕ) → List ℕ → Type 0
  Answers r new sc' =
      (r ≡ listing_answer t q lo hi (places_of old) (length sc)) × ((new ≡ listing_columns r t q lo hi old) × (sc' ≡ listing_scratch r sc))

  module _ {window lengths : Bool} (ew : window ≡ (leb 1 lo and leb lo hi and leb hi 1024))
      (el : lengths
      ≡ (eqb (length old.ends) (length old.starts) and eqb (length old.rows) (length old.starts)
      and eqb (length old.windows) (length old.starts))) where
    abbrev room : Verdict
    room = NoRoom when ltb (length old.starts) (length (listing t q lo hi))

    -- the checks are the shared ones, then 10
    checks : listing_checks t q lo hi (places_of old) (length sc) ≡ shared t q window lengths (length sc) then room
    unfolding listing_checks range_check
    checks = rw (ew, el) (sym (then_room t q _ _ (length sc) room))

    answer_by : {v : Verdict}
        → shared t q window lengths (length sc) ≡ v
        → listing_answer t q lo hi (places_of old) (length sc) ≡ summed (v then room) (listing t q lo hi) (empty_windows t q lo hi)
    unfolding listing_answer
    answer_by h = ap (λ (w : Verdict). summed w (listing t q lo hi) (empty_windows t q lo hi)) (checks ∙ ap (λ (w : Verdict). w then room) h)

    -- what the checks leave
    pub list_checked : shared t q window lengths (length sc) ≡ Ok tt → Checked t q lo hi old sc
    list_checked h =
        let d = t.days in
        let range = window_e lo hi ew (call_window d t.first t.second q window lengths (length sc) h) in
        let all = sym el ∙ call_lengths d t.first t.second q window lengths (length sc) h in
        let ends = eqb (length old.ends) (length old.starts) in
        let rows = eqb (length old.rows) (length old.starts) in
        let windows = eqb (length old.windows) (length old.starts) in
        let others = and_r ends (rows and windows) all in
        record {
          sound = call_sound d t.first t.second q window lengths (length sc) h;
          asked = record { some = (call_k d t.first t.second q window lengths (length sc) h).0; from = range.0; order = range.1; to = range.2 };
          columns =
              record {
                ends = eqb-true (length old.ends) (length old.starts) (and_l ends (rows and windows) all);
                rows = eqb-true (length old.rows) (length old.starts) (and_l rows windows others);
                windows = eqb-true (length old.windows) (length old.starts) (and_r rows windows others);
              };
          enough = call_scratch d t.first t.second q window lengths (length sc) h;
        }

    pub list_refused : {r : Refusal} → shared t q window lengths (length sc) ≡ Err r → Answers (Err r) old sc
    unfolding summed listing_columns listing_scratch ◌then◌
    list_refused h = (sym (answer_by h), (refl, scratch_kept t q window lengths (length sc) sc h))

    pub list_done : {r : Result Listed Refusal} {new : Columns (List ℕ)} {sc' : List ℕ}
        → shared t q window lengths (length sc) ≡ Ok tt
        → Found t q lo hi r old new sc sc'
        → Answers r new sc'
    unfolding ◌then◌
    list_done h F = (
      F.answer ∙ sym (answer_by h),
      (
        F.columns,
        F.clear
            ∙ sym (ap (λ (y : Result Listed Refusal). listing_scratch y sc) F.answer
            ∙ zeros (listing t q lo hi) (empty_windows t q lo hi) sc (ltb (length old.starts) (length (listing t q lo hi)))),
      ),
    )
