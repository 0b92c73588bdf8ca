-- Rows by day, in a table whose days never fall.
--     dated_before, split_of      the days are partitioned by a day, and the point of that splits the rows
--     LinearSearch, linear_on, linear_next, linear_found, linear_end     the loop of `rows_through`
--     span_after, span_of      the rows of a window
--     heads_on       the heads can go on to a day, from the first rows
--     setting_of     what peeling works on
--     ready_of, framed_of, ready_pairs_of, ready_pruned_of, ready_pruned_framed, pruned_paired    with
--         an adjacency, with a part of it, with none
-- Assumes nothing.
use Prim.Native.Nat.{ℕ, ◌+◌, ◌≤◌, ◌<◌}
use native.Mathlib.Nat.{le_refl, le_trans, eq-or-lt_of_le, not-suc-le-zero}
use native.Mathlib.Omega.{arith}
use mathlib.Core.Path.{sym, subst}
use mathlib.Core.Logic.{⊎_elim}
use mathlib.Core.List.{List}
use lib.ListN.{length, get_or}
use lib.Dec.{leb, ltb}
use borrow.Author.Tests.{leb-true, leb-false, ltb-true, ltb-false}
use mathlib.Core.Bool.{true, false}
use mathlib.Core.Path.{◌≡◌}
use Rattle.std.specs.List.Sorted.{IsPartitionedBy, IsPartitionPoint}
use Rattle.std.proofs.lemmas.List.Sorted.{IsPartitionedBy-ltb, IsNonDecreasingBy-from_default}
use Rattle.rings.specs.Words.{at}
use Rattle.rings.specs.Table.{Table, table_of, day_of, first_of, second_of, Split}
use Rattle.rings.specs.Sound.{NeverFall, Sound}
use Rattle.rings.specs.Inner.Adjacency.{Adjacency, Paired, PrunedAdjacency, HeadsAt}
use Rattle.rings.specs.Inner.Peeling.{Setting, Ready, Framed, ReadyPairs, ReadyPruned, frame_of, Span}
use Rattle.rings.specs.declared.frame.Frame.{Frame}
use Rattle.rings.specs.declared.Query.{Query}
use Rattle.rings.proofs.TableLaws.{rising_all}
use Rattle.rings.proofs.WordLaws.{true_or_false}

-- days that never fall are partitioned by whether they are before a day
pub dated_before : {d : List ℕ} → NeverFall d → (day : ℕ) → IsPartitionedBy (λ x. ltb x day) d
dated_before {d} up day = IsPartitionedBy-ltb (λ x. x) d day (IsNonDecreasingBy-from_default (λ x. x) d 0 (rising_all d up))

pub split_of : {d : List ℕ} {day r : ℕ} → r ≤ length d
    → IsPartitionPoint (λ x. ltb x day ≡ true) (λ x. ltb x day ≡ false) d r → Split d day r
split_of {d} {day} {r} within point =
    record {
      within = within;
      before = λ j l. ltb-true _ _ (point.0 j 0 (omega arith) l);
      after = λ j a b. ltb-false _ _ (point.1 j 0 a b);
    }

pub record LinearSearch (d : List ℕ) (day r : ℕ) : Type 0 where
  pub within : r ≤ length d
  pub before : (j : ℕ) → j < r → get_or d j 0 < day

pub linear_on : {d : List ℕ} {s lo : ℕ} → Split d s lo → LinearSearch d (s + 1) lo
linear_on S = record { within = S.within; before = λ j h. let k = S.before j h in omega arith }

pub linear_next : {d : List ℕ} {day r : ℕ} → LinearSearch d day r → r < length d → get_or d r 0 < day
    → LinearSearch d day (r + 1)
linear_next {d} {day} {r} S l h =
    record {
      within = omega arith;
      before = λ j k. ⊎_elim (λ e. subst (λ (c : ℕ). get_or d c 0 < day) (sym e) h) (λ o. S.before j o)
          (eq-or-lt_of_le (omega arith));
    }

pub linear_found : {d : List ℕ} {day r : ℕ} → NeverFall d → LinearSearch d day r → day ≤ get_or d r 0 → Split d day r
linear_found {d} {day} {r} up S h =
    record { within = S.within; before = S.before; after = λ j a b. le_trans h (rising_all d up r j a b) }

pub linear_end : {d : List ℕ} {day r : ℕ} → LinearSearch d day r → length d ≤ r → Split d day (length d)
linear_end {d} S h =
    record { within = le_refl (length d); before = λ j k. S.before j (omega arith); after = λ j a b. absurd (omega arith) }

-- the rows of the window [s, e]: there are none where s is the day after e
pub span_after : {d : List ℕ} {s e lo end : ℕ} → s ≤ e + 1 → Split d s lo → Split d (e + 1) end → Span d e lo end
span_after {d} {s} {e} {lo} {end} h a b =
    record {
      within = b.within;
      inside = λ j k. let x = b.before j k in omega arith;
      later = λ j k l. let x = b.after j k l in omega arith;
      ordered =
          ⊎_elim (λ y. leb-true lo end y)
          (λ y.
          let k = leb-false lo end y in
          let x = a.before end k in
          let w = a.within in
          let z = b.after end (le_refl end) (omega arith) in
          absurd (omega arith))
          (true_or_false (leb lo end));
    }

-- no row is dated before day 0
split_none : (d : List ℕ) → Split d 0 0
split_none d = record { within = omega arith; before = λ j h. absurd (not-suc-le-zero h); after = λ j a b. omega arith }

-- the heads of an adjacency that was just made, or of one whose heads went back, go on to a day
pub heads_on : {d f s sc : List ℕ} {day next : ℕ} → Sound d f s → Adjacency (table_of d f s) 0 sc
    → Split d day next → HeadsAt (table_of d f s) sc 0 day 0 next
heads_on {d} S L N = record { sound = S; adjacency = L; ordered = omega arith; first = split_none d; last = N }

pub span_of : {d : List ℕ} {s e lo end : ℕ} → s ≤ e → Split d s lo → Split d (e + 1) end → Span d e lo end
span_of h a b = span_after (omega arith) a b

pub setting_of : {d f s : List ℕ} {q : Query} {start stop lo : ℕ}
    → Sound d f s
    → 1 ≤ q.k
    → stop ≤ 1024
    → Split d start lo
    → Setting (table_of d f s) q start stop lo
unfolding day_of first_of second_of at
setting_of {d} S one top a =
    record {
      fits = omega arith;
      some_k = one;
      from_lo = λ j l h. a.after j h l;
      before_lo = λ j h. a.before j h;
      rising = rising_all d S.rising;
      accounts = λ j l. (S.rows j l).accounts;
      small = λ j l. let x = (S.rows j l).account_to in omega arith;
    }

pub ready_of : {d f s scratch : List ℕ} {q : Query} {start stop lo : ℕ}
    → Sound d f s
    → Adjacency (table_of d f s) start scratch
    → 1 ≤ q.k
    → stop ≤ 1024
    → Split d start lo
    → Ready (table_of d f s) scratch (frame_of q start stop lo)
ready_of S L one top a = record { sound = S; adjacency = L; setting = setting_of S one top a }

pub framed_of : {d f s : List ℕ} {q : Query} {start stop lo : ℕ}
    → Sound d f s
    → 1 ≤ q.k
    → stop ≤ 1024
    → Split d start lo
    → Framed (table_of d f s) (frame_of q start stop lo)
framed_of S one top a = record { sound = S; setting = setting_of S one top a }

pub ready_pairs_of : {d f s scratch : List ℕ} {q : Query} {start stop lo : ℕ}
    → Sound d f s
    → Paired (table_of d f s) scratch
    → 1 ≤ q.k
    → stop ≤ 1024
    → Split d start lo
    → ReadyPairs (table_of d f s) scratch (frame_of q start stop lo)
ready_pairs_of S P one top a = record { sound = S; paired = P; setting = setting_of S one top a }

pub ready_pruned_of : {d f s scratch : List ℕ} {q : Query} {start stop lo : ℕ}
    → Sound d f s
    → PrunedAdjacency (table_of d f s) scratch
    → 1 ≤ q.k
    → stop ≤ 1024
    → Split d start lo
    → ReadyPruned (table_of d f s) scratch (frame_of q start stop lo)
ready_pruned_of S L one top a = record { sound = S; pruned = L; within = a.within; setting = setting_of S one top a }

-- what is left of it without the adjacency
pub ready_pruned_framed : {d f s scratch : List ℕ} {p : Frame} → ReadyPruned (table_of d f s) scratch p → Framed (table_of d f s) p
ready_pruned_framed R = record { sound = R.sound; setting = R.setting }

pub pruned_paired : {t : Table} {scratch : List ℕ} → PrunedAdjacency t scratch → Paired t scratch
pruned_paired L = record { long = L.long; pairs = L.pairs }
