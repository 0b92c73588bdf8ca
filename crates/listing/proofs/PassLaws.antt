-- The loop over the starts of a range (src/list.rt: pass).
--     PassAt             its invariant: the starts before s are listed
--     pass_start, pass_next, pass_quiet, pass_end     the first start; the next one; no row has a core time any more; the last start is listed
--     pass_counting, pass_ends     what `first_counted` and `list_ends` ask at a start
-- Assumes nothing.
use Prim.Native.Nat.{ℕ, ◌+◌, ◌-◌, ◌*◌, ◌≤◌, ◌<◌}
use native.Mathlib.Nat.{le_refl}
use native.Mathlib.Omega.{arith}
use mathlib.Core.Path.{◌≡◌, refl, ◌∙◌, ap}
use mathlib.Core.Bool.{Bool, true}
use mathlib.Core.List.{List}
use lib.ListN.{length, replicate, length-append}
use Rattle.rings.specs.Table.{Table, Split}
use Rattle.rings.specs.Starts.{Earliest, AtStart}
use Rattle.rings.specs.declared.Query.{Query}
use Rattle.rings.specs.declared.frame.Frame.{Frame}
use Rattle.rings.proofs.StartsLaws.{start_sound, start_prepared, start_counts}
use Rattle.listing.specs.Listing.{listing}
use Rattle.listing.specs.WindowCounts.{empty_windows, windows_behind}
use Rattle.listing.specs.LongestList.{longest}
use Rattle.listing.specs.ListingCall.{Columns, OneLength}
use Rattle.listing.specs.Inner.{start_entries, rest_from, FirstCounted, Progress, day_places, most_rows, Counting, EndsAhead}
use Rattle.listing.specs.Inner.{Numbered, EndsListed, InRange, Passing}
use Rattle.listing.specs.declared.list.Passed.{Passed}
use Rattle.listing.proofs.StartLaws.{sum_small, entries_are}
use Rattle.listing.proofs.ColumnLaws.{SameLengths, same_places, lengths_on, alike_kept}
use Rattle.listing.proofs.ProgressLaws.{progress_start, progress_as}
use Rattle.listing.proofs.EndsLaws.{start_as}
use Rattle.listing.proofs.GatherLaws.{Gathered, gather_start, gather_number, gather_small, gather_since, gather_next}
use Rattle.listing.proofs.RangeLaws.{rest_first, rest_next, rest_end, TimesFrom, from_start, from_counted, from_uncounted, from_next, rest_quiet}
use Rattle.listing.proofs.WindowCountLaws.{empty_next, empty_quiet, empty_end}

-- nothing yet, from the first start on
abbrev pub nothing : ℕ → Passed
nothing lo = record { count = 0; sum = 0; empty = 0; from = lo }

module _ (t : Table) (q : Query) (lo hi : ℕ) (writes : Bool) (old : Columns (List ℕ)) (scratch₀ : List ℕ) where
  -- row is the first row from day s on, and no row has a core time before low; old and scratch₀ are what the columns and the scratch were
  pub record PassAt (s row low : ℕ) (p : Passed) (new : Columns (List ℕ)) (scratch times slack queue counts gathered : List ℕ) : Type 0 where
    pub from : lo ≤ s
    pub to : s ≤ hi + 1
    pub split : Split t.days s row
    pub start : AtStart t q hi s row scratch times slack counts
    pub few : p.count ≤ (s - lo) * day_places
    pub small : p.sum ≤ (s - lo) * (day_places * most_rows)
    pub few_empty : p.empty ≤ (s - lo) * day_places
    pub lengths : SameLengths old new
    pub scratch_long : length scratch ≡ length scratch₀
    pub queue_long : length queue ≡ 4352
    pub progress : Progress (windows_behind t q lo hi) writes (listing t q lo hi) (rest_from t q hi s) p.count p.sum old new
    pub empty_so : p.empty + empty_windows t q s hi ≡ empty_windows t q lo hi
    pub since : p.from ≤ s
    pub gathers : Gathered t q lo hi p.from s counts gathered
    pub low_to : low ≤ hi
    pub times_from : TimesFrom t q hi s low

  module _ (R : InRange q lo hi) where
    pub pass_start : {row : ℕ} {times slack queue counts : List ℕ} → Split t.days lo row → AtStart t q hi lo row scratch₀ times slack counts
        → length queue ≡ 4352 → PassAt lo row lo (nothing lo) old scratch₀ times slack queue counts (replicate 1025 0)
    pass_start {counts = counts} split start queue_long =
        record {
          from = le_refl lo;
          to = omega (arith, R.order);
          split = split;
          start = start;
          few = omega arith;
          small = omega arith;
          few_empty = omega arith;
          lengths = same_places old;
          scratch_long = refl;
          queue_long = queue_long;
          progress = progress_as (rest_first t q lo hi) (progress_start (windows_behind t q lo hi) writes (listing t q lo hi) old);
          empty_so = omega arith;
          since = le_refl lo;
          gathers = gather_start t q lo hi R.to counts;
          low_to = R.order;
          times_from = from_start t q hi lo R.to R.order;
        }

    module _ {s row low : ℕ} {p : Passed} {new : Columns (List ℕ)} {scratch times slack queue counts gathered : List ℕ}
        (P : PassAt s row low p new scratch times slack queue counts gathered) where
      -- the frame that the pass hands to a start's functions
      abbrev frame : Frame
      frame = record { query = q; start = s; stop = hi; lo = row }

      pub pass_counting : Counting counts low hi
      pass_counting = record { long = (start_counts P.start).long; order = omega (arith, P.low_to); last = R.to }

      pub pass_end : hi < s → Passing t q lo hi writes p old new scratch
      pass_end past =
          record {
            whole = progress_as (rest_end t q hi s past) P.progress;
            empty_so = omega (arith, P.empty_so, empty_end t q hi s past);
            prepared = start_prepared P.start;
          }

      module _ {r : ℕ} (C : FirstCounted counts low hi r) where
        times_on : TimesFrom t q hi s r
        times_on = from_counted t q hi s R.to (start_counts P.start) P.times_from C

        -- so many windows start on s or later
        pub pass_quiet : {rest : ℕ} → hi < r → rest ≡ longest (hi + 1 - s)
            → Passing t q lo hi writes (record { count = p.count; sum = p.sum; empty = p.empty + rest; from = p.from }) old new scratch
        pass_quiet past er =
            record {
              whole = progress_as (rest_quiet t q R.to past times_on) P.progress;
              empty_so = omega (arith, P.empty_so, er, empty_quiet t q past times_on);
              prepared = start_prepared P.start;
            }

        module _ (o : s ≤ hi) (within : r ≤ hi) {least : ℕ} (E : Earliest t q hi s least) where
          pub pass_ends : OneLength old → (writes ≡ true → length (listing t q lo hi) ≤ length old.starts)
              → EndsAhead counts gathered frame r least writes p new
          pass_ends alike room =
              record {
                counts = record { long = (start_counts P.start).long; order = omega arith; last = R.to };
                in_table = sum_small t q hi s R.to (start_counts P.start) (start_sound P.start).most r within;
                uncounted = from_uncounted t q hi s R.to (start_counts P.start) P.times_from C o within;
                within = within;
                counted = C.counted within;
                long = P.gathers.long;
                since = P.since;
                shown = λ e next l h N.
                    gather_small t q lo hi R.to P.since o (start_counts P.start) E P.gathers
                    (omega (arith, (from_uncounted t q hi s R.to (start_counts P.start) P.times_from C o within).order)) h N R.from;
                alike = alike_kept alike P.lengths;
                room = λ w.
                    omega (
                      arith,
                      room w,
                      P.lengths.starts,
                      P.progress.counted,
                      length-append P.progress.done (rest_from t q hi s),
                      ap length P.progress.split,
                      ap length (rest_next t q hi s o),
                      length-append (start_entries t q hi s) (rest_from t q hi (s + 1)),
                      ap length (entries_are t q hi s R.to (start_counts P.start) E o),
                    );
                few = omega (arith, P.few, R.to);
                small = omega (arith, P.small, R.to);
                few_empty = omega (arith, P.few_empty, R.to);
              }

          pub pass_next : {row' : ℕ} {p' : Passed} {new' : Columns (List ℕ)} {scratch' times' slack' queue' counts' gathered' : List ℕ}
              → EndsListed counts frame r least writes p p' new new' gathered gathered'
              → SameLengths new new'
              → length gathered' ≡ length gathered
              → Split t.days (s + 1) row'
              → AtStart t q hi (s + 1) row' scratch' times' slack' counts'
              → length scratch' ≡ length scratch
              → length queue' ≡ length queue
              → PassAt (s + 1) row' r p' new' scratch' times' slack' queue' counts' gathered'
          pass_next K same long split start scratch_same queue_same =
              record {
                from = omega (arith, P.from);
                to = omega arith;
                split = split;
                start = start;
                few = omega (arith, P.from, P.few, K.few);
                small = omega (arith, P.from, P.small, K.small);
                few_empty = omega (arith, P.from, P.few_empty, K.empty_so, R.to);
                lengths = lengths_on P.lengths same;
                scratch_long = scratch_same ∙ P.scratch_long;
                queue_long = queue_same ∙ P.queue_long;
                progress =
                    K.moves (windows_behind t q lo hi) numbered _ _ old
                    (start_as t q hi s R.to o (start_counts P.start) E _ (progress_as (rest_next t q hi s o) P.progress));
                empty_so =
                    omega (arith, P.empty_so, K.empty_so, empty_next t q R.to o (start_counts P.start) times_on within (C.counted within));
                since = gather_since P.since K.gathers;
                gathers =
                    gather_next t q lo hi R.to P.from P.since o (start_counts P.start) E P.gathers (start_counts start) long
                    (from_uncounted t q hi s R.to (start_counts P.start) P.times_from C o within) K.gathers;
                low_to = within;
                times_from = from_next t q R.to times_on;
              }
            where
              -- of each entry of the start, what is gathered and the runs are all windows behind its ring
              numbered : Numbered counts gathered least (s + 1 - p.from) s r hi (windows_behind t q lo hi)
              numbered e next total l h b N =
                  gather_number t q lo hi R.to P.since o (start_counts P.start) E P.gathers
                  (omega (arith, (from_uncounted t q hi s R.to (start_counts P.start) P.times_from C o within).order)) h N b total
