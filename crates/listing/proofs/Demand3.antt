-- Demand 3, one statement (01, condition 4): Listing, Minimal windows and Recall together, for every accepted table and query,
-- every window and every column length. It speaks of what the calls return and leave in their buffers, by the definitions that
-- stand in their contracts. Of 02's S-1 it says the number of windows behind each ring, and of those with no ring.
--     ListingLeft    what Listing returns and leaves where there are places enough
--     Demand3        the statement
--     demand_3       it holds
-- Assumes nothing.
use Prim.Native.Nat.{ℕ, ◌+◌, ◌≤◌, ◌<◌}
use native.Mathlib.Omega.{arith}
use mathlib.Core.Path.{◌≡◌, refl, sym, ◌∙◌, ap, subst}
use mathlib.Core.Logic.{⊎_elim, ◌↔◌}
use mathlib.Core.Bool.{Bool, true}
use mathlib.Core.List.{List}
use lib.ListN.{length, get_or, take}
use lib.Dec.{ltb, eqb}
use borrow.Author.Tests.{lt-ltb, le-ltb, ltb-true, ltb-false, eq-eqb}
use Rattle.rings.specs.Words.{◌and◌, no}
use Rattle.rings.specs.Table.{Table, size}
use Rattle.rings.specs.Ring.{ring}
use Rattle.rings.specs.CoreTimes.{never}
use Rattle.rings.specs.Windows.{Archive}
use Rattle.rings.specs.Checks.{◌when◌, ◌then◌, query_check, range_check, scratch_check}
use Rattle.rings.specs.Buffers.{marks}
use Rattle.rings.specs.TableCheck.{table_check}
use Rattle.rings.specs.MinimalWindowsCall.{minimal_answer, minimal_rows, minimal_starts, minimal_ends}
use Rattle.rings.specs.RecallCall.{columns_of, recall_answer, recall_marks}
use Rattle.rings.specs.declared.Query.{Query}
use Rattle.rings.specs.declared.refusal.Refusal.TheVariants.{BadLength, NoRoom}
use Rattle.rings.specs.Refusals.{Verdict}
use Rattle.rings.proofs.WordLaws.{true_or_false, and_i}
use Rattle.rings.proofs.CheckLaws.{then_accepted, passes}
use Rattle.rings.proofs.AcceptedLaws.{range_e}
use Rattle.rings.proofs.ArchiveLaws.{archive_written, archive_accepted, archive_marks}
use Rattle.listing.specs.Tight.{nonempty}
use Rattle.listing.specs.Listing.{ListedRing, listing, row_sum}
use Rattle.listing.specs.Distinct.{distinct_rings}
use Rattle.listing.specs.WindowCounts.{showing, empty_windows, windows_behind, sum}
use Rattle.listing.specs.LongestList.{longest, days_of}
use Rattle.listing.specs.EachRing.{IsListing, ListedOnce, AreRings, ring_sum}
use Rattle.listing.specs.ListingCall.{Columns, OneLength, each, places_of, with_entries, listing_checks, in_all, summed, listing_answer, listing_columns}
use Rattle.listing.specs.ListingCall.{listing_empty}
use Rattle.listing.specs.declared.Listed.{Listed}
use Rattle.rings.specs.declared.refusal.Refusal.{Refusal}
use Rattle.std.specs.Prelude.{Result, Ok, Err}
use Rattle.listing.proofs.CountLaws.{distinct_listed, distinct_sum, distinct_are, rings_counted, listing_is, ring_listed}
use Rattle.listing.proofs.ColumnLaws.{cell, cells}
use Rattle.listing.proofs.WindowCountLaws.{adds_up as windows_add_up, behind_fits, empty_fits}

-- of a call of Listing with places enough: the answer, and the columns, which held what is in old
pub record ListingLeft (t : Table) (q : Query) (lo hi : ℕ) (rings : List (List Bool)) (answer : Result Listed Refusal) (old new : Columns (List ℕ)) : Type 0 where
  -- the count is that of the distinct rings, the sum that of their rows, the third number that of the windows with no ring
  pub answer_so : answer ≡ Ok (in_all (length rings) (ring_sum rings) (empty_windows t q lo hi))
  -- the columns hold the listing, each entry beside the number of windows behind it, and then what they held
  pub columns_so : new ≡ with_entries (windows_behind t q lo hi) (listing t q lo hi) old
  -- which has the tightest window of each of its own rings with the number of its rows, by start, then end, and nothing else
  pub is_listing : IsListing t q lo hi (listing t q lo hi)
  -- and as many entries as there are rings
  pub as_many : length (listing t q lo hi) ≡ length rings
  -- 02, S-1: at each of these places the fourth column holds the number of windows of the range whose ring is that of the place's own window
  pub numbers_so : (i : ℕ) → i < length rings → get_or new.windows i 0 ≡ showing t q lo hi (ring t q (get_or new.starts i 0) (get_or new.ends i 0))
  -- the numbers and that of the windows with no ring add up to n(n+1)/2, all windows of a range of n days
  pub adds_up : sum (take (length rings) new.windows) + listing_empty answer ≡ longest (days_of lo hi)
  -- and each of them fits 32 bits
  pub fit : (i : ℕ) → i < length rings → get_or new.windows i 0 < 4294967296
  pub empty_fit : listing_empty answer < 4294967296

pub record Demand3 (t : Table) (q : Query) (lo hi : ℕ) : Type 0 where
  -- the distinct nonempty rings of the range, by their row sets; every list of them is as long
  pub rings : List (List Bool)
  pub are_rings : AreRings t q lo hi rings
  pub as_long : (ms : List (List Bool)) → AreRings t q lo hi ms → length ms ≡ length rings
  -- Listing with places in each column: 10 exactly when the rings are more
  pub full : (places scratch : ℕ)
      → scratch_check (size t) scratch ≡ Ok tt
      → (listing_answer t q lo hi (each places) scratch ≡ Err NoRoom) ↔ (places < length rings)
  -- else the whole listing
  pub listed : (scratch : ℕ) (old : Columns (List ℕ)) → scratch_check (size t) scratch ≡ Ok tt → OneLength old → length rings ≤ length old.starts
      → (let answer = listing_answer t q lo hi (places_of old) scratch in ListingLeft t q lo hi rings answer old (listing_columns answer t q lo hi old))
  -- in which the ring of each window, if not empty, stands once and only once, by its tightest window, with the number of its rows
  -- and that of the windows whose ring it is
  pub each_ring : (s e : ℕ) → lo ≤ s → e ≤ hi → nonempty (ring t q s e) ≡ true → ListedOnce t q lo hi s e
  -- what Minimal windows writes, cut at its count, holds exactly the query's minimal windows, each once, by row, then start
  pub written : (row_places start_places end_places scratch count : ℕ) (rows starts ends : List ℕ)
      → minimal_answer t q lo hi row_places start_places end_places scratch ≡ Ok count
      → Archive t q lo hi (take count (minimal_rows (Ok count) t q lo hi rows))
      (take count (minimal_starts (Ok count) t q lo hi starts))
      (take count (minimal_ends (Ok count) t q lo hi ends))
  -- Recall accepts every such list, for every window of the range, and marks exactly that window's ring
  pub recalls : (rows starts ends old : List ℕ) (s e : ℕ) → Archive t q lo hi rows starts ends → length old ≡ size t → lo ≤ s → s ≤ e → e ≤ hi
      → (let answer = recall_answer t (columns_of rows starts ends) s e (length old) in
      (answer ≡ Ok tt) × (recall_marks answer t (columns_of rows starts ends) s e old ≡ marks (ring t q s e)))

-- ---- the proof

is_rings : Result Listed Refusal → Type 0
is_rings (Ok l) = Unit {0}
is_rings (Err r) = ⊥

module _ (t : Table) (q : Query) (lo hi : ℕ) (table : table_check t ≡ Ok tt) (query : query_check q ≡ Ok tt) (range : range_check lo hi ≡ Ok tt) where
  fits : hi < never
  fits = let w = range_e lo hi range in omega (arith, w.2)

  abbrev list : List ListedRing
  list = listing t q lo hi

  abbrev none : ℕ
  none = empty_windows t q lo hi

  -- with equal columns and scratch enough only the places are left to judge
  checks : (places : Columns ℕ) (scratch : ℕ)
      → places.ends ≡ places.starts
      → places.rows ≡ places.starts
      → places.windows ≡ places.starts
      → scratch_check (size t) scratch ≡ Ok tt
      → listing_checks t q lo hi places scratch ≡ NoRoom when ltb places.starts (length list)
  unfolding listing_checks
  checks places scratch ee er ew es =
      then_accepted (query_check q then (range_check lo hi then (lengths then (scratch_check (size t) scratch then room)))) table
      ∙ (then_accepted (range_check lo hi then (lengths then (scratch_check (size t) scratch then room))) query
      ∙ (then_accepted (lengths then (scratch_check (size t) scratch then room)) range
      ∙ (then_accepted (scratch_check (size t) scratch then room)
      (passes BadLength
      (and_i (eq-eqb places.ends places.starts ee)
      (and_i (eq-eqb places.rows places.starts er) (eq-eqb places.windows places.starts ew))))
      ∙ then_accepted room es)))
    where
      lengths : Verdict
      lengths =
          BadLength when no (eqb places.ends places.starts and eqb places.rows places.starts and eqb places.windows places.starts)

      room : Verdict
      room = NoRoom when ltb places.starts (length list)

  refused : (places scratch : ℕ)
      → scratch_check (size t) scratch ≡ Ok tt
      → places < length list
      → listing_answer t q lo hi (each places) scratch ≡ Err NoRoom
  unfolding listing_answer summed ◌when◌
  refused places scratch es h =
      ap (λ (v : Verdict). summed v list none)
      (checks (each places) scratch refl refl refl es ∙ ap (λ (b : Bool). NoRoom when b) (lt-ltb places (length list) h))

  found : (places : Columns ℕ) (scratch : ℕ)
      → places.ends ≡ places.starts
      → places.rows ≡ places.starts
      → places.windows ≡ places.starts
      → scratch_check (size t) scratch ≡ Ok tt
      → length list ≤ places.starts
      → listing_answer t q lo hi places scratch ≡ Ok (in_all (length list) (row_sum list) none)
  unfolding listing_answer summed ◌when◌
  found places scratch ee er ew es h =
      ap (λ (v : Verdict). summed v list none)
      (checks places scratch ee er ew es ∙ ap (λ (b : Bool). NoRoom when b) (le-ltb places.starts (length list) h))

  only_full : (places scratch : ℕ)
      → scratch_check (size t) scratch ≡ Ok tt
      → listing_answer t q lo hi (each places) scratch ≡ Err NoRoom
      → places < length list
  unfolding is_rings
  only_full places scratch es h =
      ⊎_elim (λ y. ltb-true places (length list) y)
      (λ y. absurd (subst is_rings (sym (found (each places) scratch refl refl refl es (ltb-false places (length list) y)) ∙ h) tt))
      (true_or_false (ltb places (length list)))

  abbrev number : ListedRing → ℕ
  number = windows_behind t q lo hi

  abbrev nowhere : ListedRing
  nowhere = record { start = 0; end = 0; rows = 0 }

  -- at each place of the list the fourth column holds its entry's number, which is that of the windows with the ring of its window
  module _ (old : Columns (List ℕ)) {new : Columns (List ℕ)} (w : new ≡ with_entries number list old) where
    beside : (i : ℕ) → i < length list → get_or new.windows i 0 ≡ number (get_or list i nowhere)
    beside i l = ap (λ (c : Columns (List ℕ)). get_or c.windows i 0) w ∙ cell number list old.windows nowhere i l

    numbers : (i : ℕ) → i < length list → get_or new.windows i 0 ≡ showing t q lo hi (ring t q (get_or new.starts i 0) (get_or new.ends i 0))
    unfolding windows_behind
    numbers i l =
        let s : get_or new.starts i 0 ≡ (get_or list i nowhere).start =
        ap (λ (c : Columns (List ℕ)). get_or c.starts i 0) w ∙ cell (λ x. x.start) list old.starts nowhere i l in
        let e : get_or new.ends i 0 ≡ (get_or list i nowhere).end =
        ap (λ (c : Columns (List ℕ)). get_or c.ends i 0) w ∙ cell (λ x. x.end) list old.ends nowhere i l in
        beside i l ∙ (λ j. showing t q lo hi (ring t q (sym s j) (sym e j)))

  pub demand_3 : Demand3 t q lo hi
  unfolding listing_columns listing_empty
  demand_3 =
      record {
        rings = distinct_rings t q lo hi;
        are_rings = distinct_are t q lo hi;
        as_long = λ ms A. rings_counted t q lo hi fits ms A ∙ sym many;
        full =
            λ places scratch es. (
              λ h. subst (λ (n : ℕ). places < n) (sym many) (only_full places scratch es h),
              λ h. refused places scratch es (subst (λ (n : ℕ). places < n) many h),
            );
        listed = λ scratch old es alike h.
            let e = found (places_of old) scratch alike.ends alike.rows alike.windows es (subst (λ (n : ℕ). n ≤ length old.starts) many h) in
            let w = ap (λ (a : Result Listed Refusal). listing_columns a t q lo hi old) e in
            record {
              answer_so = e ∙ (λ i. Ok (in_all (sym many i) (sym (distinct_sum t q lo hi fits) i) none));
              columns_so = w;
              is_listing = listing_is t q lo hi;
              as_many = sym many;
              numbers_so = λ i l. numbers old w i (subst (λ (n : ℕ). i < n) many l);
              adds_up =
                  ap (λ (a : Result Listed Refusal). sum (take (length (distinct_rings t q lo hi)) (listing_columns a t q lo hi old).windows) + listing_empty a) e
                  ∙ (ap (λ (n : ℕ). sum (take n (with_entries number list old).windows) + none) many
                  ∙ (ap (λ (ns : List ℕ). sum ns + none) (cells number list old.windows) ∙ windows_add_up t q lo hi fits));
              fit = λ i l.
                  let r = range_e lo hi range in
                  subst (λ (n : ℕ). n < 4294967296) (sym (beside old w i (subst (λ (n : ℕ). i < n) many l)))
                  (behind_fits t q lo hi r.0 r.2 (get_or list i nowhere));
              empty_fit =
                  let r = range_e lo hi range in
                  subst (λ (a : Result Listed Refusal). listing_empty a < 4294967296) (sym e) (empty_fits t q lo hi r.0 r.2);
            };
        each_ring = ring_listed t q lo hi fits;
        written =
            λ row_places start_places end_places scratch count rows starts ends h. archive_written t q lo hi rows starts ends
            row_places start_places end_places scratch h;
        recalls = λ rows starts ends old s e A l from order to.
            let w = range_e lo hi range in
            let a =
            ap (recall_answer t (columns_of rows starts ends) s e) l
            ∙ archive_accepted t q lo hi w.0 w.2 rows starts ends A s e from order to table in (
              a,
              ap (λ (v : Verdict). recall_marks v t (columns_of rows starts ends) s e old) a
                  ∙ archive_marks t q lo hi rows starts ends A s e (omega (arith, w.2)) from to old,
            );
      }
    where
      many : length (distinct_rings t q lo hi) ≡ length list
      many = distinct_listed t q lo hi fits
