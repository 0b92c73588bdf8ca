-- What a listing lists, and how many rings a range has.
--     windows_length           the windows of a range number n(n+1)/2
--     rings_length, passing_most    as many rings as windows, where each counts; no test is passed by more
--     listing_most, rings_most no listing has more entries, and no range has more rings
--     distinct_listed          a listing has as many entries as the range has distinct rings that are not empty
--     distinct_are, rings_counted    `distinct_rings` holds exactly these rings, each once; any list that does has as many
--     distinct_sum, sum_most   its sum is the sum of their rows, and at most n(n+1)/2 times the rows of the table
--     listing_is, listing_only `listing` holds exactly the entries of the range, in order, and is the only such list
--     ring_listed              each window's ring, if not empty, is listed once and only once, by its tightest window
-- Assumes nothing.
use Prim.Native.Nat.{ℕ, zero, suc, ◌+◌, ◌*◌, ◌-◌, ◌/◌, ◌≤◌, ◌<◌, zero-le}
use native.Mathlib.Nat.{le_refl, le_trans, suc-mul, mul-suc, mul-le-mul_right, add-mul-div_right}
use native.Mathlib.Omega.{arith}
use mathlib.Core.Path.{◌≡◌, refl, sym, ◌∙◌, ap, subst}
use mathlib.Core.Logic.{◌⊎◌, ⊎_elim}
use mathlib.Core.Bool.{Bool, true}
use mathlib.Core.List.Memᴰ.{head as here}
use mathlib.Core.List.{List, [], ◌∷◌, map, Memᴰ as Mem}
use mathlib.Core.List.Memᴰ.{cases_cons}
use mathlib.Core.List.Memᴰ.{cast as mem-cast}
use mathlib.Core.List.Memᴰ.{not-nil}
use mathlib.Core.List.{flatten}
use lib.ListN.{length, length-map, length-append}
use Rattle.rings.specs.Words.{tabulate, filter_by, Pairwise}
use Rattle.rings.specs.Words.Pairwise.{none, more}
use Rattle.rings.specs.Table.{Table, size}
use Rattle.rings.specs.Ring.{ring, members}
use Rattle.rings.specs.CoreTimes.{never}
use Rattle.rings.specs.Windows.{Window, windows_from, windows}
use Rattle.rings.specs.declared.Query.{Query}
use Rattle.rings.proofs.WordLaws.{true_or_false, length_tabulate}
use Rattle.rings.proofs.ListLaws.{filter_by_yes, filter_by_no, mem_filter_by, filter_by_mem, mem_map, map_mem}
use Rattle.rings.proofs.ListLaws.{pair_filter_by, pair_map, pair_weaken, pair_unique}
use Rattle.rings.proofs.PeelLaws.{members_length}
use Rattle.rings.proofs.RingLaws.{ring_sized}
use Rattle.rings.proofs.RangeLaws.{OfRange, Earlier, windows_e, windows_i, windows_order}
use Rattle.listing.specs.Tight.{nonempty, tightest, tight}
use Rattle.listing.specs.Listing.{ListedRing, entry_of, listing, row_sum}
use Rattle.listing.specs.Distinct.{same_rows, distinct, rings_of, distinct_rings}
use Rattle.listing.specs.WindowCounts.{showing, windows_behind}
use Rattle.listing.specs.EachRing.{Sooner, EntryOf, IsListing, of_ring, ListedOnce, AreRings, RingOf, ring_sum}
use Rattle.listing.specs.LongestList.{longest, days_of}
use Rattle.listing.proofs.TightLaws.{nonempty_e, nonempty_i, tight_e, tightest_ring, tight_one}
use Rattle.listing.proofs.DistinctLaws.{Apart, total, Same, same_total, same_length, same_rows_e, same_rows_i}
use Rattle.listing.proofs.DistinctLaws.{distinct_mem, mem_distinct, distinct_apart}

-- ---- the most rings that there can be

longest_suc : (n : ℕ) → longest (suc n) ≡ suc n + longest n
unfolding longest
longest_suc n = ap (λ (m : ℕ). m / 2) twice ∙ (add-mul-div_right (n * (n + 1)) (suc n) (omega arith) ∙ omega arith)
  where
    twice : suc n * (suc n + 1) ≡ n * (n + 1) + suc n * 2
    twice =
        let a : suc n * (suc n + 1) ≡ n * (suc n + 1) + (suc n + 1) = suc-mul n (suc n + 1) in
        let b : n * (suc n + 1) ≡ n * (n + 1) + n = ap (λ (m : ℕ). n * m) (omega arith) ∙ mul-suc n (n + 1) in
        a ∙ (ap (λ (m : ℕ). m + (suc n + 1)) b ∙ omega arith)

pub windows_length : (lo hi : ℕ) → length (windows lo hi) ≡ longest (days_of lo hi)
unfolding windows days_of tabulate flatten windows_from longest
windows_length lo hi = from (suc hi - lo) lo refl
  where
    from : (n i : ℕ) → n ≡ suc hi - i → length (flatten (tabulate (windows_from hi) i n)) ≡ longest n
    from zero i e = refl
    from (suc n) i e =
        let a : length (windows_from hi i) ≡ suc n = length_tabulate (λ d. record { start = i; end = d }) i (suc hi - i) ∙ sym e in
        let b : length (flatten (tabulate (windows_from hi) (suc i) n)) ≡ longest n = from n (suc i) (omega arith) in
        length-append (windows_from hi i) (flatten (tabulate (windows_from hi) (suc i) n))
        ∙ (ap (λ (m : ℕ). m + length (flatten (tabulate (windows_from hi) (suc i) n))) a ∙ (ap (λ (m : ℕ). suc n + m) b ∙ sym (longest_suc n)))

filter_by_length : {A : Type 0} (p : A → Bool) (xs : List A) → length (filter_by p xs) ≤ length xs
unfolding filter_by
filter_by_length p [] = le_refl 0
filter_by_length p (x ∷ xs) =
    let h : length (filter_by p xs) ≤ length xs = filter_by_length p xs in
    ⊎_elim (λ a. let e : length (filter_by p (x ∷ xs)) ≡ suc (length (filter_by p xs)) = ap length (filter_by_yes p x xs a) in omega arith)
    (λ a. let e : length (filter_by p (x ∷ xs)) ≡ length (filter_by p xs) = ap length (filter_by_no p x xs a) in omega arith) (true_or_false (p x))

pub listing_most : (t : Table) (q : Query) (lo hi : ℕ) → length (listing t q lo hi) ≤ longest (days_of lo hi)
unfolding listing
listing_most t q lo hi =
    let test : Window → Bool = λ w. tight t q w.start w.end in
    let a : length (map (entry_of t q) (filter_by test (windows lo hi))) ≡ length (filter_by test (windows lo hi)) =
    length-map (filter_by test (windows lo hi)) (entry_of t q) in
    let b : length (filter_by test (windows lo hi)) ≤ length (windows lo hi) = filter_by_length test (windows lo hi) in
    let c : length (windows lo hi) ≡ longest (days_of lo hi) = windows_length lo hi in
    omega arith

-- ---- the rings of a range

module _ (t : Table) (q : Query) (lo hi : ℕ) where
  abbrev test : Window → Bool
  test w = tight t q w.start w.end

  abbrev ring_of : Window → List Bool
  ring_of w = ring t q w.start w.end

  pub rings_length : length (rings_of t q lo hi) ≡ longest (days_of lo hi)
  unfolding rings_of
  rings_length = length-map (windows lo hi) ring_of ∙ windows_length lo hi

  -- no test is passed by more windows than there are
  pub passing_most : (p : List Bool → Bool) → length (filter_by p (rings_of t q lo hi)) ≤ longest (days_of lo hi)
  passing_most p =
      subst (λ (n : ℕ). length (filter_by p (rings_of t q lo hi)) ≤ n) rings_length (filter_by_length p (rings_of t q lo hi))

  -- two tight windows, one before the other, have different rings
  rings_differ : (v w : Window) → test v ≡ true → test w ≡ true → Earlier v w → Apart (ring_of v) (ring_of w)
  rings_differ v w a b o e =
      let p = tight_one t q v.start v.end w.start w.end a b e in
      let x = p.0 in let y = p.1 in
      ⊎_elim (λ l. omega arith) (λ l. let k = l.1 in omega arith) o

  tights_e : (w : Window) → Mem w (filter_by test (windows lo hi)) → OfRange lo hi w × (test w ≡ true)
  tights_e w m = let a = filter_by_mem test (windows lo hi) m in (windows_e lo hi w a.0, a.1)

  tights_i : (w : Window) → OfRange lo hi w → test w ≡ true → Mem w (filter_by test (windows lo hi))
  tights_i w o h = mem_filter_by test (windows lo hi) (windows_i lo hi w o) h

  tights_order : Pairwise Earlier (filter_by test (windows lo hi))
  tights_order = pair_filter_by Earlier test (windows lo hi) (windows_order lo hi)

  -- a tight window of the range with the ring of [s, e]
  record Tightened (s e : ℕ) : Type 0 where
    it : Window
    of_range : OfRange lo hi it
    is_tight : test it ≡ true
    same : ring_of it ≡ ring t q s e
    from : s ≤ it.start
    to : it.end ≤ e

  tighten : hi < never → (s e : ℕ) → lo ≤ s → e ≤ hi → nonempty (ring t q s e) ≡ true → Tightened s e
  tighten fits s e f l h =
      let j = nonempty_e t q s e h in
      let g = tightest_ring t q s e (omega arith) j.0 j.1 in
      let f' = g.from in let l' = g.to in
      record {
        it = record { start = g.start; end = g.end };
        of_range = record { from = omega arith; order = g.order; to = omega arith };
        is_tight = g.is_tight;
        same = g.same;
        from = f';
        to = l';
      }

  tight_ring : {s e : ℕ} → Tightened s e → Mem (ring t q s e) (map ring_of (filter_by test (windows lo hi)))
  tight_ring g = mem-cast (sym g.same) (mem_map ring_of (filter_by test (windows lo hi)) (tights_i g.it g.of_range g.is_tight))

  -- ---- demand 3's count and sum

  rings : List (List Bool)
  rings = filter_by nonempty (map ring_of (windows lo hi))

  tights : List Window
  tights = filter_by test (windows lo hi)

  -- the distinct rings are those of the tight windows
  same_rings : hi < never → Same (distinct rings) (map ring_of tights)
  unfolding rings tights
  same_rings fits = record { left_apart = distinct_apart (filter_by nonempty (map ring_of (windows lo hi))); right_apart = apart; to = to; back = back }
    where
      apart : Pairwise Apart (map ring_of tights)
      apart =
          pair_map ring_of Apart tights
          (pair_weaken Earlier (λ v w. Apart (ring_of v) (ring_of w)) tights tights_order (λ v w m n. rings_differ v w (tights_e v m).1 (tights_e w n).1))

      -- a ring that is not empty is that of its tightest window
      to : (m : List Bool) → Mem m (distinct rings) → Mem m (map ring_of tights)
      to m h =
          let a = filter_by_mem nonempty (map ring_of (windows lo hi)) (distinct_mem rings h) in
          let b = map_mem ring_of (windows lo hi) a.0 in
          let o = windows_e lo hi b.it b.member in
          mem-cast b.is
          (tight_ring (tighten fits b.it.start b.it.end o.from o.to (subst (λ (x : List Bool). nonempty x ≡ true) b.is a.1)))

      -- the ring of a tight window is not empty
      back : (m : List Bool) → Mem m (map ring_of tights) → Mem m (distinct rings)
      back m h =
          let a = map_mem ring_of tights h in
          let w = a.it in
          let b = tights_e w a.member in
          let f = b.0.order in let l = b.0.to in
          let r = (tight_e t q w.start w.end (omega arith) b.1).first in
          mem_distinct rings
          (mem-cast a.is
          (mem_filter_by nonempty (map ring_of (windows lo hi)) (mem_map ring_of (windows lo hi) (windows_i lo hi w b.0))
          (nonempty_i t q w.start w.end r.row r.is_in_ring)))

  -- as many entries as distinct rings that are not empty
  pub distinct_listed : hi < never → length (distinct_rings t q lo hi) ≡ length (listing t q lo hi)
  unfolding distinct_rings rings_of listing rings tights
  distinct_listed fits = same_length (distinct rings) (map ring_of tights) (same_rings fits) ∙ (length-map tights ring_of ∙ sym (length-map tights (entry_of t q)))

  -- and their rows, each ring's once, are the sum
  pub distinct_sum : hi < never → ring_sum (distinct_rings t q lo hi) ≡ row_sum (listing t q lo hi)
  unfolding distinct_rings rings_of listing rings tights ring_sum row_sum entry_of
  distinct_sum fits = of_rings (distinct rings) ∙ (same_total members (distinct rings) (map ring_of tights) (same_rings fits) ∙ of_entries tights)
    where
      of_rings : (ms : List (List Bool)) → ring_sum ms ≡ total members ms
      of_rings [] = refl
      of_rings (m ∷ ms) = ap (λ (n : ℕ). members m + n) (of_rings ms)

      of_entries : (ws : List Window) → total members (map ring_of ws) ≡ row_sum (map (entry_of t q) ws)
      of_entries [] = refl
      of_entries (w ∷ ws) = ap (λ (n : ℕ). members (ring_of w) + n) (of_entries ws)

  pub distinct_are : AreRings t q lo hi (distinct_rings t q lo hi)
  unfolding distinct_rings rings_of
  distinct_are = record { each = each_one; whole = whole_list; apart = distinct_apart (filter_by nonempty (map ring_of (windows lo hi))) }
    where
      each_one : (m : List Bool) → Mem m (distinct (filter_by nonempty (map ring_of (windows lo hi)))) → RingOf t q lo hi m
      each_one m h =
          let a = filter_by_mem nonempty (map ring_of (windows lo hi)) (distinct_mem (filter_by nonempty (map ring_of (windows lo hi))) h) in
          let b = map_mem ring_of (windows lo hi) a.0 in
          let o = windows_e lo hi b.it b.member in
          record { start = b.it.start; end = b.it.end; from = o.from; order = o.order; to = o.to; is = b.is; has_row = a.1 }

      whole_list : (m : List Bool) → RingOf t q lo hi m → Mem m (distinct (filter_by nonempty (map ring_of (windows lo hi))))
      whole_list m r =
          mem_distinct (filter_by nonempty (map ring_of (windows lo hi)))
          (mem_filter_by nonempty (map ring_of (windows lo hi))
          (mem-cast r.is
          (mem_map ring_of (windows lo hi)
          (windows_i lo hi (record { start = r.start; end = r.end }) (record { from = r.from; order = r.order; to = r.to }))))
          r.has_row)

  -- the same of any list of the distinct rings
  pub rings_counted : hi < never → (ms : List (List Bool)) → AreRings t q lo hi ms → length ms ≡ length (listing t q lo hi)
  rings_counted fits ms a =
      let b = distinct_are in
      same_length ms (distinct_rings t q lo hi)
      (record { left_apart = a.apart; right_apart = b.apart; to = λ m h. b.whole m (a.each m h); back = λ m h. a.whole m (b.each m h) })
      ∙ distinct_listed fits

  -- no range has more rings than n(n+1)/2
  pub rings_most : hi < never → length (distinct_rings t q lo hi) ≤ longest (days_of lo hi)
  rings_most fits = subst (λ (n : ℕ). n ≤ longest (days_of lo hi)) (sym (distinct_listed fits)) (listing_most t q lo hi)

  -- no ring has more rows than the table
  pub sum_most : row_sum (listing t q lo hi) ≤ longest (days_of lo hi) * size t
  unfolding listing row_sum entry_of
  sum_most =
      le_trans (of_entries (filter_by test (windows lo hi)))
      (mul-le-mul_right (size t)
      (subst (λ (n : ℕ). n ≤ longest (days_of lo hi)) (length-map (filter_by test (windows lo hi)) (entry_of t q)) (listing_most t q lo hi)))
    where
      of_entries : (ws : List Window) → row_sum (map (entry_of t q) ws) ≤ length ws * size t
      of_entries [] = zero-le
      of_entries (w ∷ ws) =
          let a : members (ring_of w) ≤ size t = subst (λ (n : ℕ). members (ring_of w) ≤ n) (ring_sized t q w.start w.end) (members_length (ring_of w)) in
          let b : row_sum (map (entry_of t q) ws) ≤ length ws * size t = of_entries ws in
          let c : suc (length ws) * size t ≡ length ws * size t + size t = suc-mul (length ws) (size t) in omega arith

  -- ---- the listing in words

  listing_e : (x : ListedRing) → Mem x (listing t q lo hi) → EntryOf t q lo hi x
  unfolding listing entry_of tight
  listing_e x m =
      let a = map_mem (entry_of t q) (filter_by test (windows lo hi)) m in
      let b = tights_e a.it a.member in
      subst (EntryOf t q lo hi) (sym a.is) (record { from = b.0.from; order = b.0.order; to = b.0.to; is_tightest = b.1; counts = refl })

  listing_i : (x : ListedRing) → EntryOf t q lo hi x → Mem x (listing t q lo hi)
  unfolding listing entry_of tight
  listing_i x o =
      mem-cast (λ i. record { start = x.start; end = x.end; rows = o.counts i })
      (mem_map (entry_of t q) (filter_by test (windows lo hi))
      (tights_i (record { start = x.start; end = x.end }) (record { from = o.from; order = o.order; to = o.to }) o.is_tightest))

  listing_order : Pairwise Sooner (listing t q lo hi)
  unfolding listing entry_of
  listing_order = pair_map (entry_of t q) Sooner (filter_by test (windows lo hi)) tights_order

  pub listing_is : IsListing t q lo hi (listing t q lo hi)
  listing_is = record { each = listing_e; whole = listing_i; in_order = listing_order }

  strict : (x y : ListedRing) → Sooner x y → Sooner y x → ⊥
  strict x y (◌⊎◌.inl a) (◌⊎◌.inl b) = omega arith
  strict x y (◌⊎◌.inl a) (◌⊎◌.inr b) = let c = b.0 in omega arith
  strict x y (◌⊎◌.inr a) (◌⊎◌.inl b) = let c = a.0 in omega arith
  strict x y (◌⊎◌.inr a) (◌⊎◌.inr b) = let c = a.1 in let d = b.1 in omega arith

  pub listing_only : (xs : List ListedRing) → IsListing t q lo hi xs → xs ≡ listing t q lo hi
  listing_only xs l =
      pair_unique Sooner strict xs (listing t q lo hi) l.in_order listing_order (λ x m. listing_i x (l.each x m))
      (λ x m. l.whole x (listing_e x m))

  -- two entries with one ring are one
  entry_one : (x y : ListedRing) → EntryOf t q lo hi x → EntryOf t q lo hi y → ring t q x.start x.end ≡ ring t q y.start y.end → x ≡ y
  unfolding tight
  entry_one x y a b e =
      let p = tight_one t q x.start x.end y.start y.end a.is_tightest b.is_tightest e in
      let r : x.rows ≡ y.rows = a.counts ∙ (ap members e ∙ sym b.counts) in
      λ i. record { start = p.0 i; end = p.1 i; rows = r i }

  -- each window's ring, if not empty, is listed once and only once
  pub ring_listed : hi < never → (s e : ℕ) → lo ≤ s → e ≤ hi → nonempty (ring t q s e) ≡ true → ListedOnce t q lo hi s e
  unfolding of_ring tight windows_behind
  ring_listed fits s e f l h =
      record {
        entry = x;
        once =
            pair_unique Sooner strict (filter_by (of_ring t q (ring t q s e)) (listing t q lo hi)) (x ∷ [])
            (pair_filter_by Sooner (of_ring t q (ring t q s e)) (listing t q lo hi) listing_order)
            (more (λ y m. absurd (not-nil m)) none) to back;
        is_listed = listing_i x is_entry;
        only = only_x;
        is_tightest = subst (λ (m : List Bool). tightest t m x.start x.end ≡ true) g.same g.is_tight;
        same_ring = g.same;
        from = g.from;
        to = g.to;
        counts = ap members g.same;
        shows = ap (showing t q lo hi) g.same;
      }
    where
      g : Tightened s e
      g = tighten fits s e f l h

      x : ListedRing
      x = record { start = g.it.start; end = g.it.end; rows = members (ring_of g.it) }

      is_entry : EntryOf t q lo hi x
      is_entry = record { from = g.of_range.from; order = g.of_range.order; to = g.of_range.to; is_tightest = g.is_tight; counts = refl }

      only_x : (y : ListedRing) → Mem y (listing t q lo hi) → ring t q y.start y.end ≡ ring t q s e → y ≡ x
      only_x y m r = entry_one y x (listing_e y m) is_entry (r ∙ sym g.same)

      to : (y : ListedRing) → Mem y (filter_by (of_ring t q (ring t q s e)) (listing t q lo hi)) → Mem y (x ∷ [])
      to y m =
          let a = filter_by_mem (of_ring t q (ring t q s e)) (listing t q lo hi) m in
          here (only_x y a.0 (same_rows_e (ring t q y.start y.end) (ring t q s e) a.1))

      back : (y : ListedRing) → Mem y (x ∷ []) → Mem y (filter_by (of_ring t q (ring t q s e)) (listing t q lo hi))
      back y m =
          ⊎_elim (λ r. mem-cast r
          (mem_filter_by (of_ring t q (ring t q s e)) (listing t q lo hi) (listing_i x is_entry)
          (subst (λ (n : List Bool). same_rows (ring_of g.it) n ≡ true) g.same (same_rows_i (ring_of g.it)))))
          (λ r. absurd (not-nil r)) (cases_cons m)
