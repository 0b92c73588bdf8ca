-- The ends of a start, from the counts of its core times (src/list.rt: first_counted, list_ends).
--     uncounted_start, uncounted_next, counted_one, counted_none     days without a count: the loop of `first_counted`
--     first_exists       there is a first counted day
--     none_listed        no end before the least time is listed
--     start_as           the entries of a start, as the counts say
--     EndsAt, ends_start, ends_total, ends_skip, ends_entered, ends_one     the loop of `list_ends`
--     ends_places, ends_end, ends_none     places for the start column; what `list_ends` leaves; no row of the first day has a core time
-- Assumes nothing.
use Prim.Native.Nat.{ℕ, zero, suc, ◌+◌, ◌-◌, ◌*◌, ◌≤◌, ◌<◌}
use native.Mathlib.Nat.{le_refl, eq-or-lt_of_le}
use native.Mathlib.Numerals.{add-one}
use native.Mathlib.Omega.{arith}
use mathlib.Core.Path.{◌≡◌, refl, sym, ◌∙◌, ap, subst}
use mathlib.Core.Logic.{⊎_elim}
use mathlib.Core.Bool.{Bool, true, false}
use mathlib.Core.List.{List, [], ◌∷◌, ◌++◌}
use lib.ListN.{length, get_or, set, length-set}
use lib.Seq.{get_or-set_same, get_or-set_other}
use lib.Dec.{leb, ltb}
use borrow.Author.Tests.{leb-true, leb-false, le-leb, lt-leb}
use Rattle.rings.specs.Words.{◌and◌, at, cons_if}
use Rattle.rings.specs.Table.{Table}
use Rattle.rings.specs.Starts.{CountsAt, Earliest}
use Rattle.rings.specs.declared.Query.{Query}
use Rattle.rings.specs.declared.frame.Frame.{Frame}
use Rattle.rings.proofs.WordLaws.{true_or_false, same_or, and_r}
use Rattle.listing.specs.Listing.{ListedRing}
use Rattle.listing.specs.ListingCall.{Columns, columns_of}
use Rattle.listing.specs.Inner.{start_entries, sum_of, count_entries, Uncounted, FirstCounted, Run, Regathered, filled_if, Progress}
use Rattle.listing.specs.Inner.{day_places, most_rows, Places, StartPlaces, EndsAhead, Numbered, Gathering, EndsListed}
use Rattle.listing.specs.declared.list.Passed.{Passed}
use Rattle.listing.proofs.StartLaws.{listed_no, listed_by, entries_are}
use Rattle.listing.proofs.ColumnLaws.{SameLengths, same_places, lengths_on, alike_kept, Putting, putting_places, filled_none}
use Rattle.listing.proofs.ProgressLaws.{progress_next, progress_as, progress_so}

-- ---- days without a count

pub uncounted_start : (xs : List ℕ) (low : ℕ) → Uncounted xs low low
uncounted_start xs low = record { order = le_refl low; none = λ e a b. absurd (omega arith) }

pub uncounted_next : {xs : List ℕ} {low day : ℕ} → Uncounted xs low day → get_or xs day 0 ≡ 0 → Uncounted xs low (day + 1)
uncounted_next {xs} {low} {day} U z =
    record {
      order = let o = U.order in omega arith;
      none = λ e a b. ⊎_elim (λ y. ap (λ (d : ℕ). get_or xs d 0) y ∙ z) (λ l. U.none e a l) (eq-or-lt_of_le (omega arith));
    }

uncounted_less : {xs : List ℕ} {day low : ℕ} → Uncounted xs day low → day < low → Uncounted xs (day + 1) low
uncounted_less U l = record { order = omega arith; none = λ e a b. U.none e (omega arith) b }

pub counted_one : {xs : List ℕ} {low hi day : ℕ} → Uncounted xs low day → day ≤ hi → (get_or xs day 0 ≡ 0 → ⊥) → FirstCounted xs low hi day
counted_one U o h = record { before = U; to = omega arith; counted = λ a z. h z }

pub counted_none : {xs : List ℕ} {low hi day : ℕ} → Uncounted xs low day → day ≡ hi + 1 → FirstCounted xs low hi (hi + 1)
counted_none {xs} {low} {hi} U e =
    record { before = subst (Uncounted xs low) e U; to = le_refl (hi + 1); counted = λ a z. absurd (omega arith) }

-- there is one such day
first_one : {xs : List ℕ} {low hi r r' : ℕ} → FirstCounted xs low hi r → FirstCounted xs low hi r' → r ≡ r'
first_one {xs} {low} {hi} {r} {r'} C D =
    ⊎_elim (λ y. ⊎_elim (λ z. z) (λ l. absurd (earlier C D l)) (eq-or-lt_of_le (leb-true r r' y)))
    (λ y. absurd (earlier D C (leb-false r r' y))) (true_or_false (leb r r'))
  where
    earlier : {x y : ℕ} → FirstCounted xs low hi x → FirstCounted xs low hi y → x < y → ⊥
    earlier {x} {y} X Y l = X.counted (omega (arith, Y.to)) (Y.before.none x X.before.order l)

pub first_exists : (xs : List ℕ) (low hi : ℕ) → low ≤ hi + 1 → (r : ℕ) × FirstCounted xs low hi r
first_exists xs low hi o = from (hi + 1 - low) low (omega arith) (uncounted_start xs low)
  where
    from : (n day : ℕ) → day + n ≡ hi + 1 → Uncounted xs low day → (r : ℕ) × FirstCounted xs low hi r
    from zero day d U = (hi + 1, counted_none U (omega arith))
    from (suc n) day d U =
        ⊎_elim (λ z. from n (day + 1) (omega arith) (uncounted_next U z)) (λ c. (day, counted_one U (omega arith) c)) (same_or (get_or xs day 0) 0)

-- ---- the ends of a start

days_next : (te e : ℕ) → e ≤ te → te + 1 - e ≡ suc (te + 1 - (e + 1))
days_next te e o = omega arith

sum_next : (xs : List ℕ) (te e : ℕ) → e ≤ te → sum_of xs e (te + 1 - e) ≡ get_or xs e 0 + sum_of xs (e + 1) (te + 1 - (e + 1))
unfolding sum_of at
sum_next xs te e o = ap (sum_of xs e) (days_next te e o) ∙ ap (λ (m : ℕ). get_or xs e 0 + sum_of xs m (te + 1 - (e + 1))) (sym (add-one e))

module _ (xs : List ℕ) (least s te e total : ℕ) (o : e ≤ te) where
  abbrev added : ℕ
  added = get_or xs e 0

  abbrev later : List ListedRing
  later = count_entries xs least s (e + 1) (total + added) (te + 1 - (e + 1))

  abbrev here : ListedRing
  here = record { start = s; end = e; rows = total + added }

  entries_next : count_entries xs least s e total (te + 1 - e) ≡ cons_if (ltb 0 added and leb least e) here later
  unfolding count_entries at
  entries_next =
      ap (count_entries xs least s e total) (days_next te e o)
      ∙ ap (λ (d : ℕ). cons_if (ltb 0 added and leb least e) here (count_entries xs least s d (total + added) (te + 1 - (e + 1)))) (sym (add-one e))

  -- by what the test says
  entries_by : {b : Bool} → b ≡ (ltb 0 added and leb least e) → count_entries xs least s e total (te + 1 - e) ≡ cons_if b here later
  entries_by eb = entries_next ∙ ap (λ (d : Bool). cons_if d here later) (sym eb)

-- no end before the least time is listed
pub none_listed : (xs : List ℕ) (least s e total m : ℕ) → e + m ≤ least → count_entries xs least s e total m ≡ []
unfolding count_entries cons_if
none_listed xs least s e total zero h = refl
none_listed xs least s e total (suc m) h =
    ap (λ (b : Bool). cons_if b (record { start = s; end = e; rows = total + at xs e }) (count_entries xs least s (suc e) (total + at xs e) m)) early
    ∙ none_listed xs least s (suc e) (total + at xs e) m (omega arith)
  where
    early : (ltb 0 (at xs e) and leb least e) ≡ false
    early =
        ⊎_elim (λ y. let k = leb-true least e (and_r (ltb 0 (at xs e)) (leb least e) y) in absurd (omega arith)) (λ y. y)
        (true_or_false (ltb 0 (at xs e) and leb least e))

-- days without a count have no entry and add no row
module _ (xs : List ℕ) (least s te low total : ℕ) where
  none_counted : (m e : ℕ) → low ≤ te + 1 → e + m ≡ low → Uncounted xs e low
      → count_entries xs least s e total (te + 1 - e) ≡ count_entries xs least s low total (te + 1 - low)
  unfolding cons_if
  none_counted zero e o d U = let h : e ≡ low = omega arith in ap (λ (c : ℕ). count_entries xs least s c total (te + 1 - c)) h
  none_counted (suc m) e o d U =
      let h : get_or xs e 0 ≡ 0 = U.none e (le_refl e) (omega arith) in
      let k : total + get_or xs e 0 ≡ total = omega arith in
      let l : e ≤ te = omega arith in
      entries_by xs least s te e total l (listed_no least e h)
      ∙ (ap (λ (c : ℕ). count_entries xs least s (e + 1) c (te + 1 - (e + 1))) k ∙ none_counted m (e + 1) o (omega arith) (uncounted_less U (omega arith)))

sum_skip : (xs : List ℕ) (te low m e : ℕ) → low ≤ te + 1 → e + m ≡ low → Uncounted xs e low → sum_of xs e (te + 1 - e) ≡ sum_of xs low (te + 1 - low)
sum_skip xs te low zero e o d U = let h : e ≡ low = omega arith in ap (λ (c : ℕ). sum_of xs c (te + 1 - c)) h
sum_skip xs te low (suc m) e o d U =
    let h : get_or xs e 0 ≡ 0 = U.none e (le_refl e) (omega arith) in
    let r = sum_skip xs te low m (e + 1) o (omega arith) (uncounted_less U (omega arith)) in
    let n = sum_next xs te e (omega arith) in
    omega arith

-- the entries of a start, as the counts of its core times say
pub start_as : (t : Table) (q : Query) (hi s : ℕ) → hi ≤ 1024 → s ≤ hi → {xs : List ℕ} → CountsAt t q hi s xs → {least : ℕ} → Earliest t q hi s least
    → {f : ListedRing → ℕ} {writes : Bool} {goal : List ListedRing} (rest : List ListedRing) {n sum : ℕ} {lent now : Columns (List ℕ)}
    → Progress f writes goal (start_entries t q hi s ++ rest) n sum lent now
    → Progress f writes goal (count_entries xs least s s 0 (hi + 1 - s) ++ rest) n sum lent now
start_as t q hi s top o T E rest P = progress_as (ap (λ (ls : List ListedRing). ls ++ rest) (sym (entries_are t q hi s top T E o))) P

-- ---- the walk over them, from run to run

module _ (xs g : List ℕ) (least s low hi : ℕ) (writes : Bool) (p : Passed) (old : Columns (List ℕ)) where
  abbrev alike : ℕ
  alike = s + 1 - p.from

  abbrev all : List ListedRing
  all = count_entries xs least s s 0 (hi + 1 - s)

  -- it stands at e, the first core time that is not walked yet: the ends before gave so many entries, summed up and written, their runs are
  -- gathered or taken, and total rows have earlier core times
  pub record EndsAt (e total entries summed : ℕ) (new : Columns (List ℕ)) (g' : List ℕ) : Type 0 where
    pub from : low ≤ e
    pub to : e ≤ hi + 1
    pub counted : e ≤ hi → get_or xs e 0 ≡ 0 → ⊥
    pub few : entries ≤ e - low
    pub small : summed ≤ (e - low) * most_rows
    pub in_table : total + sum_of xs e (hi + 1 - e) ≤ most_rows
    pub left : entries + length (count_entries xs least s e total (hi + 1 - e)) ≡ length all
    pub lengths : SameLengths old new
    pub long : length g' ≡ day_places
    pub ahead : (i : ℕ) → e ≤ i → get_or g' i 0 ≡ get_or g i 0
    pub behind : Regathered xs least alike low hi e g g'
    pub moves : (number : ListedRing → ℕ) → Numbered xs g least alike s low hi number → (goal rest : List ListedRing) (lent : Columns (List ℕ))
        → Progress number writes goal (all ++ rest) p.count p.sum lent old
        → Progress number writes goal (count_entries xs least s e total (hi + 1 - e) ++ rest) (p.count + entries) (p.sum + summed) lent new

module _ {xs g : List ℕ} {f : Frame} {low least : ℕ} {writes : Bool} {p : Passed} {old : Columns (List ℕ)}
    (A : EndsAhead xs g f low least writes p old) where
  -- no row of the first day has a core time in the range
  pub ends_none : {empty : ℕ} → f.stop < least → empty ≡ p.empty + (low - f.start)
      → EndsListed xs f low least writes p (record { count = p.count; sum = p.sum; empty = empty; from = p.from }) old old g g
  ends_none h ee =
      let none : count_entries xs least f.start f.start 0 (f.stop + 1 - f.start) ≡ [] =
      none_listed xs least f.start f.start 0 (f.stop + 1 - f.start) (omega (arith, A.within, A.uncounted.order)) in
      record {
        few = omega arith;
        small = omega arith;
        empty_so = ee;
        gathers = Gathering.idle h refl refl;
        moves = λ number N goal rest lent P. progress_as (ap (λ (ls : List ListedRing). ls ++ rest) none) P;
      }

  -- the start column is filled behind the loop: the columns are said as they will be then
  pub ends_start : EndsAt xs g least f.start low f.stop writes p old low 0 0 0
      (columns_of (filled_if writes f.start p.count 0 old.starts) old.ends old.rows old.windows) g
  ends_start =
      subst (λ (xs' : List ℕ). EndsAt xs g least f.start low f.stop writes p old low 0 0 0 (columns_of xs' old.ends old.rows old.windows) g)
      (sym (filled_none writes f.start p.count old.starts))
      (record {
        from = le_refl low;
        to = omega (arith, A.within);
        counted = λ o. A.counted;
        few = omega arith;
        small = omega arith;
        in_table = omega (arith, A.in_table);
        left = omega (arith, ap length same);
        lengths = same_places old;
        long = A.long;
        ahead = λ i o. refl;
        behind = record { kept = λ i z. refl; adds = λ i next o l h R. absurd (omega arith); takes = λ i next o l h R. absurd (omega arith) };
        moves = λ number N goal rest lent P. progress_so (omega arith) (omega arith) (progress_as (ap (λ (ls : List ListedRing). ls ++ rest) same) P);
      })
    where
      same : count_entries xs least f.start f.start 0 (f.stop + 1 - f.start) ≡ count_entries xs least f.start low 0 (f.stop + 1 - low)
      same =
          none_counted xs least f.start f.stop low 0 (low - f.start) f.start (omega (arith, A.within))
          (omega (arith, A.uncounted.order)) A.uncounted

  module _ {e total entries summed : ℕ} {new : Columns (List ℕ)} {g' : List ℕ}
      (E : EndsAt xs g least f.start low f.stop writes p old e total entries summed new g') where
    module _ (o : e ≤ f.stop) where
      -- numbers that stay small
      pub ends_total : total + get_or xs e 0 ≤ most_rows
      ends_total = omega (arith, E.in_table, sum_next xs f.stop e o)

      module _ {next : ℕ} (C : FirstCounted xs (e + 1) f.stop next) where
        run : Run xs f.stop e next
        run = record { counted = E.counted o; ends = C }

        later_sum : total + get_or xs e 0 + sum_of xs next (f.stop + 1 - next) ≤ most_rows
        later_sum =
            omega (
              arith,
              E.in_table,
              sum_next xs f.stop e o,
              sum_skip xs f.stop next (next - (e + 1)) (e + 1) C.to (omega (arith, C.before.order)) C.before,
            )

        abbrev row : ListedRing
        row = record { start = f.start; end = e; rows = total + get_or xs e 0 }

        abbrev behind_run : List ListedRing
        behind_run = count_entries xs least f.start next (total + get_or xs e 0) (f.stop + 1 - next)

        -- the entry of the run, if it is listed, then those from the next core time on
        entries_run : count_entries xs least f.start e total (f.stop + 1 - e) ≡ cons_if (leb least e) row behind_run
        entries_run =
            entries_by xs least f.start f.stop e total o (listed_by least e (E.counted o))
            ∙ ap (cons_if (leb least e) row)
            (none_counted xs least f.start f.stop next (total + get_or xs e 0) (next - (e + 1)) (e + 1) C.to
            (omega (arith, C.before.order)) C.before)

        abbrev shown : ℕ
        shown = get_or g e 0 + (f.start + 1 - p.from) * (next - e)

        -- the number v goes to e: a counted day before next is e, or one before e, which is as it was
        module _ (v : ℕ) where
          abbrev number_at : ℕ → ℕ
          number_at i = get_or (set g' e v) i 0

          which : (B : ℕ → Type 0) (i next' : ℕ)
              → i < next
              → Run xs f.stop i next'
              → (i < e → B (get_or g' i 0))
              → (e ≡ i → next ≡ next' → B v)
              → B (number_at i)
          which B i next' l R before at =
              ⊎_elim
              (λ y. ⊎_elim
              (λ z. subst B (sym (get_or-set_same g' e v 0 (omega (arith, E.long, A.counts.last))) ∙ ap number_at z)
              (at z (first_one C (subst (λ (d : ℕ). FirstCounted xs (d + 1) f.stop next') (sym z) R.ends))))
              (λ k. absurd (R.counted (C.before.none i (omega arith) l)))
              (eq-or-lt_of_le (leb-true e i y)))
              (λ y. let k = leb-false e i y in subst B (sym (get_or-set_other g' e i v 0 (λ z. omega arith))) (before k))
              (true_or_false (leb e i))

          regathered : (e < least → v ≡ shown) → (least ≤ e → v ≡ 0)
              → Regathered xs least (f.start + 1 - p.from) low f.stop next g (set g' e v)
          regathered adds takes =
              record {
                kept = λ i z. get_or-set_other g' e i v 0 (λ y. E.counted o (ap (λ (d : ℕ). get_or xs d 0) (sym y) ∙ z)) ∙ E.behind.kept i z;
                adds = λ i next' a l h R.
                    which (λ n. n ≡ get_or g i 0 + (f.start + 1 - p.from) * (next' - i)) i next' l R (λ k. E.behind.adds i next' a k h R)
                    (λ y n. adds (omega arith)
                    ∙ (ap (λ (d : ℕ). get_or g d 0 + (f.start + 1 - p.from) * (next - d)) y
                    ∙ ap (λ (m : ℕ). get_or g i 0 + (f.start + 1 - p.from) * (m - i)) n));
                takes = λ i next' a l h R.
                    which (λ n. n ≡ 0) i next' l R (λ k. E.behind.takes i next' a k h R) (λ y n. takes (omega arith));
              }

        -- the run's end is not listed: its windows are gathered
        pub ends_skip : e < least
            → EndsAt xs g least f.start low f.stop writes p old next (total + get_or xs e 0) entries summed new
            (set g' e (get_or g' e 0 + (f.start + 1 - p.from) * (next - e)))
        unfolding cons_if
        ends_skip h =
            record {
              from = omega (arith, E.from, C.before.order);
              to = C.to;
              counted = C.counted;
              few = omega (arith, E.from, E.few, C.before.order);
              small = omega (arith, E.from, E.small, C.before.order);
              in_table = later_sum;
              left = ap (λ (ls : List ListedRing). entries + length ls) (sym skipped) ∙ E.left;
              lengths = E.lengths;
              long = length-set g' e _ ∙ E.long;
              ahead = λ i l. get_or-set_other g' e i _ 0 (λ y. omega (arith, C.before.order)) ∙ E.ahead i (omega (arith, C.before.order));
              behind =
                  regathered _ (λ l. ap (λ (n : ℕ). n + (f.start + 1 - p.from) * (next - e)) (E.ahead e (le_refl e))) (λ l. absurd (omega arith));
              moves = λ number N goal rest lent P. progress_as (ap (λ (ls : List ListedRing). ls ++ rest) skipped) (E.moves number N goal rest lent P);
            }
          where
            skipped : count_entries xs least f.start e total (f.stop + 1 - e) ≡ behind_run
            skipped = entries_run ∙ ap (λ (b : Bool). cons_if b row behind_run) (lt-leb least e h)

        module _ (h : least ≤ e) where
          listed : count_entries xs least f.start e total (f.stop + 1 - e) ≡ row ∷ behind_run
          unfolding cons_if
          listed = entries_run ∙ ap (λ (b : Bool). cons_if b row behind_run) (le-leb least e h)

          -- there is a place for it
          ends_place : writes ≡ true → p.count + entries < length old.starts
          ends_place w = omega (arith, A.room w, E.left, ap length listed)

          pub ends_entered : Places writes (p.count + entries) new.ends new.rows new.windows
          ends_entered =
              record {
                in_ends = λ w. omega (arith, ends_place w, A.alike.ends, E.lengths.ends);
                in_rows = λ w. omega (arith, ends_place w, A.alike.rows, E.lengths.rows);
                in_windows = λ w. omega (arith, ends_place w, A.alike.windows, E.lengths.windows);
              }

          pub ends_one : {new' : Columns (List ℕ)}
              → Putting writes (p.count + entries) row (get_or g' e 0 + (f.start + 1 - p.from) * (next - e)) new new'
              → EndsAt xs g least f.start low f.stop writes p old next (total + get_or xs e 0) (entries + 1) (summed + (total + get_or xs e 0)) new'
              (set g' e 0)
          ends_one N =
              record {
                from = omega (arith, E.from, C.before.order);
                to = C.to;
                counted = C.counted;
                few = omega (arith, E.from, E.few, C.before.order);
                small = omega (arith, E.from, E.small, C.before.order, ends_total);
                in_table = later_sum;
                left = omega (arith, E.left, ap length listed);
                lengths = lengths_on E.lengths (putting_places N);
                long = length-set g' e 0 ∙ E.long;
                ahead = λ i l. get_or-set_other g' e i 0 0 (λ y. omega (arith, C.before.order)) ∙ E.ahead i (omega (arith, C.before.order));
                behind = regathered 0 (λ l. absurd (omega arith)) (λ l. refl);
                moves =
                    λ number M goal rest lent P.
                    progress_so (omega arith) (omega arith)
                    (progress_next row
                    (M e next (total + get_or xs e 0) E.from o h run
                    ∙ ap (λ (n : ℕ). n + (f.start + 1 - p.from) * (next - e)) (sym (E.ahead e (le_refl e))))
                    (alike_kept A.alike E.lengths) (λ w. omega (arith, ends_place w, E.lengths.starts))
                    (progress_as (ap (λ (ls : List ListedRing). ls ++ rest) listed) (E.moves number M goal rest lent P))
                    N);
              }

  module _ (starts : List ℕ) {e total entries summed : ℕ} {ends rows windows g' : List ℕ}
      (E : EndsAt xs g least f.start low f.stop writes p old e total entries summed
      (columns_of (filled_if writes f.start p.count entries starts) ends rows windows) g') where
    -- there are places for the start column
    pub ends_places : length starts ≡ length old.starts → StartPlaces writes p.count (p.count + entries) starts
    ends_places same = record { order = omega arith; in_starts = λ w. omega (arith, A.room w, E.left) }

    pub ends_end : {empty : ℕ} {starts' : List ℕ} → least ≤ f.stop → f.stop < e → empty ≡ p.empty + (low - f.start)
        → starts' ≡ filled_if writes f.start p.count (p.count + entries - p.count) starts
        → EndsListed xs f low least writes p (record { count = p.count + entries; sum = p.sum + summed; empty = empty; from = f.start + 1 }) old
        (columns_of starts' ends rows windows) g g'
    unfolding count_entries
    ends_end {starts' = starts'} l past ee es =
        let none : f.stop + 1 - e ≡ 0 = omega arith in
        let last : e ≡ f.stop + 1 = omega (arith, E.to) in
        let many : entries ≡ p.count + entries - p.count = omega arith in
        let filled_so : filled_if writes f.start p.count entries starts ≡ starts' =
        ap (λ (n : ℕ). filled_if writes f.start p.count n starts) many ∙ sym es in
        record {
          few = omega (arith, E.to, E.few, A.counts.last);
          small = omega (arith, E.to, E.small, A.counts.last);
          empty_so = ee;
          gathers = Gathering.walked l refl (subst (λ (d : ℕ). Regathered xs least (f.start + 1 - p.from) low f.stop d g g') last E.behind);
          moves = λ number N goal rest lent P.
              subst (λ (xs' : List ℕ). Progress number writes goal rest (p.count + entries) (p.sum + summed) lent (columns_of xs' ends rows windows))
              filled_so (progress_as (ap (λ (d : ℕ). count_entries xs least f.start e total d ++ rest) none) (E.moves number N goal rest lent P));
        }
