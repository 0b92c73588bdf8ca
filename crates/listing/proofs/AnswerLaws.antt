-- Listing's answer, as the program meets it.
--     refused_place      a refusal's place lies in the table
--     cut_long           a column, cut at so many entries
--     listed_rings, listed_none    the outcome by the answer
--     rings_count, rings_most, rings_are, rings_rise, rings_all_rise    what stands in the columns after an answer
--     refused_told, answer_none, answer_refused, answer_as   the program's answer and output, by the outcome
-- Assumes nothing.
use Prim.Native.Nat.{ℕ, zero, suc, ◌+◌, ◌*◌, ◌≤◌, ◌<◌}
use mathlib.Core.Path.{◌≡◌, refl, sym, ap, subst, ◌∙◌}
use mathlib.Core.Bool.{Bool, true, false}
use mathlib.Core.List.{List}
use native.Mathlib.Omega.{arith}
use lib.ListN.{length, take, length-map}
use lib.Seq.{length-take-le}
use lib.Dec.{leb, ltb, eqb}
use borrow.Author.Tests.{ltb-false}
use Rattle.rings.specs.Words.{◌and◌, ◌or◌, no, tabulate}
use Rattle.rings.specs.Table.{Table, size, day_of, first_of, second_of}
use Rattle.rings.specs.Refusals.{Verdict, rule_of, number_of, place_of}
use Rattle.rings.specs.Checks.{◌when◌, ◌then◌, in_order, query_check, range_check, scratch_check}
use Rattle.rings.specs.TableCheck.{day_before, row_faults, row_check, table_check}
use Rattle.rings.specs.declared.Query.{Query}
use Rattle.rings.specs.declared.refusal.Refusal.{Refusal}
use Rattle.rings.specs.declared.refusal.Refusal.TheVariants.{ColumnsDiffer, TooLarge, BadDay, BadAccounts, DayFalls}
use Rattle.rings.specs.declared.refusal.Refusal.TheVariants.{BadK, BadRange, BadLength, Scratch, NoRoom}
use Rattle.rings.specs.declared.refusal.Place.{Place}
use Rattle.rings.proofs.CheckLaws.{accepted_left, accepted_right, when_accepted}
use Rattle.rings.proofs.AcceptedLaws.{range_e}
use Rattle.listing.specs.Listing.{ListedRing, listing}
use Rattle.listing.specs.WindowCounts.{empty_windows, windows_behind}
use Rattle.listing.specs.EachRing.{EntryOf}
use Rattle.listing.specs.ListingCall.{Columns, each, listing_checks, summed, listing_answer, listing_columns}
use Rattle.listing.specs.Program.{Outcome, found, stopped, place_line, input_line, stopped_by, from_list, most_listed, program_scratch, listed}
use Rattle.listing.specs.ProgramText.{refused_as, refused_of, list_answer, list_output}
use Rattle.listing.specs.ProgramSteps.{TextColumns, entry_at, entries_of, Rising, Prints}
use Rattle.listing.specs.declared.Listed.{Listed}
use Rattle.std.specs.Prelude.{Option, Result, Ok, Err}
use Rattle.listing.specs.declared.Refused.{Refused as RefusedLine}
use Rattle.listing.proofs.CountLaws.{listing_is}
use Rattle.listing.proofs.PrintingLaws.{columns_for, entries_are, place_holds, cut_at, cut_columns}

-- ---- the checks behind an answer

record Summed (v : Verdict) (ls : List ListedRing) (n : ℕ) : Type 0 where
  accepted : v ≡ Ok tt
  counts : n ≡ length ls

summed_rings : (v : Verdict) (ls : List ListedRing) (none : ℕ) {l : Listed}
    → summed v ls none ≡ Ok l
    → Summed v ls l.count
unfolding summed
summed_rings (Ok _) ls none e = record { accepted = refl; counts = cc }
summed_rings (Err r) ls none e = let z : ◌≡◌ {A = ℕ} 0 1 = cc in absurd (omega arith)

summed_refused : (v : Verdict) (ls : List ListedRing) (none : ℕ) {r : Refusal} → summed v ls none ≡ Err r → v ≡ Err r
unfolding summed
summed_refused (Ok _) ls none e = let z : ◌≡◌ {A = ℕ} 0 1 = cc in absurd (omega arith)
summed_refused (Err f) ls none {r} e = let g : f ≡ r = cc in ap Err g

-- ---- the place of a refusal

-- a refusal of v has a place of at most n
record Low (n : ℕ) (v : Verdict) : Type 0 where
  low : (r : Refusal) → v ≡ Err r → place_of r ≤ n

low_accepted : (n : ℕ) → Low n (Ok tt)
low_accepted n = record { low = λ r e. let z : ◌≡◌ {A = ℕ} 0 1 = cc in omega arith }

low_when : (n : ℕ) (r : Refusal) (b : Bool) → place_of r ≤ n → Low n (r when b)
unfolding ◌when◌
low_when n r true h = record { low = λ f e. let g : r ≡ f = cc in subst (λ (x : Refusal). place_of x ≤ n) g h }
low_when n r false h = low_accepted n

low_then : (n : ℕ) (v w : Verdict) → Low n v → Low n w → Low n (v then w)
unfolding ◌then◌
low_then n (Ok _) w f g = g
low_then n (Err r) w f g = f

low_order : (m : ℕ) (f : ℕ → Verdict) (i n : ℕ) → i + n ≤ m → ((j : ℕ) → j < m → Low m (f j)) → Low m (in_order (tabulate f i n))
unfolding in_order tabulate
low_order m f i zero l h = low_accepted m
low_order m f i (suc n) l h = low_then m (f i) (in_order (tabulate f (suc i) n)) (h i (omega arith)) (low_order m f (suc i) n (omega arith) h)

low_row : (n j before day a b : ℕ) → j < n → Low n (row_faults j before day a b)
unfolding row_faults place_of
low_row n j before day a b h =
    low_then n (BadDay j when no (leb 1 day and leb day 1024)) (BadAccounts j when ltb 4095 b or no (ltb a b) then DayFalls j when ltb day before)
    (low_when n (BadDay j) (no (leb 1 day and leb day 1024)) (omega arith))
    (low_then n (BadAccounts j when ltb 4095 b or no (ltb a b)) (DayFalls j when ltb day before)
    (low_when n (BadAccounts j) (ltb 4095 b or no (ltb a b)) (omega arith))
    (low_when n (DayFalls j) (ltb day before) (omega arith)))

low_table : (t : Table) → Low (size t) (table_check t)
unfolding table_check row_check place_of
low_table t =
    low_then (size t) (ColumnsDiffer when no (eqb (length t.first) (size t) and eqb (length t.second) (size t)))
    (TooLarge when ltb 16384 (size t) then in_order (tabulate (row_check t) 0 (size t)))
    (low_when (size t) ColumnsDiffer (no (eqb (length t.first) (size t) and eqb (length t.second) (size t))) (omega arith))
    (low_then (size t) (TooLarge when ltb 16384 (size t)) (in_order (tabulate (row_check t) 0 (size t)))
    (low_when (size t) TooLarge (ltb 16384 (size t)) (omega arith))
    (low_order (size t) (row_check t) 0 (size t) (omega arith) (λ j h. low_row (size t) j (day_before t j) (day_of t j) (first_of t j) (second_of t j) h)))

low_query : (n : ℕ) (q : Query) → Low n (query_check q)
unfolding query_check place_of
low_query n q = low_when n BadK (no (leb 1 q.k and leb q.k 4095)) (omega arith)

low_range : (n lo hi : ℕ) → Low n (range_check lo hi)
unfolding range_check place_of
low_range n lo hi = low_when n BadRange (no (leb 1 lo and leb lo hi and leb hi 1024)) (omega arith)

low_scratch : (n rows scratch : ℕ) → Low n (scratch_check rows scratch)
unfolding scratch_check place_of
low_scratch n rows scratch = low_when n Scratch (ltb scratch (8192 + 4 * rows)) (omega arith)

low_lengths : (n : ℕ) (b : Bool) → Low n (BadLength when b)
unfolding place_of
low_lengths n b = low_when n BadLength b (omega arith)

low_room : (n : ℕ) (b : Bool) → Low n (NoRoom when b)
unfolding place_of
low_room n b = low_when n NoRoom b (omega arith)

-- the four columns have as many places each
abbrev alike : Columns ℕ → Bool
alike places = eqb places.ends places.starts and eqb places.rows places.starts and eqb places.windows places.starts

low_checks : (t : Table) (q : Query) (lo hi : ℕ) (places : Columns ℕ) (scratch : ℕ) → Low (size t) (listing_checks t q lo hi places scratch)
unfolding listing_checks
low_checks t q lo hi places scratch =
    let n = size t in
    low_then n _ _ (low_table t)
    (low_then n _ _ (low_query n q)
    (low_then n _ _ (low_range n lo hi)
    (low_then n _ _ (low_lengths n (no (alike places)))
    (low_then n _ _ (low_scratch n n scratch) (low_room n (ltb places.starts (length (listing t q lo hi))))))))

pub refused_place : (t : Table) (q : Query) (lo hi : ℕ) (places : Columns ℕ) (scratch : ℕ) {r : Refusal}
    → listing_answer t q lo hi places scratch ≡ Err r
    → place_of r ≤ size t
unfolding listing_answer
refused_place t q lo hi places scratch {r} e =
    (low_checks t q lo hi places scratch).low r (summed_refused (listing_checks t q lo hi places scratch) (listing t q lo hi) (empty_windows t q lo hi) e)

-- ---- a listing that is answered

-- what its checks leave
record Answered (t : Table) (q : Query) (lo hi : ℕ) (places : Columns ℕ) : Type 0 where
  from : 1 ≤ lo
  room : length (listing t q lo hi) ≤ places.starts

answered_by : (t : Table) (q : Query) (lo hi : ℕ) (places : Columns ℕ) (scratch : ℕ)
    → listing_checks t q lo hi places scratch ≡ Ok tt
    → Answered t q lo hi places
unfolding listing_checks
answered_by t q lo hi places scratch e =
    let e₁ = accepted_right (table_check t) _ e in
    let e₂ = accepted_right (query_check q) _ e₁ in
    let e₃ = accepted_right (range_check lo hi) _ e₂ in
    let e₄ = accepted_right (BadLength when no (alike places)) _ e₃ in
    let e₅ = accepted_right (scratch_check (size t) scratch) _ e₄ in
    record {
      from = (range_e lo hi (accepted_left (range_check lo hi) _ e₂)).0;
      room = ltb-false places.starts (length (listing t q lo hi)) (when_accepted NoRoom (ltb places.starts (length (listing t q lo hi))) e₅);
    }

-- a column of the program's holds so many entries
pub cut_long : {n : ℕ} (column : List ℕ) → length column ≡ most_listed → n ≤ most_listed → n ≡ length (take n column)
cut_long {n} column l h = sym (length-take-le n column (omega arith))

module _ (t : Table) (q : Query) (lo hi : ℕ) {r : Result Listed Refusal} (is : r ≡ listing_answer t q lo hi (each most_listed) program_scratch) where
  pub listed_rings : {l : Listed} → r ≡ Ok l → listed t q lo hi ≡ found (listing t q lo hi)
  unfolding listed from_list
  listed_rings e = ap (λ (x : Result Listed Refusal). from_list x (listing t q lo hi)) (sym is ∙ e)

  pub listed_none : {f : Refusal} → r ≡ Err f → listed t q lo hi ≡ stopped_by f
  unfolding listed from_list
  listed_none e = ap (λ (x : Result Listed Refusal). from_list x (listing t q lo hi)) (sym is ∙ e)

  behind : {l : Listed} → r ≡ Ok l → Summed (listing_checks t q lo hi (each most_listed) program_scratch) (listing t q lo hi) l.count
  unfolding listing_answer
  behind e = summed_rings (listing_checks t q lo hi (each most_listed) program_scratch) (listing t q lo hi) (empty_windows t q lo hi) (sym is ∙ e)

  pub rings_count : {l : Listed} → r ≡ Ok l → l.count ≡ length (listing t q lo hi)
  rings_count e = (behind e).counts

  answered : {l : Listed} → r ≡ Ok l → Answered t q lo hi (each most_listed)
  answered e = answered_by t q lo hi (each most_listed) program_scratch (behind e).accepted

  pub rings_most : {l : Listed} → r ≡ Ok l → l.count ≤ most_listed
  rings_most e = omega (arith, (behind e).counts, (answered e).room)

  module _ (old : Columns (List ℕ)) {c : Columns (List ℕ)} (w : c ≡ listing_columns r t q lo hi old) {l : Listed} (e : r ≡ Ok l) where
    columns : cut_at l.count c ≡ columns_for (listing t q lo hi)
    unfolding listing_columns
    columns =
        cut_columns (windows_behind t q lo hi) (listing t q lo hi) old
        (w ∙ ap (λ (x : Result Listed Refusal). listing_columns x t q lo hi old) e) (rings_count e)

    pub rings_are : entries_of (cut_at l.count c) ≡ listing t q lo hi
    rings_are = ap entries_of columns ∙ entries_are (listing t q lo hi)

    pub rings_rise : Rising (cut_at l.count c) l.count
    unfolding entry_at
    rings_rise =
        let list = listing t q lo hi in
        let long = length-map list (λ x. x.start) in
        let entry : (i : ℕ) → i < l.count → EntryOf t q lo hi (entry_at (columns_for list) i) =
        λ i h. place_holds list (EntryOf t q lo hi) (listing_is t q lo hi).each i (omega (arith, rings_count e)) in
        subst (λ x. Rising x l.count) (sym columns)
        (record {
          most = rings_most e;
          in_starts = omega (arith, long, rings_count e);
          in_ends = omega (arith, length-map list (λ x. x.end), rings_count e);
          in_rows = omega (arith, length-map list (λ x. x.rows), rings_count e);
          from = λ i h. omega (arith, (answered e).from, (entry i h).from);
          order = λ i h. (entry i h).order;
        })

    -- the same of as many entries as the columns have then
    pub rings_all_rise : Rising (cut_at l.count c) (length (cut_at l.count c).starts)
    rings_all_rise =
        let long : length (cut_at l.count c).starts ≡ l.count =
        ap (λ (x : TextColumns). length x.starts) columns
        ∙ (length-map (listing t q lo hi) (λ x. x.start) ∙ sym (rings_count e)) in
        subst (Rising (cut_at l.count c)) (sym long) rings_rise

-- ---- the text

pub answer_none : (o : Outcome) (output : List ℕ) {r : RefusedLine} → o ≡ stopped r.number r.line → Prints o (Err r) output output
unfolding list_answer list_output
answer_none o output e = record { answer = rw e; output = refl }

pub refused_told : (r : Refusal) {n line : ℕ} {p : Option Place} → n ≡ number_of r → p ≡ (rule_of r).place → line ≡ place_line p → refused_as n line ≡ refused_of r
unfolding refused_of input_line
refused_told r n p l = λ i. refused_as (n i) ((l ∙ ap place_line p) i)

pub answer_refused : (o : Outcome) (output : List ℕ) (f : Refusal) {r : RefusedLine} → o ≡ stopped_by f → r ≡ refused_of f → Prints o (Err r) output output
unfolding stopped_by refused_of list_answer list_output
answer_refused o output f e h = rw (h, e) (record { answer = refl; output = refl })

pub answer_as : {o o' : Outcome} {a : Result ℕ RefusedLine} {old now : List ℕ} → o ≡ o' → Prints o' a old now → Prints o a old now
answer_as {a = a} {old} {now} e P = subst (λ (x : Outcome). Prints x a old now) (sym e) P
