-- Laws of reading the program's input, over plain lists.
--     lines_most, place_lines    no more lines than bytes; the reader's place is within the text
--     reader_none, reader_more, reader_most    the input line of the reader's place
--     unread_told        what the reader tells of a refusal
--     rows_asked, rows_refused    the columns after the reader, and its answer, are what the rows ask for
--     query_fits         a query line is 16 bytes
--     rest_fits          the rows behind the query line fit the columns
--     asks_query, asks_none    what an input asks for, by its query line
--     too_long           an input that is too long
--     asked_none, asked_most, part_most, asked_rows   the outcome, by what is asked
-- Assumes nothing.
use Prim.Native.Nat.{ℕ, zero, suc, ◌+◌, ◌-◌, ◌≤◌, ◌<◌, min}
use mathlib.Core.Path.{◌≡◌, refl, sym, ap, ◌∙◌}
use mathlib.Core.Bool.{Bool, true, false, cond}
use mathlib.Core.Logic.{⊎_elim}
use mathlib.Core.List.{List, [], ◌∷◌, ◌++◌}
use native.Mathlib.Nat.{min-le_left, min-le_right}
use native.Mathlib.Omega.{arith}
use lib.ListN.{length, take, drop, length-take, length-drop}
use lib.Seq.{take_at, take-length}
use lib.Dec.{leb, eqb}
use borrow.Author.Tests.{leb-true, lt-ltb, le-ltb}
use Rattle.text.specs.Layout.{query_layout, query_bytes, most_rows, most_input}
use Rattle.text.specs.Line.{Line, prepend, lines_of, first_line, is_whole, row_of, query_from, query_of}
use Rattle.text.specs.Report.{table_report}
use Rattle.text.specs.Table.{day_of, first_of, second_of, days_of, firsts_of, seconds_of, at_line, fault_or, judged_from, room_for, table_read_of, filled, place}
use Rattle.text.specs.declared.lines.LineError.{LineError}
use Rattle.text.specs.declared.lines.Query.{Query as QueryLine}
use Rattle.text.specs.declared.report.Report.{Report}
use Rattle.text.specs.declared.table.ReadError.{ReadError}
use Rattle.text.proofs.Tests.{true_or_false}
use Rattle.text.proofs.LineLaws.{step_none, step_short, whole_fits}
use Rattle.text.proofs.RowsLaws.{column_length}
use Rattle.rings.specs.Table.{table_of as columns}
use Rattle.rings.specs.Ring.{query}
use Rattle.rings.specs.declared.Query.{Query}
use Rattle.rings.specs.declared.refusal.Refusal.TheVariants.{TooLarge}
use Rattle.listing.specs.Program.{Outcome, stopped, reader_line, stopped_by, table_of}
use Rattle.listing.specs.Program.{listed, from_rows, bad_query, from_query, unless_long, outcome}
use Rattle.listing.specs.ProgramSteps.{Readable, asked_for, unread, bad_line, rows_of, asked, Asks}
use Rattle.listing.specs.ProgramText.{refused_as}
use Rattle.listing.specs.declared.Refused.{Refused}
use Rattle.listing.specs.declared.program.Asked.{Asked}
use Rattle.std.specs.Prelude.{Result, Ok, Err}

absurd_eq {ℓ} : {A : Type ℓ} → ◌≡◌ {A = ℕ} 0 1 → A
absurd_eq e = let f : ⊥ = omega arith in absurd f

-- ---- the reader's place

prepend_length : (b : ℕ) (ls : List (List ℕ)) → length (prepend b ls) ≤ length ls + 1
unfolding prepend
prepend_length b [] = omega arith
prepend_length b (l ∷ ls) = omega arith

picked : (b : ℕ) (rest : List (List ℕ)) (t : Bool) → length (cond t ((b ∷ []) ∷ rest) (prepend b rest)) ≤ length rest + 1
picked b rest true = omega arith
picked b rest false = prepend_length b rest

pub lines_most : (s : List ℕ) → length (lines_of s) ≤ length s
unfolding lines_of
lines_most [] = omega arith
lines_most (b ∷ bs) = omega (arith, picked b (lines_of bs) (eqb b 10), lines_most bs)

at_place : (n : ℕ) (e : LineError) → place (Err (at_line n e)) ≡ n
at_place n LineError.BadLine = refl
at_place n LineError.BadField = refl
at_place n LineError.BadNumber = refl

fault_place : (n m : ℕ) (l : Line) (later : Result ℕ ReadError) → n ≤ m → place later ≤ m → place (fault_or n l later) ≤ m
fault_place n m (Ok row) later h p = p
fault_place n m (Err e) later h p = omega (arith, at_place n e)

judged_place : (n : ℕ) (ls : List (List ℕ)) → place (judged_from n ls) ≤ n + length ls
unfolding judged_from
judged_place n [] = omega arith
judged_place n (l ∷ ls) = fault_place (n + 1) (n + suc (length ls)) (row_of l) (judged_from (n + 1) ls) (omega arith) (omega (arith, judged_place (n + 1) ls))

room_choice : (b : Bool) (n : ℕ) → place (cond b (Ok n) (Err ReadError.NoRoom)) ≡ 0
room_choice true n = refl
room_choice false n = refl

room_place : (room : ℕ) (r : Result ℕ ReadError) → place (room_for room r) ≤ place r
room_place room (Ok n) = omega (arith, room_choice (leb n room) n)
room_place room (Err e) = omega arith

pub place_lines : (text : List ℕ) (d f s : ℕ) {r : Result ℕ ReadError} → r ≡ table_read_of text d f s → place r ≤ length text
unfolding table_read_of
place_lines text d f s {r} e =
    let j = judged_from 0 (lines_of text) in
    let a : place (room_for (min d (min f s)) j) ≤ place j = room_place (min d (min f s)) j in
    let b : place j ≤ 0 + length (lines_of text) = judged_place 0 (lines_of text) in
    let q : place r ≡ place (room_for (min d (min f s)) j) = ap place e in
    omega (arith, lines_most text)

-- ---- its input line

pub reader_none : (n : ℕ) → n ≡ 0 → 0 ≡ reader_line n
unfolding reader_line
reader_none n e = sym (ap reader_line e)

pub reader_more : (n : ℕ) → (n ≡ 0 → ⊥) → n + 1 ≡ reader_line n
unfolding reader_line
reader_more zero h = absurd (h refl)
reader_more (suc n) h = refl

pub reader_most : (n : ℕ) → reader_line n ≤ n + 1
unfolding reader_line
reader_most zero = omega arith
reader_most (suc n) = omega arith

-- what the reader tells of a refusal
pub unread_told : (e : ReadError) {told : Report} {line : ℕ}
    → told ≡ table_report (Err e)
    → line ≡ reader_line told.place
    → refused_as told.number line ≡ unread e
unread_told e {told} t l = ap (refused_as told.number) l ∙ ap (λ (r : Report). refused_as r.number (reader_line r.place)) t

-- ---- rows

record Fitting (room n : ℕ) (r : Result ℕ ReadError) : Type 0 where
  fits : n ≤ room
  is : r ≡ Ok n

fitting : (room m n : ℕ) (b : Bool) → leb m room ≡ b → cond b (Ok m) (Err ReadError.NoRoom) ≡ Ok n → Fitting room n (Ok m)
fitting room m n true t e = let q : m ≡ n = cc in record { fits = omega (arith, leb-true m room t); is = ap Ok q }
fitting room m n false t e = absurd_eq (cc)

room_rows : (room n : ℕ) (r : Result ℕ ReadError) → room_for room r ≡ Ok n → Fitting room n r
room_rows room n (Ok m) e = fitting room m n (leb m room) refl e
room_rows room n (Err x) e = absurd_eq (cc)

-- a column's rows stand in front of it
front : (values column : List ℕ) {now : List ℕ} (n : ℕ) → length values ≡ n → now ≡ values ++ drop n column → take n now ≡ values
front values column n e q = ap (take n) q ∙ take_at values (drop n column) n e

module _ (text : List ℕ) (q : Query) (lo hi : ℕ) (days first second : List ℕ) {r : Result ℕ ReadError}
    (e : r ≡ table_read_of text (length days) (length first) (length second)) (fits : Readable text days first second) where
  read_so : table_read_of text most_rows most_rows most_rows ≡ r
  read_so = sym (e ∙ rw (fits.days, fits.first, fits.second))

  pub rows_asked : {days' first' second' : List ℕ} {n : ℕ} → r ≡ Ok n
      → days' ≡ filled r (days_of text) days → first' ≡ filled r (firsts_of text) first → second' ≡ filled r (seconds_of text) second
      → Asks (from_rows (table_read_of text most_rows most_rows most_rows) (table_of text) q lo hi) (Ok (asked_for q lo hi n)) days' first' second'
  unfolding rows_of asked from_rows listed table_read_of table_of days_of firsts_of seconds_of read_so
  rows_asked {days'} {first'} {second'} {n} h d f s =
      let rows = room_rows most_rows n (judged_from 0 (lines_of text)) (read_so ∙ h) in
      let a : take n days' ≡ days_of text =
      front (days_of text) days n (column_length text n rows.is day_of) (d ∙ ap (λ x. filled x (days_of text) days) h) in
      let b : take n first' ≡ firsts_of text =
      front (firsts_of text) first n (column_length text n rows.is first_of) (f ∙ ap (λ x. filled x (firsts_of text) first) h) in
      let c : take n second' ≡ seconds_of text =
      front (seconds_of text) second n (column_length text n rows.is second_of) (s ∙ ap (λ x. filled x (seconds_of text) second) h) in
      record {
        most = rows.fits;
        is =
            ap (λ (x : Result ℕ ReadError). from_rows x (table_of text) q lo hi) (read_so ∙ h)
            ∙ (λ i. listed (record { days = sym a i; first = sym b i; second = sym c i }) q lo hi);
      }

  pub rows_refused : {d f s : List ℕ} {x : ReadError} → r ≡ Err x
      → Asks (from_rows (table_read_of text most_rows most_rows most_rows) (table_of text) q lo hi) (Err (unread x)) d f s
  unfolding rows_of asked from_rows
  rows_refused h =
      record { most = omega arith; is = ap (λ (y : Result ℕ ReadError). from_rows y (table_of text) q lo hi) (read_so ∙ h) }

-- ---- the query line

no_query : {A : Type 0} (q : QueryLine) → ◌≡◌ {A = Result QueryLine LineError} (Err LineError.BadLine) (Ok q) → A
no_query q e = absurd_eq (cc)

pub query_fits : (s : List ℕ) (q : QueryLine) → query_of s ≡ Ok q → query_bytes ≤ length s
unfolding query_of
query_fits [] q e = no_query q (sym (ap query_from (step_none query_layout [] refl)) ∙ e)
query_fits (x ∷ xs) q e =
    ⊎_elim (λ t. whole_fits (x ∷ xs) query_bytes t) (λ t. no_query q (sym (ap query_from (step_short query_layout (x ∷ xs) (omega arith) t)) ∙ e))
    (true_or_false (is_whole query_bytes (first_line (x ∷ xs))))

module _ (input : List ℕ) (short : length input ≤ most_input) where
  by_query : {r : Result QueryLine LineError} → r ≡ query_of input → outcome input ≡ from_query r (drop query_bytes input)
  unfolding outcome unless_long
  by_query e = rw (le-ltb most_input (length input) short, e)

  -- the part of the input behind the query line
  rest : List ℕ
  rest = take (length input - query_bytes) (drop query_bytes input)

  rest_is : rest ≡ drop query_bytes input
  unfolding rest
  rest_is = ap (λ (k : ℕ). take k (drop query_bytes input)) (sym (length-drop query_bytes input)) ∙ take-length (drop query_bytes input)

  pub rest_fits : {d f s : List ℕ} → Readable input d f s → Readable (take (length input - query_bytes) (drop query_bytes input)) d f s
  rest_fits R =
      let behind : List ℕ = drop query_bytes input in
      record {
        short =
            omega (
              arith,
              short,
              length-take (length input - query_bytes) behind,
              min-le_right (length input - query_bytes) (length behind),
              length-drop query_bytes input,
            );
        days = R.days;
        first = R.first;
        second = R.second;
      }

  pub asks_query : {r : Result QueryLine LineError} {q : QueryLine} {a : Result Asked Refused} {d f s : List ℕ} → r ≡ query_of input → r ≡ Ok q
      → Asks (from_rows (table_read_of (take (length input - query_bytes) (drop query_bytes input)) most_rows most_rows most_rows)
      (table_of (take (length input - query_bytes) (drop query_bytes input))) (query q.k) q.from q.to)
      a d f s
      → Asks (outcome input) a d f s
  unfolding from_query rest
  asks_query {r} {q} e h A =
      record {
        most = A.most;
        is =
            by_query (sym h ∙ e)
            ∙ ap (λ (l : List ℕ). from_rows (table_read_of l most_rows most_rows most_rows) (table_of l) (query q.k) q.from q.to) (sym rest_is)
            ∙ A.is;
      }

  pub asks_none : {r : Result QueryLine LineError} {x : LineError} {d f s : List ℕ}
      → r ≡ query_of input
      → r ≡ Err x
      → Asks (outcome input) (Err (bad_line x)) d f s
  unfolding rows_of asked from_query bad_query
  asks_none {r} {x} e h = record { most = omega arith; is = by_query (sym h ∙ e) }

pub too_long : (input : List ℕ) → most_input < length input → outcome input ≡ stopped_by TooLarge
unfolding outcome unless_long
too_long input h = rw (lt-ltb most_input (length input) h)

module _ {o : Outcome} {a : Result Asked Refused} {d f s : List ℕ} (h : Asks o a d f s) where
  pub asked_none : {r : Refused} → a ≡ Err r → o ≡ stopped r.number r.line
  unfolding asked
  asked_none e = h.is ∙ ap (λ (x : Result Asked Refused). asked x d f s) e

  module _ {q : Asked} (e : a ≡ Ok q) where
    pub asked_most : q.count ≤ most_rows
    unfolding rows_of
    asked_most = omega (arith, h.most, ap rows_of e)

    pub part_most : (l : List ℕ) → length (take q.count l) ≤ most_rows
    part_most l = omega (arith, asked_most, length-take q.count l, min-le_left q.count (length l))

    pub asked_rows : o ≡ listed (columns (take q.count d) (take q.count f) (take q.count s)) q.query q.ts q.te
    unfolding asked
    asked_rows = h.is ∙ ap (λ (x : Result Asked Refused). asked x d f s) e
