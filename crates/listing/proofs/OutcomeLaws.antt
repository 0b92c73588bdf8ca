-- How large an outcome can be: what a program that prints it has to hold.
--     rings_in, number_in, line_in    the rings of an outcome; a refusal's number and input line
--     Bounded, bounded         2,048 rings, number 15, line 18,450 are the most
--     TextAnswer, text_answer, RefusedAnswer, refused_answer    what stands behind the list call's answer, for an output of 45,078 bytes: it holds every text
-- Assumes nothing.
use Prim.Native.Nat.{ℕ, ◌+◌, ◌*◌, ◌≤◌}
use mathlib.Core.Path.{◌≡◌, refl, sym, ap, ◌∙◌}
use mathlib.Core.Bool.{Bool, true, false}
use mathlib.Core.List.{List, map}
use native.Mathlib.Omega.{arith}
use lib.ListN.{length, take, drop, length-append, length-map, length-drop}
use lib.Seq.{take_at}
use lib.Dec.{leb, ltb}
use borrow.Author.Tests.{ltb-false, le-leb}
use Rattle.text.specs.Layout.{query_bytes, entry_bytes, most_rows, most_input}
use Rattle.text.specs.Line.{lines_of, row_of, query_of}
use Rattle.text.specs.Table.{day_of, days_of, table_read_of}
use Rattle.text.specs.Print.{refused_line}
use Rattle.text.specs.declared.lines.LineError.{LineError}
use Rattle.text.specs.declared.lines.LineError.TheVariants as line
use Rattle.text.specs.declared.lines.Query.{Query as QueryLine}
use Rattle.text.specs.declared.table.ReadError.{ReadError}
use Rattle.text.proofs.ListingLaws.{listing_length}
use Rattle.rings.specs.Table.{Table, size}
use Rattle.rings.specs.Refusals.{rule_of, number_of, place_number, place_of}
use Rattle.rings.specs.declared.refusal.Place.{Place}
use Rattle.rings.specs.declared.refusal.Place.TheVariants.{Row, Entry}
use Rattle.rings.specs.Buffers.{over}
use Rattle.rings.specs.declared.Query.{Query}
use Rattle.rings.specs.declared.refusal.Refusal.{Refusal}
use Rattle.rings.specs.declared.refusal.Refusal.TheVariants.{ColumnsDiffer, TooLarge, BadDay, BadAccounts, DayFalls, BadK}
use Rattle.rings.specs.declared.refusal.Refusal.TheVariants.{BadRange, BadLength, Scratch, NoRoom, BadEntry, NotInRing}
use Rattle.listing.specs.Listing.{ListedRing, listing}
use Rattle.listing.specs.ListingCall.{each, listing_answer}
use Rattle.listing.specs.Program.{Outcome, found, stopped, place_line, input_line, stopped_by, table_of}
use Rattle.listing.specs.Program.{from_list, most_listed, program_scratch, listed, from_rows, bad_query, from_query, unless_long, outcome}
use Rattle.listing.specs.ProgramText.{line_of, list_text, outcome_text, most_output, refused_as, fitted, list_answer, list_output}
use Rattle.listing.specs.declared.Listed.{Listed}
use Rattle.std.specs.Prelude.{Option, Some, None, Result, Ok, Err}
use Rattle.listing.specs.declared.Refused.{Refused}
use Rattle.listing.proofs.ReadingLaws.{lines_most, place_lines, reader_most}
use Rattle.listing.proofs.AnswerLaws.{refused_place, rings_count, rings_most}

unfoldable pub rings_in : Outcome → ℕ
rings_in (found ls) = length ls
rings_in (stopped n line) = 0

unfoldable pub number_in : Outcome → ℕ
number_in (found ls) = 0
number_in (stopped n line) = n

unfoldable pub line_in : Outcome → ℕ
line_in (found ls) = 0
line_in (stopped n line) = line

pub record Bounded (o : Outcome) : Type 0 where
  pub rings : rings_in o ≤ most_listed
  pub number : number_in o ≤ 15
  pub line : line_in o ≤ most_input + 2

stops : (n line : ℕ) → n ≤ 15 → line ≤ most_input + 2 → Bounded (stopped n line)
unfolding rings_in number_in line_in
stops n line a b = record { rings = omega arith; number = a; line = b }

number_most : (r : Refusal) → number_of r ≤ 15
unfolding number_of
number_most ColumnsDiffer = omega arith
number_most TooLarge = omega arith
number_most (BadDay j) = omega arith
number_most (BadAccounts j) = omega arith
number_most (DayFalls j) = omega arith
number_most BadK = omega arith
number_most BadRange = omega arith
number_most BadLength = omega arith
number_most Scratch = omega arith
number_most NoRoom = omega arith
number_most (BadEntry i) = omega arith
number_most NotInRing = omega arith

place_most : (p : Option Place) → place_line p ≤ place_number p + 2
place_most None = omega arith
place_most (Some (Row j)) = omega arith
place_most (Some (Entry i)) = omega arith

line_most : (r : Refusal) → input_line r ≤ place_of r + 2
unfolding input_line place_of
line_most r = place_most (rule_of r).place

by_list : (t : Table) (q : Query) (lo hi : ℕ) (a : Result Listed Refusal)
    → listing_answer t q lo hi (each most_listed) program_scratch ≡ a
    → size t ≤ most_input
    → Bounded (from_list a (listing t q lo hi))
unfolding from_list stopped_by rings_in number_in line_in
by_list t q lo hi (Ok l) e h =
    record { rings = omega (arith, rings_count t q lo hi (sym e) refl, rings_most t q lo hi (sym e) refl); number = omega arith; line = omega arith }
by_list t q lo hi (Err r) e h =
    stops (number_of r) (input_line r) (number_most r) (omega (arith, line_most r, refused_place t q lo hi (each most_listed) program_scratch e))

rows_most : (text : List ℕ) → size (table_of text) ≤ length text
unfolding table_of days_of
rows_most text = omega (arith, lines_most text, length-map (lines_of text) (λ (l : List ℕ). day_of (row_of l)))

by_rows : (text : List ℕ) (q : Query) (lo hi : ℕ) (r : Result ℕ ReadError)
    → r ≡ table_read_of text most_rows most_rows most_rows
    → length text ≤ most_input
    → Bounded (from_rows r (table_of text) q lo hi)
unfolding from_rows listed
by_rows text q lo hi (Ok n) e h =
    by_list (table_of text) q lo hi (listing_answer (table_of text) q lo hi (each most_listed) program_scratch) refl (omega (arith, rows_most text))
by_rows text q lo hi (Err (ReadError.BadLine n)) e h = stops _ _ (omega arith) (omega (arith, reader_most n, place_lines text most_rows most_rows most_rows e))
by_rows text q lo hi (Err (ReadError.BadField n)) e h = stops _ _ (omega arith) (omega (arith, reader_most n, place_lines text most_rows most_rows most_rows e))
by_rows text q lo hi (Err (ReadError.BadNumber n)) e h = stops _ _ (omega arith) (omega (arith, reader_most n, place_lines text most_rows most_rows most_rows e))
by_rows text q lo hi (Err ReadError.NoRoom) e h = stops _ _ (omega arith) (omega (arith, reader_most 0))

by_query : (q : Result QueryLine LineError) (text : List ℕ) → length text ≤ most_input → Bounded (from_query q text)
unfolding from_query bad_query
by_query (Ok q) text h = by_rows text (record { k = q.k }) q.from q.to (table_read_of text most_rows most_rows most_rows) refl h
by_query (Err line.BadLine) text h = stops _ _ (omega arith) (omega arith)
by_query (Err line.BadField) text h = stops _ _ (omega arith) (omega arith)
by_query (Err line.BadNumber) text h = stops _ _ (omega arith) (omega arith)

by_length : (input : List ℕ) (b : Bool) → ltb most_input (length input) ≡ b → Bounded (unless_long b (from_query (query_of input) (drop query_bytes input)))
unfolding unless_long stopped_by number_of input_line
by_length input true e = stops _ _ (omega arith) (omega arith)
by_length input false e = by_query (query_of input) (drop query_bytes input) (omega (arith, ltb-false most_input (length input) e, length-drop query_bytes input))

pub bounded : (input : List ℕ) → Bounded (outcome input)
unfolding outcome
bounded input = by_length input (ltb most_input (length input)) refl

-- ---- an output that holds every text

text_length : (ls : List ListedRing) → length (list_text ls) ≡ entry_bytes * (length ls + 1)
unfolding list_text
text_length ls = listing_length (map line_of ls) ∙ omega (arith, length-map ls line_of)

fits : (ls : List ListedRing) → Bounded (found ls) → length (list_text ls) ≤ most_output
unfolding rings_in
fits ls b = omega (arith, text_length ls, b.rings)

pub record TextAnswer (o : Outcome) (n : ℕ) (now : List ℕ) : Type 0 where
  pub room : n ≤ length now
  pub is : take n now ≡ outcome_text o

pub record RefusedAnswer (o : Outcome) (n line : ℕ) (old now : List ℕ) : Type 0 where
  pub number : n ≤ 15
  pub place : line ≤ most_input + 2
  pub kept : now ≡ old
  pub is : refused_line n line ≡ outcome_text o

text_by : (o : Outcome)
    → Bounded o
    → (old : List ℕ) {n : ℕ} {now : List ℕ}
    → length old ≡ most_output
    → Ok n ≡ list_answer o (length old)
    → now ≡ list_output (Ok n) o old
    → TextAnswer o n now
unfolding list_answer list_output fitted outcome_text over
text_by (found ls) b old {n} {now} l e w =
    let t : leb (length (list_text ls)) (length old) ≡ true = le-leb (length (list_text ls)) (length old) (omega (arith, fits ls b)) in
    let q : ◌≡◌ {A = Result ℕ Refused} (Ok n) (Ok (length (list_text ls))) = rw t at e in
    let m : n ≡ length (list_text ls) = cc in
    record {
      room = omega (arith, ap length w, length-append (list_text ls) (drop (length (list_text ls)) old));
      is = ap (take n) w ∙ take_at (list_text ls) (drop (length (list_text ls)) old) n (sym m);
    }
text_by (stopped k line) b old l e w = let z : ◌≡◌ {A = ℕ} 0 1 = cc in absurd (omega arith)

refused_by : (o : Outcome)
    → Bounded o
    → (old : List ℕ) {r : Refused} {now : List ℕ}
    → length old ≡ most_output
    → Err r ≡ list_answer o (length old)
    → now ≡ list_output (Err r) o old
    → RefusedAnswer o r.number r.line old now
unfolding list_answer list_output fitted outcome_text number_in line_in
refused_by (found ls) b old {r} l e w =
    let t : leb (length (list_text ls)) (length old) ≡ true = le-leb (length (list_text ls)) (length old) (omega (arith, fits ls b)) in
    let q : ◌≡◌ {A = Result ℕ Refused} (Err r) (Ok (length (list_text ls))) = rw t at e in
    let z : ◌≡◌ {A = ℕ} 0 1 = cc in absurd (omega arith)
refused_by (stopped k at) b old {r} l e w =
    let same : r ≡ refused_as k at = cc in
    let p : r.number ≡ k = ap (λ (x : Refused). x.number) same in
    let q : r.line ≡ at = ap (λ (x : Refused). x.line) same in
    record { number = omega (arith, b.number); place = omega (arith, b.line); kept = w; is = λ i. refused_line (p i) (q i) }

-- by the answer a of the list call
module _ (input old : List ℕ) {a : Result ℕ Refused} {now : List ℕ} (l : length old ≡ most_output)
    (e : a ≡ list_answer (outcome input) (length old)) (w : now ≡ list_output a (outcome input) old) where
  pub text_answer : {n : ℕ} → a ≡ Ok n → TextAnswer (outcome input) n now
  text_answer q = text_by (outcome input) (bounded input) old l (sym q ∙ e) (w ∙ ap (λ (x : Result ℕ Refused). list_output x (outcome input) old) q)

  pub refused_answer : {r : Refused} → a ≡ Err r → RefusedAnswer (outcome input) r.number r.line old now
  refused_answer q = refused_by (outcome input) (bounded input) old l (sym q ∙ e) (w ∙ ap (λ (x : Result ℕ Refused). list_output x (outcome input) old) q)
