-- Laws of printing a listing, over plain lists.
--     Printing, print_start, print_next, print_end    the loop that writes a line an entry
--     put_wrote          what a call that prints leaves, where its bytes fit
--     text_none, text_done    the answer for a listing's text, by the room that there is
--     columns_for ls, entries_are, place_holds    columns that hold the entries ls, and what they hold
--     cut_at, cut_columns    the columns of a listing that its text is made of, cut at their entries
-- Assumes nothing.
use Prim.Native.Nat.{ℕ, zero, suc, ◌+◌, ◌*◌, ◌≤◌, ◌<◌}
use mathlib.Core.Path.{◌≡◌, refl, sym, ap, subst, ◌∙◌}
use mathlib.Core.List.Memᴰ.{head as here}
use mathlib.Core.List.Memᴰ.{tail as there}
use mathlib.Core.List.{List, [], ◌∷◌, ◌++◌, map, append_assoc, append-nil, Memᴰ as Mem}
use native.Mathlib.Nat.{add-zero, zero-add, add-suc, suc-add, not-suc-le-zero, le_of_suc-le-suc}
use native.Mathlib.Numerals.{add-one}
use native.Mathlib.Omega.{arith}
use lib.ListN.{length, get_or, take, drop, take-append-drop, length-append, length-map}
use borrow.Author.Tests.{le-leb, lt-leb}
use Rattle.text.specs.Layout.{entry_bytes}
use Rattle.text.specs.Print.{header, listing_line, entry_lines, listing_text, pasted, put_of, written}
use Rattle.std.specs.Prelude.{Option, Ok, Err}
use Rattle.text.proofs.Tests.{pick_true}
use Rattle.text.proofs.PasteLaws.{pasted_length, pasted_start, pasted_pasted}
use Rattle.text.proofs.PrintLaws.{line_length}
use Rattle.text.proofs.ListingLaws.{listing_length}
use Rattle.rings.specs.Words.{tabulate}
use Rattle.rings.specs.Buffers.{over}
use Rattle.rings.specs.declared.refusal.Refusal.TheVariants.{NoRoom}
use Rattle.rings.proofs.WordLaws.{length_tabulate}
use Rattle.listing.specs.Listing.{ListedRing, span}
use Rattle.listing.specs.ListingCall.{Columns, with_entries}
use Rattle.listing.specs.Program.{found}
use Rattle.listing.specs.ProgramText.{line_of, list_text, outcome_text, refused_of, fitted, list_answer, list_output}
use Rattle.listing.specs.ProgramSteps.{TextColumns, text_columns, entry_at, entries_at, entries_of, ring_lines, Prints}
use Rattle.listing.specs.declared.Refused.{Refused}
use Rattle.listing.proofs.ColumnLaws.{map_at, cells}

-- ---- a line an entry

tabulate_more : {A : Type 0} (f : ℕ → A) (i n : ℕ) → tabulate f i (suc n) ≡ tabulate f i n ++ f (i + n) ∷ []
unfolding tabulate
tabulate_more f i zero = ap (λ (k : ℕ). f k ∷ []) (sym (add-zero i))
tabulate_more f i (suc n) =
    ap (λ (l : List _). f i ∷ l) (tabulate_more f (suc i) n ∙ ap (λ (k : ℕ). tabulate f (suc i) n ++ f k ∷ []) (suc-add i n ∙ sym (add-suc i n)))

abbrev pub line : ListedRing → List ℕ
line x = listing_line x.start x.end (span x) x.rows

lines_more : (ls : List ListedRing) (x : ListedRing) → ring_lines (ls ++ x ∷ []) ≡ ring_lines ls ++ line x
unfolding ring_lines entry_lines line_of
lines_more [] x = append-nil (line x)
lines_more (l ∷ ls) x = ap (λ (t : List ℕ). line l ++ t) (lines_more ls x) ∙ sym (append_assoc (line l) (ring_lines ls) (line x))

lines_length : (ls : List ListedRing) → length (ring_lines ls) ≡ entry_bytes * length ls
unfolding ring_lines entry_lines line_of
lines_length [] = refl
lines_length (x ∷ ls) =
    length-append (listing_line x.start x.end (span x) x.rows) (ring_lines ls)
    ∙ omega (arith, line_length x.start x.end (span x) x.rows, lines_length ls)

module _ (c : TextColumns) where
  entries_length : (n : ℕ) → length (entries_at c n) ≡ n
  unfolding entries_at
  entries_length n = length_tabulate (entry_at c) 0 n

  lines_next : (i : ℕ) → ring_lines (entries_at c (i + 1)) ≡ ring_lines (entries_at c i) ++ line (entry_at c i)
  unfolding entries_at
  lines_next i =
      ap (λ (k : ℕ). ring_lines (tabulate (entry_at c) 0 k)) (add-one i)
      ∙ ap ring_lines (tabulate_more (entry_at c) 0 i ∙ ap (λ (k : ℕ). tabulate (entry_at c) 0 i ++ entry_at c k ∷ []) (zero-add i))
      ∙ lines_more (tabulate (entry_at c) 0 i) (entry_at c i)

-- the first i lines stand behind the header
pub record Printing (c : TextColumns) (old now : List ℕ) (i : ℕ) : Type 0 where
  pub long : length now ≡ length old
  pub is : now ≡ pasted old entry_bytes (ring_lines (entries_at c i))

pub put_wrote : (out : List ℕ) (at : ℕ) (bytes : List ℕ) {r : Option ℕ} {now : List ℕ}
    → at + length bytes ≤ length out
    → r ≡ put_of out at bytes
    → now ≡ written r out at bytes
    → now ≡ pasted out at bytes
unfolding put_of
put_wrote out at bytes {r} h e q =
    q ∙ ap (λ (p : Option ℕ). written p out at bytes) (e ∙ pick_true _ _ _ (le-leb (at + length bytes) (length out) h))

module _ (c : TextColumns) where
  pub print_start : (old : List ℕ) → Printing c old old 0
  unfolding entries_at tabulate ring_lines entry_lines pasted
  print_start old =
      record {
        long = refl;
        is = sym (ap (λ (l : List ℕ). l ++ drop entry_bytes old) (append-nil (take entry_bytes old)) ∙ take-append-drop entry_bytes old);
      }

  pub print_next : {old now now' : List ℕ} {i n : ℕ} {r : Option ℕ} → Printing c old now i → i < n → entry_bytes * (n + 1) ≤ length old
      → r ≡ put_of now (entry_bytes * (i + 1)) (line (entry_at c i)) → now' ≡ written r now (entry_bytes * (i + 1)) (line (entry_at c i))
      → Printing c old now' (i + 1)
  print_next {old} {now} {now'} {i} {n} p h room e q =
      let at : ℕ = entry_bytes * (i + 1) in
      let x = entry_at c i in
      let es = entries_at c i in
      let one : length (line x) ≡ entry_bytes = line_length x.start x.end (span x) x.rows in
      let all : length (ring_lines es) ≡ entry_bytes * i = lines_length es ∙ ap (λ (k : ℕ). entry_bytes * k) (entries_length c i) in
      let fits : at + length (line x) ≤ length now = omega (arith, p.long) in
      let w : now' ≡ pasted now at (line x) = put_wrote now at (line x) fits e q in
      let place : at ≡ entry_bytes + length (ring_lines es) = omega arith in
      record {
        long = ap length w ∙ pasted_length now at (line x) fits ∙ p.long;
        is =
            w
            ∙ ap (λ (b : List ℕ). pasted b at (line x)) p.is
            ∙ ap (λ (k : ℕ). pasted (pasted old entry_bytes (ring_lines es)) k (line x)) place
            ∙ pasted_pasted old entry_bytes (ring_lines es) (line x) (omega arith)
            ∙ ap (pasted old entry_bytes) (sym (lines_next c i));
      }

  pub print_end : {old now : List ℕ} {i n : ℕ} → Printing c old now i → i ≤ n → n ≤ i → now ≡ pasted old entry_bytes (ring_lines (entries_at c n))
  print_end {old} {now} {i} {n} p a b = let e : i ≡ n = omega arith in subst (λ (k : ℕ). now ≡ pasted old entry_bytes (ring_lines (entries_at c k))) e p.is

  -- ---- the text

  text_size : (n : ℕ) → length (list_text (entries_at c n)) ≡ entry_bytes * (n + 1)
  unfolding list_text
  text_size n =
      listing_length (map line_of (entries_at c n))
      ∙ omega (arith, length-map (entries_at c n) line_of, entries_length c n)

  pub text_none : (output : List ℕ) (n : ℕ) {r : Refused}
      → length output < entry_bytes * (n + 1)
      → r ≡ refused_of NoRoom
      → Prints (found (entries_at c n)) (Err r) output output
  unfolding list_answer list_output fitted refused_of
  text_none output n h e = rw e (record { answer = rw (text_size n, lt-leb (entry_bytes * (n + 1)) (length output) h); output = refl })

  pub text_done : (output : List ℕ) (n : ℕ) {r : Option ℕ} {o₁ o₂ : List ℕ} → entry_bytes * (n + 1) ≤ length output
      → r ≡ put_of output 0 header → o₁ ≡ written r output 0 header → o₂ ≡ pasted o₁ entry_bytes (ring_lines (entries_at c n))
      → Prints (found (entries_at c n)) (Ok (entry_bytes * (n + 1))) output o₂
  unfolding list_answer list_output fitted outcome_text over list_text listing_text ring_lines
  text_done output n {r} {o₁} {o₂} h e q w =
      let es = entries_at c n in
      let a : o₁ ≡ pasted output 0 header = put_wrote output 0 header (omega arith) e q in
      let b : o₂ ≡ pasted output 0 (list_text es) =
      w ∙ ap (λ (x : List ℕ). pasted x entry_bytes (ring_lines es)) a ∙ pasted_pasted output 0 header (ring_lines es) (omega arith) in
      record {
        answer = rw (text_size n, le-leb (entry_bytes * (n + 1)) (length output) h);
        output = b ∙ pasted_start output (list_text es) (length (list_text es)) refl;
      }

-- ---- the columns that Listing wrote

tabulate_list : {A : Type 0} (f : ℕ → A) (d : A) (i : ℕ) (ls : List A) → ((j : ℕ) → j < length ls → f (i + j) ≡ get_or ls j d) → tabulate f i (length ls) ≡ ls
unfolding tabulate
tabulate_list f d i [] h = refl
tabulate_list f d i (x ∷ ls) h =
    let a : f i ≡ x = ap f (sym (add-zero i)) ∙ h 0 (omega arith) in
    let b : tabulate f (suc i) (length ls) ≡ ls = tabulate_list f d (suc i) ls (λ j l. ap f (suc-add i j ∙ sym (add-suc i j)) ∙ h (suc j) (omega arith)) in
    λ j. a j ∷ b j

nothing : ListedRing
nothing = record { start = 0; end = 0; rows = 0 }

mem_get_d : (ls : List ListedRing) (d : ListedRing) (j : ℕ) → j < length ls → Mem (get_or ls j d) ls
mem_get_d [] d j h = absurd (not-suc-le-zero h)
mem_get_d (x ∷ ls) d zero h = here refl
mem_get_d (x ∷ ls) d (suc j) h = there (mem_get_d ls d j (le_of_suc-le-suc h))

-- the columns that hold the entries ls and nothing behind them
abbrev pub columns_for : List ListedRing → TextColumns
columns_for ls = text_columns (map (λ x. x.start) ls) (map (λ x. x.end) ls) (map (λ x. x.rows) ls)

module _ (ls : List ListedRing) where
  entry_is : (j : ℕ) → j < length ls → entry_at (columns_for ls) j ≡ get_or ls j nothing
  unfolding entry_at nothing
  entry_is j h = λ i. record {
    start = map_at (λ x. x.start) ls nothing j h i;
    end = map_at (λ x. x.end) ls nothing j h i;
    rows = map_at (λ x. x.rows) ls nothing j h i;
  }

  pub entries_are : entries_of (columns_for ls) ≡ ls
  unfolding entries_at
  entries_are =
      ap (tabulate (entry_at (columns_for ls)) 0) (length-map ls (λ x. x.start))
      ∙ tabulate_list (entry_at (columns_for ls)) nothing 0 ls (λ j h. ap (entry_at (columns_for ls)) (zero-add j) ∙ entry_is j h)

  -- what holds of each entry of the listing holds of each entry of the columns
  pub place_holds : (P : ListedRing → Type 0) → ((x : ListedRing) → Mem x ls → P x) → (j : ℕ) → j < length ls → P (entry_at (columns_for ls) j)
  place_holds P o j h = subst P (sym (entry_is j h)) (o (get_or ls j nothing) (mem_get_d ls nothing j h))

-- the columns, cut at their n entries, whatever numbers stand behind them
abbrev pub cut_at : ℕ → Columns (List ℕ) → TextColumns
cut_at n c = text_columns (take n c.starts) (take n c.ends) (take n c.rows)

pub cut_columns : (f : ListedRing → ℕ) (ls : List ListedRing) (old : Columns (List ℕ)) {c : Columns (List ℕ)} {n : ℕ}
    → c ≡ with_entries f ls old
    → n ≡ length ls
    → cut_at n c ≡ columns_for ls
cut_columns f ls old {c} {n} e m =
    ap (cut_at n) e
    ∙ (ap (λ (k : ℕ). cut_at k (with_entries f ls old)) m
    ∙ (λ i. text_columns (cells (λ x. x.start) ls old.starts i) (cells (λ x. x.end) ls old.ends i) (cells (λ x. x.rows) ls old.rows i)))
