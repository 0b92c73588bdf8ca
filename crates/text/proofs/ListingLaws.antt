-- A listing's text, line by line: what a caller's loop over `put_line` carries.
--
--   line_of           an entry's line
--   listing_more     one entry more is one line more
--   listing_length   22 bytes for the header and for each entry
--   listing_paste    the next line, written behind the text so far, makes the longer text
-- Assumes nothing.
use Prim.Native.Nat.{ℕ, ◌+◌, ◌*◌, ◌≤◌}
use mathlib.Core.Path.{◌≡◌, refl, sym, ap, ◌∙◌}
use mathlib.Core.List.{List, [], ◌∷◌, ◌++◌, append_assoc, append-nil}
use native.Mathlib.Nat.{zero-add}
use native.Mathlib.Omega.{arith}
use lib.ListN.{length, length-append}
use Rattle.text.specs.Layout.{entry_bytes}
use Rattle.text.specs.Print.{Entry, header, listing_line, entry_lines, listing_text, pasted}
use Rattle.text.proofs.PasteLaws.{pasted_pasted}
use Rattle.text.proofs.PrintLaws.{line_length}

abbrev pub line_of : Entry → List ℕ
line_of e = listing_line e.start e.end e.span e.rows

entries_more : (es : List Entry) (e : Entry) → entry_lines (es ++ e ∷ []) ≡ entry_lines es ++ line_of e
unfolding entry_lines
entries_more [] e = append-nil (line_of e)
entries_more (d ∷ es) e = ap (λ (l : List ℕ). line_of d ++ l) (entries_more es e) ∙ sym (append_assoc (line_of d) (entry_lines es) (line_of e))

pub listing_more : (es : List Entry) (e : Entry) → listing_text (es ++ e ∷ []) ≡ listing_text es ++ line_of e
unfolding listing_text
listing_more es e = ap (λ (l : List ℕ). header ++ l) (entries_more es e) ∙ sym (append_assoc header (entry_lines es) (line_of e))

entries_length : (es : List Entry) → length (entry_lines es) ≡ entry_bytes * length es
unfolding entry_lines
entries_length [] = refl
entries_length (e ∷ es) =
    length-append (line_of e) (entry_lines es) ∙ omega (arith, line_length e.start e.end e.span e.rows, entries_length es)

pub listing_length : (es : List Entry) → length (listing_text es) ≡ entry_bytes + entry_bytes * length es
unfolding listing_text
listing_length es = length-append header (entry_lines es) ∙ omega (arith, entries_length es)

pub listing_paste : (out : List ℕ) (es : List Entry) (e : Entry) → length (listing_text es) ≤ length out
    → pasted (pasted out 0 (listing_text es)) (length (listing_text es)) (line_of e) ≡ pasted out 0 (listing_text (es ++ e ∷ []))
listing_paste out es e h =
    let z : 0 + length (listing_text es) ≡ length (listing_text es) = zero-add (length (listing_text es)) in
    ap (λ (k : ℕ). pasted (pasted out 0 (listing_text es)) k (line_of e)) (sym z)
    ∙ pasted_pasted out 0 (listing_text es) (line_of e) (omega arith) ∙ ap (pasted out 0) (sym (listing_more es e))
