-- What a line holds, and what the line reader finds, over plain lists.
--
--   part_of          a part of the first bytes is a part of the text
--   step_none        what the first line holds: there is none
--   step_first       the first line alone counts
--   step_short       it is not whole
--   step_whole       it is whole: its fields are the text's
--   step_past        past the text there is no line
--   whole_fits       a whole first line lies within the text
--   first_rules      these of the first line, as a set of lemmas
--   part_field       a field, as the part of the slice that the code takes
--   step_within      the line at a place within the text
--   next_start       where line n + 1 starts
--   lines_from       where line n is reached, the lines from there on
--   step_from_lem        what the reader finds there
--   found_line       the same past the last line too
--   reached_first    line 0 is reached
--   reached_next     from a line that is reached a step goes to one that is
--   passed_fits      a row has the bytes of a line
--   step_fits        so a step stays within the numbers
--   step_found       what it finds
--   step_line        the line reached then
--   is_end           1 at the text's end, 0 at what a line holds
--   never_end        no line of a text is its end
-- Assumes nothing.
use Prim.Native.Nat.{ℕ, zero, suc, ◌+◌, ◌-◌, ◌*◌, ◌/◌, ◌≤◌, ◌<◌}
use mathlib.Core.Path.{◌≡◌, refl, sym, ap, ◌∙◌}
use mathlib.Core.Bool.{Bool, true, false, cond}
use mathlib.Core.Logic.{⊎_elim}
use mathlib.Core.List.{List, [], ◌∷◌}
use native.Mathlib.Nat.{le_refl, not-suc-le-zero, zero-add}
use native.Mathlib.Numerals.{add-one}
use native.Mathlib.Omega.{arith}
use lib.ListN.{length, get_or, take, drop, length-drop}
use lib.Seq.{take-take, drop-drop, drop-cons, drop-length}
use Rattle.text.specs.Layout.{bytes_of, table_layout, line_bytes}
use Rattle.std.specs.Prelude.{Some, None, Ok, Err}
use Rattle.text.specs.Decimal.{Field, field_of, field_value}
use Rattle.text.specs.Line.{lines_of, first_line, is_whole, any_refuses, judged, field_at, line_as, step_as, step_at, passed, step_from}
use Rattle.text.specs.Line.{Line, Numbers, line_at, Reached, line_number, row_from, row_of}
use Rattle.text.specs.declared.layout.Format.{Format}
use Rattle.text.specs.declared.layout.Layout.{Layout}
use Rattle.text.specs.declared.lines.LineError.TheVariants.{BadLine, BadField, BadNumber}
use Rattle.text.specs.declared.lines.Step.{Step}
use Rattle.text.proofs.FieldLaws.{tail, tail_is}
use Rattle.text.proofs.Tests.{true_or_false, lt_or_le, pick_true, pick_false}
use Rattle.text.proofs.SplitLaws.{first_length, lines_first, whole_size, whole_first}

-- ---- fields of the first line

pub part_of : (a b n : ℕ) (s : List ℕ) → a + b ≤ n → take b (drop a (take n s)) ≡ take b (drop a s)
part_of zero b n s h = take-take b n s (rw (← zero-add b) (omega arith))
part_of (suc a) b zero s h = let z : ⊥ = omega arith in absurd z
part_of (suc a) b (suc n) [] h = refl
part_of (suc a) b (suc n) (x ∷ s) h = part_of a b n s (omega arith)

-- ---- what the first line holds

pub step_none : (y : Layout) (s : List ℕ) → length s ≡ 0 → step_as y (lines_of s) ≡ Ok None
unfolding step_as lines_of
step_none y [] e = refl
step_none y (x ∷ s) e = let z : ⊥ = omega arith in absurd z

pub step_first : (y : Layout) (s : List ℕ) → 0 < length s → step_as y (lines_of s) ≡ line_as y (first_line s)
unfolding step_as
step_first y s h = ap (step_as y) (lines_first s h)

pub step_short : (y : Layout) (s : List ℕ) → 0 < length s → is_whole (bytes_of y) (first_line s) ≡ false → step_as y (lines_of s) ≡ Err BadLine
unfolding line_as
step_short y s h e = step_first y s h ∙ pick_false _ _ _ e

-- a field within the first n bytes
field_part : (f : Format) (from n : ℕ) (s : List ℕ) → from + f.width ≤ n → field_at f from (take n s) ≡ field_at f from s
unfolding field_at
field_part f from n s h = ap (field_of f.limit) (part_of from f.width n s h)

pub step_whole : (y : Layout) (s : List ℕ) → 0 < length s → is_whole (bytes_of y) (first_line s) ≡ true
    → let a = y.first.width in
    let b = y.second.width in
    step_as y (lines_of s) ≡ judged (field_at y.first 0 s) (field_at y.second a s) (field_at y.third (a + b) s)
unfolding line_as
step_whole y s h e =
    let a = y.first.width in
    let b = y.second.width in
    let part₁ = field_part y.first 0 (bytes_of y) s (omega arith) in
    let part₂ = field_part y.second a (bytes_of y) s (omega arith) in
    let part₃ = field_part y.third (a + b) (bytes_of y) s (omega arith) in
    step_first y s h ∙ pick_true _ _ _ e ∙ rw (whole_first s (bytes_of y) e, part₁, part₂, part₃)

pub step_past : (text : List ℕ) (n : ℕ) → length text / line_bytes < n → step_at text n ≡ Ok None
unfolding step_at
step_past text n h =
    ap row_from (step_none table_layout (drop (line_bytes * n) text) (length-drop (line_bytes * n) text ∙ omega arith))

pub whole_fits : (s : List ℕ) (n : ℕ) → is_whole n (first_line s) ≡ true → n ≤ length s
whole_fits s n e = omega (arith, first_length s, whole_size n (first_line s) e)

-- what reading the first line rests on
pub ruleset first_rules = (step_none, step_short, step_whole, whole_fits)

-- a field, as the part of the slice that the code takes
pub part_field : (f : Format) (s : List ℕ) (from : ℕ) {x : Field}
    → x ≡ field_of f.limit (take (from + f.width - from) (drop from s)) → x ≡ field_at f from s
unfolding field_at
part_field f s from q = let w : from + f.width - from ≡ f.width = omega arith in q ∙ rw w

pub step_within : (text : List ℕ) (n : ℕ) {r : Line}
    → r ≡ row_from (step_as table_layout (lines_of (tail text (line_bytes * n)))) → r ≡ step_at text n
unfolding step_at
step_within text n e = e ∙ ap (λ (s : List ℕ). row_from (step_as table_layout (lines_of s))) (tail_is text (line_bytes * n))

-- ---- the line reader's place

-- line n + 1 starts a line's bytes behind line n
pub next_start : (text : List ℕ) (n : ℕ) → drop line_bytes (drop (line_bytes * n) text) ≡ drop (line_bytes * (n + 1)) text
next_start text n =
    let e : line_bytes * n + line_bytes ≡ line_bytes * (n + 1) = omega arith in
    drop-drop line_bytes (line_bytes * n) text ∙ ap (λ (k : ℕ). drop k text) e

some_bytes : (s : List ℕ) → 0 < length (lines_of s) → 0 < length s
unfolding lines_of
some_bytes [] h = h
some_bytes (x ∷ xs) h = omega arith

-- one line on, where s starts line n of the lines ls
next_lines : (s : List ℕ) (ls : List (List ℕ)) (n : ℕ) {t : List ℕ} → lines_of s ≡ drop n ls → n < length ls
    → is_whole line_bytes (get_or ls n []) ≡ true → drop line_bytes s ≡ t → lines_of t ≡ drop (suc n) ls
unfolding first_line
next_lines s ls n e h w q =
    let d : drop n ls ≡ get_or ls n [] ∷ drop (suc n) ls = drop-cons ls n [] h in
    let f : first_line s ≡ get_or ls n [] = ap (λ (x : List (List ℕ)). get_or x 0 []) (e ∙ d) in
    let z : length (first_line s) ≡ line_bytes = ap length f ∙ whole_size line_bytes (get_or ls n []) w in
    let p : 0 < length s = some_bytes s (omega (arith, ap length (e ∙ d))) in
    ap lines_of (sym q) ∙ ap (λ (k : ℕ). lines_of (drop k s)) (sym z) ∙ ap (drop 1) (sym (lines_first s p) ∙ e ∙ d)

-- where each line before line n is 18 bytes, the lines from line n on are those of the text from byte 18 n on
pub lines_from : (text : List ℕ) (n : ℕ) → n ≤ length (lines_of text) → Reached text n
    → lines_of (drop (line_bytes * n) text) ≡ drop n (lines_of text)
lines_from text zero h w = refl
lines_from text (suc n) h w = go (lines_from text n (omega arith) (record { each = λ i l k. w.each i (omega arith) k }))
  where
    go : lines_of (drop (line_bytes * n) text) ≡ drop n (lines_of text) → lines_of (drop (line_bytes * suc n) text) ≡ drop (suc n) (lines_of text)
    go e =
        let next = next_start text n ∙ ap (λ (k : ℕ). drop (line_bytes * k) text) (add-one n) in
        next_lines (drop (line_bytes * n) text) (lines_of text) n e h (w.each n (omega arith) h) next

-- what the line reader finds there is what line n holds
pub step_from_lem : (text : List ℕ) (n : ℕ) → n ≤ length (lines_of text) → Reached text n
    → step_at text n ≡ row_from (step_as table_layout (drop n (lines_of text)))
unfolding step_at
step_from_lem text n h w = ap (λ (ls : List (List ℕ)). row_from (step_as table_layout ls)) (lines_from text n h w)

-- ---- a step of the line reader

no_lines : (s : List ℕ) → lines_of s ≡ [] → length s ≡ 0
no_lines [] e = refl
no_lines (x ∷ xs) e = let z : ⊥ = omega (arith, ap length (sym (lines_first (x ∷ xs) (omega arith)) ∙ e)) in absurd z

none_left : (ls : List (List ℕ)) → length ls ≡ 0 → step_as table_layout ls ≡ Ok None
unfolding step_as
none_left [] e = refl
none_left (l ∷ ls) e = let z : ⊥ = omega arith in absurd z

-- behind the last line the text is at its end too
past_line : (text : List ℕ) (n : ℕ) → length (lines_of text) < n → Reached text n → step_at text n ≡ line_at text n
unfolding step_at line_at
past_line text n past h =
    let m : ℕ = length (lines_of text) in
    let reached : Reached text m = record { each = λ i l k. h.each i (omega arith) k } in
    let rest : lines_of (drop (line_bytes * m) text) ≡ [] = lines_from text m (le_refl m) reached ∙ drop-length (lines_of text) in
    let size : length (drop (line_bytes * m) text) ≡ 0 = no_lines (drop (line_bytes * m) text) rest in
    let here = step_none table_layout (drop (line_bytes * n) text)
    (omega (arith, length-drop (line_bytes * n) text, length-drop (line_bytes * m) text)) in
    let there = none_left (drop n (lines_of text)) (omega (arith, length-drop n (lines_of text))) in
    ap row_from (here ∙ sym there)

pub found_line : (text : List ℕ) (n : ℕ) → Reached text n → step_at text n ≡ line_at text n
unfolding line_at
found_line text n h =
    ⊎_elim (λ past. past_line text n past h) (λ (l : n ≤ length (lines_of text)). step_from_lem text n l h)
    (lt_or_le (length (lines_of text)) n)

passed_most : (l : Line) → passed l ≤ 1
passed_most (Ok (Some row)) = omega arith
passed_most (Ok None) = omega arith
passed_most (Err e) = omega arith

passed_whole : (l : List ℕ) → 0 < passed (row_of l) → is_whole line_bytes l ≡ true
unfolding row_of line_as
passed_whole l h =
    ⊎_elim (λ t. t) (λ t. absurd (none (pick_false _ _ _ t))) (true_or_false (is_whole line_bytes l))
  where
    none : line_as table_layout l ≡ Err BadLine → ⊥
    none e = omega (arith, ap (λ (n : Numbers). passed (row_from n)) e)

pub reached_first : (text : List ℕ) → Reached text 0
reached_first text = record { each = λ i h. absurd (not-suc-le-zero h) }

pub reached_next : (text : List ℕ) (n : ℕ) → Reached text n → Reached text (n + passed (step_at text n))
unfolding line_at step_as row_of
reached_next text n h = record {
  each = λ i l k. ⊎_elim (λ before. h.each i before k) (λ (here : n ≤ i). at_line i here l k) (lt_or_le i n);
}
  where
    at_line : (i : ℕ) → n ≤ i → i < n + passed (step_at text n) → i < length (lines_of text)
        → is_whole line_bytes (get_or (lines_of text) i []) ≡ true
    at_line i here l k =
        let same : n ≡ i = omega (arith, passed_most (step_at text n)) in
        let is : step_at text n ≡ row_of (get_or (lines_of text) n []) =
        found_line text n h ∙ ap (λ (ls : List (List ℕ)). row_from (step_as table_layout ls)) (drop-cons (lines_of text) n [] (omega arith)) in
        ap (λ (j : ℕ). is_whole line_bytes (get_or (lines_of text) j [])) (sym same)
        ∙ passed_whole (get_or (lines_of text) n []) (omega (arith, ap passed is))

pub passed_fits : (s : List ℕ) → line_bytes * passed (row_from (step_as table_layout (lines_of s))) ≤ length s
passed_fits [] = omega (arith, ap (λ (n : Numbers). passed (row_from n)) (step_none table_layout [] refl))
passed_fits (x ∷ xs) =
    ⊎_elim (λ t. omega (arith, whole_fits (x ∷ xs) line_bytes t, passed_most (row_from (step_as table_layout (lines_of (x ∷ xs))))))
    (λ t. omega (arith, ap (λ (n : Numbers). passed (row_from n)) (step_short table_layout (x ∷ xs) (omega arith) t))) (true_or_false (is_whole line_bytes (first_line (x ∷ xs))))

pub step_fits : (text : List ℕ) (n m : ℕ) → n < m → length text < m → n + passed (step_at text n) < m
unfolding step_at
step_fits text n m h l = omega (arith, passed_fits (drop (line_bytes * n) text), length-drop (line_bytes * n) text)

module _ (text : List ℕ) (n : ℕ) {s : Step} (is : s ≡ step_from text n) where
  pub step_found : s.found ≡ step_at text n
  unfolding step_from
  step_found = ap (λ (x : Step). x.found) is

  pub step_line : s.line ≡ n + passed s.found
  unfolding step_from
  step_line = ap (λ (x : Step). x.line) is ∙ ap (λ (l : Line). n + passed l) (sym step_found)

-- ---- no line is the text's end

-- 1 at the end, 0 at what a line holds
abbrev pub is_end : Line → ℕ
is_end (Ok (Some row)) = 0
is_end (Ok None) = 1
is_end (Err e) = 0

Holds : Numbers → Type 0
Holds n = is_end (row_from n) ≡ 0

judged_is : (broken large : Bool) (n : ℕ × ℕ × ℕ) → Holds (cond broken (Err BadField) (cond large (Err BadNumber) (Ok (Some n))))
unfolding Holds
judged_is true large n = refl
judged_is false true n = refl
judged_is false false n = refl

line_is : (whole : Bool) (n : Numbers) → Holds n → Holds (cond whole n (Err BadLine))
unfolding Holds
line_is true n e = e
line_is false n e = refl

fields_are : (x y z : Field) → Holds (judged x y z)
unfolding judged
fields_are x y z =
    let broken = any_refuses (line_number (Err BadField)) x y z in
    let large = any_refuses (line_number (Err BadNumber)) x y z in
    judged_is broken large (field_value x, field_value y, field_value z)

pub never_end : (l : List ℕ) → is_end (row_of l) ≡ 0
unfolding row_of line_as Holds
never_end l = line_is (is_whole line_bytes l) _ (fields_are _ _ _)
