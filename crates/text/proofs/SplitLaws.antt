-- How a text is split into lines, over plain lists.
--
--   lines_end      the lines of a text that starts with byte 10
--   lines_more     of one that starts with another byte
--   first_end      the first line of a text that starts with byte 10
--   first_more     of one that starts with another byte
--   first_length   the first line is no longer than the text
--   first_ends     nor does it reach past a byte 10
--   first_part     it is the text's first bytes
--   first_take     up to the first byte 10
--   prepend_cons   a byte put in front of some lines
--   lines_first    a text is its first line and the lines behind it
--   short_line     the test for a whole line, by the code's cases: too few bytes
--   early_end      a byte 10 before the end
--   unended_line   no byte 10 at the end
--   whole_line     byte 10 at the end alone
--   line_ends      the byte at the end decides
--   ended_early    the same by a search for byte 10 before the end: it is there
--   ended_late     it is not
--   whole_rules    these, as a set of lemmas
--   whole_size     a whole line has its size
--   whole_first    a whole first line is the text's first bytes
-- Assumes nothing.
use Prim.Native.Nat.{ℕ, zero, suc, ◌-◌, ◌≤◌, ◌<◌, suc-le-suc}
use mathlib.Core.Path.{◌≡◌, refl, sym, ap, ◌∙◌}
use mathlib.Core.Bool.{Bool, true, false, cond, ◌&&◌, true≢false}
use mathlib.Core.Logic.{⊎_elim}
use mathlib.Core.List.{List, [], ◌∷◌}
use native.Mathlib.Nat.{le_refl, le_of_suc-le-suc, not-suc-le-zero}
use native.Mathlib.Omega.{arith}
use lib.Dec.{eqb}
use Rattle.std.specs.List.{list_any}
use Rattle.std.proofs.lemmas.List.Folds.{Any-from_list_any, list_any_at}
use Rattle.std.proofs.lemmas.List.{get_or_default}
use lib.ListN.{length, get_or, take, drop}
use lib.Seq.{length-take-le, get_or-take}
use borrow.Author.Tests.{eq-eqb, ne_eqb, eqb-true}
use Rattle.text.specs.Line.{prepend, lines_of, first_line, is_whole}
use Rattle.text.proofs.Tests.{same_or_not, and_left, both_true, pick_true, pick_false}

-- ---- the first line

lines_cons : (b : ℕ) (bs : List ℕ) → lines_of (b ∷ bs) ≡ cond (eqb b 10) ((b ∷ []) ∷ lines_of bs) (prepend b (lines_of bs))
unfolding lines_of
lines_cons b bs = refl

pub lines_end : (b : ℕ) (bs : List ℕ) → b ≡ 10 → lines_of (b ∷ bs) ≡ (b ∷ []) ∷ lines_of bs
lines_end b bs e = lines_cons b bs ∙ pick_true _ _ _ (eq-eqb b 10 e)

pub lines_more : (b : ℕ) (bs : List ℕ) → (b ≡ 10 → ⊥) → lines_of (b ∷ bs) ≡ prepend b (lines_of bs)
lines_more b bs e = lines_cons b bs ∙ pick_false _ _ _ (ne_eqb b 10 e)

pub first_end : (b : ℕ) (bs : List ℕ) → b ≡ 10 → first_line (b ∷ bs) ≡ b ∷ []
unfolding first_line
first_end b bs e = rw (lines_end b bs e)

prepend_first : (b : ℕ) (ls : List (List ℕ)) → get_or (prepend b ls) 0 [] ≡ b ∷ get_or ls 0 []
unfolding prepend
prepend_first b [] = refl
prepend_first b (l ∷ ls) = refl

pub first_more : (b : ℕ) (bs : List ℕ) → (b ≡ 10 → ⊥) → first_line (b ∷ bs) ≡ b ∷ first_line bs
unfolding first_line
first_more b bs e = rw (lines_more b bs e) (prepend_first b (lines_of bs))

pub first_length : (s : List ℕ) → length (first_line s) ≤ length s
unfolding first_line lines_of
first_length [] = le_refl 0
first_length (b ∷ bs) =
    ⊎_elim (λ e. rw (first_end b bs e) (omega arith))
    (λ e. rw (first_more b bs e) (suc-le-suc (first_length bs))) (same_or_not b 10)

pub first_ends : (s : List ℕ) (i : ℕ) → i < length s → get_or s i 0 ≡ 10 → length (first_line s) ≤ suc i
first_ends [] i h e = absurd (not-suc-le-zero h)
first_ends (b ∷ bs) zero h e = rw (first_end b bs e) (le_refl 1)
first_ends (b ∷ bs) (suc i) h e =
    ⊎_elim (λ t. rw (first_end b bs t) (omega arith))
    (λ t. rw (first_more b bs t) (suc-le-suc (first_ends bs i (le_of_suc-le-suc h) e))) (same_or_not b 10)

-- the first line is the text's first bytes
pub first_part : (s : List ℕ) → first_line s ≡ take (length (first_line s)) s
unfolding first_line lines_of
first_part [] = refl
first_part (b ∷ bs) =
    ⊎_elim (λ e. rw (first_end b bs e)) (λ e. rw (first_more b bs e) (ap (λ (l : List ℕ). b ∷ l) (first_part bs))) (same_or_not b 10)

pub first_take : (s : List ℕ) (k : ℕ) → k < length s → ((i : ℕ) → i < k → get_or s i 0 ≡ 10 → ⊥) → get_or s k 0 ≡ 10
    → first_line s ≡ take (suc k) s
first_take [] k h n e = absurd (not-suc-le-zero h)
first_take (b ∷ bs) zero h n e = first_end b bs e
first_take (b ∷ bs) (suc k) h n e =
    first_more b bs (n 0 (omega arith))
    ∙ ap (λ (l : List ℕ). b ∷ l) (first_take bs k (le_of_suc-le-suc h) (λ i l. n (suc i) (suc-le-suc l)) e)

pub prepend_cons : (b : ℕ) (l : List ℕ) (ls : List (List ℕ)) → prepend b (l ∷ ls) ≡ (b ∷ l) ∷ ls
unfolding prepend
prepend_cons b l ls = refl

lines_one : (b : ℕ) → lines_of (b ∷ []) ≡ (b ∷ []) ∷ []
unfolding lines_of prepend
lines_one b = ⊎_elim (λ e. lines_end b [] e) (λ e. lines_more b [] e) (same_or_not b 10)

-- a text is its first line and the lines behind it
abbrev Split : List ℕ → Type 0
Split s = lines_of s ≡ first_line s ∷ lines_of (drop (length (first_line s)) s)

pub lines_first : (s : List ℕ) → 0 < length s → lines_of s ≡ first_line s ∷ lines_of (drop (length (first_line s)) s)
unfolding first_line lines_of
lines_first [] h = absurd (not-suc-le-zero h)
lines_first (b ∷ []) h = rw (lines_one b)
lines_first (b ∷ d ∷ bs) h = go (lines_first (d ∷ bs) (omega arith))
  where
    go : Split (d ∷ bs) → Split (b ∷ d ∷ bs)
    go ih =
        ⊎_elim (λ e. rw (first_end b (d ∷ bs) e) (lines_end b (d ∷ bs) e))
        (λ e. rw (first_more b (d ∷ bs) e) (lines_more b (d ∷ bs) e ∙ ap (prepend b) ih ∙ prepend_cons b _ _)) (same_or_not b 10)

-- ---- the test for a whole line

whole_no_size : (n : ℕ) (l : List ℕ) → (length l ≡ n → ⊥) → is_whole n l ≡ false
unfolding is_whole
whole_no_size n l h = rw (ne_eqb (length l) n h)

pub short_line : (s : List ℕ) (n : ℕ) → length s < n → is_whole n (first_line s) ≡ false
short_line s n h = whole_no_size n (first_line s) (λ e. omega (arith, first_length s))

pub early_end : (s : List ℕ) (n i : ℕ) → i < n - 1 → n ≤ length s → get_or s i 0 ≡ 10 → is_whole n (first_line s) ≡ false
early_end s n i h l e = whole_no_size n (first_line s) (λ q. omega (arith, first_ends s i (omega arith) e))

and_not : (a b : Bool) → (a ≡ true → b ≡ false) → (a && b) ≡ false
and_not true b h = h refl
and_not false b h = refl

pub unended_line : (s : List ℕ) (n : ℕ) → 0 < n → n ≤ length s → (get_or s (n - 1) 0 ≡ 10 → ⊥) → is_whole n (first_line s) ≡ false
unfolding is_whole
unended_line s n p l h =
    and_not (eqb (length (first_line s)) n) (eqb (get_or (first_line s) (n - 1) 0) 10)
    (λ t. ne_eqb _ _ (λ e. h (sym (same (eqb-true _ _ t)) ∙ e)))
  where
    same : length (first_line s) ≡ n → get_or (first_line s) (n - 1) 0 ≡ get_or s (n - 1) 0
    same q = ap (λ (x : List ℕ). get_or x (n - 1) 0) (first_part s ∙ ap (λ (k : ℕ). take k s) q) ∙ get_or-take n s (n - 1) 0 (omega arith)

pub whole_line : (s : List ℕ) (n : ℕ) → 0 < n → n ≤ length s → ((i : ℕ) → i < n - 1 → get_or s i 0 ≡ 10 → ⊥) → get_or s (n - 1) 0 ≡ 10
    → is_whole n (first_line s) ≡ true
unfolding is_whole
whole_line s n p l h e =
    let k : suc (n - 1) ≡ n = omega arith in
    let f : first_line s ≡ take n s = first_take s (n - 1) (omega arith) h e ∙ ap (λ (m : ℕ). take m s) k in
    let size : length (first_line s) ≡ n = ap length f ∙ length-take-le n s l in
    let end : get_or (first_line s) (n - 1) 0 ≡ 10 = ap (λ (x : List ℕ). get_or x (n - 1) 0) f ∙ get_or-take n s (n - 1) 0 (omega arith) ∙ e in
    both_true _ _ (eq-eqb _ _ size) (eq-eqb _ _ end)

-- the byte at the end decides
pub line_ends : (s : List ℕ) (n i : ℕ) → 0 < n → n ≤ length s → n - 1 ≤ i → ((k : ℕ) → k < i → get_or s k 0 ≡ 10 → ⊥)
    → is_whole n (first_line s) ≡ eqb (get_or s (n - 1) 0) 10
line_ends s n i p l m h =
    ⊎_elim (λ e. whole_line s n p l (λ k q. h k (omega arith)) e ∙ sym (eq-eqb _ _ e))
    (λ e. unended_line s n p l e ∙ sym (ne_eqb _ _ e)) (same_or_not (get_or s (n - 1) 0) 10)

module _ (s : List ℕ) (n : ℕ) (p : 0 < n) (l : n ≤ length s) where
  -- byte 10 stands before the end
  abbrev early : Bool
  early = list_any (λ (b : ℕ). eqb b 10) (take (n - 1) s)

  size : length (take (n - 1) s) ≡ n - 1
  size = length-take-le (n - 1) s (omega arith)

  pub ended_early : list_any (λ (b : ℕ). eqb b 10) (take (n - 1) s) ≡ true → is_whole n (first_line s) ≡ false
  ended_early t =
      let at = Any-from_list_any _ _ t in
      let k : at.0 < n - 1 = omega (arith, at.2, size) in
      early_end s n at.0 k l (sym (get_or-take (n - 1) s at.0 0 k) ∙ get_or_default _ _ 0 at.1 at.2 ∙ at.3 ∙ eqb-true _ _ at.4)

  pub ended_late : list_any (λ (b : ℕ). eqb b 10) (take (n - 1) s) ≡ false → is_whole n (first_line s) ≡ eqb (get_or s (n - 1) 0) 10
  ended_late t = line_ends s n (n - 1) p l (le_refl _) none
    where
      none : (k : ℕ) → k < n - 1 → get_or s k 0 ≡ 10 → ⊥
      none k h e =
          let found = list_any_at (λ (b : ℕ). eqb b 10) (take (n - 1) s) k 0 (omega (arith, size))
          (eq-eqb _ _ (get_or-take (n - 1) s k 0 h ∙ e)) in
          true≢false (sym found ∙ t)

-- what the test for a whole line rests on
pub ruleset whole_rules = (short_line, ended_early, ended_late)

pub whole_size : (n : ℕ) (l : List ℕ) → is_whole n l ≡ true → length l ≡ n
unfolding is_whole
whole_size n l e = eqb-true _ _ (and_left (eqb (length l) n) (eqb (get_or l (n - 1) 0) 10) e)

pub whole_first : (s : List ℕ) (n : ℕ) → is_whole n (first_line s) ≡ true → first_line s ≡ take n s
whole_first s n e = first_part s ∙ ap (λ (k : ℕ). take k s) (whole_size n (first_line s) e)
