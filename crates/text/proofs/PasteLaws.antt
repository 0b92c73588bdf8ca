-- A list written over another from a position on, element by element and piece by piece.
--
--   Pasting         through a loop that writes one element a turn: its invariant
--   pasting_none    at its start
--   pasting_more    after a turn
--   pasting_on      the same where the next number is told
--   pasting_all     at its end
--   pasted_length   the buffer keeps its length
--   pasted_start    written from the start
--   part_pasted     written into a part of it
--   pasted_pasted   two pieces, one behind the other, are their join
--   Pieces          through calls that write one piece behind the other: what stands so far
--   piece_first     the first piece
--   piece_more      one more
-- Assumes nothing.
use Prim.Native.Nat.{ℕ, ◌+◌, ◌-◌, ◌≤◌, ◌<◌}
use mathlib.Core.Path.{◌≡◌, refl, sym, ap, subst, ◌∙◌}
use mathlib.Core.List.{List, ◌++◌, append_assoc}
use native.Mathlib.Nat.{zero-add, add_assoc}
use native.Mathlib.Numerals.{add-one}
use native.Mathlib.Omega.{arith}
use lib.ListN.{length, get_or, take, drop, set, length-set, length-append}
use lib.Seq.{paste, paste-zero, paste-suc, length-paste, take-length, length-take-le, take_at, drop_at, drop-drop}
use borrow.Rule.Slice.PartMut.{put_mid}
use Rattle.std.proofs.lemmas.Slice.{put_mid-paste}
use Rattle.text.specs.Print.{pasted, WrittenAt}

-- ---- one element a turn

-- d with s, of c elements, written from `at` on, of which the first j stand
pub record Pasting (s d now : List ℕ) (at c j : ℕ) : Type 0 where
  pub size : length s ≡ c
  pub within : j ≤ c
  pub room : at + c ≤ length d
  pub long : length now ≡ length d
  pub is : now ≡ paste d at s j

pub pasting_none : (s d : List ℕ) (at c : ℕ) → length s ≡ c → at + c ≤ length d → Pasting s d d at c 0
pasting_none s d at c e h = record { size = e; within = omega arith; room = h; long = refl; is = paste-zero d at s }

-- x is stored at the next place k
pub pasting_more : {s d now : List ℕ} {at c j : ℕ} (k x : ℕ) → Pasting s d now at c j → j < c → k ≡ at + j → x ≡ get_or s j 0
    → Pasting s d (set now k x) at c (j + 1)
pasting_more {s} {d} {now} {at} {c} {j} k x p h e q =
    record {
      size = p.size;
      within = omega arith;
      room = p.room;
      long = length-set now k x ∙ p.long;
      is = rw (p.is, e, q, add-one) (paste-suc d at s j 0 (omega arith) (omega arith));
    }

-- the same where the loop goes on at a number that is told to be the next
pub pasting_on : {s d now : List ℕ} {at c j i : ℕ} (k x : ℕ) → i ≡ j + 1 → Pasting s d now at c j → j < c → k ≡ at + j → x ≡ get_or s j 0
    → Pasting s d (set now k x) at c i
pasting_on {s} {d} {now} {at} {c} k x on p h e q = subst (Pasting s d (set now k x) at c) (sym on) (pasting_more k x p h e q)

pub pasting_all : {s d now : List ℕ} {at c j : ℕ} → Pasting s d now at c j → c ≤ j → now ≡ pasted d at s
unfolding pasted
pasting_all {s} {d} {now} {at} {c} {j} p h =
    let e : j ≡ length s = omega arith in
    p.is ∙ rw (e, take-length s)

-- ---- the whole

pub pasted_length : (d : List ℕ) (at : ℕ) (s : List ℕ) → at + length s ≤ length d → length (pasted d at s) ≡ length d
unfolding pasted
pasted_length d at s h =
    ap (λ (t : List ℕ). length (take at d ++ t ++ drop (at + length s) d)) (sym (take-length s))
    ∙ length-paste d at s (length s) h (omega arith)

pub pasted_start : (d s : List ℕ) (n : ℕ) → length s ≡ n → pasted d 0 s ≡ s ++ drop n d
unfolding pasted
pasted_start d s n e = rw (e, zero-add n)

-- what a part holds that was lent and written, in the whole
pub part_pasted : (out part bytes : List ℕ) (at next : ℕ) → part ≡ bytes → next ≡ at + length bytes
    → put_mid at (next - at) out part ≡ pasted out at bytes
unfolding pasted
part_pasted out part bytes at next e q =
    put_mid-paste at (next - at) out part bytes (length bytes) e (omega arith) refl
    ∙ ap (λ (t : List ℕ). take at out ++ t ++ drop (at + length bytes) out) (take-length bytes)

-- two pieces, one behind the other, are their join
pub pasted_pasted : (d : List ℕ) (at : ℕ) (s t : List ℕ) → at + length s ≤ length d
    → pasted (pasted d at s) (at + length s) t ≡ pasted d at (s ++ t)
unfolding pasted
pasted_pasted d at s t h =
    let front : List ℕ = take at d ++ s in
    let rest : List ℕ = drop (at + length s) d in
    let n : length front ≡ at + length s = length-append (take at d) s ∙ ap (λ (k : ℕ). k + length s) (length-take-le at d (omega arith)) in
    let both : at + length s + length t ≡ at + length (s ++ t) =
    add_assoc at (length s) (length t) ∙ ap (λ (k : ℕ). at + k) (sym (length-append s t)) in
    let a : take (at + length s) (front ++ rest) ≡ front = take_at front rest (at + length s) n in
    let b : drop (at + length s + length t) (front ++ rest) ≡ drop (at + length (s ++ t)) d =
    sym (drop-drop (length t) (at + length s) (front ++ rest)) ∙ ap (drop (length t)) (drop_at front rest (at + length s) n)
    ∙ drop-drop (length t) (at + length s) d ∙ ap (λ (k : ℕ). drop k d) both in
    rw (a, b) (ap (λ (l : List ℕ). l ++ drop (at + length (s ++ t)) d) (append_assoc (take at d) s t))

-- ---- piece by piece

-- d with s written from `at` on; the next piece stands at `next`
pub record Pieces (s d now : List ℕ) (at next : ℕ) : Type 0 where
  pub stop : next ≡ at + length s
  pub room : next ≤ length d
  pub long : length now ≡ length d
  pub is : now ≡ pasted d at s

pub piece_first : {d now : List ℕ} {at next : ℕ} (s : List ℕ) (size : ℕ) → length s ≡ size → at + size ≤ length d
    → WrittenAt d at size s next now → Pieces s d now at next
piece_first {d} {now} {at} {next} s size e h w =
    let r : at + length s ≤ length d = omega arith in
    record {
      stop = omega (arith, w.behind);
      room = omega (arith, w.behind);
      long = ap length w.holds ∙ pasted_length d at s r;
      is = w.holds;
    }

pub piece_more : {s d now now' : List ℕ} {at next next' : ℕ} (t : List ℕ) (size : ℕ) → Pieces s d now at next → length t ≡ size
    → next + size ≤ length d → WrittenAt now next size t next' now' → Pieces (s ++ t) d now' at next'
piece_more {s} {d} {now} {now'} {at} {next} {next'} t size p e h w =
    let m : next ≡ at + length s = p.stop in
    let l : length now ≡ length d = p.long in
    let k : length (s ++ t) ≡ length s + length t = length-append s t in
    let r : next + length t ≤ length now = omega arith in
    record {
      stop = omega (arith, w.behind);
      room = omega (arith, w.behind);
      long = ap length w.holds ∙ pasted_length now next t r ∙ l;
      is = w.holds ∙ rw (p.is, m) (pasted_pasted d at s t (omega arith));
    }
